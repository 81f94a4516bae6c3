use Rattle.std.proofs.Common.{◌≡◌, ◌∷◌, length, ap, arith, rules}
use Rattle.std.proofs.lemmas.Result.{on_ok_weaker}
use Rattle.tree_graphs.specs.Asked.{depth_of_write}
use Rattle.tree_graphs.proofs.EdgeRows.{adds_cells, cells_first, kept_twice}
use Rattle.tree_graphs.proofs.edges.+push_cells.Goals as goal

pub push_cell-requires : goal.push_cell-requires
push_cell-requires t c =
    let first : c.args.writes.now ≡ c.in-Some-Some.write.now ∷ c.in-Some-Some.writes.now = search rules in
    let second : c.args.reads.now ≡ c.in-Some-Some.read.now ∷ c.in-Some-Some.reads.now = search rules in
    (cells_first c.args.w.now.vars (depth_of_write c.args.w.now) c.in-Some-Some.write.now c.in-Some-Some.read.now
    c.in-Some-Some.writes.now c.in-Some-Some.reads.now c.args.writes.now c.args.reads.now first second
    c.requires).0

pub push_cells-requires : goal.push_cells-requires
push_cells-requires t c =
    let first : c.args.writes.now ≡ c.in-Some-Some.write.now ∷ c.in-Some-Some.writes.now = search rules in
    let second : c.args.reads.now ≡ c.in-Some-Some.read.now ∷ c.in-Some-Some.reads.now = search rules in
    let cells = cells_first c.args.w.now.vars (depth_of_write c.args.w.now) c.in-Some-Some.write.now
    c.in-Some-Some.read.now c.in-Some-Some.writes.now c.in-Some-Some.reads.now c.args.writes.now c.args.reads.now first
    second c.requires in
    (omega (arith, ap length first), cells.1)

pub returns-clause-rows : goal.returns-clause-rows
returns-clause-rows t c =
    let first : c.args.writes.now ≡ c.in-Some-Some.write.now ∷ c.in-Some-Some.writes.now = search rules in
    let second : c.args.reads.now ≡ c.in-Some-Some.read.now ∷ c.in-Some-Some.reads.now = search rules in
    on_ok_weaker c.push_cells.result
    (λ rest. adds_cells c.args.w.now c.in-Some-Some.write.now c.in-Some-Some.read.now c.in-Some-Some.writes.now
    c.in-Some-Some.reads.now c.args.writes.now c.args.reads.now
    c.args.edges.now c.push_cell.new.edges c.push_cells.new.edges first second c.in_ok-push_cell.ensures.rows rest)
    c.push_cells.ensures.rows

pub returns-clause-kept : goal.returns-clause-kept
returns-clause-kept t c =
    on_ok_weaker c.push_cells.result (λ rest. kept_twice c.args.edges.now c.push_cell.new.edges c.push_cells.new.edges
    c.in_ok-push_cell.ensures.kept rest) c.push_cells.ensures.kept
