-- The proofs of a joined leaf are cut at the number of its rows and subscripts; the first part is converted, and of the others each
-- step takes what is its own: the orders of the reader before the place, and writer by writer the writes between.
use Rattle.std.proofs.Common.{◌≡◌, ◌≤◌, ℕ, length, map, refl, sym, ap, ◌∙◌, subst}
use Rattle.std.specs.Prelude.{All}
use Rattle.std.proofs.lemmas.List.Elements.{All-drop, All-take}
use Rattle.tree_graphs.specs.Joint.{orders_behind}
use Rattle.stride_trees.proofs.ReadBounds.{few_loops}
use Rattle.stride_trees.proofs.LeafConversion.{few_after}
use Rattle.stride_trees.proofs.WriterLeaves.{back_is, cell_count, cells_inside, first, front_is, is_place, is_told_here, leaf_writer}
use Rattle.stride_trees.proofs.WriterLeaves.{orders_long, own_point, writer_fits, writer_in}
use Rattle.stride_trees.specs.Leaves.{after_orders, fact_context, own_context, told_place_systems, AddsProofs, IsToldSum}
use Rattle.source_tree.specs.Checked.{AreRefuted}
use Rattle.source_tree.specs.Systems.{with_rows}
use Rattle.source_tree.specs.References.{occurrence_of}
use Rattle.stride_trees.specs.Strides.{read_of, write_of}
use Rattle.stride_trees.proofs.leaves.point_proofs.Goals as goal

pub writer_at-writer-requires : goal.writer_at-writer-requires
writer_at-writer-requires c =
    let p = c.requires.point in
    leaf_writer c.args.w.now (fact_context c.args.w.now p.0) c.args.number p.1 c.args.told.now p.3

pub cell_count-count-requires-clause-rows : goal.cell_count-count-requires-clause-rows
cell_count-count-requires-clause-rows c =
    (writer_fits c.args.w.now c.writer_at-writer.result.now c.requires.leaf.answered c.writer_at-writer.ensures.among).few_rows

pub cell_count-count-requires-clause-subscripts : goal.cell_count-count-requires-clause-subscripts
cell_count-count-requires-clause-subscripts c =
    (writer_fits c.args.w.now c.writer_at-writer.result.now c.requires.leaf.answered
    c.writer_at-writer.ensures.among).few_subscripts

pub front-cells-requires : goal.front-cells-requires
front-cells-requires c =
    let p = c.requires.point in
    cells_inside c.args.w.now c.args.here p.0 c.args.number p.1 c.args.told.now c.writer_at-writer.result.now
    c.requires.leaf.answered p.2 p.3 c.writer_at-writer.ensures.among c.writer_at-writer.ensures.number c.cell_count-count.result
    c.cell_count-count.ensures

pub back-behind-requires : goal.back-behind-requires
back-behind-requires c =
    let p = c.requires.point in
    cells_inside c.args.w.now c.args.here p.0 c.args.number p.1 c.args.told.now c.writer_at-writer.result.now
    c.requires.leaf.answered p.2 p.3 c.writer_at-writer.ensures.among c.writer_at-writer.ensures.number c.cell_count-count.result
    c.cell_count-count.ensures

pub after_counts-requires : goal.after_counts-requires
after_counts-requires c = few_loops c.args.w.now.nest.now c.args.w.now.read c.requires.leaf.answered.read

pub place_proofs-requires-clause-writer : goal.place_proofs-requires-clause-writer
place_proofs-requires-clause-writer c =
    writer_in c.args.w.now c.writer_at-writer.result.now c.requires.leaf.answered c.writer_at-writer.ensures.among

pub place_proofs-requires-clause-says : goal.place_proofs-requires-clause-says
place_proofs-requires-clause-says c =
    let p = c.requires.point in
    is_told_here c.args.w.now c.args.here p.0 c.args.number p.1 c.args.told.now c.writer_at-writer.result.now
    c.requires.leaf.answered p.2 p.3 c.writer_at-writer.ensures.among c.writer_at-writer.ensures.number

pub place_proofs-requires-clause-sums : goal.place_proofs-requires-clause-sums
place_proofs-requires-clause-sums c =
    let told = IsToldSum c.args.w.now in
    subst (All told) (sym c.front-cells.ensures) (All-take told c.cell_count-count.result c.args.told.now c.requires.sums)

pub place_proofs-requires-clause-count : goal.place_proofs-requires-clause-count
place_proofs-requires-clause-count c =
    let w = c.args.w.now in
    let p = c.requires.point in
    let x = c.writer_at-writer.result.now in
    ap length (c.front-cells.ensures ∙ front_is w c.args.here p.0 c.args.number p.1 c.args.told.now x c.requires.leaf.answered
    p.2 p.3 c.writer_at-writer.ensures.among c.writer_at-writer.ensures.number c.cell_count-count.result c.cell_count-count.ensures)
    ∙ cell_count w c.args.here p.0 c.args.number p.1 c.args.told.now x c.requires.leaf.answered p.2 p.3
    c.writer_at-writer.ensures.among c.writer_at-writer.ensures.number

pub push_sums-requires-clause-counts : goal.push_sums-requires-clause-counts
push_sums-requires-clause-counts c =
    let w = c.args.w.now in
    let r = occurrence_of w.read in
    let u = write_of c.writer_at-writer.result.now.strides in
    let few = λ (n : ℕ). n ≤ 32 in
    let loops : length r.statement.loops ≤ 6 = few_loops w.nest.now w.read c.requires.leaf.answered.read in
    subst (All few) (sym (c.as_slice-counts.ensures ∙ c.in_ok-found.ensures)) (few_after r u loops)

pub push_sums-requires-clause-sums : goal.push_sums-requires-clause-sums
push_sums-requires-clause-sums c =
    let told = IsToldSum c.args.w.now in
    subst (All told) (sym c.back-behind.ensures) (All-drop told c.cell_count-count.result c.args.told.now c.requires.sums)

pub push_writers-requires-clause-writers : goal.push_writers-requires-clause-writers
push_writers-requires-clause-writers c = c.requires.leaf.answered.each

pub push_writers-requires-clause-behind : goal.push_writers-requires-clause-behind
push_writers-requires-clause-behind c =
    (writer_fits c.args.w.now c.writer_at-writer.result.now c.requires.leaf.answered c.writer_at-writer.ensures.among).few_loops

pub returns : goal.returns
returns c rest place at j =
    let w = c.args.w.now in
    let x = c.writer_at-writer.result.now in
    let u = write_of x.strides in
    let h = c.requires.leaf.answered in
    let cx = fact_context w rest in
    let among = c.writer_at-writer.ensures.among in
    let number = c.writer_at-writer.ensures.number in
    let one = first w c.args.here rest c.args.number place c.args.told.now x h at j among number in
    let orders = after_orders (read_of x.strides) u place in
    let place_in = is_place w c.args.here rest c.args.number place c.args.told.now x h at j among number in
    let front_same : c.front-cells.result.now ≡ one.front = c.front-cells.ensures
    ∙ front_is w c.args.here rest c.args.number place c.args.told.now x h at j among number c.cell_count-count.result
    c.cell_count-count.ensures in
    let back_same : c.back-behind.result.now ≡ one.back = c.back-behind.ensures
    ∙ back_is w c.args.here rest c.args.number place c.args.told.now x h at j among number c.cell_count-count.result
    c.cell_count-count.ensures in
    own_point w c.args.here rest c.args.number place c.args.told.now x h at j among number c.in_ok-proofs.proofs
    c.in_ok-left.left.now c.push_sums.new.proofs c.push_writers.new.proofs
    (λ told. c.in_ok-proofs.ensures.refuted rest place at place_in
    (subst (AreRefuted (told_place_systems w rest x place)) (sym front_same) told))
    (λ single near told. c.in_ok-proofs.ensures.cuts rest place single at place_in near
    (subst (AreRefuted (told_place_systems w rest x place)) (sym front_same) told))
    (subst (λ told. AddsProofs w (length (own_context w rest).rows) (map (with_rows cx) orders)
    (map (with_rows (own_context w rest)) orders) told
    c.in_ok-left.left.now c.in_ok-proofs.proofs c.push_sums.new.proofs) back_same
    (c.in_ok-left.ensures.proofs rest orders at
    (orders_long w c.args.here rest c.args.number place c.args.told.now x h at j among number c.as_slice-counts.result.now
    (c.as_slice-counts.ensures ∙ c.in_ok-found.ensures))))
    (λ told. c.in_ok-push_writers.ensures rest (orders_behind u place cx) at (place, place_in, λ v. refl) told)
