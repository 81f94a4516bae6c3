use Rattle.std.proofs.Common.{◌≡◌, ◌-◌, ◌∙◌, refl, sym, ap, arith}
use Rattle.std.proofs.lemmas.List.{length_push}
use Rattle.std.specs.Prelude.{length}
use Rattle.tree_join.specs.declared.path.Walk.{Walk}
use Rattle.tree_join.proofs.Turning.{stands, unnamed_branch}
use Rattle.tree_order.specs.Reads.{pairs_of}
use Rattle.int_polyhedra.specs.declared.system.System.{System}
use Rattle.tree_join.proofs.path.first_made.Goals as goal

pub overflow_cast-row : goal.overflow_cast-row
overflow_cast-row c = omega (arith, c.len.ensures, c.requires.made.1)

pub overflow_sub-row : goal.overflow_sub-row
overflow_sub-row c =
    let h = c.requires in
    omega (
      arith,
      c.len.ensures,
      ap (λ (s : System). length s.rows) h.context_is,
      length_push h.context.rows h.row,
    )

pub turn-requires : goal.turn-requires
turn-requires c = c.requires

pub returns-then-tree_names_row : goal.returns-then-tree_names_row
returns-then-tree_names_row c = c.turn.ensures

pub last_row-requires : goal.last_row-requires
last_row-requires c = let h = c.requires in (h.context, h.row, h.context_is)

pub returns : goal.returns
returns c =
    let h = c.requires in
    let task = c.args.task.now in
    let walk = c.args.walk.now in
    let last = c.last_row.ensures h.context h.row h.context_is in
    let new : Walk = record walk { context = c.last_row.new.context } in
    let number : c.len.result - 1 ≡ length h.context.rows = omega (
      arith,
      c.len.ensures,
      ap (λ (s : System). length s.rows) h.context_is,
      length_push h.context.rows h.row,
    ) in
    let unnamed = sym c.tree_names_row.ensures ∙ c.if-tree_names_row.false in
    stands task walk new c.args.count c.args.left c.args.next c.args.yes h _ number unnamed c.in_ok-tree.tree
    c.in_ok-tree.ensures.tree
    (c.in_ok-tree.ensures.joined (pairs_of task.read.now) h.context h.row
    (unnamed_branch task walk new c.args.count c.args.left c.args.next c.args.yes h _ number unnamed)) last.0 refl refl
