-- A leaf's proofs are those for all writers, where the facts are no rows of the context.
use Rattle.std.proofs.Common.{List, [], ◌∷◌, refl, sym, subst, arith}
use Rattle.std.specs.Prelude.{All}
use Rattle.std.proofs.lemmas.List.Elements.{All-cons, All-head, All-nil, All-tail}
use Rattle.int_polyhedra.specs.declared.system.Proof.{Proof}
use Rattle.source_tree.specs.Checked.{AreRefuted}
use Rattle.source_tree.specs.declared.tree.Tree.TheVariants.{Dead, Writer, Zero}
use Rattle.stride_trees.specs.Leaves.{fact_context, pairs_of, which_of, IsBelow, IsForOne, IsJoinedPoint, IsToldSum}
use Rattle.stride_trees.specs.declared.leaves.Answered.{Answered}
use Rattle.stride_trees.proofs.FactLeaves.{dead_away, leaf_below, rows_before}
use Rattle.stride_trees.proofs.Opens.{checked_kinds}
use Rattle.stride_trees.proofs.TreeConversion.{dead_converts, point_converts, zero_converts}
use Rattle.stride_trees.proofs.leaves.converted_leaf.Goals as goal
use Rattle.tree_graphs.specs.Joint.{no_orders, write_systems_of, IsSum}
use Rattle.tree_graphs.specs.Simple.{IsLightSum}
use Rattle.tree_graphs.proofs.Nodes.{checked_zero, point_for, simple_none, simple_point}

told_sums : (w : Answered) (proofs : List Proof) → All IsSum proofs → (IsForOne w → All IsLightSum proofs)
    → All (IsToldSum w) proofs
told_sums w [] sums light = All-nil _
told_sums w (p ∷ proofs) sums light =
    All-cons (IsToldSum w) p proofs
    (record { sum = All-head IsSum p proofs sums; light = λ one. All-head IsLightSum p proofs (light one) })
    (told_sums w proofs (All-tail IsSum p proofs sums) (λ one. All-tail IsLightSum p proofs (light one)))

pub rows_without-here-requires : goal.rows_without-here-requires
rows_without-here-requires c = omega (arith, rows_before c.args.w.now c.args.here c.args.leaf c.requires.leaf.0)

pub point_proofs-own-requires-clause-leaf : goal.point_proofs-own-requires-clause-leaf
point_proofs-own-requires-clause-leaf c =
    leaf_below c.args.w.now c.args.here c.rows_without-here.result c.args.leaf c.requires.answered c.requires.leaf.0
    c.rows_without-here.ensures c.requires.here

pub point_proofs-own-requires-clause-point : goal.point_proofs-own-requires-clause-point
point_proofs-own-requires-clause-point c =
    let w = c.args.w.now in
    let h = c.requires.leaf.0 in
    let cx = fact_context w h.rest in (
      h.rest,
      c.in-Writer.place,
      subst (λ n. IsBelow w n cx) (sym c.rows_without-here.ensures) h.below,
      subst (IsJoinedPoint w cx c.in-Writer.number c.in-Writer.place) (sym c.as_slice.ensures)
          (point_for cx c.args.leaf c.in-Writer.number c.in-Writer.place c.in-Writer.proofs h.checked c.in-Writer.is),
    )

pub none_proofs-own-requires-clause-leaf : goal.none_proofs-own-requires-clause-leaf
none_proofs-own-requires-clause-leaf c =
    leaf_below c.args.w.now c.args.here c.rows_without-here.result c.args.leaf c.requires.answered c.requires.leaf.0
    c.rows_without-here.ensures c.requires.here

pub none_proofs-own-requires-clause-sums : goal.none_proofs-own-requires-clause-sums
none_proofs-own-requires-clause-sums c =
    let w = c.args.w.now in
    let h = c.requires.leaf.0 in
    subst (All (IsToldSum w)) (sym c.as_slice-in-Zero.ensures)
    (told_sums w c.in-Zero.proofs
    (checked_zero (fact_context w h.rest) c.args.leaf c.in-Zero.proofs h.checked c.in-Zero.is).1
    (λ single. (let k = h.simple single in simple_none k.0 c.args.leaf c.in-Zero.proofs k.2 c.in-Zero.is)))

pub point_proofs-own-requires-clause-sums : goal.point_proofs-own-requires-clause-sums
point_proofs-own-requires-clause-sums c =
    let w = c.args.w.now in
    let h = c.requires.leaf.0 in
    subst (All (IsToldSum w)) (sym c.as_slice.ensures)
    (told_sums w c.in-Writer.proofs
    (point_for (fact_context w h.rest) c.args.leaf c.in-Writer.number c.in-Writer.place c.in-Writer.proofs h.checked
    c.in-Writer.is).sums
    (λ single. (let k = h.simple single in
    (simple_point k.0 c.args.leaf c.in-Writer.number c.in-Writer.place c.in-Writer.proofs k.2 c.in-Writer.is).light)))

pub without_facts-requires-clause-leaf : goal.without_facts-requires-clause-leaf
without_facts-requires-clause-leaf c =
    leaf_below c.args.w.now c.args.here c.rows_without-here.result c.args.leaf c.requires.answered c.requires.leaf.0
    c.rows_without-here.ensures c.requires.here

pub returns-in-Ok : goal.returns-in-Ok
returns-in-Ok c =
    let w = c.args.w.now in
    let number = c.in-Writer.number in
    let place = c.in-Writer.place in
    let own = c.in-Ok.own in
    let made = rw c.in-Ok.is at c.point_proofs-own.ensures in
    point_converts w c.args.here c.args.leaf (Writer number place own) number place c.in-Writer.proofs own c.in-Writer.is
    refl (λ rest pl below j. made rest pl (subst (λ n. IsBelow w n (fact_context w rest)) (sym c.rows_without-here.ensures) below)
    (subst (IsJoinedPoint w (fact_context w rest) number pl) (sym c.as_slice.ensures) j))

pub returns-in_ok-own-in-Zero : goal.returns-in_ok-own-in-Zero
returns-in_ok-own-in-Zero c =
    let w = c.args.w.now in
    let own = c.in_ok-own-in-Zero.field-0 in
    zero_converts w c.args.here c.args.leaf (Zero own) c.in-Zero.proofs own c.in-Zero.is refl
    (λ rest below refuted. c.in_ok-own-in-Zero.ensures.refuted rest
    (subst (λ n. IsBelow w n (fact_context w rest)) (sym c.rows_without-here.ensures) below)
    (subst (AreRefuted (write_systems_of (which_of w) (pairs_of w) (fact_context w rest) no_orders))
    (sym c.as_slice-in-Zero.ensures) refuted))
    (λ one x rest only single below refuted. c.in_ok-own-in-Zero.ensures.cuts one x rest only single
    (subst (λ n. IsBelow w n (fact_context w rest)) (sym c.rows_without-here.ensures) below)
    (subst (AreRefuted (write_systems_of (which_of w) (pairs_of w) (fact_context w rest) no_orders))
    (sym c.as_slice-in-Zero.ensures) refuted))

pub returns-in_ok-without_facts-in-Dead : goal.returns-in_ok-without_facts-in-Dead
returns-in_ok-without_facts-in-Dead c =
    let w = c.args.w.now in
    let own = c.in_ok-without_facts-in-Dead.field-0 in
    dead_converts w c.args.here c.args.leaf (Dead own) c.in-Dead.proof own c.in-Dead.is refl
    (λ rest below. dead_away w c.rows_without-here.result rest c.in-Dead.proof own c.in_ok-without_facts-in-Dead.ensures
    (subst (λ n. IsBelow w n (fact_context w rest)) (sym c.rows_without-here.ensures) below))

pub unreachable-requires : goal.unreachable-requires
unreachable-requires c =
    let w = c.args.w.now in
    let h = c.requires.leaf in
    checked_kinds (which_of w) (pairs_of w) (fact_context w h.0.rest) c.args.leaf h.0.checked h.1 c.in_default.not-Writer
    c.in_default.not-Zero c.in_default.not-Dead
