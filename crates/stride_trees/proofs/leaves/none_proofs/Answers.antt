use Rattle.std.proofs.Common.{◌+◌, ◌++◌, length, refl, sym, ap, ◌∙◌, subst}
use Rattle.std.specs.List.{flat_map}
use Rattle.tree_graphs.specs.Joint.{no_orders}
use Rattle.stride_trees.proofs.TreeConversion.{all_own, joined_told}
use Rattle.stride_trees.specs.Leaves.{own_context, own_systems, which_of}
use Rattle.stride_trees.proofs.WriterLeaves.{one_none}
use Rattle.source_tree.specs.Checked.{AreRefuted}
use Rattle.stride_trees.proofs.leaves.none_proofs.Goals as goal

pub push_writers-requires-clause-writers : goal.push_writers-requires-clause-writers
push_writers-requires-clause-writers c = c.requires.leaf.answered.each

pub returns-clause-refuted : goal.returns-clause-refuted
returns-clause-refuted c rest at refuted =
    let w = c.args.w.now in
    let h = c.requires.leaf.answered in
    let made = c.in_ok-push_writers.ensures rest no_orders at (λ u. refl)
    (joined_told w (c.args.here + length w.cuts.now) rest no_orders c.args.told.now at refuted) in
    subst (λ systems. AreRefuted systems c.push_writers.new.proofs) (all_own w rest no_orders h)
    (subst (AreRefuted (flat_map (own_systems (which_of w) (own_context w rest) no_orders) w.writers.now))
    (sym (made.is ∙ ap (λ ps. ps ++ made.added) c.new-proofs.ensures)) made.refuted)

pub returns-clause-cuts : goal.returns-clause-cuts
returns-clause-cuts c one x rest only single at refuted =
    let w = c.args.w.now in
    let h = c.requires.leaf.answered in
    let made = c.in_ok-push_writers.ensures rest no_orders at (λ u. refl)
    (joined_told w (c.args.here + length w.cuts.now) rest no_orders c.args.told.now at refuted) in
    one_none w rest one x made.added c.push_writers.new.proofs h only single
    (made.is ∙ ap (λ ps. ps ++ made.added) c.new-proofs.ensures)
    (made.cuts (one, only) x single)
