use Rattle.std.proofs.Common.{refl, sym, ap, ◌∙◌, subst}
use Rattle.std.specs.Prelude.{IfSome}
use Rattle.tree_join.specs.Joining.{IsBest}
use Rattle.tree_join.proofs.Sides.{pair_is}
use Rattle.sanlp.specs.Order.{common_loops}
use Rattle.tree_join.proofs.path.pair_of.Goals as goal

pub point_of-requires : goal.point_of-requires
point_of-requires c =
    let a = c.requires in
    (subst (λ o. IfSome o (IsBest a.0 a.1)) (sym c.in_ok-best.ensures) a.2).1

pub point_of-requires-2 : goal.point_of-requires-2
point_of-requires-2 c = let a = c.requires in a.3.1

pub returns : goal.returns
returns c = (
  c.in_ok-best.best.now,
  sym c.in_ok-best.ensures,
  λ r context best new.
      pair_is r context c.in_ok-best.best.now c.args.new.now _ c.point_of.result.now c.point_of-2.result.now best.0 new.0
      c.point_of.ensures c.point_of-2.ensures refl refl refl refl
      (c.common_loops.ensures.value ∙ ap (λ loops. common_loops loops c.as_slice.result.now) c.as_slice-loops.ensures
      ∙ ap (λ loops. common_loops c.in_ok-best.best.now.candidate.now.writes.write.statement.now.loops loops)
      c.as_slice.ensures),
)
