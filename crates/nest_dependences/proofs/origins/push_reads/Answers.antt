use Rattle.std.proofs.Common.{refl}
use Rattle.std.proofs.lemmas.List.Elements.{All-push, All-same}
use Rattle.deps_text.specs.Dependences.{HasOrigin}
use Rattle.nest_dependences.proofs.Statements.{one_read_more}
use Rattle.nest_dependences.proofs.origins.push_reads.Goals as goal

pub loop-number-preserved : goal.loop-number-preserved
loop-number-preserved c = (
  one_read_more c.args.statement c.loop-number.number _ _ _ _ c.in_ok-push.ensures.ok refl refl
      c.loop-number.invariant.0,
  λ before. All-same (HasOrigin c.args.nest.now) _ _ c.in_ok-push.ensures.ok
      (All-push (HasOrigin c.args.nest.now) c.loop-number.list _ (c.loop-number.invariant.1 before)
      c.in_ok-origin.ensures),
)
