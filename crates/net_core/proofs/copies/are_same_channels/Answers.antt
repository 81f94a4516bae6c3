use Rattle.std.proofs.Common.{◌∙◌, refl, sym, arith, true≢false}
use Rattle.std.proofs.lemmas.Bool.{false≢true}
use Rattle.net_core.proofs.Alike.{differ_read, fronts_all, fronts_more_at}
use Rattle.net_core.proofs.copies.are_same_channels.Goals as goal

pub returns-then-not-is_same_channel : goal.returns-then-not-is_same_channel
returns-then-not-is_same_channel c = (
  λ e. absurd (false≢true e),
  λ e. absurd
      (differ_read c.args.channels.now c.args.others.now c.loop-at.at _ _ (omega arith) (omega arith)
      (λ same. true≢false (sym (c.is_same_channel.ensures.1 same) ∙ c.if-not-is_same_channel.true)) e),
)

pub loop-at-preserved : goal.loop-at-preserved
loop-at-preserved c =
    fronts_more_at c.args.channels.now c.args.others.now c.loop-at.at _ _ (omega arith)
    (omega arith) c.loop-at.invariant
    (c.is_same_channel.ensures.0 c.if-not-is_same_channel.false)

pub returns : goal.returns
returns c = (
  λ _. fronts_all c.args.channels.now c.args.others.now c.loop-at.at (omega arith) (omega arith) c.loop-at.invariant,
  λ _. refl,
)
