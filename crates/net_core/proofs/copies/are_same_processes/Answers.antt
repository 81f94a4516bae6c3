use Rattle.std.proofs.Common.{◌∙◌, refl, sym, arith, true≢false}
use Rattle.std.proofs.lemmas.Bool.{false≢true}
use Rattle.net_core.proofs.Alike.{differ_at, fronts_all, fronts_more}
use Rattle.net_core.proofs.copies.are_same_processes.Goals as goal

pub returns-then-not-is_same_process : goal.returns-then-not-is_same_process
returns-then-not-is_same_process c = (
  λ e. absurd (false≢true e),
  λ e. absurd
      (differ_at c.args.processes.now c.args.others.now c.loop-at.at c.index-processes-at.result
      c.index-others-at.result (omega arith) (omega arith) c.index-processes-at.is c.index-others-at.is
      (λ same. true≢false (sym (c.is_same_process.ensures.1 same) ∙ c.if-not-is_same_process.true)) e),
)

pub loop-at-preserved : goal.loop-at-preserved
loop-at-preserved c =
    fronts_more c.args.processes.now c.args.others.now c.loop-at.at c.index-processes-at.result c.index-others-at.result
    (omega arith) (omega arith) c.index-processes-at.is c.index-others-at.is c.loop-at.invariant
    (c.is_same_process.ensures.0 c.if-not-is_same_process.false)

pub returns : goal.returns
returns c = (
  λ _. fronts_all c.args.processes.now c.args.others.now c.loop-at.at (omega arith) (omega arith) c.loop-at.invariant,
  λ _. refl,
)
