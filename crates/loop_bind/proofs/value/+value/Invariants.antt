use Rattle.std.proofs.Common.{length, suc}
use Rattle.loop_bind.specs.Following.{Reads}
use Rattle.loop_bind.proofs.ValueLemmas.{first_values}
use Rattle.loop_bind.proofs.value.+value.Given as goal

abbrev pub invariant-value_all-loop-operand : goal.invariant-value_all-loop-operand
invariant-value_all-loop-operand l =
    Reads l.all l.fn.reads l.reads l.fn.least l.least
    (first_values l.which l.depth l.scope l.operands (suc l.operand-index) (length l.fn.reads))
