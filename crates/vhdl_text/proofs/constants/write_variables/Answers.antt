use Rattle.vhdl_text.specs.Constants.{variable_constant}
use Rattle.vhdl_text.proofs.Sequences.{one_more_number}
use Rattle.vhdl_text.proofs.constants.write_variables.Goals as goal

pub loop-number-preserved : goal.loop-number-preserved
loop-number-preserved g c =
    one_more_number g.W.TextWriter.given
    (λ n. variable_constant n c.args.auto.now) c.loop-number.number c.loop-number.invariant c.write_variable.ensures
