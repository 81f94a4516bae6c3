use Rattle.vhdl_text.specs.declared.constants.Column.TheVariants.{Read}
use Rattle.vhdl_text.specs.Constants.{event_constant}
use Rattle.vhdl_text.proofs.Sequences.{one_more_number}
use Rattle.vhdl_text.proofs.constants.write_reads.Goals as goal

pub loop-read-preserved : goal.loop-read-preserved
loop-read-preserved g c =
    one_more_number g.W.TextWriter.given
    (λ k. event_constant (Read k) c.args.auto.now) c.loop-read.read c.loop-read.invariant c.write_column.ensures
