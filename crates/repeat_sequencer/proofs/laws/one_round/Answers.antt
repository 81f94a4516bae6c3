use Rattle.repeat_sequencer.proofs.Given.{round, ended}
use Rattle.repeat_sequencer.proofs.laws.one_round.Goals as goal

pub returns : goal.returns
returns g c = record { gives = λ blocks proper. round blocks proper; ends = λ blocks. ended blocks }
