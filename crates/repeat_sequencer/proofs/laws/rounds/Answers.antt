use Rattle.script_blocks.specs.Expansion.{expansion}
use Rattle.repeat_sequencer.specs.Instructions.{sequencer_of}
use Rattle.repeat_sequencer.proofs.Given.{round, rounds_of}
use Rattle.repeat_sequencer.proofs.laws.rounds.Goals as goal

pub returns : goal.returns
returns g c = λ blocks count proper. rounds_of (sequencer_of blocks) (expansion blocks) count (round blocks proper)
