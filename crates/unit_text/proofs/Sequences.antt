-- What a sequencer of blocks that stand for a list gives: the list in a round, and again in each round where it begins anew.
--
-- The sequencer is that of its blocks, and these stand for the list, so both follow from what the sequencer of proper blocks
-- gives (`repeat_sequencer.proofs.Given`) by putting the one for the other. Nothing is an induction here, and nothing is said of
-- which blocks they are.
use Rattle.std.proofs.Common.{ℕ, List, sym, subst}
use Rattle.script_blocks.specs.Expansion.{repeated}
use Rattle.repeat_sequencer.specs.declared.sequencer.Sequencer.{Sequencer}
use Rattle.repeat_sequencer.specs.Instructions.{sequencer_of}
use Rattle.repeat_sequencer.specs.Steps.{Gives, at_end, at_start, step, step_and_restart}
use Rattle.repeat_sequencer.proofs.Given.{round, rounds_of}
use Rattle.unit_text.specs.Units.{IsSequencerOf}

module _ {T : Type 0} (items : List T) (s : Sequencer T) (is : IsSequencerOf items s) where
  pub gives_items : Gives s (step s) (at_start s) items (at_end s)
  gives_items =
      subst (λ s. Gives s (step s) (at_start s) items (at_end s)) (sym is.sequencer_is)
      (subst (λ xs. Gives (sequencer_of is.blocks) (step (sequencer_of is.blocks)) (at_start (sequencer_of is.blocks))
      xs (at_end (sequencer_of is.blocks))) is.stands (round is.blocks is.proper))

  pub gives_rounds : (count : ℕ) → Gives s (step_and_restart s) (at_start s) (repeated count items) (at_start s)
  gives_rounds count = rounds_of s items count gives_items
