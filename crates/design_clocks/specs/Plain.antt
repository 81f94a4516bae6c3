-- Sequencers without repeats.
use Rattle.std.specs.Prelude.{List, [], map}
use Rattle.repeat_sequencer.specs.declared.sequencer.Sequencer.{Sequencer}

-- an instruction for each item; all that it keeps is the number of the next one
abbrev pub plain : {T : Type 0} → List T → Sequencer T
plain items = record { levels = 0; instructions = map (λ x. record { item = x; ends = [] }) items }
