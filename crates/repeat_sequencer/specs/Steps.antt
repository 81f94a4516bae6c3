-- What a sequencer does. It stands at an instruction, whose item it gives at a step, and counts for each level the turns of
-- its repeat that have ended.
use Rattle.std.specs.Prelude.{◌≡◌, ℕ, ◌+◌, ◌==◌, nat_lt, if◌then◌else◌, List, [], ◌∷◌, length, replicate, slice_get, slice_index, slice_set, Option, Some, None}
use Rattle.std.specs.Option.{option_map}
use Rattle.repeat_sequencer.specs.declared.sequencer.Instruction.{Instruction}
use Rattle.repeat_sequencer.specs.declared.sequencer.RepeatEnd.{RepeatEnd}
use Rattle.repeat_sequencer.specs.declared.sequencer.Sequencer.{Sequencer}

-- the number of the instruction, and the counters
pub record State : Type 0 where
  pub at : ℕ
  pub counters : List ℕ

-- Where these repeats end, innermost first: one with a further turn goes back to its first instruction, and one without
-- begins anew at its next time. Behind the last of them the next instruction follows.
unfoldable pub past_ends : List RepeatEnd → ℕ → List ℕ → State
past_ends [] next counters = record { at = next; counters = counters }
past_ends (end ∷ ends) next counters =
    let turns : ℕ = slice_index counters end.level + 1 in
    if nat_lt turns end.count
    then record { at = end.first; counters = slice_set counters end.level turns }
    else past_ends ends next (slice_set counters end.level 0)

-- the state behind the instruction of this state; where there is none, this state
abbrev pub state_behind : {T : Type 0} → Option (Instruction T) → State → State
state_behind None s = s
state_behind (Some instruction) s = past_ends instruction.ends (s.at + 1) s.counters

-- the state after a step
abbrev pub step : {T : Type 0} → Sequencer T → State → State
step sequencer s = state_behind (slice_get sequencer.instructions s.at) s

-- the item that is given at a step from this state, or none at the end
abbrev pub item_at : {T : Type 0} → Sequencer T → State → Option T
item_at sequencer s = option_map (λ i. i.item) (slice_get sequencer.instructions s.at)

-- the state before the first instruction, in which no turn has ended
abbrev pub at_start : {T : Type 0} → Sequencer T → State
at_start sequencer = record { at = 0; counters = replicate sequencer.levels 0 }

-- the state behind the last instruction, with the counters of the start
abbrev pub at_end : {T : Type 0} → Sequencer T → State
at_end sequencer = record {
  at = length sequencer.instructions;
  counters = replicate sequencer.levels 0;
}

-- the state before the first instruction in place of one behind the last
abbrev pub restart : {T : Type 0} → Sequencer T → State → State
restart sequencer next =
    if next.at == length sequencer.instructions
    then record { at = 0; counters = next.counters }
    else next

-- the state after a step of a sequencer that begins anew at its end
abbrev pub step_and_restart : {T : Type 0} → Sequencer T → State → State
step_and_restart sequencer s = restart sequencer (step sequencer s)

-- from one state to another it gives these items, one at each step, where `next` is the state after a step
unfoldable pub Gives : {T : Type 0}
    → Sequencer T → (State → State) → State → List T → State → Type 0
Gives sequencer next s [] t = s ≡ t
Gives sequencer next s (item ∷ items) t =
    (item_at sequencer s ≡ Some item) × Gives sequencer next (next s) items t
