-- A sequencer that gives a script reads at each of its steps the event of that number, and behind the last none.
--
-- By induction over the script, from any state on. Behind the script it stands at its end, where it has no
-- instruction, and stays there.
use Rattle.std.proofs.Common.{◌≡◌, ℕ, zero, suc, Option, Some, None, List, [], ◌∷◌, length, slice_get, refl, sym, ap, ◌∙◌, le_refl}
use Rattle.std.specs.Option.{option_map}
use Rattle.std.proofs.lemmas.Option.{slice_get_past}
use Rattle.net_core.specs.declared.network.Event.{Event}
use Rattle.net_core.specs.Machine.{Net}
use Rattle.repeat_sequencer.specs.declared.sequencer.Instruction.{Instruction}
use Rattle.repeat_sequencer.specs.declared.sequencer.Sequencer.{Sequencer}
use Rattle.repeat_sequencer.specs.Steps.{State, Gives, at_end, at_start, item_at, state_behind, step}
use Rattle.design_clocks.specs.Registers.{Controls}
use Rattle.design_clocks.specs.Clocked.{GiveScripts, after_steps}

module _ (control : Sequencer Event) where
  -- the state after so many steps from a state, the first of them taken first
  abbrev steps_from : ℕ → State → State
  steps_from zero s = s
  steps_from (suc k) s = steps_from k (step control s)

  steps_last : (k : ℕ) (s : State) → steps_from (suc k) s ≡ step control (steps_from k s)
  steps_last zero s = refl
  steps_last (suc k) s = steps_last k (step control s)

  steps_as_after : (k : ℕ) → steps_from k (at_start control) ≡ after_steps control k
  steps_as_after zero = refl
  steps_as_after (suc k) = steps_last k (at_start control) ∙ ap (step control) (steps_as_after k)

  stays_behind : (o : Option (Instruction Event)) (s : State) → option_map (λ i. i.item) o ≡ None
      → state_behind o s ≡ s
  stays_behind None s none = refl
  stays_behind (Some i) s none = cc

  stays : (s : State) → item_at control s ≡ None → step control s ≡ s
  stays s none = stays_behind (slice_get control.instructions s.at) s none

  nothing_left : (k : ℕ) (s : State) → item_at control s ≡ None → item_at control (steps_from k s) ≡ None
  nothing_left zero s none = none
  nothing_left (suc k) s none =
      ap (λ (t : State). item_at control (steps_from k t)) (stays s none) ∙ nothing_left k s none

  reads_from : (script : List Event) (k : ℕ) (s t : State) → Gives control (step control) s script t
      → item_at control t ≡ None → item_at control (steps_from k s) ≡ slice_get script k
  unfolding Gives
  reads_from [] k s t gives none = nothing_left k s (ap (item_at control) gives ∙ none)
  reads_from (e ∷ script) zero s t gives none = gives.0
  reads_from (e ∷ script) (suc k) s t gives none = reads_from script k (step control s) t gives.1 none

  ended : item_at control (at_end control) ≡ None
  ended =
      ap (option_map (λ i. i.item))
      (slice_get_past control.instructions (length control.instructions) (le_refl (length control.instructions)))

-- after so many steps the control of a process reads the script's event of that number
pub reads_script : (n : Net) (controls : Controls) → GiveScripts n controls → (p k : ℕ)
    → item_at (controls p) (after_steps (controls p) k) ≡ slice_get (n.script p) k
reads_script n controls give p k =
    ap (item_at (controls p)) (sym (steps_as_after (controls p) k))
    ∙ reads_from (controls p) (n.script p) k (at_start (controls p)) (at_end (controls p)) (give p) (ended (controls p))
