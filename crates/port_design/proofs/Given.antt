-- A sequencer that gives items stands at the first of them, and at its end at none.
--
-- That it gives a list says that it stands at the list's first item, and gives the others from its next state on
-- (`item_first`, `gives_rest`). Where there is no item it says that the sequencer is behind its last instruction,
-- so at none (`item_none`). Each is one step of the definition, and both together tell the item at which it stands
-- (`item_is`). How a step finds the next state isn't used.
use Rattle.std.proofs.Common.{◌≡◌, Some, None, List, [], ◌∷◌, length, slice_get, ap, ◌∙◌, le_refl}
use Rattle.std.specs.Option.{option_map}
use Rattle.std.proofs.lemmas.Option.{slice_get_past}
use Rattle.repeat_sequencer.specs.declared.sequencer.Sequencer.{Sequencer}
use Rattle.repeat_sequencer.specs.Steps.{State, Gives, item_at, step}
use Rattle.port_design.specs.Clocked.{GivesFrom}

pub item_none : {T : Type 0} (control : Sequencer T) (s : State) → GivesFrom control s [] → item_at control s ≡ None
unfolding Gives
item_none control s gives =
    ap (item_at control) gives
    ∙ ap (option_map (λ i. i.item))
    (slice_get_past control.instructions (length control.instructions) (le_refl (length control.instructions)))

pub item_first : {T : Type 0} (control : Sequencer T) (s : State) (x : T) (items : List T)
    → GivesFrom control s (x ∷ items) → item_at control s ≡ Some x
unfolding Gives
item_first control s x items gives = gives.0

pub gives_rest : {T : Type 0} (control : Sequencer T) (s : State) (x : T) (items : List T)
    → GivesFrom control s (x ∷ items) → GivesFrom control (step control s) items
unfolding Gives
gives_rest control s x items gives = gives.1

-- at which item it stands
pub item_is : {T : Type 0} (control : Sequencer T) (s : State) (items : List T) → GivesFrom control s items
    → item_at control s ≡ slice_get items 0
item_is control s [] gives = item_none control s gives
item_is control s (x ∷ items) gives = item_first control s x items gives
