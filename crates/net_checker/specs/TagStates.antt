-- What the checker holds along a schedule, and for which state of the machine over tags it stands.
use Rattle.std.specs.Prelude.{◌≡◌, ℕ, List, [], Option, length, map, slice_index, slice_index_or}
use Rattle.sanlp.specs.declared.nest.Tag.{Tag}
use Rattle.net_core.specs.Cuts.{Cut, IsCounted}
use Rattle.net_core.specs.Machine.{Net, State}
use Rattle.net_core.specs.Names.{IsNamed, fired, tag}
use Rattle.net_core.specs.Progress.{IsProgress, cut_of}
use Rattle.net_checker.specs.declared.tag_state.TagState.{TagState}
use Rattle.net_checker.specs.SlotRows.{slots_in}

-- The state at a cut in which the processes have fired this often, each queue holds tokens of these turns, and these tags lie
-- in the slots. What a process has kept are its tags up to its turn; a token is a tag of its channel's writer.
abbrev pub state_at : (ℕ → ℕ) → Cut → List ℕ → List (List ℕ) → List (List (Option Tag)) → State Tag
state_at writer cut fires turns slots = record {
  local = λ p. record {
    position = cut p;
    slots = slice_index_or slots p [];
    kept = fired (λ t. t) p (slice_index fires p);
  };
  queue = λ c. map (tag (writer c)) (slice_index_or turns c []);
}

-- the position of each process
abbrev pub cut_in : TagState → Cut
cut_in state = cut_of state.progress

-- what lies in the slots of each process
abbrev pub slot_lists : TagState → List (List (Option Tag))
slot_lists state = map slots_in state.slots.items

-- the state of the machine
abbrev pub state_of : Net → TagState → State Tag
state_of n state =
    state_at n.writer (cut_in state) state.fires.items state.queues.items (slot_lists state)

-- Events of this network, whether or not they could come, lead to the state: each queue holds what was put and not got, and each
-- slot and each token is the tag that it names there.
pub record IsTagState (n : Net) (state : TagState) : Type 0 where
  pub progress : IsProgress n state.progress
  pub fires : length state.fires.items ≡ n.processes
  pub queues : length state.queues.items ≡ n.channels
  pub slots : length state.slots.items ≡ n.processes
  pub counted : IsCounted n (state_of n state)
  pub named : IsNamed n (λ t. t) (state_of n state)
