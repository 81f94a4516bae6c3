-- What a walk over one process's script has collected of the uses of channels.
use Rattle.std.specs.Prelude.{◌≡◌, ◌<◌, ◌+◌, ℕ, Option, List, [], ◌++◌, length, take, get_or, count_by}
use Rattle.net_core.specs.declared.network.Event.{Event}
use Rattle.net_core.specs.Machine.{Net}
use Rattle.net_core.specs.Names.{latest_gets}
use Rattle.net_core.specs.Shape.{is_get}
use Rattle.net_core.specs.Uses.{uses_before}

-- before place k of p's script: the latest Get of each slot, and more than at first the Gets of each channel and its uses
pub record IsCollected (net : Net) (p : ℕ) (first_gets : List ℕ) (first_uses : List (List ℕ))
    (gets : List ℕ) (lists : List (List ℕ)) (slots : List (Option (ℕ × ℕ))) (k : ℕ)
    : Type 0 where
  pub gets_length : length gets ≡ net.channels
  pub uses_length : length lists ≡ net.channels
  pub slots_are : slots ≡ latest_gets net p k
  pub gets_are : (c : ℕ) → c < net.channels
      → get_or gets c 0 ≡ get_or first_gets c 0 + count_by (is_get c) (take k (net.script p))
  pub uses_are : (c : ℕ) → c < net.channels
      → get_or lists c [] ≡ get_or first_uses c [] ++ uses_before net c p k

-- these events stand somewhere in p's script, and this was collected before them; at first the channels that p reads had no Get
pub record IsCollectedBefore (net : Net) (p : ℕ) (events : List Event) (gets : List ℕ)
    (lists : List (List ℕ)) (slots : List (Option (ℕ × ℕ))) : Type 0 where
  pub first_gets : List ℕ
  pub first_uses : List (List ℕ)
  pub before : List Event
  pub after : List Event
  pub whole : before ++ (events ++ after) ≡ net.script p
  pub fresh : (c : ℕ) → net.reader c ≡ p → get_or first_gets c 0 ≡ 0
  pub collected : IsCollected net p first_gets first_uses gets lists slots (length before)
