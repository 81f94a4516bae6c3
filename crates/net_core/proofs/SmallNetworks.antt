-- Small networks, by which examples compute what is defined of a network.
use Rattle.std.proofs.Common.{ℕ, List, [], ◌∷◌, flat_map, length}
use Rattle.std.specs.Prelude.{slice_index_or}
use Rattle.std.specs.List.{range_with_len}
use Rattle.net_core.specs.declared.network.Event.{Event}
use Rattle.net_core.specs.declared.network.Event.TheVariants.{Get, Fire, Put}
use Rattle.net_core.specs.declared.refs.Ref.TheVariants.{Zero, Slot}
use Rattle.net_core.specs.Machine.{Net}

-- processes with these scripts and numbers of slots, and channels with these writers, readers and capacities
abbrev pub network : List (List Event) → List ℕ → List ℕ → List ℕ → List ℕ → Net
network scripts slots writers readers capacities = record {
  processes = length scripts;
  channels = length capacities;
  script = λ p. slice_index_or scripts p [];
  slots = λ p. slice_index_or slots p 0;
  writer = λ c. slice_index_or writers c 0;
  reader = λ c. slice_index_or readers c 0;
  capacity = λ c. slice_index_or capacities c 0;
}

-- the same events so many times
abbrev pub times : ℕ → List Event → List Event
times n events = flat_map (λ turn. events) (range_with_len 0 n)

-- for i < turns y[i] = x[i] + 1, with these capacities of its two channels
abbrev pub increments_within : ℕ → List ℕ → Net
increments_within turns capacities =
    network
    (times turns (Fire [] ∷ Put 0 ∷ [])
    ∷ times turns (Get 0 0 ∷ Fire (Slot 0 ∷ []) ∷ Put 1 ∷ [])
    ∷ times turns (Get 1 0 ∷ Fire (Slot 0 ∷ []) ∷ []) ∷ [])
    (0 ∷ 1 ∷ 1 ∷ []) (0 ∷ 1 ∷ []) (1 ∷ 2 ∷ []) capacities

-- the same with this capacity of both
abbrev pub increments : ℕ → ℕ → Net
increments turns capacity = increments_within turns (capacity ∷ capacity ∷ [])

-- for i < 3 s[i] = s[i - 1] + x[i]: the assignment is the reader and the writer of channel 0
abbrev pub sums : Net
sums =
    network
    (times 3 (Fire [] ∷ Put 1 ∷ [])
    ∷ (Get 1 1 ∷ Fire (Zero ∷ Slot 1 ∷ []) ∷ Put 0 ∷ Put 2
    ∷ Get 0 0 ∷ Get 1 1 ∷ Fire (Slot 0 ∷ Slot 1 ∷ []) ∷ Put 0 ∷ Put 2
    ∷ Get 0 0 ∷ Get 1 1 ∷ Fire (Slot 0 ∷ Slot 1 ∷ []) ∷ Put 2 ∷ [])
    ∷ times 3 (Get 2 0 ∷ Fire (Slot 0 ∷ []) ∷ []) ∷ [])
    (0 ∷ 2 ∷ 1 ∷ []) (1 ∷ 0 ∷ 1 ∷ []) (1 ∷ 1 ∷ 2 ∷ []) (1 ∷ 3 ∷ 3 ∷ [])

-- for j < 2 for i < 2 b[j][i] = a[i][j]
abbrev pub corner : Net
corner =
    network
    (times 4 (Fire [] ∷ Put 0 ∷ [])
    ∷ (Get 0 0 ∷ Fire (Slot 0 ∷ []) ∷ Put 1
    ∷ Get 0 0 ∷ Get 0 1 ∷ Fire (Slot 1 ∷ []) ∷ Put 1 ∷ Fire (Slot 0 ∷ []) ∷ Put 1
    ∷ Get 0 0 ∷ Fire (Slot 0 ∷ []) ∷ Put 1 ∷ [])
    ∷ times 4 (Get 1 0 ∷ Fire (Slot 0 ∷ []) ∷ []) ∷ [])
    (0 ∷ 2 ∷ 1 ∷ []) (0 ∷ 1 ∷ []) (1 ∷ 2 ∷ []) (4 ∷ 4 ∷ [])
