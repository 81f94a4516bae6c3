-- A run of a network while it is made.
use Rattle.std.specs.Prelude.{◌≡◌, ◌<◌, ℕ, suc, max, List, map, drop, slice_index, slice_set}
use Rattle.std.specs.List.{range_with_len}
use Rattle.net_core.specs.declared.network.Event.{Event}
use Rattle.net_core.specs.declared.network.Event.TheVariants.{Get, Fire, Put}
use Rattle.net_core.specs.Cuts.{Cut, cut_after, opening}
use Rattle.net_core.specs.Machine.{Net}
use Rattle.net_core.specs.Progress.{IsProgress, cut_of}
use Rattle.witness_plan.specs.Sequential.{greatest_length, queue_length}
use Rattle.witness_plan.specs.declared.recorder.Recorder.{Recorder}

-- what each process has left of its script after these events
abbrev pub left_after : Net → List ℕ → ℕ → List Event
left_after net schedule p = drop (cut_after opening schedule p) (net.script p)

-- The network stands where the schedule so far leads, and the lengths are the greatest along it.
pub record IsRecord (net : Net) (recorder : Recorder) : Type 0 where
  pub progress : IsProgress net recorder.progress
  pub cut : cut_of recorder.progress ≡ cut_after opening recorder.schedule
  pub greatest : recorder.greatest.items
      ≡ map (greatest_length net recorder.schedule) (range_with_len 0 net.channels)

-- the greatest lengths after an event that led to this cut: at a Put its channel's queue may be longer than before
abbrev pub lengths_after : Net → Cut → List ℕ → Event → List ℕ
lengths_after net cut greatest (Get c slot) = greatest
lengths_after net cut greatest (Fire refs) = greatest
lengths_after net cut greatest (Put c) =
    slice_set greatest c (max (slice_index greatest c) (queue_length net cut c))

-- the channel of a Put is there
abbrev pub IsThere : Net → Event → Type 0
IsThere net (Get c slot) = Unit {0}
IsThere net (Fire refs) = Unit {0}
IsThere net (Put c) = c < net.channels

-- an event of process p is of a channel that is there, and of which p is the reader at a Get and the writer at a Put
abbrev pub IsOwn : Net → ℕ → Event → Type 0
IsOwn net p (Get channel slot) = (channel < net.channels) × (net.reader channel ≡ p)
IsOwn net p (Fire refs) = Unit {0}
IsOwn net p (Put channel) = (channel < net.channels) × (net.writer channel ≡ p)

-- the number past process p and, at a Put, past the channel's reader
abbrev pub bound_after : Net → ℕ → Event → ℕ
bound_after net p (Get c slot) = suc p
bound_after net p (Fire refs) = suc p
bound_after net p (Put c) = max (suc p) (suc (net.reader c))
