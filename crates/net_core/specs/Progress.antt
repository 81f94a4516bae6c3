-- How far the code has brought a network, without values.
use Rattle.std.specs.Prelude.{◌≡◌, ◌<◌, ◌≤◌, ◌+◌, ◌^◌, ℕ, List, map, drop, length, slice_index, slice_index_or, slice_set}
use Rattle.std.specs.List.{range_with_len}
use Rattle.net_core.specs.declared.network.Event.{Event}
use Rattle.net_core.specs.declared.network.Event.TheVariants.{Get, Fire, Put}
use Rattle.net_core.specs.declared.progress.Progress.{Progress}
use Rattle.net_core.specs.declared.progress.TokenCounts.{TokenCounts}
use Rattle.net_core.specs.Cuts.{Cut, gets_at, puts_at}
use Rattle.net_core.specs.Machine.{Net}
use Rattle.net_core.specs.Shape.{FitsNumbers, IsWired}

-- the positions, in order of the processes
abbrev pub place_list : Progress → List ℕ
place_list progress = progress.positions.items

-- the positions as a cut; a process that isn't there has made no event
abbrev pub cut_of : Progress → Cut
cut_of progress = slice_index (place_list progress)

-- what a process has left of its script at a cut
abbrev pub left_at : Net → Cut → ℕ → List Event
left_at n k p = drop (k p) (n.script p)

-- the tokens of a channel that were put before a cut, and those that were got
abbrev pub counts_at : Net → Cut → ℕ → TokenCounts
counts_at n k c = record { puts = puts_at n k c; gets = gets_at n k c }

-- What events of a network have reached, whether or not they could come: what is left and the counts are those at the
-- positions, none of which is past its script's end.
pub record IsProgress (n : Net) (progress : Progress) : Type 0 where
  pub wired : IsWired n
  pub numbers : FitsNumbers n
  pub number : length (place_list progress) ≡ n.processes
  pub inside : (p : ℕ) → cut_of progress p ≤ length (n.script p)
  pub left : progress.cursors.items
      ≡ map (left_at n (cut_of progress)) (range_with_len 0 n.processes)
  pub counts : progress.counts.items
      ≡ map (counts_at n (cut_of progress)) (range_with_len 0 n.channels)

-- the network with these capacities; a channel past the list has none
abbrev pub at_capacities : Net → List ℕ → Net
at_capacities n capacities = record n { capacity = slice_index capacities }

-- Counts of tokens

-- no token was put, and none got
abbrev pub no_counts : TokenCounts
no_counts = record { puts = 0; gets = 0 }

-- one token more was put
abbrev pub with_one_put : TokenCounts → TokenCounts
with_one_put counts = record counts { puts = counts.puts + 1 }

-- one token more was got
abbrev pub with_one_get : TokenCounts → TokenCounts
with_one_get counts = record counts { gets = counts.gets + 1 }

-- the counts of all channels after an event
abbrev pub counts_after : List TokenCounts → Event → List TokenCounts
counts_after counts (Get c slot) =
    slice_set counts c (with_one_get (slice_index_or counts c no_counts))
counts_after counts (Fire refs) = counts
counts_after counts (Put c) = slice_set counts c (with_one_put (slice_index_or counts c no_counts))

-- the channel of an event is there, and its count can take one more
abbrev pub CanCount : List TokenCounts → Event → Type 0
CanCount counts (Get c slot) =
    (c < length counts) × ((slice_index_or counts c no_counts).gets + 1 < 2 ^ 32)
CanCount counts (Fire refs) = Unit {0}
CanCount counts (Put c) =
    (c < length counts) × ((slice_index_or counts c no_counts).puts + 1 < 2 ^ 32)
