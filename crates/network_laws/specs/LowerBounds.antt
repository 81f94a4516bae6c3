-- How small the capacities of a network can be.
use Rattle.std.specs.Prelude.{ℕ}
use Rattle.std.specs.List.{range_with_len, sum_by}
use Rattle.net_core.specs.Machine.{Net}
use Rattle.net_core.specs.Shape.{put_count}
use Rattle.cap_trim.specs.Capacities.{least_capacity, with_room}

-- The least capacity of channel c at which the network ends where the capacity of each other channel is the number of its
-- tokens, or the number of its own tokens where no lesser one will do. Whatever the others have, c needs no less.
abbrev pub capacity_bound : Net → ℕ → ℕ
capacity_bound n c = least_capacity (with_room n (put_count n)) c

-- the capacities of all channels together
abbrev pub total_capacity : Net → (ℕ → ℕ) → ℕ
total_capacity n capacities = sum_by capacities (range_with_len 0 n.channels)
