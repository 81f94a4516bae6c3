-- Ends in memory over whole streams.
use Rattle.std.specs.Prelude.{ℕ, ◌-◌, ℤ, Option, Some, None, List, [], length, slice_get, sum_by}
use Rattle.std.specs.Option.{option_map_or}
use Rattle.std.specs.declared.vec.Vec.{Vec}
use Rattle.std.specs.Global.{Global}
use Rattle.ruled_links.specs.Ports.{Port}

-- how many values are left to go through
abbrev pub left_of : Option Port → ℕ
left_of None = 0
left_of (Some p) = length p.stream - length p.moved

-- how many values are left to go through ports
abbrev pub left_in : List (Option Port) → ℕ
left_in ports = sum_by left_of ports

-- the stream of a channel in a list of streams
abbrev pub nth_stream : List (Vec ℤ Global) → ℕ → List ℤ
nth_stream streams c = option_map_or (λ stream. stream.items) (slice_get streams c) []

-- how many values the streams have
abbrev pub value_count : List (Vec ℤ Global) → ℕ
value_count streams = sum_by (λ stream. length stream.items) streams
