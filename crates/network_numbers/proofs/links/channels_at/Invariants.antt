use Rattle.std.proofs.Common.{◌≡◌, false}
use Rattle.std.specs.Prelude.{slice_get}
use Rattle.std.specs.List.{filter, range_with_len}
use Rattle.std.specs.Option.{option_map_or}
use Rattle.network_numbers.specs.Links.{has_end_at}
use Rattle.network_numbers.proofs.links.channels_at.Given as goal

-- the channels below this one were looked at
abbrev pub invariant-loop-channel : goal.invariant-loop-channel
invariant-loop-channel l =
    l.channels
    ≡ filter (λ c. option_map_or (has_end_at l.process) (slice_get l.plans c) false) (range_with_len 0 l.channel)
