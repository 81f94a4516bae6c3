use Rattle.std.proofs.Common.{◌≡◌, map}
use Rattle.std.specs.List.{range_with_len}
use Rattle.network_numbers.specs.Links.{channels_at}
use Rattle.network_numbers.proofs.links.channels_of_processes.Given as goal

-- the processes so far have their channels
abbrev pub invariant-loop-process : goal.invariant-loop-process
invariant-loop-process l = l.channels.items ≡ map (channels_at l.plans) (range_with_len 0 l.process)
