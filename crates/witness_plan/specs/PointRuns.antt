-- A run of a network while it is made point by point.
use Rattle.std.specs.Prelude.{◌≡◌, ◌≤◌, ℕ, length, map, slice_index}
use Rattle.std.specs.List.{range_with_len}
use Rattle.net_core.specs.Cuts.{cut_after, opening}
use Rattle.net_core.specs.Machine.{Net}
use Rattle.net_core.specs.Shape.{FitsNumbers, IsWired}
use Rattle.witness_plan.specs.Effects.{effects_of, queue_at}
use Rattle.witness_plan.specs.declared.points.PointRun.{PointRun}

-- The processes stand where the schedule so far leads, none past its script's end, and the queues have had what they have along it.
pub record IsPointRun (net : Net) (run : PointRun) : Type 0 where
  pub wired : IsWired net
  pub numbers : FitsNumbers net
  pub effects : run.effects.items ≡ map (effects_of net) (range_with_len 0 net.processes)
  pub number : length run.positions.items ≡ net.processes
  pub inside : (p : ℕ) → slice_index run.positions.items p ≤ length (net.script p)
  pub cut : slice_index run.positions.items ≡ cut_after opening run.schedule.items
  pub queues : run.queues.items ≡ map (queue_at net run.schedule.items) (range_with_len 0 net.channels)
