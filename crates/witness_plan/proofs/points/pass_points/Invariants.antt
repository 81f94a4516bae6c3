use Rattle.std.proofs.Common.{◌≡◌, ◌≤◌, length, take}
use Rattle.witness_plan.specs.Effects.{after_effects, first_points}
use Rattle.witness_plan.proofs.points.pass_points.Given as goal

abbrev pub invariant-loop : goal.invariant-loop
invariant-loop l = record {
  within : l.passed ≤ length l.effects;
  many : length l.queues ≡ length l.fn.queues;
  points : l.passed ≡ first_points l.counter l.effects;
  queues : l.queues ≡ after_effects l.fn.queues (take l.passed l.effects);
}
