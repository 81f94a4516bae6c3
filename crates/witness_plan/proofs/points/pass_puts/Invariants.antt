use Rattle.std.proofs.Common.{◌≡◌, ◌+◌, drop, length, take}
use Rattle.witness_plan.specs.Effects.{after_effects, puts_in_front}
use Rattle.witness_plan.proofs.points.pass_puts.Given as goal

abbrev pub invariant-loop-effect : goal.invariant-loop-effect
invariant-loop-effect l = record {
  passed : l.passed ≡ l.effect-index;
  many : length l.queues ≡ length l.fn.queues;
  puts : puts_in_front l.effects ≡ l.effect-index + puts_in_front (drop l.effect-index l.effects);
  queues : l.queues ≡ after_effects l.fn.queues (take l.effect-index l.effects);
}
