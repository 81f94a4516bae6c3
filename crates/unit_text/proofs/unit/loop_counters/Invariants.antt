use Rattle.std.proofs.Common.{◌≡◌, All, map}
use Rattle.std.specs.List.{filter, range_with_len}
use Rattle.unit_text.specs.Units.{names_loop, IsCounterOf}
use Rattle.unit_text.proofs.unit.loop_counters.Given as goal

-- those so far are the counters of the loops so far that the expression names
abbrev pub invariant-loop-number : goal.invariant-loop-number
invariant-loop-number l = record {
  numbers : map (λ counter. counter.number) l.loops
      ≡ filter (λ n. names_loop n l.fn.auto.expr) (range_with_len 0 l.number);
  counters : All (IsCounterOf l.fn.auto.values) l.loops;
}
