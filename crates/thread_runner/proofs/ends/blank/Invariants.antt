use Rattle.std.proofs.Common.{◌≡◌, ℕ, None, length}
use Rattle.std.specs.Prelude.{slice_index_or}
use Rattle.thread_runner.proofs.ends.blank.Given as goal

abbrev pub invariant-loop : goal.invariant-loop
invariant-loop l = record {
  gets_number : length l.gets.items ≡ l.counter;
  puts_number : length l.puts.items ≡ l.counter;
  no_gets : (c : ℕ) → slice_index_or l.gets.items c None ≡ None;
  no_puts : (c : ℕ) → slice_index_or l.puts.items c None ≡ None;
}
