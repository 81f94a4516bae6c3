use Rattle.std.proofs.Common.{◌≡◌, ◌<◌, ◌≤◌, ℕ, length, take}
use Rattle.std.specs.Prelude.{slice_index_or, None}
use Rattle.node_runner.specs.Nodes.{incoming, outgoing}
use Rattle.node_runner.specs.Logs.{left_in, nth_stream, value_count}
use Rattle.node_runner.proofs.logged.LogEnds.new.Given as goal

abbrev pub invariant-loop-at : goal.invariant-loop-at
invariant-loop-at l = record {
  gets_many : length l.gets.items ≡ l.at;
  puts_many : length l.puts.items ≡ l.at;
  gets : (c : ℕ) → c < l.at
      → slice_index_or l.gets.items c None ≡ incoming (nth_stream l.streams) l.network l.process c;
  puts : (c : ℕ) → c < l.at
      → slice_index_or l.puts.items c None ≡ outgoing (nth_stream l.streams) l.network l.process c;
  gets_left : left_in l.gets.items ≤ value_count (take l.at l.streams);
  puts_left : left_in l.puts.items ≤ value_count (take l.at l.streams);
}
