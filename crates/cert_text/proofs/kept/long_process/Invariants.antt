use Rattle.std.proofs.Common.{◌≡◌, ◌≤◌, length, take}
use Rattle.std.specs.List.{sum_by}
use Rattle.cert_text.specs.Folding.{long_script, most_events}
use Rattle.cert_text.specs.Kept.{scripts_of}
use Rattle.cert_text.proofs.Shortness.{long_from}
use Rattle.cert_text.proofs.kept.long_process.Given as goal

-- the scripts so far are few, and the first that is too long is among the rest
abbrev pub invariant-loop-process : goal.invariant-loop-process
invariant-loop-process l = record {
  place : l.number ≡ l.process-index;
  events : l.events ≡ sum_by length (take l.process-index (scripts_of l.processes));
  few : l.events ≤ most_events;
  later : long_from (scripts_of l.processes) l.process-index ≡ long_script (scripts_of l.processes);
}
