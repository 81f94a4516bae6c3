use Rattle.std.proofs.Common.{◌≡◌, ℕ, ◌<◌, None}
use Rattle.std.specs.Prelude.{IsTrue}
use Rattle.std.specs.List.{list_all}
use Rattle.net_checker.specs.Sources.{reads_refusal}
use Rattle.net_checker.specs.Tables.{is_tree}
use Rattle.net_checker.proofs.Tables.{rows_upto}
use Rattle.net_checker.proofs.sources.source_refusal.Given as goal

-- no origin of the statements so far is refused, and their rows are there
abbrev pub invariant-loop-statement : goal.invariant-loop-statement
invariant-loop-statement l = record {
  passed : (s : ℕ) → s < l.statement → reads_refusal l.candidate.nest.now l.cert s ≡ None;
  added : IsTrue (list_all is_tree l.cert.sources) → l.rows ≡ rows_upto l.candidate.nest.now l.statement;
}
