use Rattle.std.proofs.Common.{◌≡◌, ℕ, ◌<◌, ◌++◌, None, map}
use Rattle.std.specs.Prelude.{IsTrue}
use Rattle.std.specs.List.{list_all, range_with_len}
use Rattle.sanlp.specs.Trace.{trace}
use Rattle.source_tree.specs.Sources.{read_sources}
use Rattle.net_checker.specs.Tables.{is_tree}
use Rattle.net_checker.proofs.Usable.{at_read}
use Rattle.net_checker.proofs.sources.reads_refusal.Given as goal

-- no origin of the reads so far is refused, and their rows are added
abbrev pub invariant-loop-read : goal.invariant-loop-read
invariant-loop-read l = record {
  passed : (k : ℕ) → k < l.read → at_read l.candidate.nest.now l.cert l.statement k ≡ None;
  added : IsTrue (list_all is_tree l.cert.sources) → l.rows
      ≡ l.initial.rows ++ map (read_sources l.candidate.nest.now (trace l.candidate.nest.now) l.statement)
      (range_with_len 0 l.read);
}
