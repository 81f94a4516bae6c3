use Rattle.std.proofs.Common.{◌≡◌, ℕ, List, length}
use Rattle.std.specs.Prelude.{Some, slice_get}
use Rattle.int_polyhedra.specs.declared.system.Proof.TheVariants.{Sum}
use Rattle.int_polyhedra.specs.declared.system.Term.{Term}
use Rattle.tree_order.specs.Candidates.{IsCandidate}
use Rattle.tree_order.specs.Reads.{pair_of}
use Rattle.tree_order.specs.Refutations.{IsPointIn, RefutesBetween}
use Rattle.tree_order.specs.declared.candidates.Read.{Read}
use Rattle.tree_graphs.specs.Asked.{write_of}
use Rattle.tree_join.proofs.path.exclusions.Given as goal

abbrev pub invariant-loop-level : goal.invariant-loop-level
invariant-loop-level l = record {
  count : length l.sums ≡ l.level;
  each : (q : ℕ) (ts : List Term) (r : Read) → slice_get l.sums q ≡ Some ts → IsCandidate r l.candidate
      → IsPointIn l.context (write_of l.best.candidate.now.writes) l.place
      → RefutesBetween (pair_of l.candidate.writes) l.context l.candidate.writes.level
      (write_of l.best.candidate.now.writes) l.place q (Sum ts);
}
