-- Above all tests of divisibility.
--
-- The read is in the stride class, so its statement and its access are there, and all writers of its array together
-- have at most six tests. The context is the reader's domain rows as they stand, over its loops alone: their numbers
-- are those of the nest, and no answer has changed them. What is added by answers is told elsewhere.
use Rattle.std.proofs.Common.{◌≡◌, ◌+◌, ◌≤◌, ◌++◌, ℕ, List, [], length, refl, sym, ap, ◌∙◌, subst, arith}
use Rattle.std.specs.Prelude.{None, Some, IsTrue}
use Rattle.std.specs.List.{list_all, sum_by}
use Rattle.std.proofs.lemmas.List.Elements.{All-nil}
use Rattle.std.proofs.lemmas.Option.{same_Some}
use Rattle.tree_graphs.specs.Contexts.{IsMadeAs}
use Rattle.int_polyhedra.specs.declared.system.System.{System}
use Rattle.stride_trees.specs.Answers.{answered_context}
use Rattle.stride_trees.specs.Answers.{HasSmallRows}
use Rattle.stride_trees.specs.Leaves.{context_of}
use Rattle.stride_trees.specs.Writers.{IsReadOf}
use Rattle.last_writer.specs.Writers.{AreWriters, HasAllWriters, IsAskedRead}
use Rattle.stride_trees.specs.declared.leaves.Answered.{Answered}
use Rattle.stride_trees.specs.declared.writers.Writer.{Writer}
use Rattle.stride_trees.proofs.Below.{answered_none}
use Rattle.stride_trees.proofs.ReadBounds.{reader_fits}
use Rattle.last_writer.proofs.ReadClass.{reader_there, IsThere}
use Rattle.source_tree.specs.declared.reference.Reference.{Reference}
use Rattle.tree_graphs.proofs.MadeRows.{are_root, AreRoot}
use Rattle.sanlp.specs.declared.nest.Nest.{Nest}
use Rattle.sanlp.specs.declared.nest.Statement.{Statement}
use Rattle.source_tree.specs.Checked.{IsCheckedIn}
use Rattle.source_tree.specs.Systems.{Occurrence, array_writes, every, read_at, root_context, writes_from}
use Rattle.source_tree.specs.declared.tree.Tree.{Tree}
use Rattle.source_tree.specs.References.{occurrence_of}
use Rattle.tree_cuts.specs.Class.{stride_count, writes_strides, IsInStrideClass}
use Rattle.stride_trees.specs.declared.divisions.Division.{Division}

-- The read

pub asked_read : (n : Nest) (r : Reference) (k : ℕ) → IsInStrideClass n r.number k
    → read_at n r.number k ≡ Some (occurrence_of r) → IsAskedRead n r
asked_read n r k class at =
    let there : IsThere n r.number k (occurrence_of r) = reader_there n r.number k (occurrence_of r) at in
    let same : class.read ≡ occurrence_of r = same_Some class.read (occurrence_of r) (sym class.is_read ∙ at) in
    record {
      read = record { statement = there.statement; access = (k, there.access) };
      each = subst (λ (r : Occurrence). IsTrue (list_all writes_strides (array_writes n r))) same class.each;
      few = subst (λ (r : Occurrence). sum_by stride_count (array_writes n r) ≤ 6) same class.few;
    }

-- no writer, of no write
pub none_written : (n : Nest) (r : Occurrence) → AreWriters n r [] [] []
none_written n r = record { each = All-nil _; are = refl; small = All-nil _; few = omega arith }

-- the writers of all writes, gathered from the first statement on
pub gathered : (n : Nest) (r : Reference) (statements : List Statement) (no_tests tests own_tests : List Division)
    (no_writers writers own_writers : List Writer) → statements ≡ n.statements → no_tests ≡ [] → no_writers ≡ []
    → own_tests ≡ tests → own_writers ≡ writers
    → ((before : List Occurrence) → AreWriters n (occurrence_of r) before no_tests no_writers
    → AreWriters n (occurrence_of r) (before ++ writes_from r.access.now.array 0 statements) tests writers)
    → AreWriters n (occurrence_of r) (array_writes n (occurrence_of r)) own_tests own_writers
gathered n r statements no_tests tests own_tests no_writers writers own_writers all f g h k pushed =
    let rr : Occurrence = occurrence_of r in
    let start : AreWriters n rr [] no_tests no_writers =
    subst (λ (ts : List Division). AreWriters n rr [] ts no_writers) (sym f)
    (subst (AreWriters n rr [] []) (sym g) (none_written n rr)) in
    subst (λ (ts : List Division). AreWriters n rr (array_writes n rr) ts own_writers) (sym h)
    (subst (AreWriters n rr (array_writes n rr) tests) (sym k)
    (subst (λ (ss : List Statement). AreWriters n rr (writes_from r.access.now.array 0 ss) tests writers) all
    (pushed [] start)))

-- no test has an answer
pub begun : (w : Answered) (n : Nest) (r : Reference) → w.nest.now ≡ n → w.read ≡ r → IsAskedRead n r
    → AreWriters n (occurrence_of r) (array_writes n (occurrence_of r)) w.tests.now w.writers.now → w.answers.now ≡ []
    → w.only ≡ None → HasAllWriters w
begun w n r nest read asked writers none only = record {
  read = subst (λ n. IsReadOf n w.read) (sym nest) (subst (IsReadOf n) (sym read) asked.read);
  writers = subst (λ n. AreWriters n (occurrence_of w.read) (array_writes n (occurrence_of w.read)) w.tests.now
      w.writers.now) (sym nest)
      (subst (λ r. AreWriters n (occurrence_of r) (array_writes n (occurrence_of r)) w.tests.now w.writers.now) (sym read)
      writers);
  few = omega (arith, writers.few, asked.few);
  answers = omega (arith, ap length none);
  every = only;
}

-- The context

pub root_is : (w : Answered) → w.answers.now ≡ [] → context_of w ≡ root_context (occurrence_of w.read)
root_is w none =
    ap (answered_context (root_context (occurrence_of w.read)) w.tests.now) none
    ∙ answered_none (root_context (occurrence_of w.read)) w.tests.now

-- the reader's domain rows
abbrev pub reader_rows : Reference → System
reader_rows r = record { vars = length r.statement.now.loops; rows = r.statement.now.rows }

module _ (w : Answered) (context : System) (h : HasAllWriters w) (none : w.answers.now ≡ [])
    (is : context ≡ reader_rows w.read) where
  root : AreRoot (length w.read.statement.now.loops) w.read.statement.now.rows
  root = are_root (length w.read.statement.now.loops) w.read.statement.now.rows (reader_fits w.nest.now w.read h.read).rows_fit

  pub root_made : IsMadeAs context (context_of w)
  root_made =
      subst (IsMadeAs context) (sym (root_is w none))
      (subst (λ context. IsMadeAs context (root_context (occurrence_of w.read))) (sym is)
      (record { vars = refl; rows = root.made }))

  pub root_small : HasSmallRows context
  root_small = subst HasSmallRows (sym is) (record { over = root.over; within = root.within })

pub checked_root : (w : Answered) (n : Nest) (r : Reference) (tree : Tree) → w.nest.now ≡ n → w.read ≡ r → w.answers.now ≡ []
    → IsCheckedIn w.nest.now (occurrence_of w.read) every (context_of w) tree
    → IsCheckedIn n (occurrence_of r) every (root_context (occurrence_of r)) tree
checked_root w n r tree nest read none h =
    subst (λ n. IsCheckedIn n (occurrence_of r) every (root_context (occurrence_of r)) tree) nest
    (subst (λ r. IsCheckedIn w.nest.now (occurrence_of r) every (root_context (occurrence_of r)) tree) read
    (subst (λ c. IsCheckedIn w.nest.now (occurrence_of w.read) every c tree) (root_is w none) h))
