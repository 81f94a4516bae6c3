-- Statements one after the other, from a number on, and the writes that they add.
--
-- Where the statements from a number on are one statement and more, it is the statement of that number, and the
-- others are those from the next number on. A statement adds its write, or none, so the writes of the first and of the
-- others are those of all, their counts add up, and a bound on all leaves room for the first. A write that stands
-- before the read at some level stands before it at the outermost.
use Rattle.std.proofs.Common.{◌≡◌, ◌+◌, ◌≤◌, ◌<◌, ℕ, Bool, true, false, List, [], ◌++◌, refl, ap, ◌∙◌, arith}
use Rattle.std.proofs.Common.{lt-ltb}
use Rattle.std.specs.Prelude.{Option, Some, None, IfSome, IsTrue, nat_lt, slice_get}
use Rattle.std.specs.List.{list_all, sum_by}
use Rattle.std.specs.Option.{option_and_then}
use Rattle.std.proofs.lemmas.List.Sums.{sum_by-cons}
use Rattle.std.proofs.lemmas.Bool.{and_parts}
use Rattle.tree_join.proofs.LevelCounts.{has_level}
use Rattle.tree_order.specs.Candidates.{levels_before}
use Rattle.stride_trees.specs.Writers.{IsReadOf}
use Rattle.last_writer.specs.Writers.{stands_before}
use Rattle.tree_graphs.proofs.Just.{written_number}
use Rattle.source_tree.specs.declared.reference.Reference.{Reference}
use Rattle.sanlp.specs.declared.nest.Nest.{Nest}
use Rattle.sanlp.specs.declared.nest.Statement.{Statement}
use Rattle.source_tree.specs.Systems.{Occurrence, with_write, write_to}
use Rattle.source_tree.specs.References.{occurrence_of}
use Rattle.tree_cuts.specs.Class.{stride_count, writes_strides}
use Rattle.stride_trees.specs.Strides.{AreStrided}

-- The write of one statement, and those of the others

pub writes_of_both : (o : Option Occurrence) (more : List Occurrence) → with_write o [] ++ more ≡ with_write o more
writes_of_both None more = refl
writes_of_both (Some w) more = refl

pub sum_of_both : (count : Occurrence → ℕ) (o : Option Occurrence) (more : List Occurrence)
    → sum_by count (with_write o more) ≡ sum_by count (with_write o []) + sum_by count more
sum_of_both count None more = let none : sum_by count [] ≡ 0 = refl in omega (arith, none)
sum_of_both count (Some w) more =
    let none : sum_by count [] ≡ 0 = refl in
    omega (arith, none, sum_by-cons count w more, sum_by-cons count w [])

pub all_of_others : (P : Occurrence → Bool) (o : Option Occurrence) (more : List Occurrence)
    → IsTrue (list_all P (with_write o more)) → IsTrue (list_all P more)
all_of_others P None more h = h
all_of_others P (Some w) more h = (and_parts (P w) (list_all P more) h).1

pub first_fits : (tests : ℕ) (o : Option Occurrence) (more : List Occurrence)
    → IsTrue (list_all writes_strides (with_write o more)) → tests + sum_by stride_count (with_write o more) ≤ 6
    → IfSome o (λ w. IsTrue (writes_strides w) × (tests + stride_count w ≤ 6))
first_fits tests None more h few = tt
first_fits tests (Some w) more h few = (
  (and_parts (writes_strides w) (list_all writes_strides more) h).0,
  omega (arith, few, sum_by-cons stride_count w more),
)

-- a write of the read's array that stands before the read at some level of order
pub strided_at : (n : Nest) (r w : Reference) (number : ℕ) (s : Statement) → IsReadOf n r
    → slice_get n.statements number ≡ Some s → write_to r.access.now.array number s ≡ Some (occurrence_of w)
    → IsTrue (writes_strides (occurrence_of w)) → stride_count (occurrence_of w) ≤ 6
    → 0 < levels_before (occurrence_of w) (occurrence_of r) → AreStrided n (occurrence_of r) (occurrence_of w) 0
strided_at n r w number s read statement is strides few before =
    let array : ℕ = r.access.now.array in
    let same : w.number ≡ number = written_number array number s (occurrence_of w) is in
    record {
      reader = read.statement;
      read = read.access;
      write = ap (λ u. option_and_then (write_to array u) (slice_get n.statements u)) same
          ∙ ap (option_and_then (write_to array number)) statement ∙ is;
      strides = strides;
      few = few;
      level = has_level (occurrence_of r) (occurrence_of w) 0 before;
    }

pub says_before : (r w : Occurrence) → 0 < levels_before w r → stands_before r w ≡ true
says_before r w before = lt-ltb 0 (levels_before w r) before

pub says_not : (r w : Occurrence) → levels_before w r ≡ 0 → stands_before r w ≡ false
says_not r w none = ap (nat_lt 0) none
