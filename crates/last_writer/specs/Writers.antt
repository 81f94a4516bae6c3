-- All writers of a read's array, and their tests of divisibility, each once.
use Rattle.std.specs.Prelude.{◌≡◌, ◌≤◌, ℕ, Bool, List, ◌++◌, map, length, nat_lt, None, All, Contains, IsTrue}
use Rattle.std.specs.List.{AllZip, filter, list_all, sum_by}
use Rattle.tree_order.specs.Candidates.{levels_before}
use Rattle.source_tree.specs.declared.reference.Reference.{Reference}
use Rattle.sanlp.specs.declared.nest.Nest.{Nest}
use Rattle.source_tree.specs.Systems.{array_writes, Occurrence}
use Rattle.source_tree.specs.References.{occurrence_of}
use Rattle.tree_cuts.specs.Class.{stride_count, writes_strides}
use Rattle.stride_trees.specs.Answers.{IsSmallTest}
use Rattle.stride_trees.specs.Strides.{write_of}
use Rattle.stride_trees.specs.Writers.{IsPlaceOf, IsReadOf, IsWriterOf}
use Rattle.stride_trees.specs.declared.divisions.Division.{Division}
use Rattle.stride_trees.specs.declared.leaves.Answered.{Answered}
use Rattle.stride_trees.specs.declared.writers.Writer.{Writer}

-- tests of these were added at the end, none of them twice
pub record AddsTests (from old new : List Division) : Type 0 where
  pub more : List Division
  pub grown : new ≡ old ++ more
  pub among : All (Contains from) more
  pub few : length more ≤ length from

-- places were added, one for each of these tests
pub record AddsPlaces (tests divisions : List Division) (old new : List ℕ) : Type 0 where
  pub more : List ℕ
  pub grown : new ≡ old ++ more
  pub places : AllZip (IsPlaceOf tests) divisions more

-- the reference is a read of the stride class
pub record IsAskedRead (n : Nest) (r : Reference) : Type 0 where
  pub read : IsReadOf n r
  pub each : IsTrue (list_all writes_strides (array_writes n (occurrence_of r)))
  pub few : sum_by stride_count (array_writes n (occurrence_of r)) ≤ 6

-- the statement of the write stands before the read at some level of order
abbrev pub stands_before : Occurrence → Occurrence → Bool
stands_before r w = nat_lt 0 (levels_before w r)

-- the writers of those of these writes that stand before the read, and the tests of all of them
pub record AreWriters (n : Nest) (r : Occurrence) (writes : List Occurrence) (tests : List Division)
    (writers : List Writer) : Type 0 where
  pub each : All (IsWriterOf n r tests) writers
  pub are : map (λ w. write_of w.strides) writers ≡ filter (stands_before r) writes
  pub small : All (IsSmallTest (length r.statement.loops)) tests
  pub few : length tests ≤ sum_by stride_count writes

-- All writers of the read's array, for every level of order, and answers to the first of their tests.
pub record HasAllWriters (w : Answered) : Type 0 where
  pub read : IsReadOf w.nest.now w.read
  pub writers : AreWriters w.nest.now (occurrence_of w.read)
      (array_writes w.nest.now (occurrence_of w.read)) w.tests.now w.writers.now
  pub few : length w.tests.now ≤ 6
  pub answers : length w.answers.now ≤ length w.tests.now
  pub every : w.only ≡ None
