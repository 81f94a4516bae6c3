-- The writers of a read, and where their tests of divisibility stand among those that are asked.
use Rattle.std.specs.Prelude.{◌≡◌, ◌==◌, ℕ, Bool, List, true, slice_get, Some}
use Rattle.std.specs.List.{AllZip, list_any}
use Rattle.sanlp.specs.declared.nest.Nest.{Nest}
use Rattle.source_tree.specs.declared.reference.Reference.{Reference}
use Rattle.source_tree.specs.Systems.{Occurrence}
use Rattle.stride_trees.specs.Divisions.{never_divides}
use Rattle.stride_trees.specs.Strides.{read_of, tests_of, IsStrided}
use Rattle.stride_trees.specs.declared.divisions.Division.{Division}
use Rattle.stride_trees.specs.declared.writers.Writer.{Writer}

-- the test at this place has the form and the divisor of this one
pub record IsTestAt (tests : List Division) (d : Division) (place : ℕ) : Type 0 where
  pub test : Division
  pub is : slice_get tests place ≡ Some test
  pub form : test.form ≡ d.form
  pub divisor : test.divisor ≡ d.divisor

-- The place of a test that isn't asked: those that are asked have lower places.
abbrev pub no_place : ℕ
no_place = 6

-- The place of a test of a writer: it is asked there, or not at all, where its form alone says no.
pub data IsPlaceOf (tests : List Division) (d : Division) (place : ℕ) : Type 0 where
  asked : IsTestAt tests d place → IsPlaceOf tests d place
  unasked : never_divides d ≡ true → place ≡ no_place → IsPlaceOf tests d place

-- a writer of the read's array, with its tests and their places among the tests of all writers
pub record IsWriterOf (n : Nest) (r : Occurrence) (tests : List Division)
    (w : Writer) : Type 0 where
  pub strided : IsStrided w.strides
  pub nest : w.strides.nest.now ≡ n
  pub read : read_of w.strides ≡ r
  pub divisions : w.divisions ≡ tests_of w.strides
  pub places : AllZip (IsPlaceOf tests) w.divisions w.places

-- one of its tests says no by its form alone and isn't asked: so it has no write before the read
abbrev pub is_never : Writer → Bool
is_never w = list_any (λ place. place == no_place) w.places

-- the reference is a read of its statement
pub record IsReadOf (n : Nest) (r : Reference) : Type 0 where
  pub statement : slice_get n.statements r.number ≡ Some r.statement.now
  pub access : (k : ℕ) × (slice_get r.statement.now.reads k ≡ Some r.access.now)
