-- The tests of a write's subscripts are tests of it, and no more than six.
--
-- By induction over the subscripts: each with a stride adds the test of its number, and counts among those that the
-- class allows.
use Rattle.std.proofs.Common.{◌≡◌, ◌+◌, ◌≤◌, ℕ, suc, ℤ, List, [], ◌∷◌, ◌++◌, length, refl}
use Rattle.std.proofs.Common.{ap, ◌∙◌, arith}
use Rattle.std.specs.Prelude.{Option, Some, None, All, is_some, slice_get}
use Rattle.std.specs.List.{count_by}
use Rattle.std.specs.Option.{option_map_or}
use Rattle.std.proofs.lemmas.List.Elements.{All-nil, All-cons}
use Rattle.std.proofs.lemmas.List.Sums.{sum_by-cons}
use Rattle.affine_core.specs.declared.form.Form.{Form}
use Rattle.tree_cuts.specs.Class.{is_stride, stride_of}
use Rattle.stride_trees.specs.Divisions.{division_of, divisions_from}
use Rattle.stride_trees.specs.Strides.{tests_of, IsStrided, IsTestOf}
use Rattle.stride_trees.specs.declared.strides.Strides.{Strides}
use Rattle.tree_cuts.proofs.Coefficients.{once}

-- a list from this place on
abbrev StandFrom : List Form → ℕ → List Form → Type 0
StandFrom whole k rest = (i : ℕ) (form : Form) → slice_get rest i ≡ Some form → slice_get whole (k + i) ≡ Some form

from_here : (whole : List Form) (k : ℕ) (form : Form) (rest : List Form) → StandFrom whole k (form ∷ rest)
    → slice_get whole k ≡ Some form
from_here whole k form rest h = (let e : k ≡ k + 0 = omega arith in ap (slice_get whole) e) ∙ h 0 form refl

from_next : (whole : List Form) (k : ℕ) (form : Form) (rest : List Form) → StandFrom whole k (form ∷ rest)
    → StandFrom whole (k + 1) rest
from_next whole k form rest h i other is =
    (let e : k + 1 + i ≡ k + suc i = omega arith in ap (slice_get whole) e) ∙ h (suc i) other is

tests_from : (s : Strides) (k : ℕ) (writes reads : List Form) → StandFrom s.write.access.now.subscripts k writes
    → StandFrom s.read.access.now.subscripts k reads → All (IsTestOf s) (divisions_from k writes reads)
tests_from s k [] reads w r = All-nil (IsTestOf s)
tests_from s k (write ∷ writes) [] w r = All-nil (IsTestOf s)
tests_from s k (write ∷ writes) (read ∷ reads) w r =
    go (stride_of write) refl
    (tests_from s (k + 1) writes reads (from_next s.write.access.now.subscripts k write writes w)
    (from_next s.read.access.now.subscripts k read reads r)) where
      go : (o : Option ℤ) → stride_of write ≡ o → All (IsTestOf s) (divisions_from (k + 1) writes reads)
          → All (IsTestOf s)
          (option_map_or (λ c. division_of k write read c ∷ []) o [] ++ divisions_from (k + 1) writes reads)
      go None e rest = rest
      go (Some c) e rest = All-cons (IsTestOf s) (division_of k write read c) (divisions_from (k + 1) writes reads)
          (record {
            write = write;
            read = read;
            stride = c;
            write_is = from_here s.write.access.now.subscripts k write writes w;
            read_is = from_here s.read.access.now.subscripts k read reads r;
            stride_is = e;
            is = refl;
          }) rest

pub tests_are : (s : Strides) → All (IsTestOf s) (tests_of s)
tests_are s = tests_from s 0 s.write.access.now.subscripts s.read.access.now.subscripts
    (λ i form is. (let e : 0 + i ≡ i = omega arith in ap (slice_get s.write.access.now.subscripts) e) ∙ is)
    (λ i form is. (let e : 0 + i ≡ i = omega arith in ap (slice_get s.read.access.now.subscripts) e) ∙ is)

pub tests_count : (k : ℕ) (writes reads : List Form) → length (divisions_from k writes reads) ≤ count_by is_stride writes
tests_count k [] reads = omega arith
tests_count k (write ∷ writes) [] = omega arith
tests_count k (write ∷ writes) (read ∷ reads) =
    let count : count_by is_stride (write ∷ writes) ≡ once (is_stride write) + count_by is_stride writes =
    sum_by-cons (λ f. once (is_stride f)) write writes in
    go (stride_of write) refl count (tests_count (k + 1) writes reads) where
      go : (o : Option ℤ) → stride_of write ≡ o
          → count_by is_stride (write ∷ writes) ≡ once (is_stride write) + count_by is_stride writes
          → length (divisions_from (k + 1) writes reads) ≤ count_by is_stride writes
          → length (option_map_or (λ c. division_of k write read c ∷ []) o [] ++ divisions_from (k + 1) writes reads)
          ≤ count_by is_stride (write ∷ writes)
      go None e count rest = omega (arith, count, rest)
      go (Some c) e count rest =
          let one : once (is_stride write) ≡ 1 = ap (λ o. once (is_some o)) e in
          omega (arith, count, rest, one)

pub few_tests : (s : Strides) → IsStrided s → length (tests_of s) ≤ 6
few_tests s strided = omega (
  arith,
  tests_count 0 s.write.access.now.subscripts s.read.access.now.subscripts,
  strided.strided.few,
)

-- each subscript with a stride has a test
pub tests_all : (k : ℕ) (writes reads : List Form) → length writes ≡ length reads
    → count_by is_stride writes ≤ length (divisions_from k writes reads)
tests_all k [] reads even = omega arith
tests_all k (write ∷ writes) [] even = absurd (omega arith)
tests_all k (write ∷ writes) (read ∷ reads) even =
    let count : count_by is_stride (write ∷ writes) ≡ once (is_stride write) + count_by is_stride writes =
    sum_by-cons (λ f. once (is_stride f)) write writes in
    go (stride_of write) refl count (tests_all (k + 1) writes reads (omega (arith, even))) where
      go : (o : Option ℤ) → stride_of write ≡ o
          → count_by is_stride (write ∷ writes) ≡ once (is_stride write) + count_by is_stride writes
          → count_by is_stride writes ≤ length (divisions_from (k + 1) writes reads)
          → count_by is_stride (write ∷ writes)
          ≤ length (option_map_or (λ c. division_of k write read c ∷ []) o [] ++ divisions_from (k + 1) writes reads)
      go None e count rest =
          let none : once (is_stride write) ≡ 0 = ap (λ o. once (is_some o)) e in
          omega (arith, count, rest, none)
      go (Some c) e count rest =
          let one : once (is_stride write) ≡ 1 = ap (λ o. once (is_some o)) e in
          omega (arith, count, rest, one)
