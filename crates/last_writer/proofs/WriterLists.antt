-- Writers that are gathered one after the other.
--
-- The tests only grow, each at the end, so the places of the writers before stay right. A writer adds at most one test
-- for each of its subscripts with a stride, so there are no more tests than such subscripts of the writes so far.
use Rattle.std.proofs.Common.{◌≡◌, ◌+◌, ◌≤◌, ℕ, zero, suc, List, [], ◌∷◌, ◌++◌, length, map, Bool, true, false}
use Rattle.std.proofs.Common.{cond, refl, sym, ap, ◌∙◌, subst, arith, length-append}
use Rattle.std.specs.Prelude.{All, Contains, slice_get}
use Rattle.std.specs.List.{AllZip, filter}
use Rattle.std.proofs.lemmas.List.{append-nil, append_assoc, map-append}
use Rattle.std.proofs.lemmas.List.Elements.{All-append, All-cons, All-contains, All-nil, All-weaker, filter-append}
use Rattle.std.proofs.lemmas.List.Sums.{sum_by_push}
use Rattle.stride_trees.specs.Writers.{asked, no_place, unasked, IsPlaceOf}
use Rattle.last_writer.specs.Writers.{stands_before, AddsPlaces, AddsTests, AreWriters}
use Rattle.stride_trees.specs.Writers.{IsTestAt, IsWriterOf}
use Rattle.stride_trees.specs.declared.writers.Writer.{Writer}
use Rattle.plain_data.proofs.Lists.{slice_get-append_right, slice_get-append_some}
use Rattle.sanlp.specs.declared.nest.Nest.{Nest}
use Rattle.source_tree.specs.Systems.{Occurrence}
use Rattle.tree_cuts.specs.Class.{stride_count}
use Rattle.stride_trees.specs.Answers.{IsSmallTest}
use Rattle.stride_trees.specs.Divisions.{never_divides}
use Rattle.stride_trees.specs.Strides.{depth_of_read, tests_of, write_of, IsStrided, IsTestOf}
use Rattle.stride_trees.specs.declared.divisions.Division.{Division}
use Rattle.stride_trees.specs.declared.strides.Strides.{Strides}
use Rattle.stride_trees.proofs.TestCounts.{tests_are, tests_count}
use Rattle.stride_trees.proofs.TestNodes.{small_test}

-- Tests

pub test_kept : (tests more : List Division) (d : Division) (place : ℕ) → IsTestAt tests d place
    → IsTestAt (tests ++ more) d place
test_kept tests more d place at =
    record { test = at.test; is = slice_get-append_some tests more place at.test at.is; form = at.form; divisor = at.divisor }

place_kept : (tests more : List Division) (d : Division) (place : ℕ) → IsPlaceOf tests d place
    → IsPlaceOf (tests ++ more) d place
place_kept tests more d place (asked at) = asked (test_kept tests more d place at)
place_kept tests more d place (unasked never same) = unasked never same

places_kept : (tests more ds : List Division) (places : List ℕ) → AllZip (IsPlaceOf tests) ds places
    → AllZip (IsPlaceOf (tests ++ more)) ds places
places_kept tests more [] [] at = tt
places_kept tests more [] (place ∷ places) at = absurd at
places_kept tests more (d ∷ ds) [] at = absurd at
places_kept tests more (d ∷ ds) (place ∷ places) at =
    (place_kept tests more d place at.0, places_kept tests more ds places at.1)

-- a test that is never asked, and one that is
pub place_never : (tests : List Division) (d : Division) → never_divides d ≡ true → IsPlaceOf tests d no_place
place_never tests d never = unasked never refl

pub place_found : (tests given : List Division) (d : Division) (place : ℕ) → given ≡ tests
    → (k : ℕ) × (place ≡ 0 + k) × IsTestAt given d k → IsPlaceOf tests d place
place_found tests given d place same (k, is, at) =
    let here : k ≡ place = omega (arith, is) in
    asked (subst (IsTestAt tests d) here (subst (λ ts. IsTestAt ts d k) same at))

pub place_added : (old new : List Division) (d : Division) (place : ℕ) → new ≡ old ++ d ∷ [] → place ≡ length old
    → IsPlaceOf new d place
place_added old new d place grown is =
    let here : place ≡ length old + 0 = omega (arith, is) in
    asked (record {
      test = d;
      is = ap (λ ts. slice_get ts place) grown ∙ ap (slice_get (old ++ d ∷ [])) here
          ∙ slice_get-append_right old (d ∷ []) 0;
      form = refl;
      divisor = refl;
    })

pub test_here : (first : Division) (tests : List Division) (d : Division) → first.form ≡ d.form
    → first.divisor ≡ d.divisor → IsTestAt (first ∷ tests) d 0
test_here first tests d form divisor = record { test = first; is = refl; form = form; divisor = divisor }

-- the test at a place of a longer list
pub test_behind : (first : Division) (tests : List Division) (d : Division) (k : ℕ) → IsTestAt tests d k
    → IsTestAt (first ∷ tests) d (k + 1)
test_behind first tests d k at =
    let e : k + 1 ≡ suc k = omega arith in
    record {
      test = at.test;
      is = ap (slice_get (first ∷ tests)) e ∙ at.is;
      form = at.form;
      divisor = at.divisor;
    }

-- nothing is added, one test is, and more behind the first
pub adds_none : (from tests : List Division) → AddsTests from tests tests
adds_none from tests =
    record { more = []; grown = sym (append-nil tests); among = All-nil _; few = omega arith }

contains_more : (d : Division) (from : List Division) (x : Division) → Contains from x → Contains (d ∷ from) x
contains_more d from x (k, lt, is) = (suc k, omega (arith, lt), is)

contains_first : (d : Division) (from : List Division) (x : Division) → Contains (d ∷ []) x → Contains (d ∷ from) x
contains_first d from x (zero, lt, is) = (zero, omega arith, is)
contains_first d from x (suc k, lt, is) = absurd (omega (arith, lt))

pub adds_more : (d : Division) (from old middle new : List Division) → AddsTests (d ∷ []) old middle
    → AddsTests from middle new → AddsTests (d ∷ from) old new
adds_more d from old middle new first second = record {
  more = first.more ++ second.more;
  grown = second.grown ∙ ap (λ xs. xs ++ second.more) first.grown ∙ append_assoc old first.more second.more;
  among = All-append (Contains (d ∷ from)) first.more second.more
      (All-weaker (Contains (d ∷ [])) (Contains (d ∷ from)) (contains_first d from) first.more first.among)
      (All-weaker (Contains from) (Contains (d ∷ from)) (contains_more d from) second.more second.among);
  few = omega (arith, first.few, second.few, length-append first.more second.more);
}

-- Places

pub places_none : (tests : List Division) (places : List ℕ) → AddsPlaces tests [] places places
places_none tests places = record { more = []; grown = sym (append-nil places); places = tt }

pub places_more : (d : Division) (ds middle tests : List Division) (place : ℕ) (old next new : List ℕ)
    → AddsTests ds middle tests → IsPlaceOf middle d place → next ≡ old ++ place ∷ [] → AddsPlaces tests ds next new
    → AddsPlaces tests (d ∷ ds) old new
places_more d ds middle tests place old next new adds at e rest = record {
  more = place ∷ rest.more;
  grown = rest.grown ∙ ap (λ xs. xs ++ rest.more) e ∙ append_assoc old (place ∷ []) rest.more;
  places = (
    subst (λ tests. IsPlaceOf tests d place) (sym adds.grown) (place_kept middle adds.more d place at),
    rest.places,
  );
}

-- The tests of a write are small, and few

pub small_tests : (s : Strides) → IsStrided s → All (IsSmallTest (depth_of_read s)) (tests_of s)
small_tests s strided =
    All-weaker (IsTestOf s) (IsSmallTest (depth_of_read s)) (λ d test. small_test s d strided test) (tests_of s)
    (tests_are s)

-- Writers

pub writer_kept : (n : Nest) (r : Occurrence) (tests more : List Division) (w : Writer) → IsWriterOf n r tests w
    → IsWriterOf n r (tests ++ more) w
writer_kept n r tests more w h = record {
  strided = h.strided;
  nest = h.nest;
  read = h.read;
  divisions = h.divisions;
  places = places_kept tests more w.divisions w.places h.places;
}

pub writers_none : (n : Nest) (r : Occurrence) (before : List Occurrence) (tests : List Division) (writers : List Writer)
    → AreWriters n r before tests writers → AreWriters n r (before ++ []) tests writers
writers_none n r before tests writers h =
    subst (λ writes. AreWriters n r writes tests writers) (sym (append-nil before)) h

filter_more : {X : Type 0} (p : X → Bool) (xs : List X) (x : X)
    → filter p (xs ++ x ∷ []) ≡ filter p xs ++ cond (p x) (x ∷ []) []
filter_more p xs x = filter-append p xs (x ∷ [])

pub left_out : (n : Nest) (r : Occurrence) (before : List Occurrence) (tests : List Division) (writers : List Writer)
    (w : Occurrence) → AreWriters n r before tests writers → stands_before r w ≡ false
    → AreWriters n r (before ++ w ∷ []) tests writers
left_out n r before tests writers w h denies = record {
  each = h.each;
  are = h.are ∙ sym (filter_more (stands_before r) before w
      ∙ ap (λ (b : Bool). filter (stands_before r) before ++ cond b (w ∷ []) []) denies
      ∙ append-nil (filter (stands_before r) before));
  small = h.small;
  few = omega (arith, h.few, sum_by_push stride_count before w);
}

pub one_writer : (n : Nest) (r : Occurrence) (before : List Occurrence) (old tests : List Division)
    (writers new : List Writer) (x : Writer) (w : Occurrence) → AreWriters n r before old writers
    → stands_before r w ≡ true → IsWriterOf n r tests x → write_of x.strides ≡ w
    → AddsTests (tests_of x.strides) old tests → length (tests_of x.strides) ≤ stride_count w → new ≡ writers ++ x ∷ []
    → AreWriters n r (before ++ w ∷ []) tests new
one_writer n r before old tests writers new x w h says of is adds few e = record {
  each = subst (All (IsWriterOf n r tests)) (sym e)
      (All-append (IsWriterOf n r tests) writers (x ∷ [])
      (All-weaker (IsWriterOf n r old) (IsWriterOf n r tests)
      (λ v k. subst (λ tests. IsWriterOf n r tests v) (sym adds.grown) (writer_kept n r old adds.more v k)) writers h.each)
      (All-cons (IsWriterOf n r tests) x [] of (All-nil _)));
  are = ap (map (λ (v : Writer). write_of v.strides)) e ∙ map-append (λ (v : Writer). write_of v.strides) writers (x ∷ [])
      ∙ ap (λ ws. ws ++ write_of x.strides ∷ []) h.are
      ∙ ap (λ w. filter (stands_before r) before ++ w ∷ []) is
      ∙ sym (filter_more (stands_before r) before w
      ∙ ap (λ (b : Bool). filter (stands_before r) before ++ cond b (w ∷ []) []) says);
  small = subst (All (IsSmallTest (length r.statement.loops))) (sym adds.grown)
      (All-append (IsSmallTest (length r.statement.loops)) old adds.more h.small
      (All-weaker (Contains (tests_of x.strides)) (IsSmallTest (length r.statement.loops))
      (λ d among. All-contains (IsSmallTest (length r.statement.loops)) (tests_of x.strides) d
      (subst (λ (r : Occurrence). All (IsSmallTest (length r.statement.loops)) (tests_of x.strides)) of.read
      (small_tests x.strides of.strided)) among) adds.more adds.among));
  few = omega (
    arith,
    h.few,
    sum_by_push stride_count before w,
    adds.few,
    few,
    ap length adds.grown,
    length-append old adds.more,
  );
}

pub few_of : (s : Strides) → length (tests_of s) ≤ stride_count (write_of s)
few_of s = tests_count 0 s.write.access.now.subscripts s.read.access.now.subscripts
