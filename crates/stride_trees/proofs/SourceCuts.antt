-- The Cuts among sources, and what they add.
--
-- Rows that are the system's own have no Cut, so the Cuts of lists of sources are those of their parts, and what they
-- add is some of the rows that are told. The Cuts of a write's domain rows and subscripts take rows before its order
-- rows: by induction over them each takes the row of its number, and a subscript one of its test's rows besides, which
-- stand in the context.
use Rattle.std.proofs.Common.{◌≡◌, ◌+◌, ◌*◌, ◌≤◌, ◌<◌, ℕ, zero, suc, ℤ, pos, List, [], ◌∷◌, ◌++◌, length, Bool, true, false}
use Rattle.std.proofs.Common.{cond, refl, sym, ap, subst, arith, length-append}
use Rattle.std.specs.Prelude.{Option, Some, None, All, is_some, unsigned_abs}
use Rattle.std.specs.Option.{option_map_or}
use Rattle.std.specs.Int.RustNames.{int_lt}
use Rattle.std.proofs.lemmas.List.Elements.{All-nil, All-cons, All-append, All-head, All-tail}
use Rattle.std.proofs.lemmas.Option.{slice_get_within}
use Rattle.affine_core.specs.declared.form.Form.{Form}
use Rattle.affine_core.specs.Affine.{widened_form}
use Rattle.int_polyhedra.specs.declared.system.Term.{Term}
use Rattle.source_tree.specs.Rows.{Take, minus}
use Rattle.source_tree.specs.Systems.{Context, multiple}
use Rattle.tree_cuts.specs.Class.{is_stride, stride_of}
use Rattle.stride_trees.specs.Contexts.{AreTestsIn, IsTestIn}
use Rattle.tree_cuts.specs.Cuts.{added_of, cuts_of, AreSources}
use Rattle.stride_trees.specs.Divisions.{division_of}
use Rattle.tree_cuts.specs.Sources.{cell_source, cell_sources, cut_of, domain_sources, falls, next_place, own_sources}
use Rattle.tree_cuts.specs.Sources.{places_behind, row_source, subscript_sources, write_sources}
use Rattle.tree_cuts.specs.declared.cuts.Cut.{Cut}
use Rattle.tree_cuts.specs.declared.cuts.Source.{Source}
use Rattle.tree_cuts.specs.declared.cuts.Source.TheVariants.{Own, Added}
use Rattle.tree_cuts.proofs.Indivisible.{once_row, All-once_rows}

pub cuts_few : (sources : List Source) → length (cuts_of sources) ≤ length sources
cuts_few [] = omega arith
cuts_few (Own k ∷ sources) = omega (arith, cuts_few sources)
cuts_few (Added cut ∷ sources) = omega (arith, cuts_few sources)

pub cuts_append : (first second : List Source) → cuts_of (first ++ second) ≡ cuts_of first ++ cuts_of second
cuts_append [] second = refl
cuts_append (Own k ∷ first) second = cuts_append first second
cuts_append (Added cut ∷ first) second = ap (λ cuts. cut ∷ cuts) (cuts_append first second)

pub cuts_own : (first n : ℕ) → cuts_of (own_sources first n) ≡ []
cuts_own first zero = refl
cuts_own first (suc n) = cuts_own (first + 1) n

pub sources_count : (vars : ℕ) (rows : List Form) (sources : List Source) (told : List Form)
    → AreSources vars rows sources told → length sources ≡ length told
sources_count vars rows [] [] h = refl
sources_count vars rows [] (row ∷ told) h = absurd h
sources_count vars rows (Own k ∷ sources) [] h = absurd h
sources_count vars rows (Added cut ∷ sources) [] h = absurd h
sources_count vars rows (Own k ∷ sources) (row ∷ told) h = ap suc (sources_count vars rows sources told h.1)
sources_count vars rows (Added cut ∷ sources) (row ∷ told) h = ap suc (sources_count vars rows sources told h.1)

-- What they add

module _ (P : Form → Type 0) where
  pub added_all : (sources : List Source) (told : List Form) → All P told → All P (added_of sources told)
  added_all [] told h = All-nil P
  added_all (source ∷ sources) [] h = All-nil P
  added_all (Own k ∷ sources) (row ∷ told) h = added_all sources told (All-tail P row told h)
  added_all (Added cut ∷ sources) (row ∷ told) h =
      All-cons P row (added_of sources told) (All-head P row told h) (added_all sources told (All-tail P row told h))

  -- own rows add nothing
  pub added_behind : (first : ℕ) (front : List Form) (sources : List Source) (told : List Form)
      → All P (added_of sources told) → All P (added_of (own_sources first (length front) ++ sources) (front ++ told))
  added_behind first [] sources told h = h
  added_behind first (row ∷ front) sources told h = added_behind (first + 1) front sources told h

  pub added_own : (first n : ℕ) (told : List Form) → All P (added_of (own_sources first n) told)
  added_own first zero told = All-nil P
  added_own first (suc n) [] = All-nil P
  added_own first (suc n) (row ∷ told) = added_own (first + 1) n told

  pub added_both : (vars : ℕ) (rows : List Form) (first second : List Source) (front told : List Form)
      → AreSources vars rows first front → All P (added_of first front) → All P (added_of second told)
      → All P (added_of (first ++ second) (front ++ told))
  added_both vars rows [] second [] told s h k = k
  added_both vars rows [] second (row ∷ front) told s h k = absurd s
  added_both vars rows (Own n ∷ first) second [] told s h k = absurd s
  added_both vars rows (Added cut ∷ first) second [] told s h k = absurd s
  added_both vars rows (Own n ∷ first) second (row ∷ front) told s h k =
      added_both vars rows first second front told s.1 h k
  added_both vars rows (Added cut ∷ first) second (row ∷ front) told s h k =
      All-cons P row (added_of (first ++ second) (front ++ told)) (All-head P row (added_of first front) h)
      (added_both vars rows first second front told s.1 (All-tail P row (added_of first front) h) k)

-- Which rows the Cuts take

abbrev pub TakesBefore : ℕ → Cut → Type 0
TakesBefore order cut = All (λ t. t.row < order) cut.terms

abbrev pub TakeBefore : ℕ → List Source → Type 0
TakeBefore order sources = All (TakesBefore order) (cuts_of sources)

pub before_both : (order : ℕ) (first second : List Source) → TakeBefore order first → TakeBefore order second
    → TakeBefore order (first ++ second)
before_both order first second h k =
    subst (All (TakesBefore order)) (sym (cuts_append first second))
    (All-append (TakesBefore order) (cuts_of first) (cuts_of second) h k)

pub before_own : (order first n : ℕ) → TakeBefore order (own_sources first n)
before_own order first n = subst (All (TakesBefore order)) (sym (cuts_own first n)) (All-nil (TakesBefore order))

below_one : (order a : ℕ) → a < order → All (λ t. t.row < order) (once_row a ∷ [])
below_one order a h = All-cons (λ (t : Term). t.row < order) (once_row a) [] h (All-nil (λ (t : Term). t.row < order))

cut_before : (order : ℕ) (cut : Cut) → TakesBefore order cut → TakeBefore order (Added cut ∷ [])
cut_before order cut h = All-cons (TakesBefore order) cut [] h (All-nil (TakesBefore order))

pub row_before : (order : ℕ) (form : Form) (k : ℕ) → k < order → TakeBefore order (row_source form k ∷ [])
row_before order form k lt = go (stride_of form) where
  go : (o : Option ℤ) → TakeBefore order (option_map_or (λ c. cut_of c (k ∷ [])) o (Own k) ∷ [])
  go None = All-nil (TakesBefore order)
  go (Some c) =
      cut_before order (record { divisor = pos (unsigned_abs c); terms = once_row k ∷ [] }) (below_one order k lt)

pub cell_before : (order : ℕ) (write : Form) (row test : ℕ) → row < order → (is_stride write ≡ true → test < order)
    → TakeBefore order (cell_source write row test ∷ [])
cell_before order write row test lt inside = go (stride_of write) refl where
  go : (o : Option ℤ) → stride_of write ≡ o
      → TakeBefore order (option_map_or (λ c. cut_of c (row ∷ test ∷ [])) o (Own row) ∷ [])
  go None e = All-nil (TakesBefore order)
  go (Some c) e = cut_before order (record { divisor = pos (unsigned_abs c); terms = once_row row ∷ once_row test ∷ [] })
      (All-once_rows order row test lt (inside (ap is_some e)))

pub domain_before : (order : ℕ) (forms : List Form) (k : ℕ) → k + length forms ≤ order
    → TakeBefore order (domain_sources forms k)
domain_before order [] k le = All-nil (TakesBefore order)
domain_before order (form ∷ forms) k le =
    before_both order (row_source form k ∷ []) (domain_sources forms (k + 1))
    (row_before order form k (omega (arith, le))) (domain_before order forms (k + 1) (omega (arith, le)))

cells_before : (order : ℕ) (write : Form) (first second test : ℕ) → first < order → second < order
    → (is_stride write ≡ true → test + 1 < order) → TakeBefore order (cell_sources write first second test)
cells_before order write first second test f s inside = go (stride_of write) refl where
  two : (c : ℤ) (a b : ℕ) → a < order → b < order → test + 1 < order
      → TakeBefore order (cut_of c (a ∷ test ∷ []) ∷ cut_of c (b ∷ (test + 1) ∷ []) ∷ [])
  two c a b h k t =
      let d : ℤ = pos (unsigned_abs c) in
      let one : Cut = record { divisor = d; terms = once_row a ∷ once_row test ∷ [] } in
      let other : Cut = record { divisor = d; terms = once_row b ∷ once_row (test + 1) ∷ [] } in
      All-cons (TakesBefore order) one (other ∷ []) (All-once_rows order a test h (omega (arith, t)))
      (All-cons (TakesBefore order) other [] (All-once_rows order b (test + 1) k t) (All-nil (TakesBefore order)))

  by_sign : (c : ℤ) (b : Bool) → test + 1 < order → TakeBefore order (cond b
      (cut_of c (first ∷ test ∷ []) ∷ cut_of c (second ∷ (test + 1) ∷ []) ∷ [])
      (cut_of c (second ∷ test ∷ []) ∷ cut_of c (first ∷ (test + 1) ∷ []) ∷ []))
  by_sign c true t = two c first second f s t
  by_sign c false t = two c second first s f t

  plain : (b : Bool) → TakeBefore order (cond b (Own second ∷ Own first ∷ []) (Own first ∷ Own second ∷ []))
  plain true = All-nil (TakesBefore order)
  plain false = All-nil (TakesBefore order)

  go : (o : Option ℤ) → stride_of write ≡ o → TakeBefore order (option_map_or
      (λ c. cond (int_lt (pos 0) c)
      (cut_of c (first ∷ test ∷ []) ∷ cut_of c (second ∷ (test + 1) ∷ []) ∷ [])
      (cut_of c (second ∷ test ∷ []) ∷ cut_of c (first ∷ (test + 1) ∷ []) ∷ [])) o
      (cond (falls write) (Own second ∷ Own first ∷ []) (Own first ∷ Own second ∷ [])))
  go None e = plain (falls write)
  go (Some c) e = by_sign c (int_lt (pos 0) c) (inside (ap is_some e))

-- the rows of a test stand in its context
pub test_before : (c : Context) (depth root : ℕ) (places : List ℕ) (write read : Form) (writes reads : List Form)
    → AreTestsIn c depth root places (write ∷ writes) (read ∷ reads) → is_stride write ≡ true
    → root + 2 * next_place places + 1 < length c.rows
test_before c depth root places write read writes reads h is = go (stride_of write) refl is where
  go : (o : Option ℤ) → stride_of write ≡ o → is_some o ≡ true → root + 2 * next_place places + 1 < length c.rows
  go None e is = absurd (let no : false ≡ true = is in cc)
  go (Some x) e is =
      let t : IsTestIn c (root + 2 * next_place places) (depth + next_place places) (division_of 0 write read x).form
      (division_of 0 write read x).divisor = h.0 x e in
      slice_get_within c.rows (root + 2 * next_place places + 1)
      (minus (multiple (division_of 0 write read x).divisor (depth + next_place places))
      (Take (widened_form (depth + next_place places) (division_of 0 write read x).form))) t.high

pub subscripts_before : (c : Context) (order depth root : ℕ) (places : List ℕ) (writes reads : List Form) (number : ℕ)
    → length writes ≡ length reads → AreTestsIn c depth root places writes reads → length c.rows ≤ order
    → number + 2 * length writes ≤ order → TakeBefore order (subscript_sources writes number root places)
subscripts_before c order depth root places [] reads number even h le fits = All-nil (TakesBefore order)
subscripts_before c order depth root places (write ∷ writes) [] number even h le fits = absurd (omega arith)
subscripts_before c order depth root places (write ∷ writes) (read ∷ reads) number even h le fits =
    let test : ℕ = root + 2 * next_place places in
    before_both order (cell_sources write number (number + 1) test)
    (subscript_sources writes (number + 2) root (places_behind write places))
    (cells_before order write number (number + 1) test (omega (arith, fits)) (omega (arith, fits))
    (λ is. omega (arith, test_before c depth root places write read writes reads h is, le)))
    (subscripts_before c order depth root (places_behind write places) writes reads (number + 2) (omega (arith, even)) h.1
    le (omega (arith, fits)))

pub write_before : (c : Context) (order depth root : ℕ) (places : List ℕ) (forms writes reads : List Form) (here more : ℕ)
    → length writes ≡ length reads → AreTestsIn c depth root places writes reads → length c.rows ≡ here
    → here + length forms + 2 * length writes ≤ order
    → TakeBefore order (write_sources forms writes root places here more)
write_before c order depth root places forms writes reads here more even h count fits =
    let last : List Source = own_sources (here + length forms + 2 * length writes) more in
    let cells : List Source = subscript_sources writes (here + length forms) root places in
    let domain : List Source = domain_sources forms here in
    before_both order (own_sources 0 here) (domain ++ (cells ++ last)) (before_own order 0 here)
    (before_both order domain (cells ++ last) (domain_before order forms here (omega (arith, fits)))
    (before_both order cells last
    (subscripts_before c order depth root places writes reads (here + length forms) even h (omega (arith, count, fits))
    (omega (arith, fits)))
    (before_own order (here + length forms + 2 * length writes) more)))

-- How many sources there are

pub own_count : (first n : ℕ) → length (own_sources first n) ≡ n
own_count first zero = refl
own_count first (suc n) = ap suc (own_count (first + 1) n)

domain_count : (forms : List Form) (k : ℕ) → length (domain_sources forms k) ≡ length forms
domain_count [] k = refl
domain_count (form ∷ forms) k = ap suc (domain_count forms (k + 1))

cell_count : (write : Form) (first second test : ℕ) → length (cell_sources write first second test) ≡ 2
cell_count write first second test = go (stride_of write) where
  by_sign : (c : ℤ) (b : Bool) → length (cond b
      (cut_of c (first ∷ test ∷ []) ∷ cut_of c (second ∷ (test + 1) ∷ []) ∷ [])
      (cut_of c (second ∷ test ∷ []) ∷ cut_of c (first ∷ (test + 1) ∷ []) ∷ [])) ≡ 2
  by_sign c true = refl
  by_sign c false = refl

  plain : (b : Bool) → length (cond b (Own second ∷ Own first ∷ []) (Own first ∷ Own second ∷ [])) ≡ 2
  plain true = refl
  plain false = refl

  go : (o : Option ℤ) → length (option_map_or
      (λ c. cond (int_lt (pos 0) c)
      (cut_of c (first ∷ test ∷ []) ∷ cut_of c (second ∷ (test + 1) ∷ []) ∷ [])
      (cut_of c (second ∷ test ∷ []) ∷ cut_of c (first ∷ (test + 1) ∷ []) ∷ [])) o
      (cond (falls write) (Own second ∷ Own first ∷ []) (Own first ∷ Own second ∷ []))) ≡ 2
  go None = plain (falls write)
  go (Some c) = by_sign c (int_lt (pos 0) c)

subscripts_count : (writes : List Form) (number root : ℕ) (places : List ℕ)
    → length (subscript_sources writes number root places) ≡ 2 * length writes
subscripts_count [] number root places = refl
subscripts_count (write ∷ writes) number root places = omega (
  arith,
  length-append (cell_sources write number (number + 1) (root + 2 * next_place places))
      (subscript_sources writes (number + 2) root (places_behind write places)),
  cell_count write number (number + 1) (root + 2 * next_place places),
  subscripts_count writes (number + 2) root (places_behind write places),
)

pub write_count : (forms writes : List Form) (root : ℕ) (places : List ℕ) (here more : ℕ)
    → length (write_sources forms writes root places here more)
    ≡ here + (length forms + (2 * length writes + more))
write_count forms writes root places here more =
    let last : List Source = own_sources (here + length forms + 2 * length writes) more in
    let cells : List Source = subscript_sources writes (here + length forms) root places in
    let domain : List Source = domain_sources forms here in
    omega (
      arith,
      length-append (own_sources 0 here) (domain ++ (cells ++ last)),
      length-append domain (cells ++ last),
      length-append cells last,
      own_count 0 here,
      domain_count forms here,
      subscripts_count writes (here + length forms) root places,
      own_count (here + length forms + 2 * length writes) more,
    )

pub last_count : (here : ℕ) (source : Source) → length (own_sources 0 here ++ source ∷ []) ≡ here + 1
last_count here source = omega (arith, length-append (own_sources 0 here) (source ∷ []), own_count 0 here)
