-- Cells in rows: a place is that of one cell, and writing it changes that cell alone.
use Rattle.std.proofs.Common.{◌≡◌, ◌<◌, ◌≤◌, ◌+◌, ◌-◌, ◌*◌, ℕ, zero, suc, ℤ, pos, negsuc, List, [], ◌∷◌, ◌++◌}
use Rattle.std.proofs.Common.{length, set, get_or, false, cond, refl, sym, ap, ◌∙◌, arith, inl, inr, append_assoc}
use Rattle.std.specs.Prelude.{Option, Some, None, nat_lt, replicate, slice_get, ◌==◌, ◌&&◌}
use Rattle.std.specs.Ordering.{int_eq}
use Rattle.std.specs.Cmp.Lexicographic.{pointwise}
use Rattle.std.specs.Cmp.Rules.{signed_items}
use Rattle.std.proofs.lemmas.Bool.{cases_Bool, eq-eqb, eqb-true, ltb-false, ltb-true, ne_eqb}
use Rattle.std.proofs.lemmas.Nat.{same_from_place}
use Rattle.std.proofs.lemmas.Option.{cond_some}
use Rattle.sanlp.specs.Cells.{natural}
use Rattle.sanlp.specs.Memory.{is_cell}
use Rattle.cell_rows.specs.declared.cells.Rows.{Rows}
use Rattle.cell_rows.specs.RowPlaces.{inside, place_after, place_from, row_limit, value_at, with_place, within_limit}
use Rattle.cell_rows.specs.Rows.{kept_value, place_in, row_value, with_kept}
use Rattle.plain_data.proofs.Options.{option_and_then-some, option_cases}

-- what a place after one subscript more says of the subscript
pub after_parts : (before : ℕ) (extent v : ℤ) (place : ℕ) → place_after before extent v ≡ Some place
    → (n : ℕ) × (v ≡ pos n) × (n < natural extent) × (place ≡ before * natural extent + n)
after_parts before extent (pos n) place e =
    let outer = option_and_then-some (λ m. within_limit (before * natural extent + m)) (inside extent (pos n)) place e in
    let test = cond_some (nat_lt n (natural extent)) n outer.0 outer.1 in
    let limit =
    cond_some (nat_lt (before * natural extent + outer.0) row_limit)
    (before * natural extent + outer.0) place outer.2 in
    let same : n ≡ outer.0 = test.1 in
    (n, refl, ltb-true n (natural extent) test.0, sym limit.1 ∙ ap (λ m. before * natural extent + m) (sym same))
after_parts before extent (negsuc n) place e = cc e

-- a place is that of one cell
pub one_cell : (before other : ℕ) (extents at q : List ℤ) (place : ℕ) → place_from before extents at ≡ Some place
    → place_from other extents q ≡ Some place → (before ≡ other) × (at ≡ q)
one_cell before other [] [] [] place e f =
    let same : ◌≡◌ {A = Option ℕ} (Some before) (Some other) = e ∙ sym f in (cc same, refl)
one_cell before other [] [] (w ∷ q) place e f = cc f
one_cell before other [] (v ∷ at) q place e f = cc e
one_cell before other (extent ∷ extents) [] q place e f = cc e
one_cell before other (extent ∷ extents) (v ∷ at) [] place e f = cc f
one_cell before other (extent ∷ extents) (v ∷ at) (w ∷ q) place e f =
    let a = option_and_then-some (λ p. place_from p extents at) (place_after before extent v) place e in
    let b = option_and_then-some (λ p. place_from p extents q) (place_after other extent w) place f in
    let inner = one_cell a.0 b.0 extents at q place a.2 b.2 in
    let first = after_parts before extent v a.0 a.1 in
    let second = after_parts other extent w b.0 b.1 in
    let row =
    same_from_place before first.0 other second.0 (natural extent) first.2 second.2
    (sym first.3 ∙ inner.0 ∙ second.3) in
    let same : v ≡ w = first.1 ∙ ap (λ n. pos n) row.1 ∙ sym second.1 in
    let rest = inner.1 in
    (row.0, cc (same, rest))

eqb_suc : (a b : ℕ) → (suc a == suc b) ≡ (a == b)
eqb_suc a b = elim (cases_Bool (a == b)) [
  | inl same ↦ eq-eqb (suc a) (suc b) (ap suc (eqb-true a b same)) ∙ sym same
  | inr other ↦ ne_eqb (suc a) (suc b) (λ e. let f : a ≡ b = omega arith in let t = eq-eqb a b f in cc (sym t ∙ other))
      ∙ sym other
]

zero_suc : (b : ℕ) → (0 == suc b) ≡ false
zero_suc b = ne_eqb 0 (suc b) (λ e. omega arith)

suc_zero : (a : ℕ) → (suc a == 0) ≡ false
suc_zero a = ne_eqb (suc a) 0 (λ e. omega arith)

-- a value past the last
past_last : {T : Type 0} (values : List (Option T)) (n place k : ℕ) (v : T) → place ≡ length values + n
    → value_at (values ++ (replicate n None ++ Some v ∷ [])) k ≡ cond (place == k) (Some v) (value_at values k)
past_last [] zero zero zero v e = refl
past_last [] zero zero (suc k) v e = rw (zero_suc k) refl
past_last [] zero (suc place) k v e = absurd (omega arith)
past_last [] (suc n) zero k v e = absurd (omega arith)
past_last [] (suc n) (suc place) zero v e = rw (suc_zero place) refl
past_last [] (suc n) (suc place) (suc k) v e =
    past_last [] n place k v (omega arith) ∙ ap (λ b. cond b (Some v) None) (sym (eqb_suc place k))
past_last (value ∷ values) n zero k v e = absurd (omega arith)
past_last (value ∷ values) n (suc place) zero v e = rw (suc_zero place) refl
past_last (value ∷ values) n (suc place) (suc k) v e =
    past_last values n place k v (omega arith) ∙ ap (λ b. cond b (Some v) (value_at values k)) (sym (eqb_suc place k))

at_place : {T : Type 0} (values : List (Option T)) (place k : ℕ) (v : T) → place < length values
    → value_at (set values place (Some v)) k ≡ cond (place == k) (Some v) (value_at values k)
at_place [] place k v within = absurd (omega arith)
at_place (value ∷ values) zero zero v within = refl
at_place (value ∷ values) zero (suc k) v within = rw (zero_suc k) refl
at_place (value ∷ values) (suc place) zero v within = rw (suc_zero place) refl
at_place (value ∷ values) (suc place) (suc k) v within =
    at_place values place k v (omega arith) ∙ ap (λ b. cond b (Some v) (value_at values k)) (sym (eqb_suc place k))

-- one place is written
placed : {T : Type 0} (values : List (Option T)) (place k : ℕ) (v : T)
    → value_at (with_place values place v) k ≡ cond (place == k) (Some v) (value_at values k)
placed values place k v = elim (cases_Bool (nat_lt place (length values))) [
  | inl within ↦ rw within (at_place values place k v (ltb-true place (length values) within))
  | inr past ↦
      let long : length values ≤ place = ltb-false place (length values) past in
      let same : place ≡ length values + (place - length values) = omega arith in
      rw (past, append_assoc values (replicate (place - length values) None) (Some v ∷ []))
      (past_last values (place - length values) place k v same)
]

same_place : (extents at q : List ℤ) (place k : ℕ) → place_from 0 extents at ≡ Some place
    → place_from 0 extents q ≡ Some k → (place == k) ≡ pointwise int_eq at q
same_place extents at q place k e f = elim (cases_Bool (place == k)) [
  | inl same ↦ let there =
      one_cell 0 0 extents at q place e (f ∙ ap (λ (n : ℕ). Some n) (sym (eqb-true place k same))) in same
      ∙ sym ((signed_items at q).1 there.1)
  | inr other ↦ elim (cases_Bool (pointwise int_eq at q)) [
    | inl there ↦
        let cell = (signed_items at q).0 there in
        let both : ◌≡◌ {A = Option ℕ} (Some place) (Some k) = sym e ∙ ap (place_from 0 extents) cell ∙ f in
        let same : place ≡ k = cc both in
        let t = eq-eqb place k same in absurd (cc (sym t ∙ other))
    | inr elsewhere ↦ other ∙ sym elsewhere
  ]
]

row_placed : {T : Type 0} (row : Rows T) (at q : List ℤ) (place : ℕ) (v : T) → place_from 0 row.extents at ≡ Some place
    → row_value (record row { values = with_place row.values place v }) q
    ≡ cond (pointwise int_eq at q) (Some v) (row_value row q)
row_placed row at q place v there = elim (option_cases (place_from 0 row.extents q)) [
  | inl none ↦ elim (cases_Bool (pointwise int_eq at q)) [
    | inl same ↦
        let cell = (signed_items at q).0 same in
        let both : ◌≡◌ {A = Option ℕ} (Some place) None = sym there ∙ ap (place_from 0 row.extents) cell ∙ none in
        absurd (cc both)
    | inr other ↦ rw (none, other) refl
  ]
  | inr found ↦ rw (found.1, ← (same_place row.extents at q place found.0 there found.1))
      (placed row.values place found.0 v)
]

-- the cell that has the place gets the value, and the others keep theirs
pub kept_placed : {T : Type 0} (rows : List (Rows T)) (a : ℕ) (at : List ℤ) (place : ℕ) (v : T) (b : ℕ) (q : List ℤ)
    → place_in rows (a, at) ≡ Some place
    → kept_value (with_kept rows a place v) (b, q) ≡ cond (is_cell (a, at) (b, q)) (Some v) (kept_value rows (b, q))
kept_placed [] a at place v b q there = cc there
kept_placed (row ∷ rows) zero at place v zero q there = row_placed row at q place v there
kept_placed (row ∷ rows) zero at place v (suc b) q there = rw (zero_suc b) refl
kept_placed (row ∷ rows) (suc a) at place v zero q there = rw (suc_zero a) refl
kept_placed (row ∷ rows) (suc a) at place v (suc b) q there =
    kept_placed rows a at place v b q there
    ∙ ap (λ t. cond (t && pointwise int_eq at q) (Some v) (kept_value rows (b, q))) (sym (eqb_suc a b))

-- rows without values keep nothing
pub kept_append : {T : Type 0} (rows : List (Rows T)) (row : Rows T) (a : ℕ) (q : List ℤ) → row.values ≡ []
    → kept_value (rows ++ row ∷ []) (a, q) ≡ kept_value rows (a, q)
kept_append [] row zero q none =
    elim (option_cases
    (place_from 0 row.extents q)) [ inl no_place ↦ rw no_place refl | inr found ↦ rw (found.1, none) refl ]
kept_append [] row (suc a) q none = refl
kept_append (first ∷ rows) row zero q none = refl
kept_append (first ∷ rows) row (suc a) q none = kept_append rows row a q none

pub value_past : {T : Type 0} (values : List (Option T)) (k : ℕ) → length values ≤ k → value_at values k ≡ None
value_past [] k past = refl
value_past (value ∷ values) zero past = absurd (omega arith)
value_past (value ∷ values) (suc k) past = value_past values k (omega arith)

pub got : {T : Type 0} (rows : List (Rows T)) (a : ℕ) (row : Rows T) → a < length rows → row ≡ get_or rows a row
    → slice_get rows a ≡ Some row
got [] a row within at = absurd (omega arith)
got (first ∷ rows) zero row within at = ap Some (sym at)
got (first ∷ rows) (suc a) row within at = got rows a row (omega arith) at

-- rows with a value at a place, put in the place of the rows of one array
pub with_kept-set : {T : Type 0} (rows : List (Rows T)) (a place : ℕ) (v : T) (row new : Rows T) → a < length rows
    → row ≡ get_or rows a row
    → new ≡ record row { values = with_place row.values place v } → set rows a new ≡ with_kept rows a place v
with_kept-set {T} [] a place v row new within at e = absurd (omega arith)
with_kept-set {T} (first ∷ rows) zero place v row new within at e =
    ap (λ (r : Rows T). r ∷ rows) (e ∙ ap (λ (r : Rows T). record r { values = with_place r.values place v }) at)
with_kept-set {T} (first ∷ rows) (suc a) place v row new within at e =
    ap (λ (rs : List (Rows T)). first ∷ rs) (with_kept-set rows a place v row new (omega arith) at e)
