-- A refutation without a row that it doesn't name.
--
-- A step sees the rows through the numbers of its terms alone. Once a row is away, the rows before it keep their numbers
-- and those behind it have the number before, so each other row is found at its new number, and the same forms are added
-- in the same order: the sum of a step is the same, however large its numbers are. The rows that a Cut or a Split adds
-- stand behind, so what they add is the same row at the same end, and the rows before the one that is away never change:
-- that is why its number is the same in all steps of a proof.
use Rattle.std.proofs.Common.{◌≡◌, ◌==◌, ◌+◌, ◌-◌, ◌≤◌, ◌<◌, ℕ, zero, suc, ◌⊎◌, inl, inr, ℤ, pos, ◌≤ℤ◌, List, []}
use Rattle.std.proofs.Common.{◌∷◌, ◌++◌, length, false, refl, sym, ap, ◌∙◌, subst, arith}
use Rattle.std.specs.Prelude.{Option, All, slice_get, unsigned_abs}
use Rattle.std.specs.Option.{option_and_then}
use Rattle.std.proofs.lemmas.Bool.{cases_order, or_parts, eqb-false}
use Rattle.std.proofs.lemmas.List.{append_assoc, length-append}
use Rattle.std.proofs.lemmas.List.Elements.{All-nil, All-cons, All-head, All-tail, All-map}
use Rattle.affine_core.specs.declared.form.Form.{Form}
use Rattle.affine_core.specs.Affine.{constant_form, form_product, form_sum}
use Rattle.affine_core.specs.Within.{form_in_128_bits}
use Rattle.int_polyhedra.specs.declared.system.Proof.{Proof}
use Rattle.int_polyhedra.specs.declared.system.Term.{Term}
use Rattle.int_polyhedra.specs.Rules.{by_cut, by_split, by_sum, IsSumOf, Refutes}
use Rattle.int_polyhedra.specs.Steps.{quotient_row, sum_onto}
use Rattle.plain_data.proofs.Lists.{slice_get-append_right}
use Rattle.plain_data.proofs.Options.{option_and_then-same}
use Rattle.tree_trim.specs.Proofs.{names_row, terms_name}
use Rattle.tree_trim.specs.Renumbering.{number_without, proof_without, term_without, terms_without}
use Rattle.tree_trim.specs.declared.renumbering.Renumbering.TheVariants.{Without}
use Rattle.tree_trim.proofs.Naming.{names_cut, names_split, names_sum, renumbered_cut, renumbered_split, renumbered_sum}

-- Numbers of rows

number_before : (k i : ℕ) → i < k → number_without k i ≡ i
number_before k i lt = grind arith

number_behind : (k j : ℕ) → number_without k (k + suc j) ≡ k + j
number_behind k j = grind arith

-- another row stands before or behind
other_row : (k i : ℕ) → (i == k) ≡ false → (i < k) ⊎ ((j : ℕ) × (i ≡ k + suc j))
other_row k i differs = elim (cases_order i k) [
  | inl same ↦ absurd (eqb-false i k differs same)
  | inr other ↦ elim other [
    | inl below ↦ inl below
    | inr above ↦ inr (i - (k + 1), omega (arith, above))
  ]
]

inside_without : (k m i : ℕ) → (i == k) ≡ false → i < k + suc m → number_without k i < k + m
inside_without k m i differs lt = elim (other_row k i differs) [
  | inl below ↦ subst (λ n. n < k + m) (sym (number_before k i below)) (omega (arith, below))
  | inr behind ↦
      let moved : number_without k i ≡ k + behind.0
      = ap (number_without k) behind.1 ∙ number_behind k behind.0 in
      subst (λ n. n < k + m) (sym moved) (omega (arith, behind.1, lt))
]

get_before : (before xs ys : List Form) (i : ℕ) → i < length before
    → slice_get (before ++ xs) i ≡ slice_get (before ++ ys) i
get_before [] xs ys i lt = absurd (omega (arith, lt))
get_before (f ∷ before) xs ys zero lt = refl
get_before (f ∷ before) xs ys (suc i) lt = get_before before xs ys i (omega (arith, lt))

-- Sums

abbrev added : Form → ℤ → Option Form → Option Form
added sum times found =
    option_and_then (λ row. option_and_then (λ more. form_in_128_bits (form_sum sum more))
    (form_in_128_bits (form_product times row))) found

module _ (before after : List Form) (row : Form) where
  abbrev k : ℕ
  k = length before

  abbrev rows : List Form
  rows = before ++ row ∷ after

  abbrev others : List Form
  others = before ++ after

  found_without : (i : ℕ) → (i == k) ≡ false → slice_get others (number_without k i) ≡ slice_get rows i
  found_without i differs = elim (other_row k i differs) [
    | inl below ↦
        ap (slice_get others) (number_before k i below) ∙ get_before before after (row ∷ after) i below
    | inr behind ↦
        let j : ℕ = behind.0 in
        let is : i ≡ k + suc j = behind.1 in
        ap (slice_get others) (ap (number_without k) is ∙ number_behind k j) ∙ slice_get-append_right before after j
        ∙ sym (slice_get-append_right before (row ∷ after) (suc j)) ∙ ap (slice_get rows) (sym is)
  ]

  sum_stays : (terms : List Term) (sum : Form) → terms_name k terms ≡ false
      → sum_onto others sum (terms_without k terms) ≡ sum_onto rows sum terms
  sum_stays [] sum none = refl
  sum_stays (t ∷ terms) sum none =
      let n = or_parts (t.row == k) (terms_name k terms) none in
      ap (λ found. option_and_then (λ next. sum_onto others next (terms_without k terms)) (added sum t.times found))
      (found_without t.row n.0)
      ∙ option_and_then-same (λ next. sum_onto others next (terms_without k terms)) (λ next. sum_onto rows next terms)
      (λ next. sum_stays terms next n.1) (added sum t.times (slice_get rows t.row))

  inside : (terms : List Term) → terms_name k terms ≡ false → All (λ t. t.row < length rows) terms
      → All (λ t. t.row < length others) (terms_without k terms)
  inside [] none lt = All-nil _
  inside (t ∷ terms) none lt =
      let n = or_parts (t.row == k) (terms_name k terms) none in
      let long : length rows ≡ k + suc (length after) = length-append before (row ∷ after) in
      let here : t.row < length rows = All-head (λ (t : Term). t.row < length rows) t terms lt in
      All-cons (λ (t : Term). t.row < length others) (term_without k t) (terms_without k terms)
      (subst (λ n. number_without k t.row < n) (sym (length-append before after))
      (inside_without k (length after) t.row n.0 (omega (arith, here, long))))
      (inside terms n.1 (All-tail (λ (t : Term). t.row < length rows) t terms lt))

  pub sum_without : (vars : ℕ) (terms : List Term) (sum : Form) → terms_name k terms ≡ false
      → IsSumOf vars rows terms sum → IsSumOf vars others (terms_without k terms) sum
  sum_without vars terms sum none s = record {
    name_rows = inside terms none s.name_rows;
    not_negative = All-map (λ (t : Term). pos 0 ≤ℤ t.times) (term_without k) terms s.not_negative;
    is_sum = sum_stays terms (constant_form vars (pos 0)) none ∙ s.is_sum;
  }

-- Proofs

pub refutes_without : (vars : ℕ) (before : List Form) (row : Form) (rows : List Form) (p : Proof) → Refutes vars rows p
    → (after : List Form) → rows ≡ before ++ row ∷ after → names_row (length before) p ≡ false
    → Refutes vars (before ++ after) (proof_without (length before) p)
refutes_without vars before row _ _ (by_sum rows p terms sum is s end) after at none =
    let k : ℕ = length before in
    let n : terms_name k terms ≡ false = sym (names_sum k terms) ∙ ap (names_row k) (sym is) ∙ none in
    by_sum (before ++ after) (proof_without k p) (terms_without k terms) sum
    (ap (proof_without k) is ∙ renumbered_sum (Without k) terms)
    (sum_without before after row vars terms sum n (subst (λ rows. IsSumOf vars rows terms sum) at s)) end
refutes_without vars before row _ _ (by_cut rows p d terms rest sum is h s div more) after at none =
    let k : ℕ = length before in
    let new : List Form = quotient_row (unsigned_abs d) sum ∷ [] in
    let n = or_parts (terms_name k terms) (names_row k rest)
    (sym (names_cut k d terms rest) ∙ ap (names_row k) (sym is) ∙ none) in
    by_cut (before ++ after) (proof_without k p) d (terms_without k terms) (proof_without k rest) sum
    (ap (proof_without k) is ∙ renumbered_cut (Without k) d terms rest) h
    (sum_without before after row vars terms sum n.0 (subst (λ rows. IsSumOf vars rows terms sum) at s)) div
    (subst (λ rows. Refutes vars rows (proof_without k rest)) (sym (append_assoc before after new))
    (refutes_without vars before row (rows ++ new) rest more (after ++ new)
    (ap (λ rows. rows ++ new) at ∙ append_assoc before (row ∷ after) new) n.1))
refutes_without vars before row _ _ (by_split rows p form other above below is over neg first second) after at none =
    let k : ℕ = length before in
    let n = or_parts (names_row k above) (names_row k below)
    (sym (names_split k form above below) ∙ ap (names_row k) (sym is) ∙ none) in
    by_split (before ++ after) (proof_without k p) form other (proof_without k above) (proof_without k below)
    (ap (proof_without k) is ∙ renumbered_split (Without k) form above below) over neg
    (subst (λ rows. Refutes vars rows (proof_without k above)) (sym (append_assoc before after (form ∷ [])))
    (refutes_without vars before row (rows ++ form ∷ []) above first (after ++ form ∷ [])
    (ap (λ rows. rows ++ form ∷ []) at ∙ append_assoc before (row ∷ after) (form ∷ [])) n.0))
    (subst (λ rows. Refutes vars rows (proof_without k below)) (sym (append_assoc before after (other ∷ [])))
    (refutes_without vars before row (rows ++ other ∷ []) below second (after ++ other ∷ [])
    (ap (λ rows. rows ++ other ∷ []) at ∙ append_assoc before (row ∷ after) (other ∷ [])) n.1))
