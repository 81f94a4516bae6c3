-- A refutation whose system has one of its rows moved behind the others.
--
-- A step sees the rows through the numbers of its terms alone. The row that moves gets the last number of the system's
-- rows, those that stood behind it the number before, and the rows before it and those that steps added keep theirs. So
-- each term names the same row as before, and the same forms are added in the same order: by induction over the proof, in
-- which the rows that steps add stand behind all others, the moved one among them.
use Rattle.std.proofs.Common.{◌≡◌, ◌+◌, ◌-◌, ◌≤◌, ◌<◌, ℕ, suc, inl, inr, List, [], ◌∷◌, ◌++◌, length}
use Rattle.std.proofs.Common.{refl, sym, ap, ◌∙◌, subst, arith, append_assoc, length-append}
use Rattle.std.specs.Prelude.{All, slice_get, unsigned_abs}
use Rattle.std.proofs.lemmas.Bool.{cases_order, cases_lt}
use Rattle.std.proofs.lemmas.List.Elements.{All-head, All-tail}
use Rattle.affine_core.specs.declared.form.Form.{Form}
use Rattle.int_polyhedra.specs.declared.system.Proof.{Proof}
use Rattle.int_polyhedra.specs.declared.system.Term.{Term}
use Rattle.int_polyhedra.specs.Rules.{by_cut, by_split, by_sum, IsSumOf, Refutes}
use Rattle.int_polyhedra.specs.Steps.{quotient_row}
use Rattle.plain_data.proofs.Lists.{slice_get-append_left, slice_get-append_right}
use Rattle.tree_cuts.proofs.Sums.{same_is_sum, AreSameTerms}
use Rattle.tree_trim.specs.Renumbering.{number_behind, proof_behind, terms_behind}
use Rattle.tree_trim.specs.declared.renumbering.Renumbering.TheVariants.{Behind}
use Rattle.tree_trim.proofs.Naming.{renumbered_cut, renumbered_split, renumbered_sum}

-- Numbers of rows

number_before : (k n i : ℕ) → i < k → number_behind k n i ≡ i
number_before k n i lt = grind arith

number_moved : (k n : ℕ) → k ≤ n → number_behind k n k ≡ n
number_moved k n le = grind arith

number_next : (k n j : ℕ) → k + suc j ≤ n → number_behind k n (k + suc j) ≡ k + j
number_next k n j le = grind arith

number_added : (k n i : ℕ) → k ≤ n → n < i → number_behind k n i ≡ i
number_added k n i le lt = grind arith

-- where a row stands: before the one that moves, at it, behind it, or among those that steps added
data Place (k n i : ℕ) : Type 0 where
  before : i < k → Place k n i
  at : i ≡ k → Place k n i
  behind : (j : ℕ) → i ≡ k + suc j → k + suc j ≤ n → Place k n i
  added : (j : ℕ) → i ≡ n + suc j → Place k n i

place_of : (k n i : ℕ) → k ≤ n → Place k n i
place_of k n i le = elim (cases_order i k) [
  | inl same ↦ at same
  | inr other ↦ elim other [
    | inl below ↦ before below
    | inr above ↦ elim (cases_lt n i) [
      | inl past ↦ added (i - (n + 1)) (omega (arith, past))
      | inr inside ↦ behind (i - (k + 1)) (omega (arith, above)) (omega (arith, above, inside))
    ]
  ]
]

module _ (front after : List Form) (row : Form) where
  abbrev k : ℕ
  k = length front

  abbrev n : ℕ
  n = k + length after

  module _ (steps : List Form) where
    abbrev whole : List Form
    whole = (front ++ row ∷ after) ++ steps

    abbrev others : List Form
    others = (front ++ after) ++ row ∷ steps

    counted : length (front ++ row ∷ after) ≡ n + 1
    counted = omega (arith, length-append front (row ∷ after))

    counted_others : length (front ++ after) ≡ n
    counted_others = length-append front after

    long : length whole ≡ length others
    long = omega (
      arith,
      length-append (front ++ row ∷ after) steps,
      length-append (front ++ after) (row ∷ steps),
      counted,
      counted_others,
    )

    -- each row stands at its new number
    moved : (i : ℕ) → i < length whole
        → (slice_get others (number_behind k n i) ≡ slice_get whole i) × (number_behind k n i < length others)
    moved i lt = go (place_of k n i (omega arith)) where
      go : Place k n i
          → (slice_get others (number_behind k n i) ≡ slice_get whole i) × (number_behind k n i < length others)
      go (before below) =
          let number : number_behind k n i ≡ i = number_before k n i below in
          let here : i < length (front ++ after) = omega (arith, below, counted_others) in
          let there : i < length (front ++ row ∷ after) = omega (arith, below, counted) in (
            ap (slice_get others) number ∙ slice_get-append_left (front ++ after) (row ∷ steps) i here
                ∙ slice_get-append_left front after i below
                ∙ sym (slice_get-append_left front (row ∷ after) i below)
                ∙ sym (slice_get-append_left (front ++ row ∷ after) steps i there),
            omega (arith, number, lt, long),
          )
      go (at same) =
          let number : number_behind k n i ≡ length (front ++ after) + 0 =
          ap (number_behind k n) same ∙ number_moved k n (omega arith) ∙ omega (arith, counted_others) in
          let zero_more : i ≡ k + 0 = omega (arith, same) in
          let there : i < length (front ++ row ∷ after) = omega (arith, same, counted) in (
            ap (slice_get others) number ∙ slice_get-append_right (front ++ after) (row ∷ steps) 0
                ∙ sym (slice_get-append_right front (row ∷ after) 0) ∙ ap (slice_get (front ++ row ∷ after)) (sym zero_more)
                ∙ sym (slice_get-append_left (front ++ row ∷ after) steps i there),
            omega (arith, number, length-append (front ++ after) (row ∷ steps)),
          )
      go (behind j is le) =
          let number : number_behind k n i ≡ k + j = ap (number_behind k n) is ∙ number_next k n j le in
          let here : k + j < length (front ++ after) = omega (arith, le, counted_others) in
          let there : i < length (front ++ row ∷ after) = omega (arith, is, le, counted) in (
            ap (slice_get others) number ∙ slice_get-append_left (front ++ after) (row ∷ steps) (k + j) here
                ∙ slice_get-append_right front after j
                ∙ sym (slice_get-append_right front (row ∷ after) (suc j))
                ∙ ap (slice_get (front ++ row ∷ after)) (sym is)
                ∙ sym (slice_get-append_left (front ++ row ∷ after) steps i there),
            omega (arith, number, here, length-append (front ++ after) (row ∷ steps)),
          )
      go (added j is) =
          let number : number_behind k n i ≡ i = number_added k n i (omega arith) (omega (arith, is)) in
          let here : i ≡ length (front ++ after) + suc j = omega (arith, is, counted_others) in
          let there : i ≡ length (front ++ row ∷ after) + j = omega (arith, is, counted) in (
            ap (slice_get others) (number ∙ here) ∙ slice_get-append_right (front ++ after) (row ∷ steps) (suc j)
                ∙ sym (slice_get-append_right (front ++ row ∷ after) steps j) ∙ ap (slice_get whole) (sym there),
            omega (arith, number, lt, long),
          )

    same_terms : (ts : List Term) → All (λ t. t.row < length whole) ts → AreSameTerms whole others ts (terms_behind k n ts)
    same_terms [] h = tt
    same_terms (t ∷ ts) h =
        let m = moved t.row (All-head (λ (t : Term). t.row < length whole) t ts h) in (
          record { inside = m.1; row = m.0; times = refl },
          same_terms ts (All-tail (λ (t : Term). t.row < length whole) t ts h),
        )

    sum_behind : (vars : ℕ) (ts : List Term) (sum : Form) → IsSumOf vars whole ts sum
        → IsSumOf vars others (terms_behind k n ts) sum
    sum_behind vars ts sum s =
        same_is_sum vars whole others ts (terms_behind k n ts) sum (same_terms ts s.name_rows) s

pub refutes_behind : (vars : ℕ) (front after : List Form) (row : Form) (rows : List Form) (p : Proof)
    → Refutes vars rows p → (steps : List Form) → rows ≡ (front ++ row ∷ after) ++ steps
    → Refutes vars ((front ++ after) ++ row ∷ steps) (proof_behind (length front) (length front + length after) p)
refutes_behind vars front after row _ _ (by_sum rows p terms sum is s end) steps e =
    let k : ℕ = length front in
    let n : ℕ = length front + length after in
    by_sum ((front ++ after) ++ row ∷ steps) (proof_behind k n p) (terms_behind k n terms) sum
    (ap (proof_behind k n) is ∙ renumbered_sum (Behind k n) terms)
    (sum_behind front after row steps vars terms sum (subst (λ rows. IsSumOf vars rows terms sum) e s)) end
refutes_behind vars front after row _ _ (by_cut rows p d terms rest sum is h s div more) steps e =
    let k : ℕ = length front in
    let n : ℕ = length front + length after in
    let new : List Form = quotient_row (unsigned_abs d) sum ∷ [] in
    by_cut ((front ++ after) ++ row ∷ steps) (proof_behind k n p) d (terms_behind k n terms) (proof_behind k n rest) sum
    (ap (proof_behind k n) is ∙ renumbered_cut (Behind k n) d terms rest) h
    (sum_behind front after row steps vars terms sum (subst (λ rows. IsSumOf vars rows terms sum) e s)) div
    (subst (λ rows. Refutes vars rows (proof_behind k n rest)) (sym (append_assoc (front ++ after) (row ∷ steps) new))
    (refutes_behind vars front after row (rows ++ new) rest more (steps ++ new)
    (ap (λ rows. rows ++ new) e ∙ append_assoc (front ++ row ∷ after) steps new)))
refutes_behind vars front after row _ _ (by_split rows p form other above below is over neg first second) steps e =
    let k : ℕ = length front in
    let n : ℕ = length front + length after in
    by_split ((front ++ after) ++ row ∷ steps) (proof_behind k n p) form other (proof_behind k n above)
    (proof_behind k n below) (ap (proof_behind k n) is ∙ renumbered_split (Behind k n) form above below) over neg
    (subst (λ rows. Refutes vars rows (proof_behind k n above))
    (sym (append_assoc (front ++ after) (row ∷ steps) (form ∷ [])))
    (refutes_behind vars front after row (rows ++ form ∷ []) above first (steps ++ form ∷ [])
    (ap (λ rows. rows ++ form ∷ []) e ∙ append_assoc (front ++ row ∷ after) steps (form ∷ []))))
    (subst (λ rows. Refutes vars rows (proof_behind k n below))
    (sym (append_assoc (front ++ after) (row ∷ steps) (other ∷ [])))
    (refutes_behind vars front after row (rows ++ other ∷ []) below second (steps ++ other ∷ [])
    (ap (λ rows. rows ++ other ∷ []) e ∙ append_assoc (front ++ row ∷ after) steps (other ∷ []))))
