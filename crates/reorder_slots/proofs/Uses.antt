-- How many Gets stand before uses, and which tokens have later uses.
use Rattle.std.proofs.Common.{◌≡◌, ℕ, zero, suc, ◌+◌, ◌-◌, ◌<◌, ◌≤◌, ◌==◌, max, true, List, [], ◌∷◌, ◌++◌, length}
use Rattle.std.proofs.Common.{get_or, take, drop, sym, ap, ◌∙◌, inl, inr, arith, length-drop}
use Rattle.std.specs.List.{list_any}
use Rattle.std.proofs.lemmas.Bool.{cases_Bool, cases_lt, or_left, or_right, or_cases, eqb-true, eq-eqb}
use Rattle.std.proofs.lemmas.List.{take_more, take_all, get_or-drop}
use Rattle.reorder_slots.specs.Slots.{gets_for, is_wanted}

pub gets_for-push : (uses : List ℕ) (token : ℕ) → gets_for (uses ++ token ∷ []) ≡ max (gets_for uses) (token + 1)
gets_for-push [] token = omega arith
gets_for-push (first ∷ uses) token = omega (arith, gets_for-push uses token)

-- one use more
pub gets_for-more : (uses : List ℕ) (q : ℕ) → q < length uses
    → gets_for (take (q + 1) uses) ≡ max (gets_for (take q uses)) (get_or uses q 0 + 1)
gets_for-more uses q lt =
    ap gets_for (take_more uses q 0 lt) ∙ gets_for-push (take q uses) (get_or uses q 0)

pub gets_for-grows : (uses : List ℕ) (q : ℕ) → gets_for (take q uses) ≤ gets_for (take (q + 1) uses)
gets_for-grows uses q =
    elim (cases_lt q (length uses)) [
      | inl lt ↦ omega (arith, gets_for-more uses q lt)
      | inr ge ↦
          let now : take q uses ≡ uses = take_all q uses ge in
          let next : take (q + 1) uses ≡ uses = take_all (q + 1) uses (omega arith) in
          omega (arith, ap gets_for now, ap gets_for next)
    ]

-- a token that is named has its Get
pub named_below : (uses : List ℕ) (q : ℕ) → q < length uses → get_or uses q 0 < gets_for uses
named_below [] q lt = absurd (omega arith)
named_below (token ∷ uses) zero lt = omega arith
named_below (token ∷ uses) (suc q) lt = omega (arith, named_below uses q (omega arith))

pub named_before : (uses : List ℕ) (q r : ℕ) → r < q → r < length uses → get_or uses r 0 < gets_for (take q uses)
named_before [] q r below lt = absurd (omega arith)
named_before uses zero r below lt = absurd (omega arith)
named_before (token ∷ uses) (suc q) zero below lt = omega arith
named_before (token ∷ uses) (suc q) (suc r) below lt = omega (arith, named_before uses q r (omega arith) (omega arith))

any_at : (xs : List ℕ) (k token : ℕ) → k < length xs → get_or xs k 0 ≡ token
    → list_any (λ named. named == token) xs ≡ true
any_at [] k token lt e = absurd (omega arith)
any_at (x ∷ xs) zero token lt e = or_left _ _ (eq-eqb x token e)
any_at (x ∷ xs) (suc k) token lt e = or_right _ _ (any_at xs k token (omega arith) e)

pub place_of_any : (xs : List ℕ) (token : ℕ) → list_any (λ named. named == token) xs ≡ true
    → (k : ℕ) × (k < length xs) × (get_or xs k 0 ≡ token)
place_of_any [] token h = cc
place_of_any (x ∷ xs) token h =
    elim (or_cases (x == token) (list_any (λ named. named == token) xs) h) [
      | inl hit ↦ (0, omega arith, eqb-true x token hit)
      | inr later ↦
          let place = place_of_any xs token later in
          (suc place.0, omega (arith, place.1), place.2)
    ]

pub wanted_from : (uses : List ℕ) (q r token : ℕ) → q ≤ r → r < length uses → get_or uses r 0 ≡ token
    → is_wanted uses q token ≡ true
wanted_from uses q r token le lt e =
    let same : q + (r - q) ≡ r = omega arith in
    any_at (drop q uses) (r - q) token (omega (arith, length-drop q uses))
    (get_or-drop q uses (r - q) 0 ∙ ap (λ k. get_or uses k 0) same ∙ e)

pub wanted_at : (uses : List ℕ) (q token : ℕ) → is_wanted uses q token ≡ true
    → (r : ℕ) × (q ≤ r) × (r < length uses) × (get_or uses r 0 ≡ token)
wanted_at uses q token h =
    let place = place_of_any (drop q uses) token h in
    (q + place.0, omega arith, omega (arith, place.1, length-drop q uses), sym (get_or-drop q uses place.0 0) ∙ place.2)

-- what has a later use has a use from an earlier place on
pub wanted_earlier : (uses : List ℕ) (q token : ℕ) → is_wanted uses (q + 1) token ≡ true → is_wanted uses q token ≡ true
wanted_earlier uses q token h =
    let at = wanted_at uses (q + 1) token h in
    wanted_from uses q at.0 token (omega (arith, at.1)) at.2 at.3

-- a token other than that of use q has a use from q on exactly where it has a later one
pub wanted_other : (uses : List ℕ) (q token : ℕ) → q < length uses → (get_or uses q 0 ≡ token → ⊥)
    → is_wanted uses q token ≡ is_wanted uses (q + 1) token
wanted_other uses q token lt other =
    elim (cases_Bool (is_wanted uses (q + 1) token)) [
      | inl later ↦ wanted_earlier uses q token later ∙ sym later
      | inr over ↦
          elim (cases_Bool (is_wanted uses q token)) [
            | inr not_here ↦ not_here ∙ sym over
            | inl here ↦
                let at = wanted_at uses q token here in
                elim (cases_lt q at.0) [
                  | inl above ↦
                      let later = wanted_from uses (q + 1) at.0 token (omega arith) at.2 at.3 in
                      cc
                  | inr le ↦
                      let same : at.0 ≡ q = omega (arith, at.1) in
                      absurd (other (ap (λ k. get_or uses k 0) (sym same) ∙ at.3))
                ]
          ]
    ]

-- a token that was not got before use q and is named is named from there on
pub new_is_wanted : (uses : List ℕ) (q token : ℕ) → list_any (λ named. named == token) uses ≡ true
    → gets_for (take q uses) ≤ token → is_wanted uses q token ≡ true
new_is_wanted uses q token named new =
    let at = place_of_any uses token named in
    elim (cases_lt at.0 q) [
      | inl before ↦ absurd (omega (arith, named_before uses q at.0 before at.1, at.2))
      | inr le ↦ wanted_from uses q at.0 token le at.1 at.2
    ]
