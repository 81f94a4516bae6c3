-- How the test of a list follows from its neighbours, from a place on.
use Rattle.std.proofs.Common.{◌≡◌, ℕ, zero, suc, ◌+◌, ◌<◌, ◌≤◌, true, false, List, [], ◌∷◌, length, get_or, drop, refl}
use Rattle.std.proofs.Common.{ap, ◌∙◌, arith, ne_eqb, ◌==◌, ◌||◌, length-drop, get_or-drop}
use Rattle.std.proofs.Math.Seq.{drop-cons}
use Rattle.std.proofs.lemmas.Bool.{or_from, cases_eq}
use Rattle.std.specs.List.{list_any}
use Rattle.std.specs.List.Sorted.{IsNonDecreasing}
use Rattle.channel_class.specs.Classes.{never_falls, has_repeat}

-- a last element falls nowhere
pub falls_last : (xs : List ℕ) (k : ℕ) → length xs ≤ suc k → never_falls (drop k xs) ≡ true
falls_last [] zero le = refl
falls_last [] (suc k) le = refl
falls_last (x ∷ []) zero le = refl
falls_last (x ∷ (y ∷ xs)) zero le = absurd (omega arith)
falls_last (x ∷ xs) (suc k) le = falls_last xs k (omega arith)

-- an index that no later one equals is not repeated
none_equal : (m : ℕ) (xs : List ℕ) → ((j : ℕ) → j < length xs → m < get_or xs j 0) → list_any (λ n. m == n) xs ≡ false
none_equal m [] above = refl
none_equal m (x ∷ xs) above =
    let here : m < x = above 0 (omega arith) in
    or_from (m == x) (list_any (λ n. m == n) xs) (ne_eqb m x (λ e. omega arith))
    (none_equal m xs (λ j lt. above (suc j) (omega arith)))

-- in a sorted list, an element below the next one stands once from there on
pub repeat_later : (xs : List ℕ) (k : ℕ) → IsNonDecreasing xs → suc k < length xs
    → (get_or xs k 0 ≡ get_or xs (suc k) 0 → ⊥) → has_repeat (drop k xs) ≡ has_repeat (drop (suc k) xs)
repeat_later xs k sorted lt other =
    let rest = drop (suc k) xs in
    let up : get_or xs k 0 ≤ get_or xs (suc k) 0 = sorted k (suc k) 0 (omega arith) lt in
    let none : list_any (λ n. get_or xs k 0 == n) rest ≡ false =
    none_equal (get_or xs k 0) rest
    (λ j below. omega (
      arith,
      cases_eq (get_or xs k 0) (get_or xs (suc k) 0),
      get_or-drop (suc k) xs j 0,
      sorted (suc k) (suc k + j) 0 (omega arith) (omega (arith, length-drop (suc k) xs)),
    )) in
    ap has_repeat (drop-cons xs k 0 (omega arith)) ∙ ap (λ b. b || has_repeat rest) none

pub repeat_last : (xs : List ℕ) (k : ℕ) → length xs ≤ suc k → has_repeat (drop k xs) ≡ false
repeat_last [] zero le = refl
repeat_last [] (suc k) le = refl
repeat_last (x ∷ []) zero le = refl
repeat_last (x ∷ (y ∷ xs)) zero le = absurd (omega arith)
repeat_last (x ∷ xs) (suc k) le = repeat_last xs k (omega arith)
