-- For a text with a piece for each item and its number, as of channels: the pieces so far, and one more.
use Rattle.std.proofs.Common.{◌≡◌, ◌+◌, ◌<◌, ℕ, List, [], ◌∷◌, ◌++◌, take, length, get_or, refl, ap, ◌∙◌, arith}
use Rattle.std.proofs.Common.{append_assoc, append-nil}
use Rattle.std.specs.List.{enumerate_from}
use Rattle.std.proofs.lemmas.Grind.{flat_map-append, take_at_read}
use Rattle.std.proofs.lemmas.List.{length-take-le}

numbered_more : {X : Type 0} (n : ℕ) (xs : List X) (x : X)
    → enumerate_from n (xs ++ x ∷ []) ≡ enumerate_from n xs ++ (n + length xs, x) ∷ []
numbered_more n [] x = let e : n ≡ n + 0 = omega arith in ap (λ (k : ℕ). (k, x) ∷ []) e
numbered_more n (y ∷ ys) x =
    let e : n + 1 + length ys ≡ n + length (y ∷ ys) = omega arith in
    ap (λ (rest : List _). (n, y) ∷ rest)
    (numbered_more (n + 1) ys x ∙ ap (λ (k : ℕ). enumerate_from (n + 1) ys ++ (k, x) ∷ []) e)

-- the first part is for `grind`, which takes the lemma up where the item is read
pub numbered_at_read : {X : Type 0} (xs : List X) (i : ℕ) (d : X) → i < length xs
    → (get_or xs i d ≡ get_or xs i d)
    × (enumerate_from 0 (take (i + 1) xs) ≡ enumerate_from 0 (take i xs) ++ (i, get_or xs i d) ∷ [])
numbered_at_read xs i d inside =
    let number : 0 + length (take i xs) ≡ i = omega (arith, length-take-le i xs) in (
      refl,
      ap (enumerate_from 0) (take_at_read xs i d inside).1 ∙ numbered_more 0 (take i xs) (get_or xs i d)
          ∙ ap (λ (k : ℕ). enumerate_from 0 (take i xs) ++ (k, get_or xs i d) ∷ []) number,
    )

-- what a loop over such items wants in its `using`
pub ruleset numbered = (append_assoc, append-nil, flat_map-append, numbered_at_read)
