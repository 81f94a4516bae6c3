-- A list with an entry for each item and its number: the entries so far, and one more.
--
-- This is a loop's turn: the entries of the first k items, and then that of item k, are those of the first k + 1. By
-- induction over the items before it, at any number of the first, the item behind them has the first number and their
-- count as its own. It is asked that there is an item k; the entry is any function of the number and the item.
use Rattle.std.proofs.Common.{◌≡◌, ℕ, ◌+◌, ◌<◌, List, [], ◌∷◌, ◌++◌, length, map, take, get_or, ap, ◌∙◌, arith}
use Rattle.std.specs.List.{enumerate_from}
use Rattle.std.proofs.lemmas.List.{length-take-le, take_more}

numbered_more : {X Y : Type 0} (f : ℕ → X → Y) (a : ℕ) (xs : List X) (x : X)
    → map (λ numbered. f numbered.0 numbered.1) (enumerate_from a (xs ++ x ∷ []))
    ≡ map (λ numbered. f numbered.0 numbered.1) (enumerate_from a xs) ++ f (a + length xs) x ∷ []
numbered_more f a [] x = let number : a ≡ a + 0 = omega arith in ap (λ k. f k x ∷ []) number
numbered_more f a (y ∷ ys) x =
    let number : a + 1 + length ys ≡ a + length (y ∷ ys) = omega arith in
    ap (λ entries. f a y ∷ entries)
    (numbered_more f (a + 1) ys x
    ∙ ap (λ k. map (λ numbered. f numbered.0 numbered.1) (enumerate_from (a + 1) ys) ++ f k x ∷ []) number)

-- the entries up to item k, and that of item k
pub entries_more : {X Y : Type 0} (f : ℕ → X → Y) (xs : List X) (k : ℕ) (d : X) → k < length xs
    → map (λ numbered. f numbered.0 numbered.1) (enumerate_from 0 (take (k + 1) xs))
    ≡ map (λ numbered. f numbered.0 numbered.1) (enumerate_from 0 (take k xs)) ++ f k (get_or xs k d) ∷ []
entries_more f xs k d lt =
    let number : 0 + length (take k xs) ≡ k = omega (arith, length-take-le k xs) in
    ap (λ ys. map (λ numbered. f numbered.0 numbered.1) (enumerate_from 0 ys)) (take_more xs k d lt)
    ∙ numbered_more f 0 (take k xs) (get_or xs k d)
    ∙ ap (λ m. map (λ numbered. f numbered.0 numbered.1) (enumerate_from 0 (take k xs)) ++ f m (get_or xs k d) ∷ [])
    number
