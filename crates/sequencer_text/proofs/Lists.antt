-- The greatest of the numbers along a list.
--
-- Where the items before a place were looked at, the greatest is that of their numbers, and at a place it becomes the greater of
-- this and of the number there: by induction along the numbers, since `max` may be taken in any order. Of no item it is 0, so
-- that it is a number of the list is said only where the list has one.
use Rattle.std.proofs.Common.{◌≡◌, ◌+◌, ◌<◌, ℕ, List, map, take, length, get_or, sym, ap, ◌∙◌}
use Rattle.std.specs.Prelude.{max}
use Rattle.std.proofs.lemmas.List.{map_push, take_more}
use Rattle.script_blocks.specs.Nesting.{greatest}
use Rattle.script_blocks.proofs.Nestings.{greatest-push}

pub greatest_at : {X : Type 0} (f : X → ℕ) (xs : List X) (i : ℕ) (d : X) → i < length xs
    → greatest (map f (take (i + 1) xs)) ≡ max (greatest (map f (take i xs))) (f (get_or xs i d))
greatest_at f xs i d lt =
    ap (λ ys. greatest (map f ys)) (take_more xs i d lt)
    ∙ ap greatest (map_push f (take i xs) (get_or xs i d))
    ∙ greatest-push (map f (take i xs)) (f (get_or xs i d))

pub greatest_more : {X : Type 0} (f : X → ℕ) (xs : List X) (i : ℕ) (x : X) → i < length xs → x ≡ get_or xs i x
    → greatest (map f (take (i + 1) xs)) ≡ max (greatest (map f (take i xs))) (f x)
greatest_more f xs i x lt is =
    greatest_at f xs i x lt ∙ ap (λ y. max (greatest (map f (take i xs))) (f y)) (sym is)
