-- What holds of each element of a list, by its place.
use Rattle.std.proofs.Common.{◌≡◌, ℕ, zero, suc, List, [], ◌∷◌, Bool, subst}
use Rattle.std.specs.Prelude.{Some, slice_get, IsTrue}
use Rattle.std.specs.List.{list_all}
use Rattle.std.proofs.lemmas.Bool.{and_parts}

pub list_all_at : {X : Type 0} (p : X → Bool) (xs : List X) (i : ℕ) (x : X) → IsTrue (list_all p xs)
    → slice_get xs i ≡ Some x → IsTrue (p x)
list_all_at p [] i x h e = cc
list_all_at p (y ∷ xs) zero x h e =
    let same : y ≡ x = cc in subst (λ z. IsTrue (p z)) same (and_parts (p y) (list_all p xs) h).0
list_all_at p (y ∷ xs) (suc i) x h e = list_all_at p xs i x (and_parts (p y) (list_all p xs) h).1 e
