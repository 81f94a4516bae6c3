-- Lists whose elements all pass.
use Rattle.std.proofs.Common.{ℕ, zero, suc, ◌<◌, Bool, List, [], ◌∷◌, ◌++◌, length, get_or, refl, arith}
use Rattle.std.specs.Prelude.{IsTrue}
use Rattle.std.specs.List.{list_all}
use Rattle.std.specs.Cmp.Derive.{both_true}
use Rattle.std.proofs.lemmas.Bool.{and_parts}

pub all_at : {A : Type 0} (p : A → Bool) (xs : List A) (i : ℕ) (d : A) → IsTrue (list_all p xs) → i < length xs
    → IsTrue (p (get_or xs i d))
all_at p [] i d h below = absurd (omega arith)
all_at p (x ∷ xs) zero d h below = (and_parts (p x) (list_all p xs) h).0
all_at p (x ∷ xs) (suc i) d h below = all_at p xs i d (and_parts (p x) (list_all p xs) h).1 (omega arith)

pub all_push : {A : Type 0} (p : A → Bool) (xs : List A) (x : A) → IsTrue (list_all p xs) → IsTrue (p x)
    → IsTrue (list_all p (xs ++ x ∷ []))
all_push p [] x h e = both_true e refl
all_push p (y ∷ xs) x h e =
    let parts = and_parts (p y) (list_all p xs) h in both_true parts.0 (all_push p xs x parts.1 e)
