-- The iteration vector of a turn, where the lists of vectors have none.
use Rattle.std.proofs.Common.{◌≡◌, ℕ, zero, suc, ℤ, Some, None, List, [], ◌∷◌, slice_get, get_or, refl, sym, ap, ◌∙◌}
use Rattle.std.proofs.lemmas.Option.{get_or_from_slice_get}
use Rattle.net_core.specs.Rules.{vector_at}

pub get_or-none : {A : Type 0} (xs : List A) (k : ℕ) (d : A) → None ≡ slice_get xs k → get_or xs k d ≡ d
get_or-none [] k d h = refl
get_or-none (x ∷ xs) zero d h = cc
get_or-none (x ∷ xs) (suc k) d h = get_or-none xs k d h

pub vector_at-turn_past : (points : List (List (List ℤ))) (p t : ℕ) (v : List (List ℤ)) → Some v ≡ slice_get points p
    → None ≡ slice_get v t → [] ≡ vector_at points p t
vector_at-turn_past points p t v h g =
    sym (ap (λ (list : List (List ℤ)). get_or list t []) (get_or_from_slice_get points p v [] (sym h))
    ∙ get_or-none v t [] g)

pub vector_at-process_past : (points : List (List (List ℤ))) (p t : ℕ) → None ≡ slice_get points p
    → [] ≡ vector_at points p t
vector_at-process_past points p t h =
    sym (ap (λ (list : List (List ℤ)). get_or list t []) (get_or-none points p [] h))
