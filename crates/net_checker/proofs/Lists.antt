-- What holds of each item of a list, and of the item at a place.
use Rattle.std.proofs.Common.{◌≡◌, ℕ, zero, suc, ◌<◌, ℤ, Bool, true, false, cond, Some, None, List, [], ◌∷◌, length}
use Rattle.std.proofs.Common.{slice_get, get_or, refl, sym, ap, ◌∙◌}
use Rattle.std.proofs.lemmas.Bool.{and_parts, and_from}
use Rattle.std.proofs.lemmas.Option.{slice_get-get_or, get_or_from_slice_get}
use Rattle.std.specs.List.{list_all}
use Rattle.net_core.specs.Rules.{vector_at}
use Rattle.net_core.proofs.Vectors.{get_or-none, vector_at-process_past, vector_at-turn_past}

-- where a list has no item at a place, its default stands there
pub ruleset default_items = (get_or-none)

-- past the last process, or its last turn, a vector is empty
pub ruleset vectors_past = (vector_at-process_past, vector_at-turn_past)

-- a test that gives nothing where it passes gave nothing
pub passes_where_none : {A : Type 0} (b : Bool) (x : A) → cond b None (Some x) ≡ None → b ≡ true
passes_where_none true x h = refl
passes_where_none false x h = cc

pub fails_where_none : {A : Type 0} (b : Bool) (x : A) → cond b (Some x) None ≡ None → b ≡ false
fails_where_none true x h = cc
fails_where_none false x h = refl

pub all_at : {X : Type 0} (p : X → Bool) (xs : List X) (k : ℕ) (x : X) → list_all p xs ≡ true → slice_get xs k ≡ Some x
    → p x ≡ true
all_at p [] k x h is = cc
all_at p (y ∷ xs) zero x h is =
    let same : y ≡ x = cc in
    rw (← same) ((and_parts (p y) (list_all p xs) h).0)
all_at p (y ∷ xs) (suc k) x h is = all_at p xs k x ((and_parts (p y) (list_all p xs) h).1) is

pub each_all : {X : Type 0} (p : X → Bool) (xs : List X) → ((k : ℕ) (x : X) → slice_get xs k ≡ Some x → p x ≡ true)
    → list_all p xs ≡ true
each_all p [] each = refl
each_all p (x ∷ xs) each =
    and_from (p x) (list_all p xs) (each 0 x refl) (each_all p xs (λ k y is. each (suc k) y is))

item_where_some : {X : Type 0} (xs : List X) (k : ℕ) (d x : X) → Some x ≡ slice_get xs k → get_or xs k d ≡ x
item_where_some xs k d x h = get_or_from_slice_get xs k x d (sym h)

-- the iteration vector of a turn, where the lists have one, and where they have none
pub vector_found : (points : List (List (List ℤ))) (p t : ℕ) (v : List (List ℤ)) (a : List ℤ)
    → Some v ≡ slice_get points p → Some a ≡ slice_get v t → a ≡ vector_at points p t
vector_found points p t v a h g =
    sym (ap (λ (list : List (List ℤ)). get_or list t []) (item_where_some points p [] v h) ∙ item_where_some v t [] a g)

pub read_or : {X : Type 0} (xs ys : List X) (k : ℕ) (d : X) → ys ≡ xs → k < length ys
    → slice_get xs k ≡ Some (get_or ys k d)
read_or xs ys k d same lt = ap (λ zs. slice_get zs k) (sym same) ∙ slice_get-get_or ys k d lt
