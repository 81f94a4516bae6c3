-- An option that comes of another one: what it says of that one where it has a value. And what holds at an error
-- because it holds anyhow.
use Rattle.std.proofs.Common.{◌≡◌, ℕ, Option, Some, None, IfSome, option_map, option_and_then, List, [], ◌∷◌, map}
use Rattle.std.proofs.Common.{Result, Ok, Err, ◌⊎◌, inl, inr, refl, ap, subst}
use Rattle.std.specs.Result.{OnErr}
use Rattle.std.proofs.lemmas.Option.{same_Some}
pub use Rattle.std.proofs.option.Match.{None-if_not_some as is_some-false}

pub option_map-some : {A B : Type 0} (f : A → B) (o : Option A) (y : B) → option_map f o ≡ Some y
    → (x : A) × (o ≡ Some x) × (f x ≡ y)
option_map-some f None y e = cc
option_map-some f (Some x) y e = (x, refl, same_Some (f x) y e)

pub option_and_then-some : {A B : Type 0} (f : A → Option B) (o : Option A) (y : B) → option_and_then f o ≡ Some y
    → (x : A) × (o ≡ Some x) × (f x ≡ Some y)
option_and_then-some f None y e = cc
option_and_then-some f (Some x) y e = (x, refl, e)

pub IfSome-some : {A : Type 0} (P : A → Type 0) (o : Option A) (x : A) → o ≡ Some x → IfSome o P → P x
IfSome-some P o x e h = let Q : Option _ → Type 0 = λ o. IfSome o P in subst Q e h

pub option_and_then-same : {A B : Type 0} (f g : A → Option B) → ((x : A) → f x ≡ g x) → (o : Option A)
    → option_and_then f o ≡ option_and_then g o
option_and_then-same f g same None = refl
option_and_then-same f g same (Some x) = same x

pub map-option_map_same : {A : Type 0} (os : List (Option A)) → map (option_map (λ x. x)) os ≡ os
map-option_map_same [] = refl
map-option_map_same (None ∷ os) = ap (λ rest. None ∷ rest) (map-option_map_same os)
map-option_map_same (Some x ∷ os) = ap (λ rest. Some x ∷ rest) (map-option_map_same os)

-- there is a value, or there is none
pub option_cases : {A : Type 0} (o : Option A) → (o ≡ None) ⊎ ((x : A) × (o ≡ Some x))
option_cases None = inl refl
option_cases (Some x) = inr (x, refl)

pub by_option : {A : Type 0} (o : Option ℕ) → (o ≡ None → A) → ((n : ℕ) → o ≡ Some n → A) → A
by_option None none some = none refl
by_option (Some n) none some = some n refl

pub OnErr-any : {T E P : Type 0} (r : Result T E) → P → OnErr r P
OnErr-any (Ok value) p = tt
OnErr-any (Err fault) p = p
