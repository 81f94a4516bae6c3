-- Names, each with what it stands for.
use Rattle.std.specs.Prelude.{◌≡◌, ℕ, List, [], ◌∷◌, ◌++◌, Bool, true, false, Option, None, is_some, if◌then◌else◌}
use Rattle.std.specs.Map.{lookup}
use Rattle.std.specs.Str.{bytes_eq}

-- what a name stands for, if it is there
abbrev pub value_named : {X : Type 0} → List (List ℕ × X) → List ℕ → Option X
value_named names name = lookup (bytes_eq name) names

-- the names with one more at the end; a name that is there stays as it was
abbrev pub with_name : {X : Type 0} → List (List ℕ × X) → List ℕ → X → List (List ℕ × X)
with_name names name value =
    if is_some (value_named names name) then names else names ++ (name, value) ∷ []

-- a name came to the end, or it was there and nothing changed
abbrev pub Adds : {X : Type 0} → List (List ℕ × X) → List (List ℕ × X) → List ℕ → X → Bool → Type 0
Adds old new name value true = (value_named old name ≡ None) × (new ≡ old ++ (name, value) ∷ [])
Adds old new name value false = (is_some (value_named old name) ≡ true) × (new ≡ old)
