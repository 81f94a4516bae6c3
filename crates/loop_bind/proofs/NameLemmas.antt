-- A table of names, seen as the list of its entries.
use Rattle.std.proofs.Common.{◌≡◌, ℕ, List, [], ◌∷◌, ◌++◌, map, Bool, false, cond, Option, Some, None, is_some, Bor}
use Rattle.std.proofs.Common.{refl, sym, ap, ◌∙◌}
use Rattle.std.specs.Option.{option_copied}
use Rattle.std.proofs.lemmas.List.{map-append}
use Rattle.std.specs.Map.{lookup}
use Rattle.std.specs.Str.{bytes_eq}
use Rattle.std.specs.declared.vec.Vec.{Vec}
use Rattle.std.specs.declared.alloc.Global.{Global}
use Rattle.loop_bind.specs.Names.{value_named}
use Rattle.plain_data.proofs.Options.{is_some-false}

-- an entry with its key as bytes
abbrev pub shown : {X : Type 0} → Vec ℕ Global × X → List ℕ × X
shown e = (e.0.items, e.1)

pub lookup_shown : {X : Type 0} (name : List ℕ) (es : List (Vec ℕ Global × X))
    → lookup (λ k. bytes_eq name k.items) es ≡ value_named (map shown es) name
lookup_shown name [] = refl
lookup_shown name (e ∷ es) = ap (λ r. cond (bytes_eq name e.0.items) (Some e.1) r) (lookup_shown name es)

is_some_copied : {X : Type 0} (found : Option (Bor X)) → is_some (option_copied found) ≡ is_some found
is_some_copied None = refl
is_some_copied (Some x) = refl

module _ {X : Type 0} (name : List ℕ) (es : List (Vec ℕ Global × X)) (all : List (List ℕ × X)) (found : Option (Bor X))
    (seen : map shown es ≡ all) (value : option_copied found ≡ lookup (λ k. bytes_eq name k.items) es) where
  -- what the map has under a name is what the list has
  pub found_is : option_copied found ≡ value_named all name
  found_is = value ∙ lookup_shown name es ∙ ap (λ l. value_named l name) seen

  pub is_there : (b : Bool) → is_some found ≡ b → is_some (value_named all name) ≡ b
  is_there b e = ap is_some (sym found_is) ∙ is_some_copied found ∙ e

  pub is_new : is_some found ≡ false → value_named all name ≡ None
  is_new e = is_some-false (value_named all name) (is_there false e)

-- a new name comes to the end
pub shown_insert : {X : Type 0} (key : Vec ℕ Global) (x : X) (es new : List (Vec ℕ Global × X))
    (all : List (List ℕ × X)) (name : List ℕ)
    → map shown es ≡ all → key.items ≡ name → new ≡ es ++ (key, x) ∷ [] → map shown new ≡ all ++ (name, x) ∷ []
shown_insert key x es new all name seen text e =
    ap (map shown) e ∙ map-append shown es ((key, x) ∷ []) ∙ (λ i. seen i ++ (text i, x) ∷ [])

-- a key whose bytes are no name of the list isn't in the map
pub key_is_new : {X : Type 0} (key : Vec ℕ Global) (es : List (Vec ℕ Global × X)) (all : List (List ℕ × X))
    (name : List ℕ)
    → map shown es ≡ all → key.items ≡ name → value_named all name ≡ None
    → lookup (λ k. bytes_eq key.items k.items) es ≡ None
key_is_new key es all name seen text none =
    lookup_shown key.items es ∙ ap (λ l. value_named l key.items) seen ∙ ap (value_named all) text ∙ none
