-- Going over terms and coefficients in order.
use Rattle.std.proofs.Common.{◌≡◌, ◌+◌, ◌<◌, ℕ, List, ◌∷◌, length, drop, get_or, Bool, true, false, cond, refl, sym, ap}
use Rattle.std.proofs.Common.{◌∙◌}
use Rattle.std.specs.Prelude.{Option, Some, None}
use Rattle.std.specs.List.{find}
use Rattle.std.specs.Option.{option_and_then, option_map}
use Rattle.std.proofs.lemmas.List.{drop_more}
use Rattle.affine_core.specs.declared.form.Form.{Form}
use Rattle.int_polyhedra.specs.declared.system.Term.{Term}
use Rattle.int_polyhedra.specs.Steps.{sum_with, sum_onto}

pub mapped_none : {X Y : Type 0} (f : X → Y) (o : Option X) → option_map f o ≡ None → o ≡ None
mapped_none f None e = refl
mapped_none f (Some x) e = absurd (let g : Some (f x) ≡ None = e in cc)

pub find_none : {X : Type 0} (p : X → Bool) (x : X) (xs : List X) → find p (x ∷ xs) ≡ None
    → (p x ≡ false) × (find p xs ≡ None)
find_none p x xs e = go (p x) refl e where
  go : (b : Bool) → p x ≡ b → cond b (Some x) (find p xs) ≡ None → (p x ≡ false) × (find p xs ≡ None)
  go true is e = absurd (let g : Some x ≡ None = e in cc)
  go false is e = (is, e)

-- one more term
pub sum_onto_more : (rows : List Form) (start sum next : Form) (terms : List Term) (i : ℕ) (d : Term) → i < length terms
    → sum_onto rows start terms ≡ sum_onto rows sum (drop i terms) → Some next ≡ sum_with rows sum (get_or terms i d)
    → sum_onto rows start terms ≡ sum_onto rows next (drop (i + 1) terms)
sum_onto_more rows start sum next terms i d h so_far is =
    so_far ∙ ap (sum_onto rows sum) (drop_more terms i d h)
    ∙ ap (option_and_then (λ next. sum_onto rows next (drop (i + 1) terms))) (sym is)
