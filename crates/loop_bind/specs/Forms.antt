-- Affine forms over the loops round a place. There are at most six; a loop that isn't there has the
-- coefficient 0.
use Rattle.std.specs.Prelude.{ℕ, ℤ, pos, negsuc, ◌+ℤ◌, ◌-ℤ◌, ◌*ℤ◌, Bool, ◌&&◌, List, [], ◌∷◌, map, take, replicate, slice_set}
use Rattle.std.specs.List.{list_all}
use Rattle.std.specs.Ordering.{int_eq}
use Rattle.std.specs.Int.RustNames.{int_le}
use Rattle.affine_core.specs.declared.form.Form.{Form}
use Rattle.loop_bind.specs.declared.affine.Affine.{Affine}

abbrev pub constant_form : ℤ → Affine
constant_form c = record { constant = c; coefs = replicate 6 (pos 0) }

-- a multiple of the variable of this loop, counted from the outermost
abbrev pub multiple_form : ℤ → ℕ → Affine
multiple_form k v = record { constant = pos 0; coefs = slice_set (replicate 6 (pos 0)) v k }

-- the variable of this loop
abbrev pub loop_form : ℕ → Affine
loop_form v = multiple_form (pos 1) v

abbrev pub termwise : (ℤ → ℤ → ℤ) → List ℤ → List ℤ → List ℤ
termwise op [] ys = []
termwise op (x ∷ xs) [] = []
termwise op (x ∷ xs) (y ∷ ys) = op x y ∷ termwise op xs ys

abbrev pub sum_form : Affine → Affine → Affine
sum_form f g = record { constant = f.constant +ℤ g.constant; coefs = termwise ◌+ℤ◌ f.coefs g.coefs }

abbrev pub difference_form : Affine → Affine → Affine
difference_form f g =
    record { constant = f.constant -ℤ g.constant; coefs = termwise ◌-ℤ◌ f.coefs g.coefs }

abbrev pub scaled_form : ℤ → Affine → Affine
scaled_form k f = record { constant = k *ℤ f.constant; coefs = map (λ c. k *ℤ c) f.coefs }

abbrev pub negated_form : Affine → Affine
negated_form f = record { constant = pos 0 -ℤ f.constant; coefs = map (λ c. pos 0 -ℤ c) f.coefs }

-- a form with 1 taken off
abbrev pub lowered_form : Affine → Affine
lowered_form f = record f { constant = f.constant -ℤ pos 1 }

abbrev pub has_no_variable : Affine → Bool
has_no_variable f = list_all (λ c. int_eq c (pos 0)) f.coefs

-- within 2,147,483,647 of 0
abbrev pub is_limited_number : ℤ → Bool
is_limited_number v = int_le (negsuc 2147483646) v && int_le v (pos 2147483647)

abbrev pub is_limited : Affine → Bool
is_limited f = is_limited_number f.constant && list_all is_limited_number f.coefs

-- the form of a nest, over as many variables as loops stand round it
abbrev pub form_over : ℕ → Affine → Form
form_over depth f = record { constant = f.constant; coefs = take depth f.coefs }
