-- Affine forms over whole numbers: their values, their sums and multiples, and special forms.
use Rattle.std.specs.Prelude.{ℕ, ◌+◌, ◌-◌, ℤ, pos, ◌+ℤ◌, ◌*ℤ◌, List, [], ◌∷◌, ◌++◌, length, map, replicate}
use Rattle.affine_core.specs.declared.form.Form.{Form}

-- each coefficient times the value of its variable, added to what comes before
abbrev pub combined : ℤ → List ℤ → List ℤ → ℤ
combined sum [] at = sum
combined sum (c ∷ cs) [] = sum
combined sum (c ∷ cs) (v ∷ at) = combined (sum +ℤ (c *ℤ v)) cs at

-- the value of the form at these values of its variables
abbrev pub form_at : Form → List ℤ → ℤ
form_at form at = combined form.constant form.coefs at

-- each number times `by`
abbrev pub products : ℤ → List ℤ → List ℤ
products by cs = map (λ c. c *ℤ by) cs

-- the form times a number
abbrev pub form_product : ℤ → Form → Form
form_product by f = record { constant = f.constant *ℤ by; coefs = products by f.coefs }

-- the sums of each two numbers at one place
abbrev pub sums : List ℤ → List ℤ → List ℤ
sums [] ys = []
sums (x ∷ xs) [] = []
sums (x ∷ xs) (y ∷ ys) = (x +ℤ y) ∷ sums xs ys

-- the sum of two forms
abbrev pub form_sum : Form → Form → Form
form_sum f g = record { constant = f.constant +ℤ g.constant; coefs = sums f.coefs g.coefs }

-- the form of a number, over so many variables
abbrev pub constant_form : ℕ → ℤ → Form
constant_form variables constant =
    record { constant = constant; coefs = replicate variables (pos 0) }

-- the form of one of so many variables
abbrev pub variable_form : ℕ → ℕ → Form
variable_form variables v =
    record {
      constant = pos 0;
      coefs = replicate v (pos 0) ++ pos 1
          ∷ replicate (variables - (v + 1)) (pos 0);
    }

-- the same form over more variables
abbrev pub widened_form : ℕ → Form → Form
widened_form variables f =
    record f { coefs = f.coefs ++ replicate (variables - length f.coefs) (pos 0) }
