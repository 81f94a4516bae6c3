-- Systems of rows, and the whole points that meet them. A row is read as `form >= 0`.
use Rattle.std.specs.Prelude.{◌≡◌, ◌≤ℤ◌, ℕ, ◌==◌, ℤ, pos, Bool, true, List, length, All}
use Rattle.std.specs.List.{list_all}
use Rattle.affine_core.specs.declared.form.Form.{Form}
use Rattle.affine_core.specs.Affine.{form_at}

-- every row has this many variables
abbrev pub all_over : ℕ → List Form → Bool
all_over vars rows = list_all (λ row. length row.coefs == vars) rows

-- the rows are over so many variables
abbrev pub AreOver : ℕ → List Form → Type 0
AreOver vars rows = all_over vars rows ≡ true

-- the point meets every row
abbrev pub Meets : List Form → List ℤ → Type 0
Meets rows at = All (λ row. pos 0 ≤ℤ form_at row at) rows

-- no whole point meets the rows, over this many variables
abbrev pub HasNoPoint : ℕ → List Form → Type 0
HasNoPoint vars rows = (at : List ℤ) → length at ≡ vars → Meets rows at → ⊥

-- every whole point that meets the rows meets this row too
abbrev pub Entails : ℕ → List Form → Form → Type 0
Entails vars rows row = (at : List ℤ) → length at ≡ vars → Meets rows at → pos 0 ≤ℤ form_at row at
