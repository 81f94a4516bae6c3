-- What numbers in few bytes stand for.
use Rattle.std.specs.Prelude.{◌≤◌, ℤ, length, take}
use Rattle.affine_core.specs.declared.form.Form.{Form}
use Rattle.affine_core.specs.declared.kept_form.Numbers.{Numbers}
use Rattle.affine_core.specs.declared.kept_form.Numbers.TheVariants.{Narrow, Wide}
use Rattle.affine_core.specs.declared.kept_number.Number.{Number}
use Rattle.affine_core.specs.declared.kept_number.Number.TheVariants.{Narrow as NarrowNumber, Wide as WideNumber}

-- the form that these numbers are
abbrev pub kept_form : Numbers → Form
kept_form (Narrow count constant coefs) = record { constant = constant; coefs = take count coefs }
kept_form (Wide numbers) = record { constant = numbers.constant; coefs = numbers.coefs }

-- the coefficients have room where they stand, and in a form
abbrev pub IsShort : Numbers → Type 0
IsShort (Narrow count constant coefs) = count ≤ 13
IsShort (Wide numbers) = length numbers.coefs ≤ 18

-- the number that is kept
abbrev pub kept_number : Number → ℤ
kept_number (NarrowNumber number) = number
kept_number (WideNumber number) = number
