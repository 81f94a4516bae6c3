-- What stays within 128 or 64 signed bits.
use Rattle.std.specs.Prelude.{◌^◌, ℤ, pos, negsuc, ◌+ℤ◌, ◌*ℤ◌, Bool, true, false, ◌≡◌, ◌&&◌, nat_lt, List, [], ◌∷◌, ◌++◌, Option, Some, None, Result, MatchResult, if◌then◌else◌}
use Rattle.std.specs.List.{list_all}
use Rattle.std.specs.Option.{option_and_then}
use Rattle.affine_core.specs.declared.form.Form.{Form}

-- the number has 128 signed bits at most
abbrev pub fits_128_bits : ℤ → Bool
fits_128_bits (pos n) = nat_lt n (2 ^ 127)
fits_128_bits (negsuc n) = nat_lt n (2 ^ 127)

-- so have the form's constant and each of its coefficients
abbrev pub form_fits_128_bits : Form → Bool
form_fits_128_bits f = fits_128_bits f.constant && list_all fits_128_bits f.coefs

-- the number, unless it leaves 128 bits
abbrev pub number_in_128_bits : ℤ → Option ℤ
number_in_128_bits z = if fits_128_bits z then Some z else None

-- the form, unless a number in it leaves 128 bits
abbrev pub form_in_128_bits : Form → Option Form
form_in_128_bits f = if form_fits_128_bits f then Some f else None

-- a sum with one more product, unless one of the two leaves 128 bits
abbrev pub sum_in_128_bits : ℤ → ℤ → ℤ → Option ℤ
sum_in_128_bits sum c v =
    option_and_then (λ product. number_in_128_bits (sum +ℤ product)) (number_in_128_bits (c *ℤ v))

-- the sum of products, unless a product or a partial sum leaves 128 bits
abbrev pub combined_in_128_bits : ℤ → List ℤ → List ℤ → Option ℤ
combined_in_128_bits sum [] at = Some sum
combined_in_128_bits sum (c ∷ cs) [] = Some sum
combined_in_128_bits sum (c ∷ cs) (v ∷ at) =
    option_and_then (λ next. combined_in_128_bits next cs at) (sum_in_128_bits sum c v)

-- the form's value, unless a product or a partial sum, taken constant first and then in variable order, leaves 128 bits
abbrev pub value_in_128_bits : Form → List ℤ → Option ℤ
value_in_128_bits form at = combined_in_128_bits form.constant form.coefs at

-- the number has 64 signed bits at most
abbrev pub fits_64_bits : ℤ → Bool
fits_64_bits (pos n) = nat_lt n (2 ^ 63)
fits_64_bits (negsuc n) = nat_lt n (2 ^ 63)

-- the number, unless it leaves 64 bits
abbrev pub number_in_64_bits : ℤ → Option ℤ
number_in_64_bits z = if fits_64_bits z then Some z else None

-- these numbers are within 128 bits and were added at the end of a list, or one of them is not
abbrev pub Appends : {T E : Type 0} → Result T E → List ℤ → List ℤ → List ℤ → Type 0
Appends r old new more =
    MatchResult r (λ _. (list_all fits_128_bits more ≡ true) × (new ≡ old ++ more))
    (λ _. list_all fits_128_bits more ≡ false)
