-- Numbers of rows: differences of limited numbers, less 1.
use Rattle.std.specs.Prelude.{ℤ, pos, negsuc, int_le, Bool, ◌&&◌, length, nat_le}
use Rattle.std.specs.List.{list_all}
use Rattle.sanlp.specs.WellFormed.{is_moderate}
use Rattle.sanlp.specs.declared.nest.ArrayDecl.{ArrayDecl}
use Rattle.loop_bind.specs.declared.affine.Affine.{Affine}
use Rattle.loop_bind.specs.declared.bounds.Bounds.{Bounds}
use Rattle.loop_bind.specs.declared.bounds.Bounds.TheVariants.{Range, Progression}
use Rattle.loop_bind.specs.Forms.{is_limited_number, is_limited}

abbrev pub is_moderate_form : Affine → Bool
is_moderate_form f = is_moderate f.constant && list_all is_moderate f.coefs

-- a number that is limited, or is so with 1 added
abbrev pub is_bound_number : ℤ → Bool
is_bound_number v = int_le (negsuc 2147483647) v && int_le v (pos 2147483647)

-- a bound of a loop, from which 1 may have been taken off
abbrev pub is_bound_form : Affine → Bool
is_bound_form f = is_bound_number f.constant && list_all is_limited_number f.coefs

-- the bounds of a loop as they are written
abbrev pub has_small_forms : Bounds → Bool
has_small_forms (Range lower upper) = list_all is_limited lower && list_all is_bound_form upper
has_small_forms (Progression first upper step) =
    is_limited first && list_all is_bound_form upper && is_limited_number step

-- an array that may have a source and a sink: it has at most 6 extents, and none is too large
abbrev pub has_small_extents : ArrayDecl → Bool
has_small_extents array =
    nat_le (length array.extents) 6 && list_all is_limited_number array.extents
