-- The difference class of a read: what its array's writers write, and where, is told by differences of loop variables.
use Rattle.std.specs.Prelude.{◌≡◌, ℕ, ℤ, pos, negsuc, Bool, ◌&&◌, ◌||◌, nat_le, Some, IsTrue}
use Rattle.std.specs.List.{count_by, list_all}
use Rattle.std.specs.Ordering.{int_eq}
use Rattle.affine_core.specs.declared.form.Form.{Form}
use Rattle.sanlp.specs.declared.nest.Nest.{Nest}
use Rattle.source_tree.specs.Systems.{Occurrence, array_writes, read_at}

-- how many coefficients are this number
abbrev pub count_of : ℤ → Form → ℕ
count_of c form = count_by (λ d. int_eq d c) form.coefs

-- a constant, or one variable with coefficient 1 plus a constant
abbrev pub is_shift : Form → Bool
is_shift form =
    list_all (λ c. int_eq c (pos 0) || int_eq c (pos 1)) form.coefs
    && nat_le (count_of (pos 1) form) 1

-- no variable, one variable with coefficient 1 or -1, or two variables with coefficients 1 and -1
abbrev pub is_difference : Form → Bool
is_difference form =
    list_all (λ c. int_eq c (pos 0) || (int_eq c (pos 1) || int_eq c (negsuc 0))) form.coefs
    && (nat_le (count_of (pos 1) form) 1 && nat_le (count_of (negsuc 0) form) 1)

-- the subscripts of a write are shifts, and the domain rows of its statement differences
abbrev pub writes_differences : Occurrence → Bool
writes_differences w =
    list_all is_shift w.access.subscripts && list_all is_difference w.statement.rows

-- read k of statement s is there, and so does each write of its array
abbrev pub IsInDifferenceClass : Nest → ℕ → ℕ → Type 0
IsInDifferenceClass n s k =
    (r : Occurrence) × (read_at n s k ≡ Some r)
    × IsTrue (list_all writes_differences (array_writes n r))
