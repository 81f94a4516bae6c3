-- What a tree gives within the machine's numbers, and which trees may be followed.
use Rattle.std.specs.Prelude.{◌≡◌, ℕ, ◌^◌, ◌+◌, ◌==◌, ◌%◌, ℤ, pos, negsuc, Bool, true, ◌&&◌, nat_lt, nat_le, List, [], ◌∷◌, ◌++◌, length, Option, Some, None, Result, MatchResult, int_le, unsigned_abs, if◌then◌else◌}
use Rattle.std.specs.List.{list_all}
use Rattle.std.specs.Option.{option_and_then, option_map}
use Rattle.affine_core.specs.declared.form.Form.{Form}
use Rattle.affine_core.specs.Within.{fits_64_bits, number_in_64_bits, value_in_128_bits}
use Rattle.int_polyhedra.specs.Steps.{floor}
use Rattle.source_tree.specs.declared.tree.Found.{Found}
use Rattle.source_tree.specs.declared.tree.Found.TheVariants as found
use Rattle.source_tree.specs.declared.tree.Tree.{Tree}
use Rattle.source_tree.specs.declared.tree.Tree.TheOpen.{Tree-F, Test, Divides, Writer, Zero, Dead}
use Rattle.source_tree.specs.declared.tree.Tree.TheFolds.{fold-Tree}

-- the value of a form of a map, unless it leaves 128 bits on the way or 64 bits at the end
abbrev pub mapped_value : Form → List ℤ → Option ℤ
mapped_value form at = option_and_then number_in_64_bits (value_in_128_bits form at)

-- the values of a map, unless one is none
abbrev pub map_values : List Form → List ℤ → Option (List ℤ)
map_values [] at = Some []
map_values (form ∷ forms) at =
    option_and_then (λ v. option_map (λ rest. v ∷ rest) (map_values forms at))
    (mapped_value form at)

-- these values were added at the end of a list, or there are none
abbrev pub AppendsAll : {T E : Type 0} → Result T E → List ℤ → List ℤ → Option (List ℤ) → Type 0
AppendsAll r old new more =
    MatchResult r (λ _. option_map (λ values. old ++ values) more ≡ Some new) (λ _. more ≡ None)

-- the variables' values and the quotient of one more
abbrev pub with_quotient : List ℤ → ℤ → ℤ → List ℤ
with_quotient at v d = at ++ floor v (unsigned_abs d) ∷ []

-- d divides v
abbrev pub divides : ℤ → ℤ → Bool
divides v d = unsigned_abs v % unsigned_abs d == 0

abbrev pub Walks : Type 0
Walks = List ℤ → Option Found

abbrev pub walk_step : Tree-F Walks → Walks
walk_step (Test form above below) at =
    option_and_then (λ v. if int_le (pos 0) v then above at else below at)
    (value_in_128_bits form at)
walk_step (Divides form d above below) at =
    option_and_then
    (λ v. if divides v d then above (with_quotient at v d) else below (with_quotient at v d))
    (value_in_128_bits form at)
walk_step (Writer s forms proofs) at =
    option_map (λ values. found.At (record { statement = s; at = values })) (map_values forms at)
walk_step (Zero proofs) at = Some found.Zero
walk_step (Dead proof) at = Some found.Dead

-- what the tree gives, unless a form of the path that is taken leaves 128 bits or a mapped value 64
unfoldable pub outcome_of : Tree → Walks
outcome_of = fold-Tree Walks walk_step

-- every form has this many variables
abbrev pub are_over : ℕ → List Form → Bool
are_over vars forms = list_all (λ form. length form.coefs == vars) forms

abbrev pub ready_step : ℕ → Tree-F (ℕ → Bool) → ℕ → Bool
ready_step depth (Test form above below) vars =
    (length form.coefs == vars) && (above vars && below vars)
ready_step depth (Divides form d above below) vars =
    (length form.coefs == vars)
    && (int_le (pos 2) d && (nat_lt vars (depth + 6) && (above (vars + 1) && below (vars + 1))))
ready_step depth (Writer s forms proofs) vars = nat_le (length forms) 6 && are_over vars forms
ready_step depth (Zero proofs) vars = true
ready_step depth (Dead proof) vars = true

-- A tree for so many loops, below tests that have added variables up to so many: each form has as many
-- variables as there are, every divisor is at least 2, at most 6 Divides stand on a path, and no map
-- has more than 6 forms.
unfoldable pub is_ready : ℕ → Tree → ℕ → Bool
is_ready depth = fold-Tree (ℕ → Bool) (ready_step depth)
