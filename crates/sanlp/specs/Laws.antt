-- Laws over the definitions alone.
use Rattle.std.specs.Prelude.{◌≡◌, ◌<◌, ◌≤◌, ℕ, ◌+◌, ◌-◌, ◌==◌, pos, ℤ, List, [], ◌∷◌, map, length, Bool, true, false, Option, Some, None, slice_get, unwrap_or, if◌then◌else◌}
use Rattle.std.specs.List.{fold}
use Rattle.std.specs.Option.{option_map}
use Rattle.sanlp.specs.declared.nest.ArrayDecl.{ArrayDecl}
use Rattle.sanlp.specs.declared.nest.Inputs.{Inputs}
use Rattle.sanlp.specs.declared.nest.Nest.{Nest}
use Rattle.sanlp.specs.declared.nest.Point.{Point}
use Rattle.sanlp.specs.declared.nest.Role.{Role}
use Rattle.sanlp.specs.declared.nest.Role.TheVariants.{Sink}
use Rattle.sanlp.specs.Access.{extents_of, result_of}
use Rattle.sanlp.specs.Cells.{Cell, all_subscripts, is_output}
use Rattle.sanlp.specs.Meaning.{execute, exec, arrays}
use Rattle.sanlp.specs.Memory.{no_cells, cell_value}
use Rattle.sanlp.specs.Trace.{trace}
use Rattle.sanlp.specs.WellFormed.{output_numbers}
use Rattle.sanlp.specs.Writers.{last_before, value_at, writes_at, memory_before}

-- The sequential meaning executes the points of the trace, in order.
abbrev pub FollowsTrace : Nest → Inputs → Type 0
FollowsTrace n d = exec n d ≡ fold (execute n d) no_cells (trace n)

-- Before each entry, a cell holds the value of its last writer, and nothing where it has none.
abbrev pub HoldsLastWriters : Nest → Inputs → List Point → Type 0
HoldsLastWriters n d points =
    (t : ℕ) (cell : Cell) → t ≤ length points
    → memory_before n d points t cell
    ≡ option_map (value_at n d points) (last_before n points t cell)

-- The value of an entry is its expression, where each read has its last writer's value, or 0 where there is none.
abbrev pub IsValue : Nest → Inputs → List Point → Type 0
IsValue n d points =
    (t : ℕ) (p : Point) → slice_get points t ≡ Some p
    → value_at n d points t
    ≡ result_of n d p
    (λ cell. unwrap_or (option_map (value_at n d points) (last_before n points t cell)) (pos 0))

-- none below t passes, or this one is below t and passes, and none between passes
abbrev pub IsGreatestBelow : (ℕ → Bool) → ℕ → Option ℕ → Type 0
IsGreatestBelow passes t None = (w : ℕ) → w < t → passes w ≡ false
IsGreatestBelow passes t (Some u) =
    (u < t) × (passes u ≡ true) × ((w : ℕ) → u < w → w < t → passes w ≡ false)

-- A last writer is the greatest earlier entry that writes the cell.
abbrev pub IsLastWriter : Nest → List Point → Type 0
IsLastWriter n points = (t : ℕ) (cell : Cell)
    → IsGreatestBelow (writes_at n points cell) t (last_before n points t cell)

-- the entries of a statement, in order; the first point is entry t
abbrev pub entries_from : ℕ → List Point → ℕ → List ℕ
entries_from t [] s = []
entries_from t (p ∷ points) s =
    if p.statement == s then t ∷ entries_from (t + 1) points s else entries_from (t + 1) points s

abbrev pub entries_of : List Point → ℕ → List ℕ
entries_of points s = entries_from 0 points s

-- the values of a statement's entries in the trace, in order
abbrev pub values_of : Nest → Inputs → ℕ → List ℤ
values_of n d s = map (value_at n d (trace n)) (entries_of (trace n) s)

-- statement s of the nest has this role
abbrev pub HasRole : Nest → ℕ → Role → Type 0
HasRole n s role = slice_get (map (λ statement. statement.role) n.statements) s ≡ Some role

-- The values of a sink's points are the cells of its array in the memory after the nest, in row-major order.
abbrev pub SinksReadCells : Nest → Inputs → Type 0
SinksReadCells n d =
    (s a : ℕ) → HasRole n s (Sink a)
    → values_of n d s ≡ map (λ at. cell_value (exec n d) (a, at)) (all_subscripts (extents_of n a))

-- The values of a sink's points are the list of its array among the arrays after the nest.
abbrev pub SinksGiveArrays : Nest → Inputs → Type 0
SinksGiveArrays n d = (s a : ℕ) → HasRole n s (Sink a)
    → slice_get (arrays n d) a ≡ Some (values_of n d s)

-- one list for each declared array: the values of its sink's points, or none where it has no sink; the first sink has number s
abbrev pub sink_values_from : Nest → Inputs → ℕ → List ArrayDecl → List (List ℤ)
sink_values_from n d s [] = []
sink_values_from n d s (array ∷ arrays) =
    if is_output array.kind then values_of n d s ∷ sink_values_from n d (s + 1) arrays
    else [] ∷ sink_values_from n d s arrays

-- for each declared array the values of its sink's points, or none where it has no sink
abbrev pub sink_values : Nest → Inputs → List (List ℤ)
sink_values n d =
    sink_values_from n d (length n.statements - length (output_numbers n.arrays)) n.arrays
