-- Last writers, and values without a memory (Feautrier 1991).
use Rattle.std.specs.Prelude.{ℕ, zero, suc, ℤ, pos, List, [], ◌∷◌, ◌++◌, take, Bool, false, Option, Some, None, slice_get, slice_index_or, unwrap_or, if◌then◌else◌}
use Rattle.std.specs.List.{fold}
use Rattle.std.specs.Option.{option_map, option_map_or, option_and_then}
use Rattle.sanlp.specs.declared.nest.Inputs.{Inputs}
use Rattle.sanlp.specs.declared.nest.Nest.{Nest}
use Rattle.sanlp.specs.declared.nest.Point.{Point}
use Rattle.sanlp.specs.Access.{write_of, reads_of, result_of}
use Rattle.sanlp.specs.Cells.{Cell}
use Rattle.sanlp.specs.Meaning.{execute}
use Rattle.sanlp.specs.Memory.{Memory, is_cell, no_cells}
use Rattle.sanlp.specs.Trace.{trace}

-- whether a point writes this cell
abbrev pub writes : Nest → Point → Cell → Bool
writes n p cell = option_map_or (λ written. is_cell written cell) (write_of n p) false

-- whether entry u writes this cell
abbrev pub writes_at : Nest → List Point → Cell → ℕ → Bool
writes_at n points cell u = option_map_or (λ p. writes n p cell) (slice_get points u) false

-- the greatest number below t that passes, or none
abbrev pub greatest_below : (ℕ → Bool) → ℕ → Option ℕ
greatest_below passes zero = None
greatest_below passes (suc t) = if passes t then Some t else greatest_below passes t

-- the last writer of a cell before entry t: the greatest earlier entry that writes it, or none
unfoldable pub last_before : Nest → List Point → ℕ → Cell → Option ℕ
last_before n points t cell = greatest_below (writes_at n points cell) t

-- the cell of read k of entry t, if there is one
abbrev pub cell_read : Nest → List Point → ℕ → ℕ → Option Cell
cell_read n points t k = option_and_then (λ p. slice_get (reads_of n p) k) (slice_get points t)

-- the last writer of the cell of read k of entry t of the trace, or none
abbrev pub last_writer : Nest → ℕ → ℕ → Option ℕ
last_writer n t k = option_and_then (last_before n (trace n) t) (cell_read n (trace n) t k)

-- what a cell holds where its last writer is known: that entry's value, or 0 where there is none
abbrev pub value_or_zero : List ℤ → Option ℕ → ℤ
value_or_zero values writer =
    unwrap_or (option_map (λ u. slice_index_or values u (pos 0)) writer) (pos 0)

-- The values of the first t entries: each is the expression at the entry's iteration vector, where each read has the
-- value of its last writer, or 0 where there is none.
unfoldable pub values_before : Nest → Inputs → List Point → ℕ → List ℤ
values_before n d points zero = []
values_before n d points (suc t) =
    let values = values_before n d points t in
    values ++ option_map_or
    (λ p. result_of n d p (λ cell. value_or_zero values (last_before n points t cell)))
    (slice_get points t) (pos 0) ∷ []

-- the value of entry t
unfoldable pub value_at : Nest → Inputs → List Point → ℕ → ℤ
value_at n d points t = slice_index_or (values_before n d points (suc t)) t (pos 0)

-- the memory before entry t: the writes of the earlier entries, in order
abbrev pub memory_before : Nest → Inputs → List Point → ℕ → Memory
memory_before n d points t = fold (execute n d) no_cells (take t points)
