-- Where the rows of a system over quotients come from: rows of the statement's own system, or Cuts of them.
use Rattle.std.specs.Prelude.{ℕ, suc, ◌+◌, ◌*◌, ℤ, pos, negsuc, Bool, List, [], ◌∷◌, ◌++◌, drop, map, length, slice_index_or, unsigned_abs, if◌then◌else◌}
use Rattle.std.specs.List.{list_any, range_with_len}
use Rattle.std.specs.Option.{option_map_or}
use Rattle.std.specs.Int.RustNames.{int_lt}
use Rattle.std.specs.Ordering.{int_eq}
use Rattle.affine_core.specs.declared.form.Form.{Form}
use Rattle.int_polyhedra.specs.declared.system.Proof.{Proof}
use Rattle.int_polyhedra.specs.declared.system.Term.{Term}
use Rattle.int_polyhedra.specs.Steps.{quotient_row}
use Rattle.tree_graphs.specs.Paths.{term_of}
use Rattle.tree_cuts.specs.Class.{is_stride, stride_of}
use Rattle.tree_cuts.specs.Cuts.{converted_sum}
use Rattle.tree_cuts.specs.declared.cuts.Source.{Source}
use Rattle.tree_cuts.specs.declared.cuts.Source.TheVariants.{Own, Added}

-- a domain row, divided by the size of its coefficient outside -1 to 1, if it has one
abbrev pub divided_form : Form → Form
divided_form row = option_map_or (λ c. quotient_row (unsigned_abs c) row) (stride_of row) row

-- the first loop with a coefficient other than 0
abbrev pub loop_of : List ℤ → ℕ
loop_of [] = 0
loop_of (c ∷ cs) = if int_eq c (pos 0) then suc (loop_of cs) else 0

-- what a Cut by the size of c adds: rows of a system, once each
abbrev pub cut_of : ℤ → List ℕ → Source
cut_of c rows = Added (record { divisor = pos (unsigned_abs c); terms = map term_of rows })

-- Where a divided domain row comes from, at a place, or its opposite less 1: the row of the statement has this
-- number.
abbrev pub row_source : Form → ℕ → Source
row_source row number = option_map_or (λ c. cut_of c (number ∷ [])) (stride_of row) (Own number)

-- a coefficient is -1
abbrev pub falls : Form → Bool
falls form = list_any (λ c. int_eq c (negsuc 0)) form.coefs

-- Where a row of a subscript over the loop and the quotient comes from: the row of the statement has this number, and
-- the row of the subscript's test that is added to it the other.
abbrev pub cell_source : Form → ℕ → ℕ → Source
cell_source write row test =
    option_map_or (λ c. cut_of c (row ∷ test ∷ [])) (stride_of write) (Own row)

-- the subscript grows where its loop falls
abbrev pub is_turned : Form → Bool
is_turned write = option_map_or (λ c. int_lt c (pos 0)) (stride_of write) (falls write)

-- Where the rows of a subscript over the loops and quotients come from, that it is no less than the read's and that
-- it is no greater. The rows `write - read` and `read - write` of the statement have these two numbers, and those
-- of the subscript's test stand from `test` on.
abbrev pub cell_sources : Form → ℕ → ℕ → ℕ → List Source
cell_sources write first second test =
    option_map_or
    (λ c. if int_lt (pos 0) c
    then cut_of c (first ∷ test ∷ []) ∷ cut_of c (second ∷ (test + 1) ∷ []) ∷ []
    else cut_of c (second ∷ test ∷ []) ∷ cut_of c (first ∷ (test + 1) ∷ []) ∷ [])
    (stride_of write)
    (if falls write then Own second ∷ Own first ∷ [] else Own first ∷ Own second ∷ [])

-- of all domain rows, from this number on
abbrev pub domain_sources : List Form → ℕ → List Source
domain_sources [] number = []
domain_sources (row ∷ rows) number = row_source row number ∷ domain_sources rows (number + 1)

-- The tests of a write stand at places, one for each of its subscripts with a stride, in order: the next place is the
-- first, and behind a subscript with a stride the others are left. At place i the quotient is the i-th variable behind
-- the reader's loops, and the test's rows are the i-th two behind the reader's domain rows.
abbrev pub next_place : List ℕ → ℕ
next_place places = slice_index_or places 0 0

-- the places that are left behind a subscript of the write
abbrev pub places_behind : Form → List ℕ → List ℕ
places_behind write places = if is_stride write then drop 1 places else places

-- of all subscripts, whose rows stand from a number on; the reader has `root` domain rows
abbrev pub subscript_sources : List Form → ℕ → ℕ → List ℕ → List Source
subscript_sources [] number root places = []
subscript_sources (write ∷ writes) number root places =
    cell_sources write number (number + 1) (root + 2 * next_place places)
    ++ subscript_sources writes (number + 2) root (places_behind write places)

-- so many rows from this number on
abbrev pub own_sources : ℕ → ℕ → List Source
own_sources first count = map Own (range_with_len first count)

-- Of a system of a write before the read, behind so many rows of the context: the writer's domain rows and subscripts,
-- and so many order rows.
abbrev pub sources_behind : List Form → List Form → ℕ → List ℕ → ℕ → ℕ → List Source
sources_behind rows writes root places here more =
    domain_sources rows here
    ++ (subscript_sources writes (here + length rows) root places
    ++ own_sources (here + length rows + 2 * length writes) more)

-- of the whole system
abbrev pub write_sources : List Form → List Form → ℕ → List ℕ → ℕ → ℕ → List Source
write_sources rows writes root places here more =
    own_sources 0 here ++ sources_behind rows writes root places here more

-- a Sum as a proof of a system whose last row comes from a source, behind so many rows of a context
abbrev pub last_converted : Source → ℕ → List Term → Proof
last_converted source here ts = converted_sum (own_sources 0 here ++ source ∷ []) (here + 1) ts

-- Sums of the two rows of a subscript, that it is above the read's and that it is below, as proofs of the systems that
-- the statement's own subscript is
abbrev pub subscript_converted : Form → ℕ → ℕ → List Term → List Term → List Proof
subscript_converted write here test high low =
    if is_turned write
    then last_converted (cell_source write here (test + 1)) here low
    ∷ last_converted (cell_source write here test) here high ∷ []
    else last_converted (cell_source write here test) here high
    ∷ last_converted (cell_source write here (test + 1)) here low ∷ []
