-- What is left below the tests is a problem of differences.
--
-- The domain rows over quotients are differences that bound each loop, and fit. A subscript with a stride or with the
-- coefficient -1 leaves its loop alone, whose coefficient is 1; any other has coefficients 0 and 1 alone. The read's
-- subscript is a quotient, which is one of the variables, or has the read's numbers, the write's constant taken off.
use Rattle.std.proofs.Common.{◌≡◌, ◌==◌, ◌+◌, ◌-◌, ◌^◌, ◌≤◌, ◌<◌, ◌||◌, ◌&&◌, ℕ, zero, suc, ℤ, pos, negsuc, ◌-ℤ◌, List, []}
use Rattle.std.proofs.Common.{◌∷◌, ◌++◌, length, replicate, Bool, true, false, cond, refl, sym, ap, ◌∙◌, subst, arith}
use Rattle.std.specs.Prelude.{Option, Some, None, All, is_some, nat_le, slice_get, unsigned_abs}
use Rattle.std.specs.List.{count_by, find, list_all, list_any}
use Rattle.std.specs.Option.{option_map}
use Rattle.std.proofs.lemmas.Bool.{eq-eqb, le-leb, and_parts, and_from}
use Rattle.std.proofs.lemmas.Int.{ints}
use Rattle.std.proofs.lemmas.List.{length-map}
use Rattle.std.proofs.lemmas.List.Elements.{All-nil, All-cons}
use Rattle.std.proofs.lemmas.Option.{slice_get-map}
use Rattle.affine_core.specs.declared.form.Form.{Form}
use Rattle.affine_core.specs.Affine.{form_product, variable_form, widened_form}
use Rattle.tree_graphs.specs.Problems.{read_with, write_with, AreCells, IsCell, IsProblem}
use Rattle.tree_graphs.specs.Class.{count_of, is_shift}
use Rattle.tree_graphs.specs.Level.{HasLevel}
use Rattle.tree_graphs.proofs.ProblemBounds.{form_is, FormFits}
use Rattle.tree_graphs.proofs.OrderEdges.{variable_over, variable_within}
use Rattle.tree_graphs.proofs.Small.{negative_over, negative_within}
use Rattle.tree_sums.specs.Parts.{IsWithin}
use Rattle.tree_sums.proofs.SmallRows.{widened_length, widened_part}
use Rattle.tree_sums.proofs.Within.{IsWithin-weaker, IsWithin-from_parts, part_of-le}
use Rattle.sanlp.proofs.LoopBounds.{bounded_above}
use Rattle.sanlp.specs.Bounds.{BoundsAbove}
use Rattle.sanlp.specs.declared.nest.Nest.{Nest}
use Rattle.sanlp.specs.WellFormed.{form_fits, is_moderate}
use Rattle.source_tree.specs.Systems.{Context, Occurrence}
use Rattle.tree_cuts.specs.Class.{is_single, is_stride, stride_count, stride_of}
use Rattle.stride_trees.specs.Contexts.{AreTestsIn}
use Rattle.stride_trees.specs.Problem.{problem_read, problem_reads, problem_rows, problem_write, problem_writes, told_read}
use Rattle.stride_trees.specs.Problem.{told_write}
use Rattle.tree_cuts.specs.Sources.{divided_form, falls, loop_of, next_place, places_behind}
use Rattle.stride_trees.specs.Strides.{read_of, write_of, ArePlaces, AreStrided, IsStrided}
use Rattle.stride_trees.specs.declared.strides.Strides.{Strides}
use Rattle.tree_cuts.proofs.Coefficients.{how_many, how_many_is, is_bit, is_less, is_one, is_other, is_outside}
use Rattle.tree_cuts.proofs.Coefficients.{outside_counts}
use Rattle.stride_trees.proofs.DomainDifferences.{divided_bounds, rows_differ, rows_fit}
use Rattle.stride_trees.proofs.ProblemBounds.{are_fitting, AreFitting}
use Rattle.tree_cuts.proofs.Places.{behind_kept, enough_behind, next_kept, stride_has_place}
use Rattle.stride_trees.proofs.NoSystems.{few_others}
use Rattle.tree_cuts.proofs.Singles.{less_counts, loop_inside}
use Rattle.tree_cuts.proofs.RowSources.{counts_all}
use Rattle.stride_trees.proofs.TestForms.{moved_within, widened_test, IsTestForm}

-- The write's subscript

abbrev unit : ℕ → ℕ → List ℤ
unit l k = replicate l (pos 0) ++ pos 1 ∷ replicate k (pos 0)

zeros_bits : (k : ℕ) → list_all is_bit (replicate k (pos 0)) ≡ true
zeros_bits zero = refl
zeros_bits (suc k) = zeros_bits k

unit_bits : (l k : ℕ) → list_all is_bit (unit l k) ≡ true
unit_bits zero k = zeros_bits k
unit_bits (suc l) k = unit_bits l k

zeros_ones : (k : ℕ) → how_many is_one (replicate k (pos 0)) ≡ 0
zeros_ones zero = refl
zeros_ones (suc k) = omega (arith, zeros_ones k)

unit_ones : (l k : ℕ) → how_many is_one (unit l k) ≡ 1
unit_ones zero k = omega (arith, zeros_ones k)
unit_ones (suc l) k = omega (arith, unit_ones l k)

zeros_moderate : (k : ℕ) → list_all is_moderate (replicate k (pos 0)) ≡ true
zeros_moderate zero = refl
zeros_moderate (suc k) = zeros_moderate k

unit_moderate : (l k : ℕ) → list_all is_moderate (unit l k) ≡ true
unit_moderate zero k = zeros_moderate k
unit_moderate (suc l) k = unit_moderate l k

shift_from : (form : Form) → list_all is_bit form.coefs ≡ true → how_many is_one form.coefs ≤ 1 → is_shift form ≡ true
shift_from form bits one =
    and_from (list_all is_bit form.coefs) (nat_le (count_of (pos 1) form) 1) bits
    (le-leb (count_of (pos 1) form) 1 (omega (arith, one, how_many_is is_one form.coefs)))

variable_shift : (n l : ℕ) → is_shift (variable_form n l) ≡ true
variable_shift n l =
    let k : ℕ = n - (l + 1) in
    shift_from (variable_form n l) (unit_bits l k) (omega (arith, unit_ones l k))

variable_fits : (n l : ℕ) → l < n → form_fits n (variable_form n l) ≡ true
variable_fits n l lt =
    let k : ℕ = n - (l + 1) in
    and_from (length (unit l k) == n && is_moderate (pos 0)) (list_all is_moderate (unit l k))
    (and_from (length (unit l k) == n) (is_moderate (pos 0)) (eq-eqb (length (unit l k)) n (variable_over n l lt)) refl)
    (unit_moderate l k)

-- without a stride or a -1 the coefficients are 0 and 1
is_inside : (c : ℤ) → is_outside c ≡ false → is_less c ≡ false → is_bit c ≡ true
is_inside c e f = grind (arith, ints)

bits_from : (cs : List ℤ) → find is_outside cs ≡ None → list_any is_less cs ≡ false → list_all is_bit cs ≡ true
bits_from [] e f = refl
bits_from (c ∷ cs) e f = go (bits_from cs) (is_outside c) (is_less c) refl refl e f where
  go : (find is_outside cs ≡ None → list_any is_less cs ≡ false → list_all is_bit cs ≡ true) → (a b : Bool)
      → is_outside c ≡ a → is_less c ≡ b → cond a (Some c) (find is_outside cs) ≡ None
      → (b || list_any is_less cs) ≡ false → (is_bit c && list_all is_bit cs) ≡ true
  go rest true b is less e f = absurd (let no : Some c ≡ None = e in cc)
  go rest false true is less e f = absurd (let no : true ≡ false = f in cc)
  go rest false false is less e f = and_from (is_bit c) (list_all is_bit cs) (is_inside c is less) (rest e f)

plain_shift : (write : Form) → is_single write ≡ true → stride_of write ≡ None → falls write ≡ false
    → is_shift write ≡ true
plain_shift write single none other =
    shift_from write (bits_from write.coefs none other)
    (omega (arith, counts_all write.coefs, few_others write single))

-- what is left of a subscript
record IsLeft (depth : ℕ) (told : Form) : Type 0 where
  shift : is_shift told ≡ true
  fits : form_fits depth told ≡ true

left_variable : (depth : ℕ) (write : Form) → FormFits depth write → 1 ≤ how_many is_other write.coefs
    → IsLeft depth (variable_form (length write.coefs) (loop_of write.coefs))
left_variable depth write fits some =
    subst (λ n. IsLeft depth (variable_form n (loop_of write.coefs))) (sym fits.over)
    (record {
      shift = variable_shift depth (loop_of write.coefs);
      fits = variable_fits depth (loop_of write.coefs) (omega (arith, loop_inside write.coefs some, fits.over));
    })

-- The read's subscript

record IsRead (vars : ℕ) (constant : ℤ) (told : Form) : Type 0 where
  over : length told.coefs ≡ vars
  within : IsWithin (2 ^ 33 - unsigned_abs constant) told

module _ (depth d vars : ℕ) (write read : Form) (places : List ℕ) (fits : form_fits depth write ≡ true)
    (single : is_single write ≡ true) (read_fits : form_fits d read ≡ true) (le : d ≤ vars)
    (inside : is_stride write ≡ true → d + next_place places < vars) where
  own : FormFits depth write
  own = form_is depth write fits

  other : FormFits d read
  other = form_is d read read_fits

  abbrev quotient : ℕ
  quotient = d + next_place places

  abbrev moved : Form
  moved = record read { constant = read.constant -ℤ write.constant }

  cell_of : (w r : Form) → IsLeft depth w → IsRead vars w.constant r → IsCell vars depth w r
  cell_of w r h k = record { shift = h.shift; fits = h.fits; over = k.over; within = k.within }

  by_stride : is_stride write ≡ true → 1 ≤ how_many is_other write.coefs
      → IsCell vars depth (variable_form (length write.coefs) (loop_of write.coefs)) (variable_form vars quotient)
  by_stride is some =
      cell_of (variable_form (length write.coefs) (loop_of write.coefs)) (variable_form vars quotient)
      (left_variable depth write own some)
      (record {
        over = variable_over vars quotient (inside is);
        within = IsWithin-weaker 1 (2 ^ 33 - 0) (variable_form vars quotient) (omega arith) (variable_within vars quotient);
      })

  by_less : 1 ≤ how_many is_other write.coefs
      → IsCell vars depth (variable_form (length write.coefs) (loop_of write.coefs))
      (widened_form vars (form_product (negsuc 0) moved))
  by_less some =
      let t : IsTestForm d (form_product (negsuc 0) moved) = record {
        over = negative_over moved ∙ other.over;
        within = negative_within (2 ^ 33) moved (moved_within write read own.within other.within);
      } in
      let w : IsTestForm vars (widened_form vars (form_product (negsuc 0) moved)) =
      widened_test d vars (form_product (negsuc 0) moved) le t in
      cell_of (variable_form (length write.coefs) (loop_of write.coefs)) (widened_form vars (form_product (negsuc 0) moved))
      (left_variable depth write own some)
      (record {
        over = w.over;
        within = IsWithin-weaker (2 ^ 33) (2 ^ 33 - 0) (widened_form vars (form_product (negsuc 0) moved)) (omega arith) w.within;
      })

  by_own : stride_of write ≡ None → falls write ≡ false → IsCell vars depth write (widened_form vars read)
  by_own none less =
      let long : length (widened_form vars read).coefs ≡ vars =
      widened_length read.coefs vars (omega (arith, other.over, le)) in
      cell_of write (widened_form vars read) (record { shift = plain_shift write single none less; fits = fits })
      (record {
        over = long;
        within = IsWithin-weaker (2 ^ 32) (2 ^ 33 - unsigned_abs write.constant) (widened_form vars read)
            (omega (arith, own.within.constant))
            (IsWithin-from_parts (2 ^ 32) (widened_form vars read)
            (λ part. omega (arith, ap unsigned_abs (widened_part vars read part), part_of-le (2 ^ 32) read part other.within)));
      })

  by_falls : stride_of write ≡ None → (b : Bool) → falls write ≡ b
      → IsCell vars depth (cond b (variable_form (length write.coefs) (loop_of write.coefs)) write)
      (cond b (widened_form vars (form_product (negsuc 0) moved)) (widened_form vars read))
  by_falls none true is = by_less (less_counts write.coefs is)
  by_falls none false is = by_own none is

  by_kind : (o : Option ℤ) → stride_of write ≡ o
      → IsCell vars depth
      (cond (is_some o || falls write) (variable_form (length write.coefs) (loop_of write.coefs)) write)
      (cond (is_some o) (variable_form vars quotient)
      (cond (falls write) (widened_form vars (form_product (negsuc 0) moved)) (widened_form vars read)))
  by_kind None e = by_falls e (falls write) refl
  by_kind (Some c) e = by_stride (ap is_some e) (outside_counts write.coefs c e)

  pub told_cell : IsCell vars depth (problem_write write) (problem_read vars quotient write read)
  told_cell = by_kind (stride_of write) refl

-- the quotients of subscripts with a stride are among the variables
abbrev pub AreInside : ℕ → ℕ → List ℕ → List Form → Type 0
AreInside vars d places [] = Unit {0}
AreInside vars d places (write ∷ writes) =
    (is_stride write ≡ true → d + next_place places < vars) × AreInside vars d (places_behind write places) writes

pub places_inside : (vars d : ℕ) (places : List ℕ) (writes : List Form) → All (λ i. d + i < vars) places
    → count_by is_stride writes ≤ length places → AreInside vars d places writes
places_inside vars d places [] each enough = tt
places_inside vars d places (write ∷ writes) each enough = (
  λ is. next_kept (λ i. d + i < vars) places (stride_has_place write writes places is enough) each,
  places_inside vars d (places_behind write places) writes (behind_kept (λ i. d + i < vars) write places each)
      (enough_behind write writes places enough),
)

pub tests_inside : (c : Context) (d root : ℕ) (places : List ℕ) (writes reads : List Form) → length writes ≡ length reads
    → AreTestsIn c d root places writes reads → AreInside c.vars d places writes
tests_inside c d root places [] reads even h = tt
tests_inside c d root places (write ∷ writes) [] even h = absurd (omega arith)
tests_inside c d root places (write ∷ writes) (read ∷ reads) even h = (
  λ is. go (stride_of write) refl is,
  tests_inside c d root (places_behind write places) writes reads (omega (arith, even)) h.1,
) where
  go : (o : Option ℤ) → stride_of write ≡ o → is_some o ≡ true → d + next_place places < c.vars
  go None e is = absurd (let no : false ≡ true = is in cc)
  go (Some x) e is = (h.0 x e).inside

pub told_cells : (depth d vars : ℕ) (places : List ℕ) (writes reads : List Form) → length writes ≡ length reads
    → list_all (form_fits depth) writes ≡ true → list_all is_single writes ≡ true
    → list_all (form_fits d) reads ≡ true → d ≤ vars → AreInside vars d places writes
    → AreCells vars depth (problem_writes writes) (problem_reads vars d places writes reads)
told_cells depth d vars places [] [] even fits singles read_fits le inside = tt
told_cells depth d vars places [] (read ∷ reads) even fits singles read_fits le inside = absurd (omega arith)
told_cells depth d vars places (write ∷ writes) [] even fits singles read_fits le inside = absurd (omega arith)
told_cells depth d vars places (write ∷ writes) (read ∷ reads) even fits singles read_fits le inside =
    let f = and_parts (form_fits depth write) (list_all (form_fits depth) writes) fits in
    let s = and_parts (is_single write) (list_all is_single writes) singles in
    let r = and_parts (form_fits d read) (list_all (form_fits d) reads) read_fits in (
      told_cell depth d vars write read places f.0 s.0 r.0 le inside.0,
      told_cells depth d vars (places_behind write places) writes reads (omega (arith, even)) f.1 s.1 r.1 le inside.1,
    )

-- The problem

rows_bound : (forms : List Form) (loop i : ℕ) (row : Form) → slice_get forms i ≡ Some row → BoundsAbove loop row
    → (i : ℕ) × (row : Form) × (slice_get (problem_rows forms) i ≡ Some row) × BoundsAbove loop row
rows_bound forms loop i row is bounds = (
  i,
  divided_form row,
  slice_get-map divided_form forms i ∙ ap (option_map divided_form) is,
  divided_bounds loop row bounds,
)

pub told_problem : (n : Nest) (r w : Occurrence) (p q vars : ℕ) (places : List ℕ) → AreStrided n r w p → HasLevel r w q
    → length r.statement.loops ≤ vars → vars ≤ 12 → All (λ i. length r.statement.loops + i < vars) places
    → stride_count w ≤ length places → IsProblem vars (told_read vars places r w) (told_write w) q
told_problem n r w p q vars places a level reader few each enough =
    let f : AreFitting n r w p = are_fitting n r w p a in
    record {
      few_vars = few;
      reader = reader;
      few_loops = f.few_loops;
      few_rows = omega (arith, length-map w.statement.rows divided_form, f.few_rows);
      rows = rows_fit (length w.statement.loops) w.statement.rows f.rows;
      differences = rows_differ w.statement.rows f.row_kinds;
      bounded = λ loop lt.
          (let b = bounded_above n w.number w.statement loop f.named.is lt in
          ∣ rows_bound w.statement.rows loop b.0 b.1 b.2 b.3 ∣₁);
      few_subscripts = omega (arith, length-map w.access.subscripts problem_write, f.few_subscripts);
      cells = told_cells (length w.statement.loops) (length r.statement.loops) vars places w.access.subscripts
          r.access.subscripts f.even f.writes f.kinds f.reads reader
          (places_inside vars (length r.statement.loops) places w.access.subscripts each enough);
      level = level;
    }

-- What the code asks

-- a subscript that is told as its loop alone has one
pub alone_other : (write : Form) → (is_stride write || falls write) ≡ true → loop_of write.coefs < length write.coefs
alone_other write e = loop_inside write.coefs (go (stride_of write) refl e) where
  go : (o : Option ℤ) → stride_of write ≡ o → (is_some o || falls write) ≡ true → 1 ≤ how_many is_other write.coefs
  go (Some c) is e = outside_counts write.coefs c is
  go None is e = less_counts write.coefs e

pub reads_short : (d vars : ℕ) (reads : List Form) → d ≤ vars → list_all (form_fits d) reads ≡ true
    → All (λ read. length read.coefs ≤ vars) reads
reads_short d vars [] le e = All-nil _
reads_short d vars (read ∷ reads) le e =
    let b = and_parts (form_fits d read) (list_all (form_fits d) reads) e in
    All-cons (λ (read : Form). length read.coefs ≤ vars) read reads
    (omega (arith, (form_is d read b.0).over, le)) (reads_short d vars reads le b.1)

-- the problem at the level, where its rows and subscripts are copied
pub told_level : (s : Strides) → IsStrided s → (vars : ℕ) (places : List ℕ) → ArePlaces s vars places
    → (reads rows writes : List Form) → read_with s.read reads ≡ told_read vars places (read_of s) (write_of s)
    → write_with s.write rows writes ≡ told_write (write_of s)
    → IsProblem vars (read_with s.read reads) (write_with s.write rows writes) s.level
told_level s strided vars places at reads rows writes read write =
    let f : AreFitting s.nest.now (read_of s) (write_of s) s.level =
    are_fitting s.nest.now (read_of s) (write_of s) s.level strided.strided in
    subst (λ r. IsProblem vars r (write_with s.write rows writes) s.level) (sym read)
    (subst (λ w. IsProblem vars (told_read vars places (read_of s) (write_of s)) w s.level) (sym write)
    (told_problem s.nest.now (read_of s) (write_of s) s.level s.level vars places strided.strided strided.strided.level
    at.reader (omega (arith, at.few, f.few_vars)) at.each at.enough))

pub told_reader : (r w : Occurrence) (vars : ℕ) (places : List ℕ) (reads : List Form)
    → reads ≡ problem_reads vars (length r.statement.loops) places w.access.subscripts r.access.subscripts
    → record r { access = record r.access { subscripts = reads } } ≡ told_read vars places r w
told_reader r w vars places reads e = ap (λ forms. record r { access = record r.access { subscripts = forms } }) e

pub told_writer : (w : Occurrence) (rows writes : List Form) → rows ≡ problem_rows w.statement.rows
    → writes ≡ problem_writes w.access.subscripts
    → record w { statement = record w.statement { rows = rows }; access = record w.access { subscripts = writes } }
    ≡ told_write w
told_writer w rows writes e f =
    ap (λ rows. record w { statement = record w.statement { rows = rows }; access = record w.access { subscripts = writes } }) e
    ∙ ap (λ forms. record w {
      statement = record w.statement { rows = problem_rows w.statement.rows };
      access = record w.access { subscripts = forms };
    }) f
