-- What is known of a read, of a write to its array and of a level between them, and the problem that they are.
--
-- The nest is well formed, so its statements and accesses fit: at most six loops, 32 rows and six subscripts, with
-- numbers within 2^32. The write is to the read's array, so both have equally many subscripts, and in the class those
-- of the write are shifts and its domain rows differences. All of it is read off the tests that say so.
use Rattle.std.proofs.Common.{◌≡◌, ◌^◌, ◌≤◌, ◌-◌, ◌==◌, ◌&&◌, ℕ, suc, ℤ, List, [], ◌∷◌, length, Bool, true, false}
use Rattle.std.proofs.Common.{cond, refl, sym, ap, ◌∙◌, subst, arith, inl, inr, eqb-true}
use Rattle.std.specs.Prelude.{Option, Some, None, All, slice_get, nat_le, unsigned_abs}
use Rattle.std.specs.List.{list_all}
use Rattle.std.specs.Option.{option_map_or}
use Rattle.std.proofs.lemmas.Bool.{leb-true, and_parts}
use Rattle.std.proofs.lemmas.List.Elements.{All-nil, All-cons}
use Rattle.std.proofs.lemmas.Option.{same_Some, option_and_then_some}
use Rattle.affine_core.specs.declared.form.Form.{Form}
use Rattle.sanlp.proofs.Elements.{list_all_at}
use Rattle.sanlp.proofs.ModerateForms.{moderate_size}
use Rattle.sanlp.proofs.Precedence.{common_first, common_second}
use Rattle.sanlp.proofs.Roles.{Fits, fits_of}
use Rattle.sanlp.specs.declared.nest.Access.{Access}
use Rattle.sanlp.specs.declared.nest.ArrayDecl.{ArrayDecl}
use Rattle.sanlp.specs.declared.nest.Nest.{Nest}
use Rattle.sanlp.specs.declared.nest.Statement.{Statement}
use Rattle.sanlp.specs.Order.{common_loops}
use Rattle.sanlp.specs.WellFormed.{access_fits, form_fits, is_moderate, statement_fits}
use Rattle.tree_graphs.specs.Asked.{read_of, write_of, AreAsked}
use Rattle.tree_graphs.specs.Problems.{read_with, write_with, AreCells, IsProblem}
use Rattle.tree_graphs.specs.declared.writes.Writes.{Writes}
use Rattle.tree_graphs.specs.Class.{is_difference, is_shift}
use Rattle.tree_graphs.specs.Level.{common_of, HasLevel}
use Rattle.tree_sums.specs.Parts.{IsWithin}
use Rattle.tree_sums.proofs.Within.{IsWithin-weaker}
use Rattle.sanlp.proofs.LoopBounds.{bounded_above}
use Rattle.source_tree.specs.declared.reference.Reference.{Reference}
use Rattle.source_tree.specs.Systems.{Occurrence, named_write, write_to}

-- a form of a nest: so many variables, and numbers within 2^32
pub record FormFits (depth : ℕ) (form : Form) : Type 0 where
  pub over : length form.coefs ≡ depth
  pub within : IsWithin (2 ^ 32) form

moderate : (c : ℤ) → is_moderate c ≡ true → unsigned_abs c ≤ 2 ^ 32
moderate c e = omega (arith, moderate_size c e)

all_moderate : (cs : List ℤ) → list_all is_moderate cs ≡ true → All (λ c. unsigned_abs c ≤ 2 ^ 32) cs
all_moderate [] e = All-nil _
all_moderate (c ∷ cs) e =
    let b = and_parts (is_moderate c) (list_all is_moderate cs) e in
    All-cons (λ c. unsigned_abs c ≤ 2 ^ 32) c cs (moderate c b.0) (all_moderate cs b.1)

pub form_is : (depth : ℕ) (form : Form) → form_fits depth form ≡ true → FormFits depth form
form_is depth form e =
    let b = and_parts (length form.coefs == depth && is_moderate form.constant) (list_all is_moderate form.coefs) e in
    let c = and_parts (length form.coefs == depth) (is_moderate form.constant) b.0 in
    record {
      over = eqb-true (length form.coefs) depth c.0;
      within =
          record { constant = moderate form.constant c.1; coefs = all_moderate form.coefs b.1 };
    }

-- an access of a nest
pub record AccessFits (arrays : List ArrayDecl) (depth : ℕ) (access : Access) : Type 0 where
  pub array : ArrayDecl
  pub found : slice_get arrays access.array ≡ Some array
  pub count : length access.subscripts ≡ length array.extents
  pub forms : list_all (form_fits depth) access.subscripts ≡ true

pub access_is : (arrays : List ArrayDecl) (depth : ℕ) (access : Access) → access_fits arrays depth access ≡ true
    → AccessFits arrays depth access
access_is arrays depth access e =
    let b = and_parts (option_map_or (λ (array : ArrayDecl). length access.subscripts == length array.extents)
    (slice_get arrays access.array) false)
    (list_all (form_fits depth) access.subscripts) e in
    go (slice_get arrays access.array) refl b.0 b.1 where
      go : (o : Option ArrayDecl) → slice_get arrays access.array ≡ o
          → option_map_or (λ (array : ArrayDecl). length access.subscripts == length array.extents) o false ≡ true
          → list_all (form_fits depth) access.subscripts ≡ true → AccessFits arrays depth access
      go None is e f = absurd (let h : false ≡ true = e in cc)
      go (Some array) is e f = record {
        array = array;
        found = is;
        count =
            eqb-true (length access.subscripts) (length array.extents) e;
        forms = f;
      }

-- a write that a leaf may name
pub record IsNamed (n : Nest) (r w : Occurrence) : Type 0 where
  pub is : slice_get n.statements w.number ≡ Some w.statement
  pub write_is : w.statement.write ≡ Some w.access
  pub array : w.access.array ≡ r.access.array

pub named_is : (n : Nest) (r w : Occurrence) → named_write n r w.number ≡ Some w → IsNamed n r w
named_is n r w e =
    option_and_then_some (write_to r.access.array w.number) (slice_get n.statements w.number) w e
    (λ s found written. option_and_then_some (λ (access : Access). cond (access.array == r.access.array)
    (Some (record { number = w.number; statement = s; access = access })) None) s.write w written
    (λ access write_is kept. go s access (access.array == r.access.array) refl found write_is kept)) where
      go : (s : Statement) (access : Access) (b : Bool) → (access.array == r.access.array) ≡ b
          → slice_get n.statements w.number ≡ Some s → s.write ≡ Some access
          → cond b (Some (record { number = w.number; statement = s; access = access })) None ≡ Some w → IsNamed n r w
      go s access false e found write_is kept = absurd (let h : None ≡ Some w = kept in cc)
      go s access true e found write_is kept =
          let same : record { number = w.number; statement = s; access = access } ≡ w =
          same_Some (record { number = w.number; statement = s; access = access }) w kept in
          let statement : s ≡ w.statement = ap (λ (w : Occurrence). w.statement) same in
          let written : access ≡ w.access = ap (λ (w : Occurrence). w.access) same in
          record {
            is = found ∙ ap Some statement;
            write_is = ap (λ (s : Statement). s.write) (sym statement) ∙ write_is ∙ ap Some written;
            array = ap (λ (a : Access). a.array) (sym written) ∙ eqb-true access.array r.access.array e;
          }

-- all that is known, where the write's subscripts and its domain rows are forms of these kinds
pub record FitWith (is_write is_row : Form → Bool) (n : Nest) (r w : Occurrence) (p : ℕ) : Type 0 where
  pub named : IsNamed n r w
  pub few_vars : length r.statement.loops ≤ 6
  pub few_loops : length w.statement.loops ≤ 6
  pub few_rows : length w.statement.rows ≤ 32
  pub few_reader_rows : length r.statement.rows ≤ 32
  pub rows : list_all (form_fits (length w.statement.loops)) w.statement.rows ≡ true
  pub reader_rows : list_all (form_fits (length r.statement.loops)) r.statement.rows ≡ true
  pub writes : list_all (form_fits (length w.statement.loops)) w.access.subscripts ≡ true
  pub reads : list_all (form_fits (length r.statement.loops)) r.access.subscripts ≡ true
  pub few_subscripts : length w.access.subscripts ≤ 6
  pub even : length w.access.subscripts ≡ length r.access.subscripts
  pub kinds : list_all is_write w.access.subscripts ≡ true
  pub row_kinds : list_all is_row w.statement.rows ≡ true
  pub common_vars : common_of w r ≤ length r.statement.loops
  pub common_loops : common_of w r ≤ length w.statement.loops
  pub level : p ≤ common_of w r

pub fit_with : (is_write is_row : Form → Bool) (n : Nest) (r w : Occurrence) (p k : ℕ)
    → slice_get n.statements r.number ≡ Some r.statement → slice_get r.statement.reads k ≡ Some r.access
    → named_write n r w.number ≡ Some w → HasLevel r w p
    → (list_all is_write w.access.subscripts && list_all is_row w.statement.rows) ≡ true
    → FitWith is_write is_row n r w p
fit_with is_write is_row n r w p k reader read_is write_is at kinds =
    let named : IsNamed n r w = named_is n r w write_is in
    let reading : Fits n.arrays r.statement = fits_of n.arrays r.statement
    (list_all_at (statement_fits n.arrays) n.statements r.number r.statement n.well_formed.statements_fit reader)
    in
    let writing : Fits n.arrays w.statement = fits_of n.arrays w.statement
    (list_all_at (statement_fits n.arrays) n.statements w.number w.statement n.well_formed.statements_fit named.is)
    in
    let read : AccessFits n.arrays (length r.statement.loops) r.access
    = access_is n.arrays (length r.statement.loops) r.access
    (list_all_at (access_fits n.arrays (length r.statement.loops)) r.statement.reads k r.access
    reading.reads_fit read_is) in
    let written : option_map_or (access_fits n.arrays (length w.statement.loops)) (Some w.access) true ≡ true
    = subst (λ o. option_map_or (access_fits n.arrays (length w.statement.loops)) o true ≡ true) named.write_is
    writing.write_fits in
    let write : AccessFits n.arrays (length w.statement.loops) w.access =
    access_is n.arrays (length w.statement.loops) w.access written in
    let one_array : write.array ≡ read.array =
    same_Some write.array read.array (sym write.found ∙ ap (slice_get n.arrays) named.array ∙ read.found) in
    let extents : length write.array.extents ≤ 6
    = leb-true (length write.array.extents) 6 (list_all_at (λ (array : ArrayDecl). nat_le (length array.extents) 6)
    n.arrays w.access.array write.array n.well_formed.few_extents write.found) in
    let b = and_parts (list_all is_write w.access.subscripts) (list_all is_row w.statement.rows) kinds in
    record {
      named = named;
      few_vars = leb-true (length r.statement.loops) 6 reading.few_loops;
      few_loops = leb-true (length w.statement.loops) 6 writing.few_loops;
      few_rows = leb-true (length w.statement.rows) 32 writing.few_rows;
      few_reader_rows = leb-true (length r.statement.rows) 32 reading.few_rows;
      rows = writing.rows_fit;
      reader_rows = reading.rows_fit;
      writes = write.forms;
      reads = read.forms;
      few_subscripts = omega (arith, write.count, extents);
      even = write.count ∙ ap (λ (array : ArrayDecl). length array.extents) one_array ∙ sym read.count;
      kinds = b.0;
      row_kinds = b.1;
      common_vars = common_second w.statement.loops r.statement.loops;
      common_loops = common_first w.statement.loops r.statement.loops;
      level = elim at [ inl lt ↦ omega arith | inr last ↦ (let e : p ≡ common_of w r = last.0 in omega (arith, e)) ];
    }

abbrev pub AreFitting : Nest → Occurrence → Occurrence → ℕ → Type 0
AreFitting = FitWith is_shift is_difference

pub are_fitting : (n : Nest) (r w : Occurrence) (p : ℕ) → AreAsked n r w p → AreFitting n r w p
are_fitting n r w p a =
    fit_with is_shift is_difference n r w p a.read.0 a.reader a.read.1 a.write a.level a.differences

-- The problem that such a read is

pub cells_are : (vars depth : ℕ) (writes reads : List Form) → length writes ≡ length reads
    → list_all is_shift writes ≡ true → list_all (form_fits depth) writes ≡ true
    → list_all (form_fits vars) reads ≡ true → AreCells vars depth writes reads
cells_are vars depth [] [] even shifts fit reads_fit = tt
cells_are vars depth [] (read ∷ reads) even shifts fit reads_fit = absurd (omega arith)
cells_are vars depth (write ∷ writes) [] even shifts fit reads_fit = absurd (omega arith)
cells_are vars depth (write ∷ writes) (read ∷ reads) even shifts fit reads_fit =
    let s = and_parts (is_shift write) (list_all is_shift writes) shifts in
    let f = and_parts (form_fits depth write) (list_all (form_fits depth) writes) fit in
    let r = and_parts (form_fits vars read) (list_all (form_fits vars) reads) reads_fit in
    let own : FormFits depth write = form_is depth write f.0 in
    let other : FormFits vars read = form_is vars read r.0 in (
      record {
        shift = s.0;
        fits = f.0;
        over = other.over;
        within = IsWithin-weaker (2 ^ 32) (2 ^ 33 - unsigned_abs write.constant) read
            (omega (arith, own.within.constant)) other.within;
      },
      cells_are vars depth writes reads (omega (arith, even)) s.1 f.1 r.1,
    )

pub problem_of : (n : Nest) (r w : Occurrence) (p : ℕ) → AreAsked n r w p
    → IsProblem (length r.statement.loops) r w p
problem_of n r w p a =
    let f : AreFitting n r w p = are_fitting n r w p a in
    record {
      few_vars = omega (arith, f.few_vars);
      reader = omega arith;
      few_loops = f.few_loops;
      few_rows = f.few_rows;
      rows = f.rows;
      differences = f.row_kinds;
      bounded = λ loop lt. ∣ bounded_above n w.number w.statement loop f.named.is lt ∣₁;
      few_subscripts = f.few_subscripts;
      cells = cells_are (length r.statement.loops) (length w.statement.loops) w.access.subscripts r.access.subscripts
          f.even f.kinds f.writes f.reads;
      level = a.level;
    }

-- What is known of a problem

pub cells_even : (vars depth : ℕ) (writes reads : List Form) → AreCells vars depth writes reads → length writes
    ≡ length reads
cells_even vars depth [] [] h = refl
cells_even vars depth [] (read ∷ reads) h = absurd h
cells_even vars depth (write ∷ writes) [] h = absurd h
cells_even vars depth (write ∷ writes) (read ∷ reads) h = ap suc (cells_even vars depth writes reads h.1)

pub record IsKnown (vars : ℕ) (r w : Occurrence) (p : ℕ) : Type 0 where
  pub few_vars : vars ≤ 12
  pub few_loops : length w.statement.loops ≤ 6
  pub few_rows : length w.statement.rows ≤ 32
  pub rows : list_all (form_fits (length w.statement.loops)) w.statement.rows ≡ true
  pub differences : list_all is_difference w.statement.rows ≡ true
  pub few_subscripts : length w.access.subscripts ≤ 6
  pub cells : AreCells vars (length w.statement.loops) w.access.subscripts r.access.subscripts
  pub even : length w.access.subscripts ≡ length r.access.subscripts
  pub reader : length r.statement.loops ≤ vars
  pub common_vars : common_of w r ≤ length r.statement.loops
  pub common_within : common_of w r ≤ vars
  pub common_loops : common_of w r ≤ length w.statement.loops
  pub level : p ≤ common_of w r

pub known_of : (vars : ℕ) (r w : Occurrence) (p : ℕ) → IsProblem vars r w p → IsKnown vars r w p
known_of vars r w p a =
    let inside : common_of w r ≤ length r.statement.loops = common_second w.statement.loops r.statement.loops in
    record {
      few_vars = a.few_vars;
      few_loops = a.few_loops;
      few_rows = a.few_rows;
      rows = a.rows;
      differences = a.differences;
      few_subscripts = a.few_subscripts;
      cells = a.cells;
      even = cells_even vars (length w.statement.loops) w.access.subscripts r.access.subscripts a.cells;
      reader = a.reader;
      common_vars = inside;
      common_within = omega (arith, inside, a.reader);
      common_loops = common_first w.statement.loops r.statement.loops;
      level = elim a.level [ inl lt ↦ omega arith | inr at ↦ (let e : p ≡ common_of w r = at.0 in omega (arith, e)) ];
    }

pub writes_fit : (w : Writes) → IsKnown w.vars (read_of w) (write_of w) w.level
writes_fit w = known_of w.vars (read_of w) (write_of w) w.level w.problem

-- no statement has more than 6 loops
pub few_common : (w : Writes) → w.common ≤ 6
few_common w = let f = writes_fit w in omega (arith, f.common_loops, f.few_loops, w.loops)

pub few_levels : (w : Writes) → w.level ≤ 6
few_levels w = let f = writes_fit w in omega (arith, f.level, f.common_loops, f.few_loops)

-- a problem stays one where its rows and subscripts are copied
pub same_problem : (vars p : ℕ) (read write : Reference) (reads rows writes own_reads own_rows own_writes : List Form)
    → reads ≡ own_reads → rows ≡ own_rows → writes ≡ own_writes
    → IsProblem vars (read_with read own_reads) (write_with write own_rows own_writes) p
    → IsProblem vars (read_with read reads) (write_with write rows writes) p
same_problem vars p read write reads rows writes own_reads own_rows own_writes e f g h =
    subst (λ reads. IsProblem vars (read_with read reads) (write_with write rows writes) p) (sym e)
    (subst (λ rows. IsProblem vars (read_with read own_reads) (write_with write rows writes) p) (sym f)
    (subst (λ writes. IsProblem vars (read_with read own_reads) (write_with write own_rows writes) p) (sym g) h))
