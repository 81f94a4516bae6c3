-- The context where all tests say yes.
--
-- Each test adds a variable and two rows behind those before it, so the rows before keep their numbers. By induction
-- over the subscripts the tests of a write stand at the places that follow each other, in the context of all of them.
use Rattle.std.proofs.Common.{◌≡◌, ◌+◌, ◌-◌, ◌*◌, ◌^◌, ◌≤◌, ℕ, ℤ, List, []}
use Rattle.std.proofs.Common.{◌∷◌, ◌++◌, length, Bool, cond, refl, sym, ap, ◌∙◌, subst, arith, length-append}
use Rattle.std.specs.Prelude.{Option, Some, None, All, drop, slice_get, is_some}
use Rattle.std.specs.List.{range_with_len}
use Rattle.std.specs.Option.{option_map_or}
use Rattle.std.proofs.lemmas.List.Elements.{All-head, All-tail}
use Rattle.std.proofs.lemmas.Option.{same_Some}
use Rattle.affine_core.specs.declared.form.Form.{Form}
use Rattle.affine_core.specs.Affine.{widened_form}
use Rattle.int_polyhedra.specs.declared.system.System.{System}
use Rattle.int_polyhedra.specs.Systems.{AreOver}
use Rattle.tree_graphs.specs.Contexts.{IsMadeAs}
use Rattle.lex_max.specs.Leaves.{IsMadeFrom}
use Rattle.tree_graphs.proofs.MadeRows.{are_root, AreRoot}
use Rattle.plain_data.proofs.Lists.{slice_get-append_some, slice_get-append_right}
use Rattle.tree_sums.specs.Parts.{IsWithin}
use Rattle.source_tree.specs.Rows.{RowExpr, Take, minus}
use Rattle.source_tree.specs.Systems.{Context, divided_rows, divides_yes, multiple, root_context}
use Rattle.tree_cuts.specs.Class.{stride_of}
use Rattle.stride_trees.specs.Answers.{HasSmallRows}
use Rattle.stride_trees.specs.Contexts.{AreTestsIn, IsTestIn}
use Rattle.stride_trees.specs.Divisions.{divided_context, division_of, divisions_from}
use Rattle.stride_trees.specs.Strides.{depth_of_read, read_of, write_of, IsSmallContext, IsStrided, IsTestOf}
use Rattle.stride_trees.specs.declared.divisions.Division.{Division}
use Rattle.stride_trees.specs.declared.strides.Strides.{Strides}
use Rattle.stride_trees.proofs.ProblemBounds.{are_fitting}
use Rattle.stride_trees.proofs.TestNodes.{yes_small}

-- Rows by their numbers

pub divided_vars : (c : Context) (ds : List Division) → (divided_context c ds).vars ≡ c.vars + length ds
divided_vars c [] = omega arith
divided_vars c (d ∷ ds) =
    omega (arith, divided_vars (divides_yes c (widened_form c.vars d.form) d.divisor) ds)

pub divided_count : (c : Context) (ds : List Division) → length (divided_context c ds).rows ≡ length c.rows + 2 * length ds
divided_count c [] = omega arith
divided_count c (d ∷ ds) = omega (
  arith,
  divided_count (divides_yes c (widened_form c.vars d.form) d.divisor) ds,
  length-append c.rows (divided_rows c.vars (widened_form c.vars d.form) d.divisor),
)

-- the rows before keep their numbers
pub divided_kept : (c : Context) (ds : List Division) (k : ℕ) (e : RowExpr) → slice_get c.rows k ≡ Some e
    → slice_get (divided_context c ds).rows k ≡ Some e
divided_kept c [] k e is = is
divided_kept c (d ∷ ds) k e is =
    divided_kept (divides_yes c (widened_form c.vars d.form) d.divisor) ds k e
    (slice_get-append_some c.rows (divided_rows c.vars (widened_form c.vars d.form) d.divisor) k e is)

-- a test stands behind the rows before it
test_in : (c : Context) (form : Form) (divisor : ℤ) (ds : List Division) (row quotient : ℕ) → length c.rows ≡ row
    → c.vars ≡ quotient
    → IsTestIn (divided_context (divides_yes c (widened_form c.vars form) divisor) ds) row quotient form divisor
test_in c form divisor ds row quotient count vars =
    let next : Context = divides_yes c (widened_form c.vars form) divisor in
    let two : List RowExpr = divided_rows c.vars (widened_form c.vars form) divisor in
    let at : (k n : ℕ) (e : RowExpr) → row + n ≡ k → slice_get two n ≡ Some e → slice_get next.rows k ≡ Some e =
    λ k n e number is. (let here : k ≡ length c.rows + n = omega (arith, number, count) in
    ap (slice_get next.rows) here ∙ slice_get-append_right c.rows two n ∙ is) in
    record {
      inside = omega (arith, divided_vars next ds, vars);
      low = divided_kept next ds row (minus (Take (widened_form quotient form)) (multiple divisor quotient))
          (at row 0 (minus (Take (widened_form quotient form)) (multiple divisor quotient)) (omega arith)
          (ap (λ q. Some (minus (Take (widened_form q form)) (multiple divisor q))) vars));
      high = divided_kept next ds (row + 1) (minus (multiple divisor quotient) (Take (widened_form quotient form)))
          (at (row + 1) 1 (minus (multiple divisor quotient) (Take (widened_form quotient form))) (omega arith)
          (ap (λ q. Some (minus (multiple divisor q) (Take (widened_form q form)))) vars));
    }

-- the places from one on, of the tests of these subscripts
abbrev pub places_from : ℕ → ℕ → List Form → List Form → List ℕ
places_from k number writes reads = range_with_len k (length (divisions_from number writes reads))

-- what the rest of the subscripts come to, in each context
abbrev Rest : ℕ → ℕ → ℕ → List Form → List Form → Type 0
Rest depth root number writes reads =
    (k : ℕ) (c : Context) → c.vars ≡ depth + k → length c.rows ≡ root + 2 * k
    → AreTestsIn (divided_context c (divisions_from number writes reads)) depth root (places_from k number writes reads)
    writes reads

module _ (depth root number : ℕ) (write read : Form) (writes reads : List Form)
    (later : Rest depth root (number + 1) writes reads) (k : ℕ) (c : Context) (vars : c.vars ≡ depth + k)
    (count : length c.rows ≡ root + 2 * k) where
  abbrev rest : List Division
  rest = divisions_from (number + 1) writes reads

  by_stride : (o : Option ℤ) → stride_of write ≡ o
      → AreTestsIn (divided_context c (option_map_or (λ x. division_of number write read x ∷ []) o [] ++ rest)) depth root
      (range_with_len k (length (option_map_or (λ x. division_of number write read x ∷ []) o [] ++ rest)))
      (write ∷ writes) (read ∷ reads)
  by_stride None e = (
    λ x is. absurd (let no : None ≡ Some x = sym e ∙ is in cc),
    subst (λ (b : Bool). AreTestsIn (divided_context c rest) depth root
        (cond b (drop 1 (range_with_len k (length rest))) (range_with_len k (length rest))) writes reads)
        (sym (ap is_some e)) (later k c vars count),
  )
  by_stride (Some x) e =
      let t : Division = division_of number write read x in
      let next : Context = divides_yes c (widened_form c.vars t.form) t.divisor in
      let more : List ℕ = range_with_len (k + 1) (length rest) in (
        λ y is. subst (λ y. IsTestIn (divided_context next rest) (root + 2 * k) (depth + k)
            (division_of 0 write read y).form (division_of 0 write read y).divisor) (same_Some x y (sym e ∙ is))
            (test_in c t.form t.divisor rest (root + 2 * k) (depth + k) count vars),
        subst (λ (b : Bool). AreTestsIn (divided_context next rest) depth root (cond b (drop 1 (k ∷ more)) (k ∷ more))
            writes reads) (sym (ap is_some e))
            (later (k + 1) next (omega (arith, vars))
            (omega (
              arith,
              count,
              length-append c.rows (divided_rows c.vars (widened_form c.vars t.form) t.divisor),
            ))),
      )

  pub next_tests : AreTestsIn (divided_context c (divisions_from number (write ∷ writes) (read ∷ reads))) depth root
      (places_from k number (write ∷ writes) (read ∷ reads)) (write ∷ writes) (read ∷ reads)
  next_tests = by_stride (stride_of write) refl

pub tests_in : (depth root number : ℕ) (writes reads : List Form) → Rest depth root number writes reads
tests_in depth root number [] reads k c vars count = tt
tests_in depth root number (write ∷ writes) [] k c vars count = tt
tests_in depth root number (write ∷ writes) (read ∷ reads) k c vars count =
    next_tests depth root number write read writes reads (tests_in depth root (number + 1) writes reads) k c vars count

-- the context of the tests is small
pub divided_small : (s : Strides) (ds : List Division) (c : Context) (here : ℕ) → IsStrided s → All (IsTestOf s) ds
    → depth_of_read s ≤ c.vars → IsSmallContext c here → IsSmallContext (divided_context c ds) (here + 2 * length ds)
divided_small s [] c here strided tests deep small =
    record {
      rows = small.rows;
      made = small.made;
      count = omega (arith, small.count);
      over = small.over;
      within = small.within;
    }
divided_small s (d ∷ ds) c here strided tests deep small =
    let test : IsTestOf s d = All-head (IsTestOf s) d ds tests in
    let next : IsSmallContext (divides_yes c (widened_form c.vars d.form) d.divisor) (here + 2)
    = yes_small s d here c strided test deep small in
    let last : IsSmallContext (divided_context c (d ∷ ds)) (here + 2 + 2 * length ds)
    = divided_small s ds (divides_yes c (widened_form c.vars d.form) d.divisor) (here + 2) strided (All-tail (IsTestOf s) d ds tests)
    (omega (arith, deep)) next in
    record {
      rows = last.rows;
      made = last.made;
      count = omega (arith, last.count);
      over = last.over;
      within = last.within;
    }

-- As it is made

pub made_from : (c : Context) (context : System) → HasSmallRows context → IsMadeAs context c → IsMadeFrom c context
made_from c context small made = record {
  vars = sym made.vars;
  rows = made.rows;
  over = subst (λ n. AreOver n context.rows) (sym made.vars) small.over;
  within = small.within;
}

-- the reader's domain
module _ (s : Strides) (strided : IsStrided s) (context : System) (vars_is : context.vars ≡ depth_of_read s)
    (rows_is : context.rows ≡ s.read.statement.now.rows) where
  root : AreRoot (depth_of_read s) s.read.statement.now.rows
  root = are_root (depth_of_read s) s.read.statement.now.rows
      (are_fitting s.nest.now (read_of s) (write_of s) s.level strided.strided).reader_rows

  pub root_made : IsMadeAs context (root_context (read_of s))
  root_made = record { vars = sym vars_is; rows = root.made ∙ ap Some (sym rows_is) }

  pub root_small : HasSmallRows context
  root_small = record {
    over = subst (λ n. AreOver n context.rows) (sym vars_is) (subst (AreOver (depth_of_read s)) (sym rows_is) root.over);
    within = subst (All (IsWithin (2 ^ 41))) (sym rows_is) root.within;
  }
