-- A writer's tests in a context below all answers.
--
-- Where none of its tests says no by its form alone, each has a place, where a test of the same form and divisor was
-- answered. So where all answers at its places are yes, the rows of its own tests stand at their places, subscript by
-- subscript; and where one of them is no, that one's do.
use Rattle.std.proofs.Common.{◌≡◌, ◌+◌, ◌*◌, ◌<◌, ℕ, zero, suc, ℤ, List, [], ◌∷◌, ◌++◌, length, Bool, true, false}
use Rattle.std.proofs.Common.{◌==◌, ◌≤◌, inl, inr, cond, refl, sym, ap, ◌∙◌, subst, arith, eqb-true}
use Rattle.std.specs.Prelude.{Option, Some, None, drop, is_some, slice_get}
use Rattle.std.specs.List.{AllZip, list_all, list_any}
use Rattle.std.specs.Option.{option_map_or}
use Rattle.std.proofs.lemmas.Bool.{and_parts, cases_Bool, eq-eqb, or_from, or_parts}
use Rattle.std.proofs.lemmas.Option.{same_Some, slice_get_within}
use Rattle.affine_core.specs.declared.form.Form.{Form}
use Rattle.affine_core.specs.Affine.{widened_form}
use Rattle.stride_trees.specs.Leaves.{answer_at, is_told, HasWriter, IsRefusalAmong}
use Rattle.stride_trees.specs.Writers.{asked, is_never, no_place, unasked, IsPlaceOf, IsTestAt}
use Rattle.stride_trees.specs.declared.leaves.Refusal.{Refusal}
use Rattle.stride_trees.specs.declared.writers.Writer.{Writer}
use Rattle.stride_trees.proofs.Below.{answer_rows}
use Rattle.source_tree.specs.Rows.{RowExpr, Take, minus}
use Rattle.source_tree.specs.Systems.{Context, multiple, undivided_rows}
use Rattle.tree_cuts.specs.Class.{stride_of}
use Rattle.stride_trees.specs.Contexts.{AreTestsIn, IsTestIn}
use Rattle.stride_trees.specs.Divisions.{division_of, divisions_from}
use Rattle.stride_trees.specs.declared.divisions.Division.{Division}

-- Writers of whose tests none says no by its form alone

no_answer : (answers : List Bool) (place : ℕ) → length answers ≤ place → answer_at answers place ≡ false
no_answer [] place le = refl
no_answer (answer ∷ answers) zero le = absurd (omega (arith, le))
no_answer (answer ∷ answers) (suc place) le = no_answer answers place (omega (arith, le))

-- where all answers at its places are yes, it is such
pub told_asked : (answers : List Bool) (x : Writer) → length answers ≤ no_place → is_told answers x ≡ true
    → is_never x ≡ false
told_asked answers x few = go x.places where
  go : (places : List ℕ) → list_all (answer_at answers) places ≡ true → list_any (λ place. place == no_place) places ≡ false
  go [] says = refl
  go (place ∷ places) says =
      let b = and_parts (answer_at answers place) (list_all (answer_at answers) places) says in
      or_from (place == no_place) (list_any (λ place. place == no_place) places) (other place b.0) (go places b.1) where
        other : (place : ℕ) → answer_at answers place ≡ true → (place == no_place) ≡ false
        other place says = elim (cases_Bool (place == no_place)) [
          | inl same ↦ absurd (let no : false ≡ true = sym (no_answer answers no_place few)
              ∙ ap (answer_at answers) (sym (eqb-true place no_place same)) ∙ says in cc)
          | inr differs ↦ differs
        ]

pub asked_at : (tests : List Division) (d : Division) (place : ℕ) → (place == no_place) ≡ false → IsPlaceOf tests d place
    → IsTestAt tests d place
asked_at tests d place other (asked at) = at
asked_at tests d place other (unasked never same) =
    absurd (let no : true ≡ false = sym (eq-eqb place no_place same) ∙ other in cc)

-- and each of its places is that of a test that is asked
pub tests_asked : (tests ds : List Division) (places : List ℕ) → list_any (λ place. place == no_place) places ≡ false
    → AllZip (IsPlaceOf tests) ds places → AllZip (IsTestAt tests) ds places
tests_asked tests [] [] none at = tt
tests_asked tests [] (place ∷ places) none at = absurd at
tests_asked tests (d ∷ ds) [] none at = absurd at
tests_asked tests (d ∷ ds) (place ∷ places) none at =
    let n = or_parts (place == no_place) (list_any (λ place. place == no_place) places) none in
    (asked_at tests d place n.0 at.0, tests_asked tests ds places n.1 at.1)

-- the rows of all answers stand in the context, behind so many rows and variables
pub record HasAnswers (c : Context) (depth root : ℕ) (tests : List Division) (answers : List Bool) : Type 0 where
  pub inside : (k : ℕ) → k < length tests → depth + k < c.vars
  pub row : (k i : ℕ) (test : Division) (answer : Bool) (e : RowExpr) → slice_get tests k ≡ Some test
      → slice_get answers k ≡ Some answer → slice_get (answer_rows (depth + k) test answer) i ≡ Some e
      → slice_get c.rows (root + (2 * k + i)) ≡ Some e

pub is_yes : (answers : List Bool) (place : ℕ) → answer_at answers place ≡ true → slice_get answers place ≡ Some true
is_yes [] place e = absurd (let no : false ≡ true = e in cc)
is_yes (answer ∷ answers) zero e = ap Some e
is_yes (answer ∷ answers) (suc place) e = is_yes answers place e

pub is_no : (answers : List Bool) (place : ℕ) → place < length answers → answer_at answers place ≡ false
    → slice_get answers place ≡ Some false
is_no [] place lt e = absurd (omega (arith, lt))
is_no (answer ∷ answers) zero lt e = ap Some e
is_no (answer ∷ answers) (suc place) lt e = is_no answers place (omega (arith, lt)) e

-- the rows of a test that was answered with no
pub record IsNoTestIn (c : Context) (depth root : ℕ) (d : Division) (place : ℕ) : Type 0 where
  pub inside : depth + place < c.vars
  pub first : slice_get c.rows (root + 2 * place)
      ≡ slice_get (undivided_rows (depth + place) (widened_form (depth + place) d.form) d.divisor) 0
  pub second : slice_get c.rows (root + 2 * place + 1)
      ≡ slice_get (undivided_rows (depth + place) (widened_form (depth + place) d.form) d.divisor) 1

module _ (c : Context) (depth root : ℕ) (tests : List Division) (answers : List Bool)
    (has : HasAnswers c depth root tests answers) where
  -- a test that was answered with yes
  pub test_in : (d : Division) (place : ℕ) → IsTestAt tests d place → answer_at answers place ≡ true
      → IsTestIn c (root + 2 * place) (depth + place) d.form d.divisor
  test_in d place at says =
      let q : ℕ = depth + place in
      let answer : slice_get answers place ≡ Some true = is_yes answers place says in
      let here : root + (2 * place + 0) ≡ root + 2 * place = omega arith in
      let next : root + (2 * place + 1) ≡ root + 2 * place + 1 = omega arith in
      record {
        inside = has.inside place (slice_get_within tests place at.test at.is);
        low = ap (slice_get c.rows) (sym here)
            ∙ has.row place 0 at.test true (minus (Take (widened_form q at.test.form)) (multiple at.test.divisor q))
            at.is answer refl
            ∙ ap (λ form. Some (minus (Take (widened_form q form)) (multiple at.test.divisor q))) at.form
            ∙ ap (λ divisor. Some (minus (Take (widened_form q d.form)) (multiple divisor q))) at.divisor;
        high = ap (slice_get c.rows) (sym next)
            ∙ has.row place 1 at.test true (minus (multiple at.test.divisor q) (Take (widened_form q at.test.form)))
            at.is answer refl
            ∙ ap (λ form. Some (minus (multiple at.test.divisor q) (Take (widened_form q form)))) at.form
            ∙ ap (λ divisor. Some (minus (multiple divisor q) (Take (widened_form q d.form)))) at.divisor;
      }

  -- all tests of a writer
  pub tests_in : (number : ℕ) (places : List ℕ) (writes reads : List Form)
      → AllZip (IsTestAt tests) (divisions_from number writes reads) places
      → list_all (answer_at answers) places ≡ true → AreTestsIn c depth root places writes reads
  tests_in number places [] reads at says = tt
  tests_in number places (write ∷ writes) [] at says = tt
  tests_in number places (write ∷ writes) (read ∷ reads) at says =
      go (stride_of write) refl places at says (λ left. tests_in (number + 1) left writes reads) where
        go : (o : Option ℤ) → stride_of write ≡ o → (places : List ℕ)
            → AllZip (IsTestAt tests)
            (option_map_or (λ x. division_of number write read x ∷ []) o [] ++ divisions_from (number + 1) writes reads)
            places
            → list_all (answer_at answers) places ≡ true
            → ((left : List ℕ) → AllZip (IsTestAt tests) (divisions_from (number + 1) writes reads) left
            → list_all (answer_at answers) left ≡ true → AreTestsIn c depth root left writes reads)
            → AreTestsIn c depth root places (write ∷ writes) (read ∷ reads)
        go None e places at says rest = (
          λ x is. absurd (let none : None ≡ Some x = sym e ∙ is in cc),
          subst (λ (b : Bool). AreTestsIn c depth root (cond b (drop 1 places) places) writes reads)
              (sym (ap is_some e)) (rest places at says),
        )
        go (Some x) e [] at says rest = absurd at
        go (Some x) e (place ∷ places) at says rest =
            let b = and_parts (answer_at answers place) (list_all (answer_at answers) places) says in (
              λ y is. subst (λ y. IsTestIn c (root + 2 * place) (depth + place) (division_of 0 write read y).form
                  (division_of 0 write read y).divisor) (same_Some x y (sym e ∙ is))
                  (test_in (division_of number write read x) place at.0 b.0),
              subst (λ (b : Bool). AreTestsIn c depth root (cond b (drop 1 (place ∷ places)) (place ∷ places)) writes reads)
                  (sym (ap is_some e)) (rest places at.1 b.1),
            )

  -- a test that was answered with no
  pub no_test_in : (d : Division) (place : ℕ) → length answers ≡ length tests → IsTestAt tests d place
      → answer_at answers place ≡ false → IsNoTestIn c depth root d place
  no_test_in d place all at denies =
      let q : ℕ = depth + place in
      let within : place < length tests = slice_get_within tests place at.test at.is in
      let answer : slice_get answers place ≡ Some false = is_no answers place (omega (arith, within, all)) denies in
      let here : root + (2 * place + 0) ≡ root + 2 * place = omega arith in
      let next : root + (2 * place + 1) ≡ root + 2 * place + 1 = omega arith in
      record {
        inside = has.inside place within;
        first = ap (slice_get c.rows) (sym here) ∙ has.row place 0 at.test false _ at.is answer refl
            ∙ ap (λ form. slice_get (undivided_rows q (widened_form q form) at.test.divisor) 0) at.form
            ∙ ap (λ divisor. slice_get (undivided_rows q (widened_form q d.form) divisor) 0) at.divisor;
        second = ap (slice_get c.rows) (sym next) ∙ has.row place 1 at.test false _ at.is answer refl
            ∙ ap (λ form. slice_get (undivided_rows q (widened_form q form) at.test.divisor) 1) at.form
            ∙ ap (λ divisor. slice_get (undivided_rows q (widened_form q d.form) divisor) 1) at.divisor;
      }

-- Writers and tests by their places

pub has_behind : (w : Writer) (ws : List Writer) (number : ℕ) → HasWriter (w ∷ ws) number
    → (w.strides.write.number ≡ number → ⊥) → HasWriter ws number
has_behind w ws number (x, (zero, lt, is), e) other =
    absurd (other (ap (λ (w : Writer). w.strides.write.number) is ∙ e))
has_behind w ws number (x, (suc k, lt, is), e) other = (x, (k, omega (arith, lt), is), e)

pub refusal_behind : (answers : List Bool) (d : Division) (p : ℕ) (ds : List Division) (ps : List ℕ) (refusal : Refusal)
    → IsRefusalAmong answers ds ps refusal → IsRefusalAmong answers (d ∷ ds) (p ∷ ps) refusal
refusal_behind answers d p ds ps refusal h =
    record { number = suc h.number; division = h.division; place = h.place; no = h.no }
