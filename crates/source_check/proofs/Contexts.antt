-- The context at the end of a path, test by test.
--
-- A path is a chain of the tests on the way to a part of the tree, the last one first. Its rows are those of the chain
-- before its last test, and then those of that test; so the contexts of the two trees below a test are those of the
-- paths with that test at their end. The code makes the rows in that order, from the root on, over as many variables as
-- it is asked for: the rows of a path don't depend on how many there are.
use Rattle.std.proofs.Common.{◌≡◌, ◌+◌, ℕ, ℤ, List, [], ◌∷◌, ◌++◌, map, Bool, true, false, sym, ap, ◌∙◌, Bor}
use Rattle.std.specs.Prelude.{Option, Some}
use Rattle.affine_core.specs.declared.form.Form.{Form}
use Rattle.affine_core.specs.Affine.{constant_form, variable_form}
use Rattle.int_polyhedra.specs.declared.system.System.{System}
use Rattle.source_check.specs.declared.path.Path.{Path}
use Rattle.source_check.specs.declared.path.Path.TheOpen as layer
use Rattle.source_check.specs.declared.path.Path.TheViews.{Test, Divides, rolls-Root, rolls-Test, rolls-Divides}
use Rattle.source_check.specs.declared.path.Path.TheVariants.{Root}
use Rattle.source_check.specs.declared.path.Path.TheFolds.{fold-roll-Path}
use Rattle.source_tree.specs.declared.reference.Reference.{Reference}
use Rattle.source_check.specs.Making.{forms_of, minus_of, one_less_of, plus_of, system_with}
use Rattle.source_check.specs.Making.{system_with_all, times_of}
use Rattle.source_check.specs.Paths.{test_rows, quotient_rows, path_step, path_rows, context_of}
use Rattle.source_check.specs.Verdict.{made_system}
use Rattle.source_check.proofs.SystemRows.{one_less_made, system_all}
use Rattle.source_tree.specs.Rows.{RowExpr, Take, Plus, row_form, number, one_less, minus}
use Rattle.source_tree.specs.Systems.{Context, more_rows, multiple, one_more}
use Rattle.source_tree.proofs.RowLists.{row_form-number}

module _ (reader : List Form) where
  pub path_root : path_rows reader Root ≡ map Take reader
  path_root = ap (path_rows reader) (sym rolls-Root) ∙ fold-roll-Path (List RowExpr) (path_step reader) layer.Root

  pub path_test : (above : Bor Path) (form : Bor Form) (answer : Bool)
      → path_rows reader (Test above form answer) ≡ path_rows reader above.now ++ test_rows form.now answer
  path_test above form answer =
      ap (path_rows reader) (sym (rolls-Test above form answer))
      ∙ fold-roll-Path (List RowExpr) (path_step reader) (layer.Test above form answer)

  pub path_divides : (above : Bor Path) (form : Bor Form) (d : ℤ) (q : ℕ) (answer : Bool)
      → path_rows reader (Divides above form d q answer)
      ≡ path_rows reader above.now ++ quotient_rows q form.now d answer
  path_divides above form d q answer =
      ap (path_rows reader) (sym (rolls-Divides above form d q answer))
      ∙ fold-roll-Path (List RowExpr) (path_step reader) (layer.Divides above form d q answer)

abbrev over : ℕ → List RowExpr → Context
over vars rows = record { vars = vars; rows = rows }

pub below_test : (r : Reference) (vars : ℕ) (path : Path) (above : Bor Path) (form : Bor Form) (answer : Bool)
    (c : Context) → above.now ≡ path → c ≡ context_of r vars path
    → more_rows c (test_rows form.now answer) ≡ context_of r vars (Test above form answer)
below_test r vars path above form answer c same is =
    ap (λ (c : Context). more_rows c (test_rows form.now answer)) is
    ∙ ap (λ path. over vars (path_rows r.statement.now.rows path ++ test_rows form.now answer)) (sym same)
    ∙ ap (over vars) (sym (path_test r.statement.now.rows above form answer))

pub below_divides : (r : Reference) (vars : ℕ) (path : Path) (above : Bor Path) (form : Bor Form) (d d' : ℤ)
    (answer : Bool) (c : Context) → d' ≡ d → above.now ≡ path
    → c ≡ context_of r vars path
    → one_more c (quotient_rows c.vars form.now d answer) ≡ context_of r (vars + 1) (Divides above form d' vars answer)
below_divides r vars path above form d d' answer c divisor same is =
    ap (λ d. one_more c (quotient_rows c.vars form.now d answer)) (sym divisor)
    ∙ ap (λ (c : Context). one_more c (quotient_rows c.vars form.now d' answer)) is
    ∙ ap (λ path. over (vars + 1) (path_rows r.statement.now.rows path ++ quotient_rows vars form.now d' answer))
    (sym same)
    ∙ ap (over (vars + 1)) (sym (path_divides r.statement.now.rows above form d' vars answer))

-- the systems at the end of a path
module _ (vars : ℕ) (reader : List Form) where
  pub system_root : (system : Option System) → system ≡ made_system vars []
      → system_with_all system (forms_of vars (map Take reader)) ≡ made_system vars (path_rows reader Root)
  system_root system is =
      ap (λ s. system_with_all s (forms_of vars (map Take reader))) is ∙ system_all vars [] (map Take reader)
      ∙ ap (made_system vars) (sym (path_root reader))

  pub system_test : (above : Bor Path) (form : Bor Form) (answer : Bool) (system : Option System)
      → system ≡ made_system vars (path_rows reader above.now)
      → system_with_all system (forms_of vars (test_rows form.now answer))
      ≡ made_system vars (path_rows reader (Test above form answer))
  system_test above form answer system is =
      ap (λ s. system_with_all s (forms_of vars (test_rows form.now answer))) is
      ∙ system_all vars (path_rows reader above.now) (test_rows form.now answer)
      ∙ ap (made_system vars) (sym (path_test reader above form answer))

  pub system_divides : (above : Bor Path) (form : Bor Form) (d : ℤ) (q : ℕ) (answer : Bool) (system : Option System)
      → system ≡ made_system vars (path_rows reader above.now)
      → system_with_all system (forms_of vars (quotient_rows q form.now d answer))
      ≡ made_system vars (path_rows reader (Divides above form d q answer))
  system_divides above form d q answer system is =
      ap (λ s. system_with_all s (forms_of vars (quotient_rows q form.now d answer))) is
      ∙ system_all vars (path_rows reader above.now) (quotient_rows q form.now d answer)
      ∙ ap (made_system vars) (sym (path_divides reader above form d q answer))

-- with what a test answered
module _ (vars : ℕ) (system : Option System) (form : Form) where
  module _ (d : ℤ) (q : ℕ) (answer : Bool) (value variable multiple_form : Option Form)
      (value_is : value ≡ row_form vars (Take form))
      (variable_is : variable ≡ row_form vars (Take (variable_form (q + 1) q)))
      (multiple_is : multiple_form ≡ times_of d variable) where
    abbrev taken : Option Form
    taken = row_form vars (Take form)

    abbrev m : RowExpr
    m = multiple d q

    multiple_made : multiple_form ≡ row_form vars m
    multiple_made = multiple_is ∙ ap (times_of d) variable_is

    pub divides_yes_is : answer ≡ true → (more : Option System)
        → more ≡ system_with_all system (minus_of value multiple_form ∷ minus_of multiple_form value ∷ [])
        → more ≡ system_with_all system (forms_of vars (quotient_rows q form d answer))
    divides_yes_is is more more_is =
        more_is ∙ ap (λ f. system_with_all system (minus_of f multiple_form ∷ minus_of multiple_form f ∷ [])) value_is
        ∙ ap (λ f. system_with_all system (minus_of taken f ∷ minus_of f taken ∷ [])) multiple_made
        ∙ ap (λ b. system_with_all system (forms_of vars (quotient_rows q form d b))) (sym is)

    pub divides_no_is : answer ≡ false
        → (below least constant above most last : Option Form) (next more : Option System)
        → below ≡ minus_of value multiple_form → least ≡ one_less_of vars below
        → constant ≡ Some (constant_form vars d) → above ≡ plus_of multiple_form constant
        → most ≡ one_less_of vars above → last ≡ minus_of most value
        → next ≡ system_with system least → more ≡ system_with next last
        → more ≡ system_with_all system (forms_of vars (quotient_rows q form d answer))
    divides_no_is is below least constant above most last next more below_is least_is constant_is above_is most_is
        last_is next_is more_is =
        more_is ∙ ap (system_with next) last_is ∙ ap (λ s. system_with s (minus_of most value))
        (next_is ∙ ap (system_with system)
        (least_is ∙ ap (one_less_of vars)
        (below_is ∙ ap (λ f. minus_of f multiple_form) value_is ∙ ap (minus_of taken) multiple_made)
        ∙ sym (one_less_made vars (minus (Take form) m))))
        ∙ ap (λ f. system_with (system_with system (row_form vars (one_less (minus (Take form) m))))
        (minus_of most f)) value_is
        ∙ ap (λ f. system_with (system_with system (row_form vars (one_less (minus (Take form) m)))) (minus_of f taken))
        (most_is ∙ ap (one_less_of vars)
        (above_is ∙ ap (plus_of multiple_form) (constant_is ∙ sym (row_form-number vars d))
        ∙ ap (λ f. plus_of f (row_form vars (number d))) multiple_made)
        ∙ sym (one_less_made vars (Plus m (number d))))
        ∙ ap (λ b. system_with_all system (forms_of vars (quotient_rows q form d b))) (sym is)

-- the context of the code at each kind of path
module _ (vars : ℕ) (reader : List Form) (path : Path) where
  pub context_root : (none more : Option System) → path ≡ Root → none ≡ made_system vars []
      → more ≡ system_with_all none (forms_of vars (map Take reader))
      → more ≡ made_system vars (path_rows reader path)
  context_root none more is none_is more_is =
      more_is ∙ system_root vars reader none none_is ∙ ap (λ path. made_system vars (path_rows reader path)) (sym is)

  pub context_test : (above : Bor Path) (form : Bor Form) (answer : Bool) (system more : Option System)
      → path ≡ Test above form answer → system ≡ made_system vars (path_rows reader above.now)
      → more ≡ system_with_all system (forms_of vars (test_rows form.now answer))
      → more ≡ made_system vars (path_rows reader path)
  context_test above form answer system more is system_is more_is =
      more_is ∙ system_test vars reader above form answer system system_is
      ∙ ap (λ path. made_system vars (path_rows reader path)) (sym is)

  pub context_divides : (above : Bor Path) (form : Bor Form) (d d' : ℤ) (q : ℕ) (answer : Bool)
      (system more : Option System) → path ≡ Divides above form d q answer → d' ≡ d
      → system ≡ made_system vars (path_rows reader above.now)
      → more ≡ system_with_all system (forms_of vars (quotient_rows q form.now d' answer))
      → more ≡ made_system vars (path_rows reader path)
  context_divides above form d d' q answer system more is same system_is more_is =
      more_is ∙ ap (λ d. system_with_all system (forms_of vars (quotient_rows q form.now d answer))) same
      ∙ system_divides vars reader above form d q answer system system_is
      ∙ ap (λ path. made_system vars (path_rows reader path)) (sym is)
