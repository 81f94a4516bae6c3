use Rattle.std.proofs.Common.{◌≡◌, ◌∙◌, ◌≤ℤ◌, ℤ, pos, int_lt, true, false, sym, ap, refl, arith, rules, FitsSigned}
use Rattle.std.specs.Int.{w128}
use Rattle.std.proofs.lemmas.Int.{ints, to_z-of_z}
use Rattle.std.proofs.lemmas.Result.{IfOk-weaker}
use Rattle.source_check.proofs.Contexts.{below_test, below_divides}
use Rattle.source_check.proofs.Parts.{test_bad, test_end, divides_bad_form, divides_bad_divisor, divides_deep}
use Rattle.source_check.proofs.Parts.{divides_end, writer_end, zero_end, dead_end}
use Rattle.source_tree.specs.Systems.{Context, divides_no, divides_yes, test_no, test_yes}
use Rattle.source_tree.specs.References.{occurrence_of}
use Rattle.source_tree.proofs.Views.{kept_divisor}
use Rattle.source_check.proofs.check.+check_part.Goals as goal
use Rattle.source_check.proofs.check.+check_part.Goals.{then-variables-vars-2-via-then-variables-vars-2}
use Rattle.source_check.proofs.check.+check_part.Goals.{then-variables-vars-2-via-else-variables-vars-2+then-divisor-lt2}
use Rattle.source_check.proofs.check.+check_part.Goals.{then-variables-vars-2-via-else-variables-vars-2+else-divisor-lt2+then-vars-most}

too_low : (d e : ℤ) → e ≡ d → int_lt e (pos 2) ≡ true → pos 2 ≤ℤ d → ⊥
too_low d e is low two = grind (arith, ints)

high_enough : (d e : ℤ) → e ≡ d → int_lt e (pos 2) ≡ false → pos 2 ≤ℤ d
high_enough d e is high = grind (arith, ints)

pub returns-then-variables-vars : goal.returns-then-variables-vars
returns-then-variables-vars t c = λ ctx e.
    test_bad c.args.read.now.nest.now
    (occurrence_of c.args.read.now.reference) c.args.leaf ctx c.args.tree.now c.in-Test.form c.in-Test.yes
    c.in-Test.no
    c.in-Test.is
    (λ same. c.if-variables-vars.true (c.variables.ensures ∙ same ∙ ap (λ (c : Context). c.vars) e))

pub returns-then-variables-vars-2 : goal.returns-then-variables-vars-2
returns-then-variables-vars-2 t c = λ ctx e.
    let vars : ctx.vars ≡ c.args.vars = ap (λ (c : Context). c.vars) e in
    elim c.then-variables-vars-2.branch [
      | then-variables-vars-2-via-then-variables-vars-2 w ↦
          divides_bad_form c.args.read.now.nest.now
          (occurrence_of c.args.read.now.reference) c.args.leaf ctx c.args.tree.now c.in-Divides.form
          c.get-divisor.result c.in-Divides.yes c.in-Divides.no
          (kept_divisor c.in-Divides.yes c.in-Divides.no c.in-Divides.is c.get-divisor.ensures)
          (λ same. w.if-variables-vars-2.true (c.variables-in-Divides.ensures ∙ same ∙ vars))
      | then-variables-vars-2-via-else-variables-vars-2+then-divisor-lt2 w ↦
          divides_bad_divisor c.args.read.now.nest.now
          (occurrence_of c.args.read.now.reference) c.args.leaf ctx c.args.tree.now c.in-Divides.form
          c.get-divisor.result c.in-Divides.yes c.in-Divides.no
          (kept_divisor c.in-Divides.yes c.in-Divides.no c.in-Divides.is c.get-divisor.ensures)
          (let fits : FitsSigned w128 c.get-divisor.result = search rules in too_low c.get-divisor.result _
          (to_z-of_z w128 c.get-divisor.result fits) w.if-divisor-lt2.true)
      | then-variables-vars-2-via-else-variables-vars-2+else-divisor-lt2+then-vars-most w ↦
          divides_deep c.args.read.now.nest.now
          (occurrence_of c.args.read.now.reference) c.args.leaf ctx c.args.tree.now c.in-Divides.form
          c.get-divisor.result c.in-Divides.yes c.in-Divides.no
          (kept_divisor c.in-Divides.yes c.in-Divides.no c.in-Divides.is c.get-divisor.ensures)
          (λ few. omega (arith, few, vars, w.if-vars-most.true, c.len-most.ensures))
    ]

pub returns-in-Ok : goal.returns-in-Ok
returns-in-Ok t c =
    IfOk-weaker c.check_part-in-Ok.result _ _
    (λ end is ctx e.
    test_end c.args.read.now.nest.now
    (occurrence_of c.args.read.now.reference) c.args.leaf ctx c.args.tree.now c.in-Test.form c.in-Test.yes
    c.in-Test.no
    _ _ _ end c.in-Test.is c.get.ensures c.get-in-Ok.ensures
    (sym c.variables.ensures ∙ c.if-variables-vars.false ∙ sym (ap (λ (c : Context). c.vars) e))
    (sym c.in-Ok.is
    ∙ c.in_ok-next-in-Test.ensures (test_yes ctx c.in-Test.form)
    (below_test c.args.read.now.reference c.args.vars c.args.path.now _ _ _ ctx refl e))
    (is (test_no ctx c.in-Test.form)
    (below_test c.args.read.now.reference c.args.vars c.args.path.now _ _ _ ctx refl e))) c.check_part-in-Ok.ensures

pub returns-in-Err : goal.returns-in-Err
returns-in-Err t c = λ ctx e.
    test_end c.args.read.now.nest.now
    (occurrence_of c.args.read.now.reference) c.args.leaf ctx c.args.tree.now c.in-Test.form c.in-Test.yes
    c.in-Test.no
    _ _ _ _ c.in-Test.is c.get.ensures refl
    (sym c.variables.ensures ∙ c.if-variables-vars.false ∙ sym (ap (λ (c : Context). c.vars) e))
    (sym c.in-Err.is
    ∙ c.in_ok-next-in-Test.ensures (test_yes ctx c.in-Test.form)
    (below_test c.args.read.now.reference c.args.vars c.args.path.now _ _ _ ctx refl e)) refl

pub returns-in-Ok-2 : goal.returns-in-Ok-2
returns-in-Ok-2 t c =
    IfOk-weaker c.check_part-in-Ok-2.result _ _
    (λ end is ctx e.
    let vars : ctx.vars ≡ c.args.vars = ap (λ (c : Context). c.vars) e in
    let fits : FitsSigned w128 c.get-divisor.result = search rules in
    let divisor = to_z-of_z w128 c.get-divisor.result fits in
    divides_end c.args.read.now.nest.now
    (occurrence_of c.args.read.now.reference) c.args.leaf ctx c.args.tree.now c.in-Divides.form
    c.get-divisor.result
    c.in-Divides.yes c.in-Divides.no _ _ _ end
    (kept_divisor c.in-Divides.yes c.in-Divides.no c.in-Divides.is c.get-divisor.ensures)
    c.get-in-Divides.ensures c.get-in-Ok-2.ensures
    (sym c.variables-in-Divides.ensures ∙ c.if-variables-vars-2.false ∙ sym vars)
    (high_enough c.get-divisor.result _ divisor c.if-divisor-lt2.false)
    (omega (arith, vars, c.if-vars-most.false, c.len-most.ensures))
    (sym c.in-Ok-2.is
    ∙ c.in_ok-next-in-Divides.ensures (divides_yes ctx c.in-Divides.form c.get-divisor.result)
    (below_divides c.args.read.now.reference c.args.vars c.args.path.now _ _ c.get-divisor.result _ _ ctx divisor refl
    e))
    (is (divides_no ctx c.in-Divides.form c.get-divisor.result)
    (below_divides c.args.read.now.reference c.args.vars c.args.path.now _ _ c.get-divisor.result _ _ ctx divisor refl
    e))) c.check_part-in-Ok-2.ensures

pub returns-in-Err-2 : goal.returns-in-Err-2
returns-in-Err-2 t c = λ ctx e.
    let vars : ctx.vars ≡ c.args.vars = ap (λ (c : Context). c.vars) e in
    let fits : FitsSigned w128 c.get-divisor.result = search rules in
    let divisor = to_z-of_z w128 c.get-divisor.result fits in
    divides_end c.args.read.now.nest.now
    (occurrence_of c.args.read.now.reference) c.args.leaf ctx c.args.tree.now c.in-Divides.form
    c.get-divisor.result
    c.in-Divides.yes c.in-Divides.no _ _ _ _
    (kept_divisor c.in-Divides.yes c.in-Divides.no c.in-Divides.is c.get-divisor.ensures)
    c.get-in-Divides.ensures refl
    (sym c.variables-in-Divides.ensures ∙ c.if-variables-vars-2.false ∙ sym vars)
    (high_enough c.get-divisor.result _ divisor c.if-divisor-lt2.false)
    (omega (arith, vars, c.if-vars-most.false, c.len-most.ensures))
    (sym c.in-Err-2.is
    ∙ c.in_ok-next-in-Divides.ensures (divides_yes ctx c.in-Divides.form c.get-divisor.result)
    (below_divides c.args.read.now.reference c.args.vars c.args.path.now _ _ c.get-divisor.result _ _ ctx divisor refl
    e)) refl

pub returns-in_ok-rule-in-Writer : goal.returns-in_ok-rule-in-Writer
returns-in_ok-rule-in-Writer t c = λ ctx e.
    writer_end c.args.read.now.nest.now
    (occurrence_of c.args.read.now.reference) c.args.leaf ctx c.args.tree.now c.in-Writer.statement c.in-Writer.map _
    c.in-Writer.proofs _ _ _ c.in-Writer.is c.as_slice-in-Writer.ensures c.as_slice.ensures
    (c.in_ok-rule-in-Writer.ensures ctx e) c.leaf_end.ensures

pub returns-in_ok-rule-in-Zero : goal.returns-in_ok-rule-in-Zero
returns-in_ok-rule-in-Zero t c = λ ctx e.
    zero_end c.args.read.now.nest.now
    (occurrence_of c.args.read.now.reference) c.args.leaf ctx c.args.tree.now c.in-Zero.proofs _ _ _ c.in-Zero.is
    c.as_slice-in-Zero.ensures (c.in_ok-rule-in-Zero.ensures ctx e) c.leaf_end-in-Zero.ensures

pub returns-in_ok-rule-in-Dead : goal.returns-in_ok-rule-in-Dead
returns-in_ok-rule-in-Dead t c = λ ctx e.
    dead_end c.args.read.now.nest.now
    (occurrence_of c.args.read.now.reference) c.args.leaf ctx c.args.tree.now c.in-Dead.proof _ _ c.in-Dead.is
    (c.in_ok-rule-in-Dead.ensures ctx e) c.leaf_end-in-Dead.ensures
