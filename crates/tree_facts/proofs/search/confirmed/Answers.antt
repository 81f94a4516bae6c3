use Rattle.std.proofs.Common.{◌≤ℤ◌, ◌∙◌, pos, sym, rules, FitsSigned}
use Rattle.std.specs.Int.{w128}
use Rattle.std.proofs.lemmas.Int.{to_z-of_z}
use Rattle.affine_core.specs.Affine.{constant_form}
use Rattle.affine_core.proofs.Integers.{int_lt-false}
use Rattle.tree_facts.specs.Sums.{IsSumOnto}
use Rattle.tree_facts.proofs.Adding.{fact_of_sum}
use Rattle.tree_facts.proofs.search.confirmed.Goals as goal

pub returns : goal.returns
returns c =
    let context = c.args.context.now in
    let cut = c.args.cut in
    let sum = c.in_ok-sum.sum in
    let fits : FitsSigned w128 cut.divisor = search rules in
    let divisor : pos 1 ≤ℤ cut.divisor =
    int_lt-false cut.divisor (pos 1) (simp to_z-of_z at c.if-cut-lt1.false) in
    let is_sum : IsSumOnto context.rows (constant_form context.vars (pos 0)) cut.terms sum =
    rw (c.as_slice.ensures, c.constant-zero.ensures.form, c.as_slice-2.ensures) at c.in_ok-sum.ensures in
    let divided =
    simp (to_z-of_z, c.as_slice-3.ensures.value) at (sym c.divides_all.ensures ∙ c.if-not-divides_all.false) in
    let is = simp to_z-of_z at c.quotients-row.ensures in
    fact_of_sum context cut sum c.quotients-row.result divisor is_sum divided is
    (c.is_small_row.ensures.over c.if-not-is_small_row.false) (c.is_small_row.ensures.within c.if-not-is_small_row.false)
