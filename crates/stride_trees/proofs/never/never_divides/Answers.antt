use Rattle.std.proofs.Common.{◌≤ℤ◌, sym, ap, ◌∙◌, not, pos, rules, FitsSigned, to_z, of_z}
use Rattle.std.specs.Prelude.{unsigned_abs}
use Rattle.std.specs.Int.{w128}
use Rattle.std.proofs.lemmas.Int.{to_z-of_z}
use Rattle.source_tree.specs.Walk.{divides}
use Rattle.stride_trees.proofs.CommonDivisors.{never_is, positive_read, positive_size}
use Rattle.stride_trees.proofs.never.never_divides.Goals as goal

pub returns : goal.returns
returns c =
    let test = c.args.test.now in
    let common = c.divisor_of.result in
    let positive = c.divisor_of.ensures.positive in
    let fits : FitsSigned w128 common = search rules in
    let constant : FitsSigned w128 test.form.constant = search rules in
    let size = positive_size common positive in
    let least : pos 1 ≤ℤ test.divisor = search rules in
    let own = positive_size test.divisor least in
    ap not (c.divides.ensures
    ∙ ap (λ z. divides z (to_z w128 (of_z w128 common))) (to_z-of_z w128 test.form.constant constant)
    ∙ ap (divides test.form.constant) (positive_read common positive fits))
    ∙ sym (never_is test (unsigned_abs common) own.0 c.divisor_of.ensures.greatest size.0)
