use Rattle.std.proofs.Common.{◌+◌, sym, ap, ◌∙◌, subst, [], ◌∷◌, rules, FitsSigned}
use Rattle.std.specs.Int.{w128}
use Rattle.std.specs.Prelude.{unsigned_abs}
use Rattle.std.proofs.lemmas.Result.{IfOk-weaker}
use Rattle.source_tree.specs.Checked.{AreRefuted}
use Rattle.source_tree.specs.Systems.{dead_systems}
use Rattle.stride_trees.proofs.RoundedRows.{rounded_proof}
use Rattle.stride_trees.proofs.AlwaysDivided.{nowhere}
use Rattle.stride_trees.proofs.CommonDivisors.{positive_read, positive_size}
use Rattle.stride_trees.proofs.always.no_is_nowhere.Goals as goal

pub returns : goal.returns
returns c =
    let test = c.args.test.now in
    let size = positive_size test.divisor c.requires.divisor in
    let fits : FitsSigned w128 test.divisor = search rules in
    let read = positive_read test.divisor c.requires.divisor fits in
    IfOk-weaker c.rounded.result _ _
    (λ proof is cx quotient h. subst (λ proof. AreRefuted (dead_systems cx) (proof ∷ []))
    (sym (is ∙ ap (λ d. rounded_proof d c.args.row (c.args.row + 1) c.args.here) read))
    (nowhere test (unsigned_abs test.divisor) size.1 size.0 c.requires.small c.requires.always c.args.row c.args.here quotient
    cx h)) c.rounded.ensures
