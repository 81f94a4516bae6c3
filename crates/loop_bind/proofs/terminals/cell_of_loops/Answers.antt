use Rattle.std.proofs.Common.{◌++◌, ◌∷◌, [], sym, ◌∙◌, arith}
use Rattle.std.proofs.lemmas.List.FromFn.{map-range_with_len_more}
use Rattle.affine_core.specs.Affine.{variable_form}
use Rattle.loop_bind.proofs.terminals.cell_of_loops.Goals as goal

pub loop-number-preserved : goal.loop-number-preserved
loop-number-preserved c =
    let number = c.loop-number.number in
    c.in_ok-push.ensures.ok ∙ (λ i. c.loop-number.invariant i ++ c.variable.ensures.form i ∷ [])
    ∙ sym (map-range_with_len_more (variable_form c.args.depth) 0 number number (omega arith))
