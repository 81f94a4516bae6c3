use Rattle.std.proofs.Common.{◌≤ℤ◌, arith, rules, sym, ◌∙◌, FitsSigned, w64}
use Rattle.std.proofs.lemmas.Int.{ints, to_z-of_z}
use Rattle.tree_eval.specs.Stretches.{line_at}
use Rattle.tree_eval.proofs.Lines.{negative, not_negative, stays_below}
use Rattle.tree_eval.proofs.line.turns_on_side.Goals as goal

pub returns-then-line-ge0-clause-side : goal.returns-then-line-ge0-clause-side
returns-then-line-ge0-clause-side c turn from to =
    let value : FitsSigned w64 c.args.line.value = search rules in
    let step : FitsSigned w64 c.args.line.step = search rules in
    let kept = simp to_z-of_z at c.turns_kept.ensures.kept in
    let few : turn ≤ℤ c.turns_kept.result = omega (arith, ints) in
    not_negative (line_at c.args.line turn) (kept turn from few) ∙ sym (simp to_z-of_z at c.if-line-ge0.true)

pub returns-clause-side : goal.returns-clause-side
returns-clause-side c turn from to =
    let value : FitsSigned w64 c.args.line.value = search rules in
    let step : FitsSigned w64 c.args.line.step = search rules in
    let other : FitsSigned w64 c.opposite_line-other.result.value = search rules in
    let back : FitsSigned w64 c.opposite_line-other.result.step = search rules in
    let kept = simp to_z-of_z at c.turns_kept-2.ensures.kept in
    let few : turn ≤ℤ c.turns_kept-2.result = omega (arith, ints) in
    negative (line_at c.args.line turn)
    (stays_below c.args.line.value c.args.line.step c.opposite_line-other.result.value c.opposite_line-other.result.step turn
    c.opposite_line-other.ensures.value c.opposite_line-other.ensures.step (kept turn from few))
    ∙ sym (simp to_z-of_z at c.if-line-ge0.false)
