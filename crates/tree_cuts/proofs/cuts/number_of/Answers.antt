use Rattle.std.proofs.Common.{sym, ◌∙◌, arith}
use Rattle.tree_cuts.proofs.Behind.{number_behind, number_kept}
use Rattle.tree_cuts.proofs.cuts.number_of.Goals as goal

pub returns-then-row-here : goal.returns-then-row-here
returns-then-row-here c = sym (number_kept c.args.here c.args.row c.args.numbers.now (omega (arith, c.if-row-here)))

pub returns : goal.returns
returns c =
    c.number_at.ensures ∙ sym (number_behind c.args.here c.args.row c.args.numbers.now (omega (arith, c.if-row-here)))
