use Rattle.std.proofs.Common.{sym, ap, ◌∙◌}
use Rattle.tree_trim.specs.Renumbering.{number_by}
use Rattle.tree_trim.proofs.renumbering.number_by.Goals as goal

pub returns-in-Without : goal.returns-in-Without
returns-in-Without c = c.number_without.ensures ∙ ap (λ r. number_by r c.args.number) (sym c.in-Without.is)

pub returns-in-Behind : goal.returns-in-Behind
returns-in-Behind c = c.number_behind.ensures ∙ ap (λ r. number_by r c.args.number) (sym c.in-Behind.is)
