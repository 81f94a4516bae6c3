use Rattle.std.proofs.Common.{refl, ap, ◌∙◌}
use Rattle.tree_order.specs.Seen.{best_in}
use Rattle.tree_join.proofs.path.state_of.Goals as goal

pub returns : goal.returns
returns c = record {
  read = refl;
  candidates = refl;
  context = refl;
  best = c.best_of.ensures ∙ ap best_in c.as_slice.ensures;
  seen = c.as_slice-2.ensures;
  left = c.as_slice-3.ensures;
}
