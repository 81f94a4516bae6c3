use Rattle.std.proofs.Common.{◌≡◌, sym, ◌∙◌}
use Rattle.std.specs.Prelude.{None, Some}
use Rattle.std.proofs.lemmas.Bool.{false≢true}
use Rattle.tree_eval.proofs.follower.Follower.overflows.Goals as goal

pub returns-then-has-clause-exact : goal.returns-then-has-clause-exact
returns-then-has-clause-exact c = (
  λ e. absurd (false≢true e),
  λ none.
      let there = c.has.ensures c.if-has.true c.args.tree.now c.requires.known in
      let g : None ≡ Some there.0 = sym none ∙ there.1 in
      absurd (cc),
)
