use Rattle.std.proofs.Common.{◌∙◌, sym, ap, subst, length}
use Rattle.std.specs.Prelude.{IsTrue}
use Rattle.source_tree.specs.Walk.{outcome_of, is_ready}
use Rattle.source_tree.proofs.TreeValues.{eval_gives}
use Rattle.source_tree.proofs.walk.eval.Goals as goal

pub follow-requires : goal.follow-requires
follow-requires c = (
  length c.args.at.now,
  c.wide-values.ensures.short,
  subst (λ m. IsTrue (is_ready (length c.args.at.now) c.args.tree.now m))
      (sym (ap length c.wide-values.ensures.value)) c.requires,
)

pub returns-clause-value : goal.returns-clause-value
returns-clause-value c = eval_gives c.args.tree.now c.args.at.now c.follow.result
    (c.follow.ensures ∙ ap (outcome_of c.args.tree.now) c.wide-values.ensures.value)
