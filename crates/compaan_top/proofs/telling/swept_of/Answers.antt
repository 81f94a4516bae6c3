use Rattle.compaan_top.proofs.telling.swept_of.Goals as goal

pub returns-then-all_have_trees : goal.returns-then-all_have_trees
returns-then-all_have_trees c = c.all_have_trees.ensures.0 c.if-all_have_trees.true
