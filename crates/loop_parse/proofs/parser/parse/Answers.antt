use Rattle.loop_lex.proofs.Order.{in_order}
use Rattle.loop_parse.proofs.Runs.{tree_law, only_law, place_law}
use Rattle.loop_parse.proofs.parser.parse.Goals as goal

pub run-requires : goal.run-requires
run-requires c = in_order c.args.bytes.now c.args.tokens.now c.requires

pub returns-clause-tree : goal.returns-clause-tree
returns-clause-tree c = tree_law c.args.bytes.now c.args.tokens.now c.run.result c.run.ensures

pub returns-clause-only : goal.returns-clause-only
returns-clause-only c = only_law c.args.bytes.now c.args.tokens.now c.run.result c.run.ensures

pub returns-clause-place : goal.returns-clause-place
returns-clause-place c = place_law c.args.bytes.now c.args.tokens.now c.run.result c.run.ensures
