-- The level is one of those that there are.
use Rattle.std.proofs.Common.{◌∙◌, arith}
use Rattle.stride_trees.proofs.LeafConversion.{all_chosen, one_chosen}
use Rattle.stride_trees.proofs.leaves.chosen.Goals as goal

pub one_of-requires : goal.one_of-requires
one_of-requires c = omega (arith, c.requires.counts, c.requires.writer.level c.in-Some.just c.in-Some.is)

pub returns-in-Some : goal.returns-in-Some
returns-in-Some c =
    c.one_of.ensures
    ∙ one_chosen c.args.w.now c.args.writer.now c.in-Some.just c.args.counts.now c.requires.writer c.in-Some.is

pub returns-in-None : goal.returns-in-None
returns-in-None c = all_chosen c.args.w.now c.args.writer.now c.args.counts.now c.in-None.is
