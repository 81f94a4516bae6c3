use Rattle.stride_trees.proofs.CandidatePromise.{strided_built}
use Rattle.stride_trees.proofs.candidate.strides_of.Goals as goal

pub returns-clause-strided : goal.returns-clause-strided
returns-clause-strided c =
    let a = c.looked_up.ensures in
    strided_built c.args.nest.now c.args.statement c.args.read c.args.writer c.args.level c.looked_up.result
    c.requires.class c.requires.level a.read a.write a.level a.nest a.common
