use Rattle.std.proofs.lemmas.Result.{IfOk-weaker}
use Rattle.stride_trees.proofs.CandidatePromise.{is_checked, is_greatest, is_stride_tree}
use Rattle.stride_trees.proofs.candidate.stride_candidate.Goals as goal

pub returns-clause-checked : goal.returns-clause-checked
returns-clause-checked c =
    let a = c.strides_of-s.ensures in
    IfOk-weaker c.tree_between.result _ _
    (λ tree h. is_checked c.args.nest.now c.args.statement c.args.read c.args.writer c.args.level c.strides_of-s.result
    a.strided a.nest a.read a.write a.level h.0 tree h.1 h.2) c.tree_between.ensures

pub returns-clause-strides : goal.returns-clause-strides
returns-clause-strides c =
    let a = c.strides_of-s.ensures in
    IfOk-weaker c.tree_between.result _ _
    (λ tree h. is_stride_tree c.args.nest.now c.args.statement c.args.read c.args.writer c.args.level c.strides_of-s.result
    a.strided a.nest a.read a.write a.level h.0 tree h.1 h.2) c.tree_between.ensures

pub returns-clause-greatest : goal.returns-clause-greatest
returns-clause-greatest c =
    let a = c.strides_of-s.ensures in
    IfOk-weaker c.tree_between.result _ _
    (λ tree h. is_greatest c.args.nest.now c.args.statement c.args.read c.args.writer c.args.level c.strides_of-s.result
    a.strided a.nest a.read a.write a.level h.0 tree h.1 h.2) c.tree_between.ensures
