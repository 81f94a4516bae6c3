use Rattle.std.proofs.Common.{◌+◌, refl, arith}
use Rattle.std.proofs.lemmas.Result.{IfOk-weaker}
use Rattle.stride_trees.proofs.FactLeaves.{away}
use Rattle.stride_trees.proofs.ReadBounds.{few_rows}
use Rattle.stride_trees.proofs.leaves.without_facts.Goals as goal

pub rows_above-above-requires-clause-rows : goal.rows_above-above-requires-clause-rows
rows_above-above-requires-clause-rows c = few_rows c.args.w.now.nest.now c.args.w.now.read c.requires.leaf.answered.read

pub rows_above-above-requires-clause-answers : goal.rows_above-above-requires-clause-answers
rows_above-above-requires-clause-answers c =
    omega (arith, c.requires.leaf.answered.answers, c.requires.leaf.answered.few)

pub overflow_add-rows : goal.overflow_add-rows
overflow_add-rows c = omega (arith, c.requires.leaf.few, c.requires.more)

pub proof_by_cuts-requires-clause-few : goal.proof_by_cuts-requires-clause-few
proof_by_cuts-requires-clause-few c = omega (arith, c.requires.leaf.few, c.requires.more)

pub proof_by_cuts-requires-clause-inside : goal.proof_by_cuts-requires-clause-inside
proof_by_cuts-requires-clause-inside c =
    omega (
      arith,
      c.rows_above-above.ensures,
      few_rows c.args.w.now.nest.now c.args.w.now.read c.requires.leaf.answered.read,
      c.requires.leaf.answered.answers,
      c.requires.leaf.answered.few,
      c.requires.leaf.few,
    )

pub returns : goal.returns
returns c =
    let count = c.args.here + c.args.more in
    IfOk-weaker c.proof_by_cuts.result _ _
    (λ own is. away c.args.w.now c.args.here c.args.more c.rows_above-above.result count c.args.proof own c.requires.leaf
    c.rows_above-above.ensures refl is) c.proof_by_cuts.ensures
