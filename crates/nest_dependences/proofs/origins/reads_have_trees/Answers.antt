use Rattle.std.proofs.Common.{◌<◌, true, false, refl, arith, below_more}
use Rattle.sanlp.specs.Access.{read_count}
use Rattle.sanlp.proofs.ReadCounts.{read_count-some}
use Rattle.deps_text.specs.Dependences.{HasTree}
use Rattle.nest_dependences.proofs.origins.reads_have_trees.Goals as goal

pub returns-then-not-has_tree : goal.returns-then-not-has_tree
returns-then-not-has_tree c =
    let count = read_count-some c.args.nest.now c.args.statement c.statement.result.now c.statement.ensures.value in
    let here : c.loop-read.read < read_count c.args.nest.now c.args.statement =
    omega (arith, count, c.len-read-end.ensures, c.loop-read-test.true) in (
      λ is. absurd (cc),
      λ all. absurd (let has = c.has_tree.ensures.1 (all c.loop-read.read here) in cc (has, c.if-not-has_tree.true)),
    )

pub loop-read-preserved : goal.loop-read-preserved
loop-read-preserved c =
    below_more (HasTree c.args.nest.now c.args.statement) c.loop-read.read c.loop-read.invariant
    (c.has_tree.ensures.0 c.if-not-has_tree.false)

pub returns : goal.returns
returns c =
    let count = read_count-some c.args.nest.now c.args.statement c.statement.result.now c.statement.ensures.value in (
      λ is k h. c.loop-read.invariant k (omega (arith, count, c.len-read-end.ensures, c.loop-read-test.false, h)),
      λ all. refl,
    )
