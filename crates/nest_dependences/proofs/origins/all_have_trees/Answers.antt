use Rattle.std.proofs.Common.{ℕ, ◌<◌, refl, arith, below_more}
use Rattle.sanlp.specs.Access.{read_count}
use Rattle.deps_text.specs.Dependences.{HasTree}
use Rattle.nest_dependences.proofs.Statements.{statement_of_read}
use Rattle.nest_dependences.proofs.origins.all_have_trees.Goals as goal

pub returns-then-not-reads_have_trees : goal.returns-then-not-reads_have_trees
returns-then-not-reads_have_trees c = (
  λ is. absurd (cc),
  λ all. absurd (let has = c.reads_have_trees.ensures.1 (all c.loop-statement.statement) in
      cc (has, c.if-not-reads_have_trees.true)),
)

pub loop-statement-preserved : goal.loop-statement-preserved
loop-statement-preserved c =
    below_more (λ s. (k : ℕ) → k < read_count c.args.nest.now s → HasTree c.args.nest.now s k)
    c.loop-statement.statement c.loop-statement.invariant
    (c.reads_have_trees.ensures.0 c.if-not-reads_have_trees.false)

pub returns : goal.returns
returns c = (
  λ is s k h. let there = statement_of_read c.args.nest.now.statements s k h in
      c.loop-statement.invariant s
      (omega (arith, there, c.len-statement-end.ensures, c.loop-statement-test.false)) k h,
  λ all. refl,
)
