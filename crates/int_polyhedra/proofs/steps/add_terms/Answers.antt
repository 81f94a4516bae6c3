use Rattle.int_polyhedra.specs.Chain.{rows_of}
use Rattle.int_polyhedra.proofs.ListSearch.{sum_onto_more}
use Rattle.int_polyhedra.proofs.Variables.{sum_with_over}
use Rattle.int_polyhedra.proofs.steps.add_terms.Goals as goal

pub loop-term-preserved : goal.loop-term-preserved
loop-term-preserved c = (
  sum_with_over c.args.vars (rows_of c.args.rows.now) c.loop-term.sum _ c.in_ok-sum.sum c.requires.rows
      c.loop-term.invariant.0 c.in_ok-sum.ensures,
  sum_onto_more (rows_of c.args.rows.now) c.args.start c.loop-term.sum c.in_ok-sum.sum c.args.terms.now
      c.loop-term.term-index _ c.loop-term-test.true c.loop-term.invariant.1 c.in_ok-sum.ensures,
)
