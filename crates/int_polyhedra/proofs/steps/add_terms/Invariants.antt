use Rattle.std.proofs.Common.{◌≡◌, length, drop}
use Rattle.int_polyhedra.specs.Chain.{rows_of}
use Rattle.int_polyhedra.specs.Steps.{sum_onto}
use Rattle.int_polyhedra.proofs.steps.add_terms.Given as goal

abbrev pub invariant-loop-term : goal.invariant-loop-term
invariant-loop-term l =
    (length l.sum.coefs ≡ l.vars)
    × (sum_onto (rows_of l.rows) l.initial.sum l.terms ≡ sum_onto (rows_of l.rows) l.sum (drop l.term-index l.terms))
