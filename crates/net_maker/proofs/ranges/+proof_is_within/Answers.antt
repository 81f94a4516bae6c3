use Rattle.std.proofs.Common.{FitsSigned, rules, arith}
use Rattle.std.specs.Int.{w128}
use Rattle.std.proofs.lemmas.Int.{to_z-of_z}
use Rattle.net_maker.proofs.Levels.{cut_is, else_is, proof_ended, same_is, split_is, sum_is, then_is, true_is}
use Rattle.int_polyhedra.proofs.Boxes.{boxed_cut}
use Rattle.net_maker.proofs.ranges.+proof_is_within.Goals as goal

pub returns-then-levels-eq0 : goal.returns-then-levels-eq0
returns-then-levels-eq0 t c = proof_ended c.args.levels c.args.proof.now c.if-levels-eq0.true

pub returns-in-Sum : goal.returns-in-Sum
returns-in-Sum t c =
    let step = sum_is c.args.levels c.args.proof.now (omega arith) c.in-Sum.terms c.in-Sum.is in
    true_is (step.1 (rw c.as_slice.ensures at c.terms_fit.ensures))

pub returns-in-Cut : goal.returns-in-Cut
returns-in-Cut t c =
    let step = cut_is c.args.levels c.args.proof.now (omega arith) c.get-divisor.result c.get-terms.result.now
    c.in-Cut.rest
    (boxed_cut c.in-Cut.rest c.in-Cut.is c.get-divisor.ensures c.get-terms.ensures) in
    let fits : FitsSigned w128 c.get-divisor.result = search rules in
    same_is c.proof_is_within.result (rw c.get.ensures at c.proof_is_within.ensures)
    (λ r. step.1 (simp to_z-of_z at c.number_fits.ensures, rw c.as_slice-in-Cut.ensures at c.terms_fit-in-Cut.ensures, r))
    (λ p. (step.0 p).2)

pub returns-then-proof_is_within : goal.returns-then-proof_is_within
returns-then-proof_is_within t c =
    let step = split_is c.args.levels c.args.proof.now (omega arith) c.in-Split.form c.in-Split.above
    c.in-Split.below
    c.in-Split.is in
    then_is c.proof_is_within-in-Split.result c.proof_is_within-then-proof_is_within.result
    (rw c.get-in-Split.ensures at c.proof_is_within-in-Split.ensures)
    (rw c.get-then-proof_is_within.ensures at c.proof_is_within-then-proof_is_within.ensures)
    c.if-proof_is_within.true (λ a b. step.1 (c.form_fits.ensures, a, b)) (λ p. (step.0 p).2)

pub returns-else-proof_is_within : goal.returns-else-proof_is_within
returns-else-proof_is_within t c =
    let step = split_is c.args.levels c.args.proof.now (omega arith) c.in-Split.form c.in-Split.above
    c.in-Split.below
    c.in-Split.is in
    else_is c.proof_is_within-in-Split.result (rw c.get-in-Split.ensures at c.proof_is_within-in-Split.ensures)
    c.if-proof_is_within.false (λ p. (step.0 p).1)
