use Rattle.std.proofs.lemmas.Result.{IfOk-weaker}
use Rattle.stride_trees.proofs.ProofConversion.{write_cuts, write_refuted}
use Rattle.stride_trees.proofs.convert.converted_write.Goals as goal

pub returns-clause-refuted : goal.returns-clause-refuted
returns-clause-refuted c =
    IfOk-weaker c.of_write.result _ _
    (λ own is cx order at small count h. write_refuted c.args.s.now c.requires.strided c.args.places.now c.args.here
    c.args.more c.args.proof.now own c.sum_terms-terms.result.now c.sum_terms-terms.ensures is cx order at small count h)
    c.of_write.ensures

pub returns-clause-cuts : goal.returns-clause-cuts
returns-clause-cuts c =
    IfOk-weaker c.of_write.result _ _
    (λ own is few cx order at small count h light. write_cuts c.args.s.now c.requires.strided c.args.places.now c.args.here
    c.args.more c.args.proof.now own c.sum_terms-terms.result.now c.sum_terms-terms.ensures is cx order at small count h
    few c.requires.more light)
    c.of_write.ensures
