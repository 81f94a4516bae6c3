use Rattle.std.proofs.Common.{◌∙◌, ℤ, FitsSigned, ap, rules, subst}
use Rattle.std.specs.Int.{w128}
use Rattle.std.proofs.lemmas.Int.{to_z-of_z}
use Rattle.text_out.specs.Wrote.{Wrote}
use Rattle.tree_text.specs.TreeText.{cut_text, proof_text, split_text}
use Rattle.tree_text.proofs.Texts.{text_cut, text_split, wrote_three, wrote_two}
use Rattle.int_polyhedra.proofs.Boxes.{boxed_cut}
use Rattle.tree_text.proofs.writing.+write_proof.Goals as goal

pub returns-in-Cut : goal.returns-in-Cut
returns-in-Cut g t c =
    let divisor = c.get-divisor.result in
    let terms = c.get-terms.result.now in
    let rest = c.in-Cut.rest in
    let fits : FitsSigned w128 divisor = search rules in
    wrote_two g.W.TextWriter.given (cut_text divisor terms) (proof_text rest) (proof_text c.args.proof.now)
    (ap proof_text (boxed_cut rest c.in-Cut.is c.get-divisor.ensures c.get-terms.ensures) ∙ text_cut divisor terms rest)
    (subst (λ (d : ℤ). Wrote g.W.TextWriter.given c.args.out.now c.write_cut.new.out (cut_text d terms))
    (to_z-of_z w128 divisor fits) (rw c.as_slice-in-Cut.ensures at c.write_cut.ensures))
    (rw c.get.ensures at c.write_proof.ensures)

pub returns-in-Split : goal.returns-in-Split
returns-in-Split g t c =
    let form = c.in-Split.form in
    let above = c.in-Split.above in
    let below = c.in-Split.below in
    wrote_three g.W.TextWriter.given (split_text form) (proof_text above) (proof_text below)
    (proof_text c.args.proof.now)
    (ap proof_text c.in-Split.is ∙ text_split form above below)
    c.write_split.ensures (rw c.get-in-Split.ensures at c.write_proof-in-Split.ensures)
    (rw c.get-in-Split-2.ensures at c.write_proof-in-Split-2.ensures)
