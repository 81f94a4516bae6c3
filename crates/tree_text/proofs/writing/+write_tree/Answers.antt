use Rattle.std.proofs.Common.{◌∙◌, ℤ, FitsSigned, ap, length, rules, subst}
use Rattle.std.specs.Int.{w128}
use Rattle.std.proofs.lemmas.Int.{to_z-of_z}
use Rattle.text_out.specs.Wrote.{Wrote}
use Rattle.std.specs.List.{flat_map}
use Rattle.tree_text.specs.TreeText.{dead_text, divides_text, map_text, proof_text, test_text, tree_text}
use Rattle.tree_text.specs.TreeText.{writer_text, zero_text}
use Rattle.tree_text.proofs.Texts.{text_dead, text_divides, text_test, text_writer, text_zero, wrote_three, wrote_two}
use Rattle.source_tree.proofs.Views.{kept_divisor}
use Rattle.tree_text.proofs.writing.+write_tree.Goals as goal

pub returns-in-Test : goal.returns-in-Test
returns-in-Test g t c =
    let form = c.in-Test.form in
    let above = c.in-Test.above in
    let below = c.in-Test.below in
    wrote_three g.W.TextWriter.given (test_text form) (tree_text above) (tree_text below) (tree_text c.args.tree.now)
    (ap tree_text c.in-Test.is ∙ text_test form above below)
    c.write_test.ensures (rw c.get.ensures at c.write_tree.ensures)
    (rw c.get-in-Test.ensures at c.write_tree-in-Test.ensures)

pub returns-in-Divides : goal.returns-in-Divides
returns-in-Divides g t c =
    let form = c.in-Divides.form in
    let divisor = c.get-divisor.result in
    let above = c.in-Divides.above in
    let below = c.in-Divides.below in
    let fits : FitsSigned w128 divisor = search rules in
    wrote_three g.W.TextWriter.given (divides_text form divisor) (tree_text above) (tree_text below)
    (tree_text c.args.tree.now)
    (ap tree_text (kept_divisor above below c.in-Divides.is c.get-divisor.ensures)
    ∙ text_divides form divisor above below)
    (subst (λ (d : ℤ). Wrote g.W.TextWriter.given c.args.out.now c.write_divides.new.out (divides_text form d))
    (to_z-of_z w128 divisor fits) c.write_divides.ensures)
    (rw c.get-in-Divides.ensures at c.write_tree-in-Divides.ensures)
    (rw c.get-in-Divides-2.ensures at c.write_tree-in-Divides-2.ensures)

pub returns-in-Writer : goal.returns-in-Writer
returns-in-Writer g t c =
    let statement = c.in-Writer.statement in
    let place = c.in-Writer.place in
    let proofs = c.in-Writer.proofs in
    wrote_three g.W.TextWriter.given (writer_text statement (length place) (length proofs))
    (flat_map map_text place) (flat_map proof_text proofs)
    (tree_text c.args.tree.now) (ap tree_text c.in-Writer.is ∙ text_writer statement place proofs)
    (rw (c.len.ensures, c.len-in-Writer.ensures) at c.write_writer.ensures)
    (rw c.as_slice.ensures at c.write_place.ensures) (rw c.as_slice-in-Writer.ensures at c.write_proofs.ensures)

pub returns-in-Zero : goal.returns-in-Zero
returns-in-Zero g t c =
    let proofs = c.in-Zero.proofs in
    wrote_two g.W.TextWriter.given (zero_text (length proofs)) (flat_map proof_text proofs)
    (tree_text c.args.tree.now) (ap tree_text c.in-Zero.is ∙ text_zero proofs)
    (rw c.len-in-Zero.ensures at c.write_zero.ensures)
    (rw c.as_slice-in-Zero.ensures at c.write_proofs-in-Zero.ensures)

pub returns-in-Dead : goal.returns-in-Dead
returns-in-Dead g t c =
    let proof = c.in-Dead.proof in
    wrote_two g.W.TextWriter.given dead_text (proof_text proof) (tree_text c.args.tree.now)
    (ap tree_text c.in-Dead.is ∙ text_dead proof) c.write_line.ensures c.write_proof.ensures
