-- The text of a proof and of a tree, for each kind of step and of node.
--
-- `proof_text` and `tree_text` are folds, in which what stands below is known by its text alone. These equations say the
-- same by the parts themselves: the line of the root, and then the texts of what stands below it, in order. So what is
-- written is the text as soon as each part was written behind the one before.
use Rattle.std.proofs.Common.{◌≡◌, ◌∙◌, ℕ, ℤ, List, ◌++◌, length, append_assoc, refl, sym, ap}
use Rattle.std.specs.List.{flat_map}
use Rattle.affine_core.specs.declared.form.Form.{Form}
use Rattle.int_polyhedra.specs.declared.system.Proof.{Proof}
use Rattle.int_polyhedra.specs.declared.system.Proof.TheOpen as proof_layer
use Rattle.int_polyhedra.specs.declared.system.Proof.TheFolds.{fold-roll-Proof}
use Rattle.int_polyhedra.specs.declared.system.Proof.TheViews.{Cut, Split, rolls-Sum, rolls-Cut, rolls-Split}
use Rattle.int_polyhedra.specs.declared.system.Proof.TheVariants.{Sum}
use Rattle.int_polyhedra.specs.declared.system.Term.{Term}
use Rattle.source_tree.specs.declared.tree.Tree.{Tree}
use Rattle.source_tree.specs.declared.tree.Tree.TheOpen as tree_layer
use Rattle.source_tree.specs.declared.tree.Tree.TheFolds.{fold-roll-Tree}
use Rattle.source_tree.specs.declared.tree.Tree.TheViews.{Test, Divides, rolls-Test}
use Rattle.source_tree.specs.declared.tree.Tree.TheViews.{rolls-Divides, rolls-Writer, rolls-Zero, rolls-Dead}
use Rattle.source_tree.specs.declared.tree.Tree.TheVariants.{Writer, Zero, Dead}
use Rattle.text_out.specs.Wrote.{Given, Wrote}
use Rattle.tree_text.specs.TreeText.{cut_text, dead_text, divides_text, map_text, proof_lines, proof_text, split_text}
use Rattle.tree_text.specs.TreeText.{sum_text, test_text, tree_lines, tree_text, writer_text, zero_text}

-- Proofs

pub text_sum : (terms : List Term) → proof_text (Sum terms) ≡ sum_text terms
text_sum terms = ap proof_text (sym (rolls-Sum terms)) ∙ fold-roll-Proof (List ℕ) proof_lines (proof_layer.Sum terms)

pub text_cut : (divisor : ℤ) (terms : List Term) (rest : Proof) → proof_text (Cut divisor terms rest)
    ≡ cut_text divisor terms ++ proof_text rest
text_cut divisor terms rest = ap proof_text (sym (rolls-Cut divisor terms rest))
    ∙ fold-roll-Proof (List ℕ) proof_lines (proof_layer.Cut divisor terms rest)

pub text_split : (form : Form) (above below : Proof) → proof_text (Split form above below) ≡ split_text form
    ++ (proof_text above ++ proof_text below)
text_split form above below = ap proof_text (sym (rolls-Split form above below))
    ∙ fold-roll-Proof (List ℕ) proof_lines (proof_layer.Split form above below)

-- Trees

pub text_test : (form : Form) (above below : Tree) → tree_text (Test form above below) ≡ test_text form
    ++ (tree_text above ++ tree_text below)
text_test form above below = ap tree_text (sym (rolls-Test form above below))
    ∙ fold-roll-Tree (List ℕ) tree_lines (tree_layer.Test form above below)

pub text_divides : (form : Form) (divisor : ℤ) (above below : Tree) → tree_text (Divides form divisor above below)
    ≡ divides_text form divisor ++ (tree_text above ++ tree_text below)
text_divides form divisor above below = ap tree_text (sym (rolls-Divides form divisor above below))
    ∙ fold-roll-Tree (List ℕ) tree_lines (tree_layer.Divides form divisor above below)

pub text_writer : (statement : ℕ) (place : List Form) (proofs : List Proof)
    → tree_text (Writer statement place proofs) ≡ writer_text statement (length place) (length proofs)
    ++ (flat_map map_text place ++ flat_map proof_text proofs)
text_writer statement place proofs = ap tree_text (sym (rolls-Writer statement place proofs))
    ∙ fold-roll-Tree (List ℕ) tree_lines (tree_layer.Writer statement place proofs)

pub text_zero : (proofs : List Proof) → tree_text (Zero proofs) ≡ zero_text (length proofs) ++ flat_map proof_text proofs
text_zero proofs = ap tree_text (sym (rolls-Zero proofs)) ∙ fold-roll-Tree (List ℕ) tree_lines (tree_layer.Zero proofs)

pub text_dead : (p : Proof) → tree_text (Dead p) ≡ dead_text ++ proof_text p
text_dead p = ap tree_text (sym (rolls-Dead p)) ∙ fold-roll-Tree (List ℕ) tree_lines (tree_layer.Dead p)

-- What was written

-- two texts, one behind the other
pub wrote_two : {W : Type 0} (given : W → Given) {a b c : W} (one two all : List ℕ) → all ≡ one ++ two
    → Wrote given a b one → Wrote given b c two → Wrote given a c all
wrote_two given {a} {b} {c} one two all is first second = (
  second.0 ∙ first.0,
  second.1 ∙ ap (λ (text : List ℕ). text ++ two) first.1
      ∙ append_assoc (given a).text one two
      ∙ ap (λ (text : List ℕ). (given a).text ++ text) (sym is),
)

pub wrote_three : {W : Type 0} (given : W → Given) {a b c d : W} (one two three all : List ℕ)
    → all ≡ one ++ (two ++ three)
    → Wrote given a b one → Wrote given b c two → Wrote given c d three → Wrote given a d all
wrote_three given one two three all is first second third =
    wrote_two given one (two ++ three) all is first (wrote_two given two three (two ++ three) refl second third)
