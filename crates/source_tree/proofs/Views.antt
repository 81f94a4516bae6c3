-- The node of a tree, by its kind. A tree is of one kind, and its parts are determined: two ways to write it open to
-- one node. A form or a divisor that is read out of its few bytes is the one that the tree has.
use Rattle.std.proofs.Common.{◌≡◌, ◌∙◌, ℕ, ℤ, List, sym, ap}
use Rattle.affine_core.specs.declared.form.Form.{Form}
use Rattle.int_polyhedra.specs.declared.system.Proof.{Proof}
use Rattle.source_tree.specs.declared.tree.Tree.{Tree, out-Tree}
use Rattle.source_tree.specs.declared.tree.Tree.TheOpen as open_
use Rattle.source_tree.specs.declared.tree.Tree.TheVariants.{Writer, Zero, Dead}
use Rattle.source_tree.specs.declared.tree.Tree.TheViews.{Divides, Test, outs-Test, outs-Writer}
use Rattle.source_tree.specs.declared.tree.Tree.TheViews.{outs-Zero, outs-Dead}

pub node-Test : (tree : Tree) (form : Form) (a b : Tree) → tree ≡ Test form a b → out-Tree tree ≡ open_.Test form a b
node-Test tree form a b e = ap out-Tree e ∙ outs-Test form a b

pub node-Writer : (tree : Tree) (s : ℕ) (place : List Form) (proofs : List Proof) → tree ≡ Writer s place proofs
    → out-Tree tree ≡ open_.Writer s place proofs
node-Writer tree s place proofs e = ap out-Tree e ∙ outs-Writer s place proofs

pub node-Zero : (tree : Tree) (proofs : List Proof) → tree ≡ Zero proofs → out-Tree tree ≡ open_.Zero proofs
node-Zero tree proofs e = ap out-Tree e ∙ outs-Zero proofs

pub node-Dead : (tree : Tree) (proof : Proof) → tree ≡ Dead proof → out-Tree tree ≡ open_.Dead proof
node-Dead tree proof e = ap out-Tree e ∙ outs-Dead proof

pub node_unique : (tree : Tree) (x y : open_.Tree-F Tree) → out-Tree tree ≡ x → out-Tree tree ≡ y → x ≡ y
node_unique tree x y e h = sym e ∙ h

pub kept_test : {tree : Tree} {form form' : Form} (a b : Tree) → tree ≡ Test form a b → form' ≡ form
    → tree ≡ Test form' a b
kept_test {tree} {form} {form'} a b e f = e ∙ ap (λ form. Test form a b) (sym f)

pub kept_divisor : {tree : Tree} {form : Form} {d d' : ℤ} (a b : Tree) → tree ≡ Divides form d a b → d' ≡ d
    → tree ≡ Divides form d' a b
kept_divisor {tree} {form} {d} {d'} a b e f = e ∙ ap (λ d. Divides form d a b) (sym f)
