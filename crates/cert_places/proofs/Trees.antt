-- Proofs and trees are read by their lines.
--
-- It goes by the number of levels that are left: the depth of a line and the levels left add up to 513, so no level is
-- left just where a line is too deep. The shapes let a proof or a tree nest a level deeper than is left, so a line that is
-- too deep can still be followed by leaves: `z 0`, or a proof that is one Sum without terms. Each kind of line makes a
-- layer of what stands behind it, and what is read is the layer's text by the equation of the fold that gives it.
use Rattle.std.proofs.Common.{◌≡◌, ℕ, zero, suc, ◌+◌, ◌≤◌, ℤ, pos, List, [], ◌∷◌, ◌++◌, Err, length, append-nil, refl}
use Rattle.std.proofs.Common.{sym, ap, subst, ◌∙◌, arith}
use Rattle.std.specs.List.{flat_map}
use Rattle.std.proofs.lemmas.List.Elements.{All-nil}
use Rattle.affine_core.specs.declared.form.Form.{Form}
use Rattle.int_polyhedra.specs.declared.system.Proof.{Proof, out-Proof}
use Rattle.int_polyhedra.specs.declared.system.Proof.TheFolds.{fold-roll-Proof, map-Proof}
use Rattle.int_polyhedra.specs.declared.system.Proof.TheOpen as proof_layer
use Rattle.int_polyhedra.specs.declared.system.Proof.TheVariants.{Sum}
use Rattle.int_polyhedra.specs.declared.system.Proof.TheViews.{Cut, Split, out-roll-Proof, outs-Sum, roll-Proof}
use Rattle.int_polyhedra.specs.declared.system.Proof.TheViews.{roll-out-Proof}
use Rattle.int_polyhedra.specs.declared.system.Term.{Term}
use Rattle.source_tree.specs.declared.tree.Tree.{Tree, out-Tree}
use Rattle.source_tree.specs.declared.tree.Tree.TheFolds.{fold-roll-Tree, map-Tree}
use Rattle.source_tree.specs.declared.tree.Tree.TheOpen as tree_layer
use Rattle.source_tree.specs.declared.tree.Tree.TheVariants.{Writer, Zero, Dead}
use Rattle.source_tree.specs.declared.tree.Tree.TheViews.{Test, Divides, out-roll-Tree, outs-Zero, roll-Tree}
use Rattle.source_tree.specs.declared.tree.Tree.TheViews.{roll-out-Tree}
use Rattle.cert_lines.specs.declared.error.CertError.TheVariants.{Deep}
use Rattle.cert_lines.specs.Reading.{Part, Place, followed_by, line, many}
use Rattle.text_out.specs.Words.{line_text}
use Rattle.tree_text.specs.Lines.{map_line, proof_line, tree_line}
use Rattle.tree_text.specs.Reading.{proof, proof_behind, tree_behind, tree_within}
use Rattle.tree_text.specs.TreeText.{FormIsInRange, ProofIsInRange, ProofStepIsInRange, TermIsInRange, map_text}
use Rattle.tree_text.specs.TreeText.{proof_lines, proof_text, sum_text, tree_lines, tree_text, writer_text, zero_text}
use Rattle.tree_text.proofs.Spellings.{ProofLineIsInRange, TreeLineIsInRange, map_spelled, map_words}
use Rattle.tree_text.proofs.Spellings.{proof_line_spelled, proof_words, tree_line_spelled, tree_words}
use Rattle.tree_text.proofs.ReadBack.{proof_in_range}
use Rattle.cert_places.specs.Depths.{NodeNestsTo, TreeNestsTo, node_depths, proof_depths, step_depths, tree_depths}
use Rattle.cert_places.proofs.LineTypes.{ProofLine, TreeLine, cut_line, dead_line, divides_line, proof_said, split_line}
use Rattle.cert_places.proofs.LineTypes.{sum_line, test_line, tree_said, writer_line, zero_line}
use Rattle.cert_places.proofs.Patterns.{milds_map, milds_proof, milds_tree}
use Rattle.cert_places.proofs.Shapes.{Any, Apart, LineShape, Many, Nested, Nil, Reads, Shape, Step, Two, behind_nested}
use Rattle.cert_places.proofs.Shapes.{deepest, nested, reads_alone, reads_made, reads_many, reads_spelled, reads_two}
use Rattle.cert_places.proofs.Shapes.{reads_value}

-- Proofs

-- a proof whose first line is so deep, which nests a level from there and so many more
abbrev pub ProofShape : ℕ → ℕ → Shape
ProofShape levels depth = record {
  X = Proof;
  text = proof_text;
  depths = λ p. proof_depths p depth;
  fits = ProofIsInRange (suc levels);
  some = Sum [];
  some_fits = proof_in_range levels (Sum []) (proof_layer.Sum []) (outs-Sum []) (All-nil TermIsInRange);
}

module _ (levels depth : ℕ) (second : ℕ → ProofLine → Part Proof)
    (k : Nested proof_behind depth (ProofShape levels (depth + 1)) second) where
  abbrev Below : Shape
  Below = ProofShape levels (depth + 1)

  abbrev ProofStep : ProofLine → Type 1
  ProofStep l = ProofLineIsInRange l
      → Step Any (ProofShape (suc levels) depth) (line_text (proof_words l)) (λ n. second n l)

  abbrev proof_step : (l : ProofLine) (S : Shape) (y : S.X → proof_layer.Proof-F Proof)
      → ((x : S.X) → S.fits x → ProofStepIsInRange (ProofIsInRange (suc levels)) (y x))
      → ((x : S.X) → S.fits x
      → proof_lines (map-Proof Proof (List ℕ) proof_text (y x)) ≡ line_text (proof_words l) ++ S.text x)
      → ((x : S.X) → step_depths (map-Proof Proof (ℕ → List ℕ) proof_depths (y x)) depth ≡ depth ∷ S.depths x)
      → ((inner : Part Proof) → Reads Any inner Below → Reads Any (proof_behind inner l) S)
      → Step Any (ProofShape (suc levels) depth) (line_text (proof_words l)) (λ n. second n l)
  proof_step l S y fits text_is depths_are reads = record {
    S = S;
    depth = depth;
    make = λ x. roll-Proof (y x);
    fits = λ x f. proof_in_range (suc levels) (roll-Proof (y x)) (y x) (out-roll-Proof (y x)) (fits x f);
    text_is = λ x f. fold-roll-Proof (List ℕ) proof_lines (y x) ∙ text_is x f;
    depths_are = λ x f. ap (λ (g : ℕ → List ℕ). g depth) (fold-roll-Proof (ℕ → List ℕ) step_depths (y x)) ∙ depths_are x;
    behind = behind_nested proof_behind depth Below second k l S reads;
  }

  abbrev sum_step : (terms : List Term) → ProofStep (sum_line terms)
  sum_step terms r =
      proof_step (sum_line terms) Nil (λ x. proof_layer.Sum terms) (λ x f. r)
      (λ x f. sym (append-nil (sum_text terms))) (λ x. refl)
      (λ inner reads. reads_value (Sum terms))

  abbrev cut_step : (divisor : ℤ) (terms : List Term) → ProofStep (cut_line divisor terms)
  cut_step divisor terms r =
      proof_step (cut_line divisor terms) Below (λ p. proof_layer.Cut divisor terms p) (λ p f. (r.0, r.1, f))
      (λ p f. refl) (λ p. refl) (λ inner reads. reads_made (λ rest. Cut divisor terms rest) reads)

  abbrev split_step : (form : Form) → ProofStep (split_line form)
  split_step form r =
      proof_step (split_line form) (Two Below Below) (λ p. proof_layer.Split form p.0 p.1) (λ p f. (r, f.0, f.1))
      (λ p f. refl) (λ p. refl) (λ inner reads. reads_two reads (λ a. reads_made (λ b. Split form a b) reads))

  module _ (whole : Part Proof)
      (whole_is : (at : Place) → whole at ≡ followed_by (line proof_line at) (second at.line)) where
    abbrev ProofApart : Proof → Type 1
    ProofApart = Apart Any proof_line proof_words ProofLineIsInRange proof_line_spelled second whole whole_is
        (ProofShape (suc levels) depth)

    of_step : (l : ProofLine) (step : ProofStep l) (holds : ProofLineIsInRange l) (x : (step holds).S.X)
        → (step holds).S.fits x → ProofApart ((step holds).make x)
    of_step l step holds x fits =
        record { said = l; holds = holds; step = step holds; x = x; fits = fits; is = refl }

    layer_apart : (y : proof_layer.Proof-F Proof) → ProofStepIsInRange (ProofIsInRange (suc levels)) y
        → ProofApart (roll-Proof y)
    layer_apart (proof_layer.Sum terms) r = of_step (sum_line terms) (sum_step terms) r tt tt
    layer_apart (proof_layer.Cut divisor terms p) r =
        of_step (cut_line divisor terms) (cut_step divisor terms) (r.0, r.1) p r.2
    layer_apart (proof_layer.Split form above below) r =
        of_step (split_line form) (split_step form) r.0 (above, below) (r.1, r.2)

    proof_apart : (p : Proof) → ProofIsInRange (suc (suc levels)) p → ProofApart p
    unfolding ProofIsInRange
    proof_apart p r = subst ProofApart (roll-out-Proof p) (layer_apart (out-Proof p) r)

    reads_proof_line : Reads Any whole (ProofShape (suc levels) depth)
    reads_proof_line =
        reads_spelled Any proof_line proof_words ProofLineIsInRange proof_line_spelled second whole whole_is
        (ProofShape (suc levels) depth) (proof_said ProofStep sum_step cut_step split_step) proof_apart milds_proof

pub proof_reads : (left levels depth : ℕ) → depth + left ≡ 513 → left ≤ levels
    → Reads Any (proof left) (ProofShape (suc levels) depth)
unfolding proof
proof_reads zero levels depth sum enough =
    reads_proof_line levels depth (λ n said at. Err (Deep n)) (deepest (omega (arith, sum)) (λ n l at. refl)) (proof 0)
    (λ at. refl)
proof_reads (suc left) zero depth sum enough = absurd (omega (arith, enough))
proof_reads (suc left) (suc levels) depth sum enough =
    reads_proof_line (suc levels) depth (λ n. proof_behind (proof left))
    (nested (omega (arith, sum)) (proof left) (λ n l. refl)
    (proof_reads left levels (depth + 1) (omega (arith, sum)) (omega (arith, enough)))) (proof (suc left)) (λ at. refl)

-- Trees

zero_form : Form
zero_form = record { constant = pos 0; coefs = [] }

zero_form_fits : FormIsInRange zero_form
unfolding zero_form
zero_form_fits = record { numbers = refl; variables = omega arith }

abbrev FormShape : Shape
FormShape = LineShape map_line map_words FormIsInRange map_spelled zero_form zero_form_fits

pub node_in_range : (top levels : ℕ) (t : Tree) (y : tree_layer.Tree-F Tree) → out-Tree t ≡ y
    → NodeNestsTo top (TreeNestsTo top levels) y → TreeNestsTo top (suc levels) t
unfolding TreeNestsTo
node_in_range top levels t y is k = subst (NodeNestsTo top (TreeNestsTo top levels)) (sym is) k

-- the proofs nest to two levels more than that
module _ (top : ℕ) (deep : 512 ≤ top) where
  abbrev ProofsShape : ℕ → Shape
  ProofsShape = Many (ProofShape (suc top) 1)

  proofs_read : (count : ℕ) → Reads Any (many (proof 512) count) (ProofsShape count)
  proofs_read = reads_many (ProofShape (suc top) 1) (proof_reads 512 top 1 refl deep)

  abbrev pub TreeShape : ℕ → ℕ → Shape
  TreeShape levels depth = record {
    X = Tree;
    text = tree_text;
    depths = λ t. tree_depths t depth;
    fits = TreeNestsTo (suc (suc top)) (suc levels);
    some = Zero [];
    some_fits = node_in_range (suc (suc top)) levels (Zero []) (tree_layer.Zero []) (outs-Zero [])
        (record { count = omega arith; each = All-nil (ProofIsInRange (suc (suc top))) });
  }

  module _ (levels depth : ℕ) (second : ℕ → TreeLine → Part Tree)
      (k : Nested tree_behind depth (TreeShape levels (depth + 1)) second) where
    abbrev Inner : Shape
    Inner = TreeShape levels (depth + 1)

    abbrev TreeStep : TreeLine → Type 1
    TreeStep l = TreeLineIsInRange l
        → Step Any (TreeShape (suc levels) depth) (line_text (tree_words l)) (λ n. second n l)

    abbrev tree_step : (l : TreeLine) (S : Shape) (y : S.X → tree_layer.Tree-F Tree)
        → ((x : S.X) → S.fits x → NodeNestsTo (suc (suc top)) (TreeNestsTo (suc (suc top)) (suc levels)) (y x))
        → ((x : S.X) → S.fits x
        → tree_lines (map-Tree Tree (List ℕ) tree_text (y x)) ≡ line_text (tree_words l) ++ S.text x)
        → ((x : S.X) → node_depths (map-Tree Tree (ℕ → List ℕ) tree_depths (y x)) depth ≡ depth ∷ S.depths x)
        → ((inner : Part Tree) → Reads Any inner Inner → Reads Any (tree_behind inner l) S)
        → Step Any (TreeShape (suc levels) depth) (line_text (tree_words l)) (λ n. second n l)
    tree_step l S y fits text_is depths_are reads = record {
      S = S;
      depth = depth;
      make = λ x. roll-Tree (y x);
      fits = λ x f. node_in_range (suc (suc top)) (suc levels) (roll-Tree (y x)) (y x) (out-roll-Tree (y x)) (fits x f);
      text_is = λ x f. fold-roll-Tree (List ℕ) tree_lines (y x) ∙ text_is x f;
      depths_are = λ x f. ap (λ (g : ℕ → List ℕ). g depth) (fold-roll-Tree (ℕ → List ℕ) node_depths (y x)) ∙ depths_are x;
      behind = behind_nested tree_behind depth Inner second k l S reads;
    }

    abbrev test_step : (form : Form) → TreeStep (test_line form)
    test_step form r =
        tree_step (test_line form) (Two Inner Inner) (λ p. tree_layer.Test form p.0 p.1) (λ p f. (r, f.0, f.1))
        (λ p f. refl) (λ p. refl) (λ inner reads. reads_two reads (λ a. reads_made (λ b. Test form a b) reads))

    abbrev divides_step : (form : Form) (divisor : ℤ) → TreeStep (divides_line form divisor)
    divides_step form divisor r =
        tree_step (divides_line form divisor) (Two Inner Inner) (λ p. tree_layer.Divides form divisor p.0 p.1)
        (λ p f. (r, f.0, f.1)) (λ p f. refl) (λ p. refl)
        (λ inner reads. reads_two reads (λ a. reads_made (λ b. Divides form divisor a b) reads))

    abbrev writer_step : (statement forms proofs : ℕ) → TreeStep (writer_line statement forms proofs)
    writer_step statement forms proofs r =
        tree_step (writer_line statement forms proofs) (Two (Many FormShape forms) (ProofsShape proofs))
        (λ p. tree_layer.Writer statement p.0 p.1)
        (λ p f. (
          record { named = r.0; count = omega (arith, r.1.0, f.0.0); forms = f.0.1 },
          record { count = omega (arith, r.1.1, f.1.0); each = f.1.1 },
        ))
        (λ p f.
        ap (λ (n : ℕ). writer_text statement n (length p.1) ++ (flat_map map_text p.0 ++ flat_map proof_text p.1)) f.0.0
        ∙ ap (λ (n : ℕ). writer_text statement forms n ++ (flat_map map_text p.0 ++ flat_map proof_text p.1)) f.1.0)
        (λ p. refl)
        (λ inner reads. reads_two
        (reads_many FormShape
        (reads_alone map_line map_words FormIsInRange map_spelled zero_form zero_form_fits milds_map) forms)
        (λ fs. reads_made (λ ps. Writer statement fs ps) (proofs_read proofs)))

    abbrev zero_step : (proofs : ℕ) → TreeStep (zero_line proofs)
    zero_step proofs r =
        tree_step (zero_line proofs) (ProofsShape proofs) (λ ps. tree_layer.Zero ps)
        (λ ps f. record { count = omega (arith, r, f.0); each = f.1 })
        (λ ps f. ap (λ (n : ℕ). zero_text n ++ flat_map proof_text ps) f.0) (λ ps. refl)
        (λ inner reads. reads_made (λ ps. Zero ps) (proofs_read proofs))

    abbrev dead_step : TreeStep dead_line
    dead_step r =
        tree_step dead_line (ProofShape (suc top) 1) (λ p. tree_layer.Dead p) (λ p f. f) (λ p f. refl) (λ p. refl)
        (λ inner reads. reads_made (λ p. Dead p) (proof_reads 512 top 1 refl deep))

    module _ (whole : Part Tree)
        (whole_is : (at : Place) → whole at ≡ followed_by (line tree_line at) (second at.line)) where
      abbrev TreeApart : Tree → Type 1
      TreeApart = Apart Any tree_line tree_words TreeLineIsInRange tree_line_spelled second whole whole_is
          (TreeShape (suc levels) depth)

      of_node : (l : TreeLine) (step : TreeStep l) (holds : TreeLineIsInRange l) (x : (step holds).S.X)
          → (step holds).S.fits x → TreeApart ((step holds).make x)
      of_node l step holds x fits =
          record { said = l; holds = holds; step = step holds; x = x; fits = fits; is = refl }

      node_apart : (y : tree_layer.Tree-F Tree)
          → NodeNestsTo (suc (suc top)) (TreeNestsTo (suc (suc top)) (suc levels)) y → TreeApart (roll-Tree y)
      node_apart (tree_layer.Test form above below) r =
          of_node (test_line form) (test_step form) r.0 (above, below) (r.1, r.2)
      node_apart (tree_layer.Divides form divisor above below) r =
          of_node (divides_line form divisor) (divides_step form divisor) r.0 (above, below) (r.1, r.2)
      node_apart (tree_layer.Writer statement place proofs) r =
          of_node (writer_line statement (length place) (length proofs))
          (writer_step statement (length place) (length proofs)) (r.0.named, (r.0.count, r.1.count)) (place, proofs)
          ((refl, r.0.forms), (refl, r.1.each))
      node_apart (tree_layer.Zero proofs) r =
          of_node (zero_line (length proofs)) (zero_step (length proofs)) r.count proofs (refl, r.each)
      node_apart (tree_layer.Dead p) r = of_node dead_line dead_step tt p r

      tree_apart : (t : Tree) → TreeNestsTo (suc (suc top)) (suc (suc levels)) t → TreeApart t
      unfolding TreeNestsTo
      tree_apart t r = subst TreeApart (roll-out-Tree t) (node_apart (out-Tree t) r)

      reads_tree_line : Reads Any whole (TreeShape (suc levels) depth)
      reads_tree_line =
          reads_spelled Any tree_line tree_words TreeLineIsInRange tree_line_spelled second whole whole_is
          (TreeShape (suc levels) depth)
          (tree_said TreeStep test_step divides_step writer_step zero_step dead_step) tree_apart milds_tree

  pub tree_reads : (left levels depth : ℕ) → depth + left ≡ 513 → left ≤ levels
      → Reads Any (tree_within left) (TreeShape (suc levels) depth)
  unfolding tree_within
  tree_reads zero levels depth sum enough =
      reads_tree_line levels depth (λ n said at. Err (Deep n)) (deepest (omega (arith, sum)) (λ n l at. refl))
      (tree_within 0) (λ at. refl)
  tree_reads (suc left) zero depth sum enough = absurd (omega (arith, enough))
  tree_reads (suc left) (suc levels) depth sum enough =
      reads_tree_line (suc levels) depth (λ n. tree_behind (tree_within left))
      (nested (omega (arith, sum)) (tree_within left) (λ n l. refl)
      (tree_reads left levels (depth + 1) (omega (arith, sum)) (omega (arith, enough)))) (tree_within (suc left))
      (λ at. refl)
