-- Trees and proofs are read as they are written, and as no others. Both directions go by the number of levels that are
-- left: a proof's line is read back by its spelling, the proofs behind it by the claim at one level less; at no level
-- nothing is read, and nothing is in range. The claim is of any text that follows, since the proofs of a step stand one
-- behind the other.
use Rattle.std.proofs.Common.{◌≡◌, ℕ, zero, suc, ℤ, List, ◌++◌, All, Result, Ok, length, append_assoc}
use Rattle.std.proofs.Common.{refl, sym, ap, subst, ◌∙◌}
use Rattle.std.specs.List.{flat_map}
use Rattle.affine_core.specs.declared.form.Form.{Form}
use Rattle.int_polyhedra.specs.declared.system.Proof.{Proof, out-Proof}
use Rattle.int_polyhedra.specs.declared.system.Proof.TheOpen as proof_layer
use Rattle.int_polyhedra.specs.declared.system.Proof.TheViews.{Cut, Split, outs-Sum, outs-Cut, outs-Split, roll-Proof}
use Rattle.int_polyhedra.specs.declared.system.Proof.TheViews.{roll-out-Proof, rolls-Sum, rolls-Cut, rolls-Split}
use Rattle.int_polyhedra.specs.declared.system.Proof.TheVariants.{Sum}
use Rattle.int_polyhedra.specs.declared.system.Term.{Term}
use Rattle.source_tree.specs.declared.tree.Tree.{Tree, out-Tree}
use Rattle.source_tree.specs.declared.tree.Tree.TheOpen as tree_layer
use Rattle.source_tree.specs.declared.tree.Tree.TheViews.{Test, Divides, outs-Test, outs-Divides, outs-Writer}
use Rattle.source_tree.specs.declared.tree.Tree.TheViews.{outs-Zero, outs-Dead, roll-Tree, roll-out-Tree, rolls-Test}
use Rattle.source_tree.specs.declared.tree.Tree.TheViews.{rolls-Divides, rolls-Writer, rolls-Zero, rolls-Dead}
use Rattle.source_tree.specs.declared.tree.Tree.TheVariants.{Writer, Zero, Dead}
use Rattle.cert_lines.specs.declared.error.CertError.{CertError}
use Rattle.cert_lines.specs.Reading.{Part, Place, followed_by, line, many}
use Rattle.cert_lines.proofs.Codecs.{IsCodec, ReadsTo, followed, line_codec, many_codec, of_value, reads_first}
use Rattle.tree_text.specs.declared.lines.ProofLine.{ProofLine}
use Rattle.tree_text.specs.declared.lines.ProofLine.TheVariants as of_proof
use Rattle.tree_text.specs.declared.lines.TreeLine.{TreeLine}
use Rattle.tree_text.specs.declared.lines.TreeLine.TheVariants as of_tree
use Rattle.tree_text.specs.Lines.{map_line, proof_line, tree_line}
use Rattle.tree_text.specs.Reading.{proof, proof_behind, tree_behind, tree_within}
use Rattle.tree_text.specs.TreeText.{FormIsInRange, ProofIsInRange, ProofStepIsInRange}
use Rattle.tree_text.specs.TreeText.{TreeIsWithin, TreeStepIsInRange, cut_text, dead_text}
use Rattle.tree_text.specs.TreeText.{divides_text, map_text, proof_text, split_text, test_text}
use Rattle.tree_text.specs.TreeText.{tree_text, writer_text, zero_text}
use Rattle.tree_text.proofs.Spellings.{ProofLineIsInRange, TreeLineIsInRange, map_spelled, map_words}
use Rattle.tree_text.proofs.Spellings.{proof_line_spelled, proof_words, tree_line_spelled, tree_words}
use Rattle.tree_text.proofs.Texts.{text_sum, text_cut, text_split, text_test, text_divides, text_writer, text_zero}
use Rattle.tree_text.proofs.Texts.{text_dead}
use Rattle.text_out.specs.Words.{line_text}

-- Proofs

proof_line_codec : IsCodec (line proof_line) (λ l. line_text (proof_words l)) ProofLineIsInRange
proof_line_codec = line_codec proof_line proof_words ProofLineIsInRange proof_line_spelled

-- no proof nests no level
pub no_proof : (p : Proof) → ProofIsInRange 0 p → ⊥
unfolding ProofIsInRange
no_proof p r = r

-- a step is in range where its layer is
pub proof_in_range : (levels : ℕ) (p : Proof) (y : proof_layer.Proof-F Proof) → out-Proof p ≡ y
    → ProofStepIsInRange (ProofIsInRange levels) y → ProofIsInRange (suc levels) p
unfolding ProofIsInRange
proof_in_range levels p y is k = subst (ProofStepIsInRange (ProofIsInRange levels)) (sym is) k

-- a text behind which more stands
two_parts : (a b c d : List ℕ) → a ≡ b ++ c → a ++ d ≡ b ++ (c ++ d)
two_parts a b c d e = ap (λ (text : List ℕ). text ++ d) e ∙ append_assoc b c d

-- a part that reads a value from a text reads it from an equal one
moved_text : {A : Type 0} (part : Part A) (n : ℕ) (a b : List ℕ) (x : A) (rest : List ℕ) → a ≡ b
    → ReadsTo part n b x rest → ReadsTo part n a x rest
moved_text part n a b x rest e k = subst (λ (text : List ℕ). ReadsTo part n text x rest) (sym e) k

module _ (levels : ℕ) (inner : IsCodec (proof levels) proof_text (ProofIsInRange levels)) where
  -- what a text says behind the line of a step
  behind_line : (n : ℕ) (l : ProofLine) (rest : List ℕ) (p : Proof) (more : List ℕ) → ProofLineIsInRange l
      → ((m : ℕ) → ReadsTo (proof_behind (proof levels) l) m rest p more)
      → ReadsTo (proof (suc levels)) n (line_text (proof_words l) ++ rest) p more
  unfolding proof
  behind_line n l rest p more k reads =
      let first = proof_line_codec.back l n rest k in
      let second = reads first.line in
      record {
        line = second.line;
        reads = reads_first (line proof_line (record { line = n; text = line_text (proof_words l) ++ rest }))
            (proof_behind (proof levels)) l (record { line = first.line; text = rest })
            (Ok (p, record { line = second.line; text = more })) first.reads second.reads;
      }

  sum_back : (terms : List Term) (n : ℕ) (rest : List ℕ) → ProofStepIsInRange (ProofIsInRange levels)
      (proof_layer.Sum terms) → ReadsTo (proof (suc levels)) n (proof_text (Sum terms) ++ rest) (Sum terms) rest
  sum_back terms n rest k =
      moved_text (proof (suc levels)) n _ _ (Sum terms) rest (ap (λ (text : List ℕ). text ++ rest) (text_sum terms))
      (behind_line n (of_proof.Sum terms) rest (Sum terms) rest k (λ m. record { line = m; reads = refl }))

  cut_back : (divisor : ℤ) (terms : List Term) (p : Proof) (n : ℕ) (rest : List ℕ)
      → ProofStepIsInRange (ProofIsInRange levels) (proof_layer.Cut divisor terms p)
      → ReadsTo (proof (suc levels)) n (proof_text (Cut divisor terms p) ++ rest) (Cut divisor terms p) rest
  cut_back divisor terms p n rest k =
      moved_text (proof (suc levels)) n _ _ (Cut divisor terms p) rest
      (two_parts _ (cut_text divisor terms) (proof_text p) rest (text_cut divisor terms p))
      (behind_line n (of_proof.Cut divisor terms) (proof_text p ++ rest) (Cut divisor terms p) rest (k.0, k.1) (λ m.
      let one = inner.back p m rest k.2 in
      record {
        line = one.line;
        reads = reads_first (proof levels (record { line = m; text = proof_text p ++ rest }))
            (λ r at. Ok (Cut divisor terms r, at)) p (record { line = one.line; text = rest })
            (Ok (Cut divisor terms p, record { line = one.line; text = rest })) one.reads refl;
      }))

  split_back : (form : Form) (above below : Proof) (n : ℕ) (rest : List ℕ)
      → ProofStepIsInRange (ProofIsInRange levels) (proof_layer.Split form above below)
      → ReadsTo (proof (suc levels)) n (proof_text (Split form above below) ++ rest) (Split form above below) rest
  split_back form above below n rest k =
      moved_text (proof (suc levels)) n _ _ (Split form above below) rest
      (two_parts _ (split_text form) (proof_text above ++ proof_text below) rest (text_split form above below)
      ∙ ap (λ (text : List ℕ). split_text form ++ text) (append_assoc (proof_text above) (proof_text below) rest))
      (behind_line n (of_proof.Split form) (proof_text above ++ (proof_text below ++ rest))
      (Split form above below) rest k.0 (λ m.
      let one = inner.back above m (proof_text below ++ rest) k.1 in
      let two = inner.back below one.line rest k.2 in
      let end : Result (Proof × Place) CertError = Ok (Split form above below, record { line = two.line; text = rest })
      in
      record {
        line = two.line;
        reads = reads_first (proof levels (record { line = m; text = proof_text above ++ (proof_text below ++ rest) }))
            (λ a at. followed_by (proof levels at) (λ b at. Ok (Split form a b, at))) above
            (record { line = one.line; text = proof_text below ++ rest }) end one.reads
            (reads_first (proof levels (record { line = one.line; text = proof_text below ++ rest }))
            (λ b at. Ok (Split form above b, at)) below
            (record { line = two.line; text = rest }) end two.reads refl);
      }))

  layer_back : (y : proof_layer.Proof-F Proof) (n : ℕ) (rest : List ℕ) → ProofStepIsInRange (ProofIsInRange levels) y
      → ReadsTo (proof (suc levels)) n (proof_text (roll-Proof y) ++ rest) (roll-Proof y) rest
  layer_back (proof_layer.Sum terms) n rest k = subst (λ (q : Proof). ReadsTo (proof (suc levels)) n
      (proof_text q ++ rest) q rest) (sym (rolls-Sum terms)) (sum_back terms n rest k)
  layer_back (proof_layer.Cut divisor terms p) n rest k =
      subst (λ (q : Proof). ReadsTo (proof (suc levels)) n (proof_text q ++ rest) q rest)
      (sym (rolls-Cut divisor terms p)) (cut_back divisor terms p n rest k)
  layer_back (proof_layer.Split form above below) n rest k =
      subst (λ (q : Proof). ReadsTo (proof (suc levels)) n (proof_text q ++ rest) q rest)
      (sym (rolls-Split form above below)) (split_back form above below n rest k)

  level_back : (p : Proof) (n : ℕ) (rest : List ℕ) → ProofIsInRange (suc levels) p
      → ReadsTo (proof (suc levels)) n (proof_text p ++ rest) p rest
  unfolding ProofIsInRange
  level_back p n rest k = subst (λ (q : Proof). ReadsTo (proof (suc levels)) n (proof_text q ++ rest) q rest)
      (roll-out-Proof p) (layer_back (out-Proof p) n rest k)

  behind_forth : (l : ProofLine) (at next : Place) (p : Proof) (all : List ℕ) → ProofLineIsInRange l → all
      ≡ line_text (proof_words l) ++ at.text
      → proof_behind (proof levels) l at ≡ Ok (p, next) → (all ≡ proof_text p ++ next.text)
      × ProofIsInRange (suc levels) p
  behind_forth (of_proof.Sum terms) at next p all k text e =
      of_value proof_text (ProofIsInRange (suc levels)) all (Sum terms) p at next e (
        text ∙ ap (λ (front : List ℕ). front ++ at.text) (sym (text_sum terms)),
        proof_in_range levels (Sum terms) (proof_layer.Sum terms) (outs-Sum terms) k,
      )
  behind_forth (of_proof.Cut divisor terms) at next p all k text e =
      let one = followed (proof levels at) (λ rest at. Ok (Cut divisor terms rest, at)) p next e in
      let rest = inner.forth at one.between one.value one.first in
      let whole = Cut divisor terms one.value in
      of_value proof_text (ProofIsInRange (suc levels)) all whole p one.between next one.second (
        text ∙ ap (λ (more : List ℕ). cut_text divisor terms ++ more) rest.0
            ∙ sym (two_parts (proof_text whole) (cut_text divisor terms) (proof_text one.value) one.between.text
            (text_cut divisor terms one.value)),
        proof_in_range levels whole (proof_layer.Cut divisor terms one.value) (outs-Cut divisor terms one.value)
            (k.0, k.1, rest.1),
      )
  behind_forth (of_proof.Split form) at next p all k text e =
      let one = followed (proof levels at)
      (λ above at. followed_by (proof levels at) (λ below at. Ok (Split form above below, at))) p next e in
      let two = followed (proof levels one.between) (λ below at. Ok (Split form one.value below, at)) p next one.second
      in
      let above = inner.forth at one.between one.value one.first in
      let below = inner.forth one.between two.between two.value two.first in
      let whole = Split form one.value two.value in
      of_value proof_text (ProofIsInRange (suc levels)) all whole p two.between next two.second (
        text ∙ ap (λ (more : List ℕ). split_text form ++ more)
            (above.0 ∙ ap (λ (more : List ℕ). proof_text one.value ++ more) below.0
            ∙ sym (append_assoc (proof_text one.value) (proof_text two.value) two.between.text))
            ∙ sym (two_parts (proof_text whole) (split_text form)
            (proof_text one.value ++ proof_text two.value) two.between.text (text_split form one.value two.value)),
        proof_in_range levels whole (proof_layer.Split form one.value two.value) (outs-Split form one.value two.value)
            (k, above.1, below.1),
      )

  level_forth : (at next : Place) (p : Proof) → proof (suc levels) at ≡ Ok (p, next)
      → (at.text ≡ proof_text p ++ next.text) × ProofIsInRange (suc levels) p
  unfolding proof
  level_forth at next p e =
      let one = followed (line proof_line at) (proof_behind (proof levels)) p next e in
      let l = proof_line_codec.forth at one.between one.value one.first in
      behind_forth one.value one.between next p at.text l.1 l.0 one.second

-- of each proof that nests at most so deep this is the text, and nothing else has this text
pub proof_codec : (levels : ℕ) → IsCodec (proof levels) proof_text (ProofIsInRange levels)
unfolding proof ProofIsInRange
proof_codec zero = record {
  back = λ p n rest k. absurd k;
  forth = λ at next p e. let one = followed (line proof_line at) _ p next e in let wrong = one.second
      in absurd (cc wrong);
}
proof_codec (suc levels) =
    record { back = level_back levels (proof_codec levels); forth = level_forth levels (proof_codec levels) }

proofs_codec : (count : ℕ)
    → IsCodec (many (proof 512) count) (flat_map proof_text) (λ ps. (length ps ≡ count) × All (ProofIsInRange 512) ps)
proofs_codec count = many_codec (proof 512) proof_text (ProofIsInRange 512) (proof_codec 512) count

place_codec : (count : ℕ)
    → IsCodec (many (line map_line) count) (flat_map map_text) (λ fs. (length fs ≡ count) × All FormIsInRange fs)
place_codec count =
    many_codec (line map_line) map_text FormIsInRange (line_codec map_line map_words FormIsInRange map_spelled) count

-- Trees

tree_line_codec : IsCodec (line tree_line) (λ l. line_text (tree_words l)) TreeLineIsInRange
tree_line_codec = line_codec tree_line tree_words TreeLineIsInRange tree_line_spelled

tree_in_range : (levels : ℕ) (t : Tree) (y : tree_layer.Tree-F Tree) → out-Tree t ≡ y
    → TreeStepIsInRange (TreeIsWithin levels) y → TreeIsWithin (suc levels) t
unfolding TreeIsWithin
tree_in_range levels t y is k = subst (TreeStepIsInRange (TreeIsWithin levels)) (sym is) k

-- two texts behind a line
behind_two : (a b c d e : List ℕ) → a ≡ b ++ (c ++ d) → a ++ e ≡ b ++ (c ++ (d ++ e))
behind_two a b c d e is = two_parts a b (c ++ d) e is ∙ ap (λ (text : List ℕ). b ++ text) (append_assoc c d e)

module _ (levels : ℕ) (inner : IsCodec (tree_within levels) tree_text (TreeIsWithin levels)) where
  -- what a text says behind the line of a node
  behind_node : (n : ℕ) (l : TreeLine) (rest : List ℕ) (t : Tree) (more : List ℕ) → TreeLineIsInRange l
      → ((m : ℕ) → ReadsTo (tree_behind (tree_within levels) l) m rest t more)
      → ReadsTo (tree_within (suc levels)) n (line_text (tree_words l) ++ rest) t more
  unfolding tree_within
  behind_node n l rest t more k reads =
      let first = tree_line_codec.back l n rest k in
      let second = reads first.line in
      record {
        line = second.line;
        reads = reads_first (line tree_line (record { line = n; text = line_text (tree_words l) ++ rest }))
            (tree_behind (tree_within levels)) l (record { line = first.line; text = rest })
            (Ok (t, record { line = second.line; text = more })) first.reads second.reads;
      }

  -- two trees, one behind the other
  two_back : (make : Tree → Tree → Tree) (above below : Tree) (m : ℕ) (rest : List ℕ) → TreeIsWithin levels above
      → TreeIsWithin levels below
      → ReadsTo (λ at. followed_by (tree_within levels at)
      (λ a at. followed_by (tree_within levels at) (λ b at. Ok (make a b, at)))) m
      (tree_text above ++ (tree_text below ++ rest)) (make above below) rest
  two_back make above below m rest first second =
      let one = inner.back above m (tree_text below ++ rest) first in
      let two = inner.back below one.line rest second in
      let end : Result (Tree × Place) CertError = Ok (make above below, record { line = two.line; text = rest }) in
      record {
        line = two.line;
        reads = reads_first (tree_within levels (record
            { line = m; text = tree_text above ++ (tree_text below ++ rest) }))
            (λ a at. followed_by (tree_within levels at) (λ b at. Ok (make a b, at))) above
            (record { line = one.line; text = tree_text below ++ rest }) end one.reads
            (reads_first (tree_within levels (record { line = one.line; text = tree_text below ++ rest }))
            (λ b at. Ok (make above b, at)) below (record { line = two.line; text = rest }) end two.reads refl);
      }

  test_back : (form : Form) (above below : Tree) (n : ℕ) (rest : List ℕ)
      → TreeStepIsInRange (TreeIsWithin levels) (tree_layer.Test form above below)
      → ReadsTo (tree_within (suc levels)) n (tree_text (Test form above below) ++ rest) (Test form above below) rest
  test_back form above below n rest k =
      moved_text (tree_within (suc levels)) n _ _ (Test form above below) rest
      (behind_two _ (test_text form) (tree_text above) (tree_text below) rest (text_test form above below))
      (behind_node n (of_tree.Test form) (tree_text above ++ (tree_text below ++ rest)) (Test form above below) rest k.0
      (λ m. two_back (Test form) above below m rest k.1 k.2))

  divides_back : (form : Form) (divisor : ℤ) (above below : Tree) (n : ℕ) (rest : List ℕ)
      → TreeStepIsInRange (TreeIsWithin levels) (tree_layer.Divides form divisor above below)
      → ReadsTo (tree_within (suc levels)) n (tree_text (Divides form divisor above below) ++ rest)
      (Divides form divisor above below) rest
  divides_back form divisor above below n rest k =
      moved_text (tree_within (suc levels)) n _ _ (Divides form divisor above below) rest
      (behind_two _ (divides_text form divisor) (tree_text above) (tree_text below) rest
      (text_divides form divisor above below))
      (behind_node n (of_tree.Divides form divisor) (tree_text above ++ (tree_text below ++ rest))
      (Divides form divisor above below) rest k.0 (λ m. two_back (Divides form divisor) above below m rest k.1 k.2))

  writer_back : (statement : ℕ) (place : List Form) (proofs : List Proof) (n : ℕ) (rest : List ℕ)
      → TreeStepIsInRange (TreeIsWithin levels) (tree_layer.Writer statement place proofs)
      → ReadsTo (tree_within (suc levels)) n (tree_text (Writer statement place proofs) ++ rest)
      (Writer statement place proofs) rest
  writer_back statement place proofs n rest k =
      let forms = flat_map map_text place in
      let steps = flat_map proof_text proofs in
      moved_text (tree_within (suc levels)) n _ _ (Writer statement place proofs) rest
      (behind_two _ (writer_text statement (length place) (length proofs)) forms steps rest
      (text_writer statement place proofs))
      (behind_node n (of_tree.Writer statement (length place) (length proofs)) (forms ++ (steps ++ rest))
      (Writer statement place proofs) rest (k.0.named, (k.0.count, k.1.count)) (λ m.
      let one = (place_codec (length place)).back place m (steps ++ rest) (refl, k.0.forms) in
      let two = (proofs_codec (length proofs)).back proofs one.line rest (refl, k.1.each) in
      let end : Result (Tree × Place) CertError =
      Ok (Writer statement place proofs, record { line = two.line; text = rest }) in
      record {
        line = two.line;
        reads = reads_first (many (line map_line) (length place) (record { line = m; text = forms ++ (steps ++ rest) }))
            (λ fs at. followed_by (many (proof 512) (length proofs) at) (λ ps at. Ok (Writer statement fs ps, at)))
            place (record { line = one.line; text = steps ++ rest }) end one.reads
            (reads_first (many (proof 512) (length proofs) (record { line = one.line; text = steps ++ rest }))
            (λ ps at. Ok (Writer statement place ps, at)) proofs
            (record { line = two.line; text = rest }) end two.reads refl);
      }))

  zero_back : (proofs : List Proof) (n : ℕ) (rest : List ℕ)
      → TreeStepIsInRange (TreeIsWithin levels) (tree_layer.Zero proofs)
      → ReadsTo (tree_within (suc levels)) n (tree_text (Zero proofs) ++ rest) (Zero proofs) rest
  zero_back proofs n rest k =
      moved_text (tree_within (suc levels)) n _ _ (Zero proofs) rest
      (two_parts _ (zero_text (length proofs)) (flat_map proof_text proofs) rest (text_zero proofs))
      (behind_node n (of_tree.Zero (length proofs)) (flat_map proof_text proofs ++ rest) (Zero proofs) rest k.count
      (λ m.
      let one = (proofs_codec (length proofs)).back proofs m rest (refl, k.each) in
      record {
        line = one.line;
        reads = reads_first (many (proof 512) (length proofs)
            (record { line = m; text = flat_map proof_text proofs ++ rest })) (λ ps at. Ok (Zero ps, at)) proofs
            (record { line = one.line; text = rest })
            (Ok (Zero proofs, record { line = one.line; text = rest })) one.reads refl;
      }))

  dead_back : (p : Proof) (n : ℕ) (rest : List ℕ) → TreeStepIsInRange (TreeIsWithin levels) (tree_layer.Dead p)
      → ReadsTo (tree_within (suc levels)) n (tree_text (Dead p) ++ rest) (Dead p) rest
  dead_back p n rest k =
      moved_text (tree_within (suc levels)) n _ _ (Dead p) rest
      (two_parts _ dead_text (proof_text p) rest (text_dead p))
      (behind_node n of_tree.Dead (proof_text p ++ rest) (Dead p) rest tt (λ m.
      let one = (proof_codec 512).back p m rest k in
      record {
        line = one.line;
        reads = reads_first (proof 512 (record { line = m; text = proof_text p ++ rest })) (λ q at. Ok (Dead q, at)) p
            (record { line = one.line; text = rest })
            (Ok (Dead p, record { line = one.line; text = rest })) one.reads refl;
      }))

  IsReadBack : Tree → ℕ → List ℕ → Type 0
  IsReadBack t n rest = ReadsTo (tree_within (suc levels)) n (tree_text t ++ rest) t rest

  node_back : (y : tree_layer.Tree-F Tree) (n : ℕ) (rest : List ℕ) → TreeStepIsInRange (TreeIsWithin levels) y
      → IsReadBack (roll-Tree y) n rest
  unfolding IsReadBack
  node_back (tree_layer.Test form above below) n rest k = subst (λ (t : Tree). IsReadBack t n rest)
      (sym (rolls-Test form above below)) (test_back form above below n rest k)
  node_back (tree_layer.Divides form divisor above below) n rest k = subst (λ (t : Tree). IsReadBack t n rest)
      (sym (rolls-Divides form divisor above below)) (divides_back form divisor above below n rest k)
  node_back (tree_layer.Writer statement place proofs) n rest k = subst (λ (t : Tree). IsReadBack t n rest)
      (sym (rolls-Writer statement place proofs)) (writer_back statement place proofs n rest k)
  node_back (tree_layer.Zero proofs) n rest k =
      subst (λ (t : Tree). IsReadBack t n rest) (sym (rolls-Zero proofs)) (zero_back proofs n rest k)
  node_back (tree_layer.Dead p) n rest k =
      subst (λ (t : Tree). IsReadBack t n rest) (sym (rolls-Dead p)) (dead_back p n rest k)

  tree_level_back : (t : Tree) (n : ℕ) (rest : List ℕ) → TreeIsWithin (suc levels) t
      → ReadsTo (tree_within (suc levels)) n (tree_text t ++ rest) t rest
  unfolding TreeIsWithin IsReadBack
  tree_level_back t n rest k =
      subst (λ (u : Tree). IsReadBack u n rest) (roll-out-Tree t) (node_back (out-Tree t) n rest k)

  IsRead : List ℕ → Tree → Place → Type 0
  IsRead all t next = (all ≡ tree_text t ++ next.text) × TreeIsWithin (suc levels) t

  -- two trees behind a line
  two_forth : (make : Tree → Tree → Tree) (head : List ℕ) (at next : Place) (t : Tree) (all : List ℕ)
      → ((a b : Tree) → tree_text (make a b) ≡ head ++ (tree_text a ++ tree_text b))
      → ((a b : Tree) → TreeIsWithin levels a → TreeIsWithin levels b → TreeIsWithin (suc levels) (make a b)) → all
      ≡ head ++ at.text
      → followed_by (tree_within levels at) (λ a at. followed_by (tree_within levels at) (λ b at. Ok (make a b, at)))
      ≡ Ok (t, next) → IsRead all t next
  unfolding IsRead
  two_forth make head at next t all written ranges text e =
      let one = followed (tree_within levels at)
      (λ a at. followed_by (tree_within levels at) (λ b at. Ok (make a b, at))) t next e in
      let two = followed (tree_within levels one.between) (λ b at. Ok (make one.value b, at)) t next one.second in
      let above = inner.forth at one.between one.value one.first in
      let below = inner.forth one.between two.between two.value two.first in
      of_value tree_text (TreeIsWithin (suc levels)) all (make one.value two.value) t two.between next two.second (
        text ∙ ap (λ (more : List ℕ). head ++ more)
            (above.0 ∙ ap (λ (more : List ℕ). tree_text one.value ++ more) below.0)
            ∙ sym (behind_two (tree_text (make one.value two.value)) head (tree_text one.value)
            (tree_text two.value) two.between.text (written one.value two.value)),
        ranges one.value two.value above.1 below.1,
      )

  node_forth : (l : TreeLine) (at next : Place) (t : Tree) (all : List ℕ) → TreeLineIsInRange l → all
      ≡ line_text (tree_words l) ++ at.text
      → tree_behind (tree_within levels) l at ≡ Ok (t, next) → IsRead all t next
  unfolding IsRead
  node_forth (of_tree.Test form) at next t all k text e =
      two_forth (Test form) (test_text form) at next t all (text_test form)
      (λ a b p q. tree_in_range levels (Test form a b) (tree_layer.Test form a b) (outs-Test form a b) (k, p, q)) text e
  node_forth (of_tree.Divides form divisor) at next t all k text e =
      two_forth (Divides form divisor) (divides_text form divisor) at next t all (text_divides form divisor)
      (λ a b p q. tree_in_range levels (Divides form divisor a b) (tree_layer.Divides form divisor a b)
      (outs-Divides form divisor a b) (k, p, q)) text e
  node_forth (of_tree.Writer statement forms proofs) at next t all k text e =
      let one = followed (many (line map_line) forms at)
      (λ fs at. followed_by (many (proof 512) proofs at) (λ ps at. Ok (Writer statement fs ps, at))) t next e in
      let two = followed (many (proof 512) proofs one.between)
      (λ ps at. Ok (Writer statement one.value ps, at)) t next one.second in
      let place = (place_codec forms).forth at one.between one.value one.first in
      let steps = (proofs_codec proofs).forth one.between two.between two.value two.first in
      let whole = Writer statement one.value two.value in
      let head : writer_text statement forms proofs ≡ writer_text statement (length one.value) (length two.value) =
      ap (λ (f : ℕ). writer_text statement f proofs) (sym place.1.0)
      ∙ ap (writer_text statement (length one.value)) (sym steps.1.0) in
      of_value tree_text (TreeIsWithin (suc levels)) all whole t two.between next two.second (
        text ∙ ap (λ (front : List ℕ). front ++ at.text) head
            ∙ ap (λ (more : List ℕ). writer_text statement (length one.value) (length two.value) ++ more)
            (place.0 ∙ ap (λ (more : List ℕ). flat_map map_text one.value ++ more) steps.0)
            ∙ sym (behind_two (tree_text whole) (writer_text statement (length one.value) (length two.value))
            (flat_map map_text one.value) (flat_map proof_text two.value) two.between.text
            (text_writer statement one.value two.value)),
        tree_in_range levels whole (tree_layer.Writer statement one.value two.value)
            (outs-Writer statement one.value two.value) (
              record { named = k.0; count = rw place.1.0 k.1.0; forms = place.1.1 },
              record { count = rw steps.1.0 k.1.1; each = steps.1.1 },
            ),
      )
  node_forth (of_tree.Zero proofs) at next t all k text e =
      let one = followed (many (proof 512) proofs at) (λ ps at. Ok (Zero ps, at)) t next e in
      let steps = (proofs_codec proofs).forth at one.between one.value one.first in
      let whole = Zero one.value in
      let head : zero_text proofs ≡ zero_text (length one.value) = ap zero_text (sym steps.1.0) in
      of_value tree_text (TreeIsWithin (suc levels)) all whole t one.between next one.second (
        text ∙ ap (λ (front : List ℕ). front ++ at.text) head
            ∙ ap (λ (more : List ℕ). zero_text (length one.value) ++ more) steps.0
            ∙ sym (two_parts (tree_text whole) (zero_text (length one.value))
            (flat_map proof_text one.value) one.between.text (text_zero one.value)),
        tree_in_range levels whole (tree_layer.Zero one.value) (outs-Zero one.value)
            (record { count = rw steps.1.0 k; each = steps.1.1 }),
      )
  node_forth of_tree.Dead at next t all k text e =
      let one = followed (proof 512 at) (λ p at. Ok (Dead p, at)) t next e in
      let step = (proof_codec 512).forth at one.between one.value one.first in
      let whole = Dead one.value in
      of_value tree_text (TreeIsWithin (suc levels)) all whole t one.between next one.second (
        text ∙ ap (λ (more : List ℕ). dead_text ++ more) step.0 ∙ sym
            (two_parts (tree_text whole) dead_text (proof_text one.value) one.between.text (text_dead one.value)),
        tree_in_range levels whole (tree_layer.Dead one.value) (outs-Dead one.value) step.1,
      )

  tree_level_forth : (at next : Place) (t : Tree) → tree_within (suc levels) at ≡ Ok (t, next)
      → (at.text ≡ tree_text t ++ next.text) × TreeIsWithin (suc levels) t
  unfolding tree_within IsRead
  tree_level_forth at next t e =
      let one = followed (line tree_line at) (tree_behind (tree_within levels)) t next e in
      let l = tree_line_codec.forth at one.between one.value one.first in
      node_forth one.value one.between next t at.text l.1 l.0 one.second

-- of each tree that nests at most so deep this is the text, and nothing else has this text
pub tree_codec : (levels : ℕ) → IsCodec (tree_within levels) tree_text (TreeIsWithin levels)
unfolding tree_within TreeIsWithin
tree_codec zero = record {
  back = λ t n rest k. absurd k;
  forth = λ at next t e. let one = followed (line tree_line at) _ t next e in let wrong = one.second
      in absurd (cc wrong);
}
tree_codec (suc levels) =
    record { back = tree_level_back levels (tree_codec levels); forth = tree_level_forth levels (tree_codec levels) }
