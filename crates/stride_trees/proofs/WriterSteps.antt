-- Writers one after the other: what is added for the first comes before what is added for the others.
use Rattle.std.proofs.Common.{◌≡◌, List, [], ◌∷◌, ◌++◌, refl, sym, ap, ◌∙◌, subst}
use Rattle.std.specs.List.{flat_map}
use Rattle.std.proofs.lemmas.List.{append_assoc, append-nil}
use Rattle.int_polyhedra.specs.declared.system.Proof.{Proof}
use Rattle.source_tree.specs.Rows.{RowExpr, RowSystem}
use Rattle.source_tree.specs.Systems.{Occurrence}
use Rattle.source_tree.specs.Checked.{AreRefuted}
use Rattle.source_tree.proofs.Refutations.{AreRefuted-append}
use Rattle.stride_trees.specs.Candidates.{AreCutSums}
use Rattle.stride_trees.specs.Leaves.{own_context, own_order_number, own_systems, which_of, AddsOwn, AddsWriters}
use Rattle.stride_trees.specs.declared.leaves.Answered.{Answered}
use Rattle.stride_trees.specs.declared.writers.Writer.{Writer}

module _ (w : Answered) (rest : List RowExpr) (further : Occurrence → List (List RowExpr)) where
  abbrev own : Writer → List RowSystem
  own = own_systems (which_of w) (own_context w rest) further

  pub writers_none : (old : List Proof) → AddsWriters w rest further [] old old
  writers_none old = record {
    added = [];
    is = sym (append-nil old);
    refuted = tt;
    cuts = λ one x is. absurd (let no : [] ≡ x ∷ [] = is in cc);
  }

  -- nothing is added for no writer
  no_proof : (added : List Proof) → AreRefuted [] added → added ≡ []
  no_proof [] h = refl
  no_proof (p ∷ added) h = absurd h

  same_first : (x y : Writer) (xs : List Writer) → x ∷ xs ≡ y ∷ [] → (x ≡ y) × (xs ≡ [])
  same_first x y xs is = (cc, cc)

  pub writers_more : (x : Writer) (xs : List Writer) (old between new : List Proof)
      → AddsOwn w (own_order_number w rest x) (own x) old between → AddsWriters w rest further xs between new
      → AddsWriters w rest further (x ∷ xs) old new
  writers_more x xs old between new first others = record {
    added = first.added ++ others.added;
    is = others.is ∙ ap (λ ps. ps ++ others.added) first.is ∙ append_assoc old first.added others.added;
    refuted = AreRefuted-append (own x) (flat_map own xs) first.added others.added first.refuted others.refuted;
    cuts = λ one y is.
        (let e = same_first x y xs is in
        let nothing : others.added ≡ [] =
        no_proof others.added (subst (λ xs. AreRefuted (flat_map own xs) others.added) e.1 others.refuted) in
        let whole : first.added ++ others.added ≡ first.added =
        ap (λ ps. first.added ++ ps) nothing ∙ append-nil first.added in
        subst (λ y. AreCutSums (own_order_number w rest y) (own y) (first.added ++ others.added)) e.0
        (subst (AreCutSums (own_order_number w rest x) (own x)) (sym whole) (first.cuts one)));
  }
