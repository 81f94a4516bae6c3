-- Proofs that are added in steps.
--
-- Each step takes the first of the proofs that are told, as many as the systems it is for, and adds as many. What is
-- left is for the steps behind it, whatever they are for, so two steps in sequence are one for the systems of both. Where
-- the tree is for one writer at one level, what each of them adds is Cuts and a Sum, and so is what both add.
use Rattle.std.proofs.Common.{◌≡◌, ℕ, List, [], ◌∷◌, ◌++◌, sym, ap, ◌∙◌, subst, arith}
use Rattle.std.proofs.lemmas.List.{append_assoc, append-nil}
use Rattle.std.proofs.lemmas.List.Elements.{All-nil}
use Rattle.int_polyhedra.specs.declared.system.Proof.{Proof}
use Rattle.source_tree.specs.Checked.{AreRefuted, IsRefuted}
use Rattle.source_tree.specs.Rows.{RowSystem}
use Rattle.source_tree.proofs.Refutations.{AreRefuted-append}
use Rattle.stride_trees.specs.Candidates.{IsCutSumOf}
use Rattle.stride_trees.specs.Leaves.{AddsOwn, AddsProofs, IsForOne}
use Rattle.stride_trees.specs.declared.leaves.Answered.{Answered}
use Rattle.stride_trees.proofs.Lists.{cut_sums_both}
use Rattle.tree_graphs.specs.Simple.{IsLightSum}

-- a light Sum is Cuts and a Sum, without a Cut
pub sum_is_cut : (order : ℕ) (system : RowSystem) (proof : Proof) → IsRefuted system proof → IsLightSum proof
    → IsCutSumOf order system proof
sum_is_cut order system proof h light = record {
  rows = h.rows;
  are_made = h.are_made;
  is_cut_sum = record {
    cuts = [];
    added = [];
    terms = light.0;
    is = light.1;
    few = omega arith;
    add = tt;
    no_order = All-nil _;
    small = All-nil _;
    light = light.2;
  };
}

module _ (w : Answered) (order : ℕ) where
  pub own_nothing : (old : List Proof) → AddsOwn w order [] old old
  own_nothing old =
      record { added = []; is = sym (append-nil old); refuted = tt; cuts = λ one. tt }

  pub own_one : (to : RowSystem) (own : Proof) (old new : List Proof) → new ≡ old ++ own ∷ [] → IsRefuted to own
      → (IsForOne w → IsCutSumOf order to own) → AddsOwn w order (to ∷ []) old new
  own_one to own old new last refuted cuts =
      record { added = own ∷ []; is = last; refuted = (refuted, tt); cuts = λ one. (cuts one, tt) }

  pub own_both : (t u : List RowSystem) (old between new : List Proof) → AddsOwn w order t old between
      → AddsOwn w order u between new → AddsOwn w order (t ++ u) old new
  own_both t u old between new first second = record {
    added = first.added ++ second.added;
    is = second.is ∙ ap (λ ps. ps ++ second.added) first.is ∙ append_assoc old first.added second.added;
    refuted = AreRefuted-append t u first.added second.added first.refuted second.refuted;
    cuts = λ one. cut_sums_both order t u first.added second.added (first.cuts one) (second.cuts one);
  }

  pub adds_nothing : (told proofs : List Proof) → AddsProofs w order [] [] told told proofs proofs
  adds_nothing told proofs = λ more k. (own_nothing proofs, k)

  pub adds_one : (from to : RowSystem) (proof own : Proof) (told rest old new : List Proof) → told ≡ proof ∷ rest
      → new ≡ old ++ own ∷ [] → (IsRefuted from proof → IsRefuted to own)
      → (IsForOne w → IsRefuted from proof → IsCutSumOf order to own)
      → AddsProofs w order (from ∷ []) (to ∷ []) told rest old new
  adds_one from to proof own told rest old new first last one cuts = λ more k.
      (let both : AreRefuted (from ∷ more) (proof ∷ rest) = subst (AreRefuted (from ∷ more)) first k in
      (own_one to own old new last (one both.0) (λ single. cuts single both.0), both.1))

  pub adds_both : (f g t u : List RowSystem) (told middle rest old between new : List Proof)
      → AddsProofs w order f t told middle old between → AddsProofs w order g u middle rest between new
      → AddsProofs w order (f ++ g) (t ++ u) told rest old new
  adds_both f g t u told middle rest old between new first second = λ more k.
      (let a = first (g ++ more) (subst (λ xs. AreRefuted xs told) (append_assoc f g more) k) in
      let b = second more a.1 in
      (own_both t u old between new a.0 b.0, b.1))
