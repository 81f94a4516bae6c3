-- The terms of the edges at the chosen place, and the cycles that edges back to 0 make.
--
-- At the chosen place each variable has the form of a path from 0 to it. An edge back to 0 closes that path, and the
-- form of the cycle is the row of the edge at the place: its end is 0 there. So a test that the cycle is at least 0 is
-- one that the row holds at the place. An edge from 0 to itself is a cycle alone.
use Rattle.std.proofs.Common.{◌≡◌, ◌+◌, ◌^◌, ◌≤◌, ◌<◌, ℕ, pos, ◌+ℤ◌, List, [], ◌∷◌, ◌++◌}
use Rattle.std.proofs.Common.{length, get_or, refl, sym, ap, ◌∙◌, subst, arith}
use Rattle.std.specs.Prelude.{Option, Some, slice_get}
use Rattle.std.proofs.lemmas.Int.{ints}
use Rattle.std.proofs.lemmas.Option.{same_Some, slice_get_read}
use Rattle.affine_core.specs.declared.form.Form.{Form}
use Rattle.affine_core.specs.Affine.{form_sum}
use Rattle.affine_core.proofs.Linear.{length-sums}
use Rattle.int_polyhedra.specs.declared.system.System.{System}
use Rattle.int_polyhedra.specs.declared.system.Term.{Term}
use Rattle.tree_graphs.specs.Cycles.{IsCycle}
use Rattle.tree_graphs.specs.Asked.{depth_of_write}
use Rattle.lex_max.specs.Choices.{chosen_place, uppers_of, AreChosen, AreReady}
use Rattle.tree_graphs.specs.Edges.{edge_parts, IsEdge}
use Rattle.tree_graphs.specs.Facts.{form_parts, IsFact}
use Rattle.tree_graphs.specs.Paths.{term_of, IsPath}
use Rattle.tree_graphs.specs.declared.closure.Bounds.{Bounds}
use Rattle.tree_graphs.specs.declared.cycles.Cycle.{Cycle}
use Rattle.lex_max.specs.declared.decide.Choice.{Choice}
use Rattle.tree_graphs.specs.declared.edges.Edge.{Edge}
use Rattle.tree_graphs.specs.declared.writes.Writes.{Writes}
use Rattle.lex_max.proofs.ChosenPaths.{led_at, IsLed}
use Rattle.tree_graphs.proofs.ZeroCycles.{self_is_cycle}
use Rattle.lex_max.proofs.Uppers.{choice_is, edge_at, inner_shown, out_shown, past_place, place_at, HasShown}
use Rattle.tree_graphs.proofs.PathSums.{path_edge, path_join, path_same}
use Rattle.tree_sums.specs.Parts.{Part, part_of, row_part, weight, IsWithin}
use Rattle.tree_sums.proofs.Bound.{sum_within}
use Rattle.tree_sums.proofs.Ideal.{sum_part}
use Rattle.tree_sums.proofs.Weights.{weight_sum}
use Rattle.tree_sums.proofs.Within.{IsWithin-weaker}

pub item_at : (choices : List Choice) (v : ℕ) (choice : Choice) → v < length choices → choice ≡ get_or choices v choice
    → slice_get choices v ≡ Some choice
item_at choices v choice lt is = slice_get_read choices (length choices) v choice refl lt is

module _ (w : Writes) (edges : List Edge) (bounds : Bounds) (ready : AreReady w edges bounds) (context : System)
    (choices : List Choice) (chosen : AreChosen w edges bounds context choices) where
  abbrev vars : ℕ
  vars = w.vars

  abbrev depth : ℕ
  depth = depth_of_write w

  abbrev place : List Form
  place = chosen_place choices

  pub form_chosen : (v : ℕ) (choice : Choice) → slice_get choices v ≡ Some choice
      → slice_get (uppers_of depth bounds edges v) choice.edge ≡ Some (Some choice.form)
  form_chosen v choice at = (choice_is w edges bounds ready context choices chosen v choice at).edge_is

  pub item_chosen : (v : ℕ) (choice : Choice) → v < depth → choice ≡ get_or choices v choice → slice_get choices v
      ≡ Some choice
  item_chosen v choice lt is = item_at choices v choice (omega (arith, lt, chosen.all)) is

  -- terms that were found
  found_fact : (g : Edge) (o : Option (Option (List Term))) (found : List Term) → HasShown w edges bounds ready context
      choices chosen g o → o ≡ Some (Some found) → IsFact context (2 ^ 23) (edge_parts place g) found
  found_fact g o found h is =
      let same : h.terms ≡ found = same_Some h.terms found (same_Some (Some h.terms) (Some found) (sym h.is ∙ is)) in
      subst (IsFact context (2 ^ 23) (edge_parts place g)) same h.fact

  pub out_found : (k : ℕ) (g : Edge) (choice : Choice) → slice_get edges k ≡ Some g → g.from ≡ depth → g.to < depth
      → slice_get choices g.to ≡ Some choice
      → (terms : List Term) × (slice_get choice.less k ≡ Some (Some terms))
  out_found k g choice is first inside at = let h =
      out_shown w edges bounds ready context choices chosen k g choice is first inside at in (h.terms, h.is)

  pub out_fact : (k : ℕ) (g : Edge) (choice : Choice) (found : List Term) → slice_get edges k ≡ Some g → g.from ≡ depth
      → g.to < depth → slice_get choices g.to ≡ Some choice
      → slice_get choice.less k ≡ Some (Some found) → IsFact context (2 ^ 23) (edge_parts place g) found
  out_fact k g choice found is first inside at found_is =
      found_fact g (slice_get choice.less k) found
      (out_shown w edges bounds ready context choices chosen k g choice is first inside at) found_is

  pub inner_from : (k : ℕ) (g : Edge) → slice_get edges k ≡ Some g → (g.from ≡ depth → ⊥) → g.from < depth
  inner_from k g is other = let e : IsEdge vars depth g = edge_at w edges bounds ready k g is
      in less g.from depth e.from other where
        less : (m n : ℕ) → m ≤ n → (m ≡ n → ⊥) → m < n
        less m n le other = grind arith

  pub inner_found : (k : ℕ) (g : Edge) (from choice : Choice) → slice_get edges k ≡ Some g → g.from < depth
      → g.to < depth → slice_get choices g.from ≡ Some from → slice_get choices g.to ≡ Some choice
      → (terms : List Term) × (slice_get choice.less from.edge ≡ Some (Some terms))
  inner_found k g from choice is a b from_at at = let h =
      inner_shown w edges bounds ready context choices chosen k g from choice is a b from_at at in (h.terms, h.is)

  pub inner_fact : (k : ℕ) (g : Edge) (from choice : Choice) (found : List Term) → slice_get edges k ≡ Some g
      → g.from < depth → g.to < depth → slice_get choices g.from ≡ Some from
      → slice_get choices g.to ≡ Some choice → slice_get choice.less from.edge ≡ Some (Some found)
      → IsFact context (2 ^ 23) (edge_parts place g) found
  inner_fact k g from choice found is a b from_at at found_is =
      found_fact g (slice_get choice.less from.edge) found
      (inner_shown w edges bounds ready context choices chosen k g from choice is a b from_at at) found_is

  -- An edge from 0 back to 0

  pub self_cycle : (g : Edge) (number : ℕ) (cycle : Cycle) → slice_get edges number ≡ Some g → g.from ≡ depth → g.to
      ≡ depth → cycle.form ≡ g.weight → cycle.terms ≡ term_of number ∷ [] → IsCycle vars edges cycle
  self_cycle g number cycle is first last form_is terms_is = self_is_cycle edges vars depth g number cycle is
      (edge_at w edges bounds ready number g is) first last form_is terms_is

  pub self_form : (g : Edge) (form : Form) → g.from ≡ depth → g.to ≡ depth → form ≡ g.weight → (part : Part)
      → form_parts form part ≡ edge_parts place g part
  self_form g form first last form_is part =
      let a : row_part place part g.from ≡ pos 0 = ap (row_part place part) first
      ∙ past_place w edges bounds ready context choices chosen part in
      let b : row_part place part g.to ≡ pos 0 = ap (row_part place part) last
      ∙ past_place w edges bounds ready context choices chosen part in
      omega (arith, ints, ap (part_of part) form_is, a, b)

  -- A path from 0 and an edge back

  module _ (g : Edge) (number : ℕ) (choice : Choice) (is : slice_get edges number ≡ Some g) (last : g.to ≡ depth)
      (at : slice_get choices g.from ≡ Some choice) where
    edge : IsEdge vars depth g
    edge = edge_at w edges bounds ready number g is

    led : IsLed w edges bounds ready g.from choice.edge choice.form
    led = led_at w edges bounds ready context choices chosen g.from choice at

    pub back_even : length choice.form.coefs ≡ length g.weight.coefs
    back_even = led.over ∙ sym edge.over

    pub back_first : IsWithin (2 ^ 60) choice.form
    back_first = IsWithin-weaker (2 ^ 40) (2 ^ 60) choice.form (omega arith) led.within

    pub back_second : IsWithin (2 ^ 60) g.weight
    back_second = IsWithin-weaker (2 ^ 33) (2 ^ 60) g.weight (omega arith) edge.within

    pub back_cycle : (ts : List Term) (cycle : Cycle) → IsPath edges ts (form_parts choice.form) depth g.from
        → weight ts ≤ 65 → cycle.form ≡ form_sum choice.form g.weight → cycle.terms ≡ ts ++ term_of number ∷ []
        → IsCycle vars edges cycle
    back_cycle ts cycle path light form_is terms_is =
        let form : Form = form_sum choice.form g.weight in
        let whole : List Term = ts ++ term_of number ∷ [] in
        let home : IsPath edges (term_of number ∷ []) (λ part. part_of part g.weight) g.from g.to =
        path_edge edges number g is in
        let both = path_join edges ts (term_of number ∷ []) (form_parts choice.form)
        (λ part. part_of part g.weight) depth g.from g.to path home in
        let named : IsPath edges whole (form_parts form) depth g.to
        = path_same edges whole (λ part. form_parts choice.form part +ℤ part_of part g.weight)
        (form_parts form) depth g.to (λ part. sym (sum_part part choice.form g.weight back_even)) both in
        let cyclic : IsPath edges whole (form_parts form) depth depth =
        subst (IsPath edges whole (form_parts form) depth) last named in
        record {
          node = depth;
          path = subst (λ ts. IsPath edges ts (form_parts cycle.form) depth depth) (sym terms_is)
              (subst (λ f. IsPath edges whole (form_parts f) depth depth) (sym form_is) cyclic);
          over = ap (λ (f : Form). length f.coefs) form_is ∙ length-sums choice.form.coefs g.weight.coefs back_even
              ∙ led.over;
          within = subst (IsWithin (2 ^ 40)) (sym form_is)
              (IsWithin-weaker (2 ^ 33 + 2 ^ 39 + 2 ^ 33) (2 ^ 40) form (omega arith)
              (sum_within (2 ^ 33 + 2 ^ 39) (2 ^ 33) choice.form g.weight led.small edge.within));
          light = omega (arith, ap weight terms_is, weight_sum ts (term_of number ∷ []), light);
        }

    pub back_form : (form : Form) → form ≡ form_sum choice.form g.weight → (part : Part) → form_parts form part
        ≡ edge_parts place g part
    back_form form form_is part =
        let a : row_part place part g.from ≡ form_parts choice.form part =
        place_at w edges bounds ready context choices chosen g.from choice part at in
        let b : row_part place part g.to ≡ pos 0 = ap (row_part place part) last
        ∙ past_place w edges bounds ready context choices chosen part in
        omega (arith, ints, ap (part_of part) form_is, sum_part part choice.form g.weight back_even, a, b)
