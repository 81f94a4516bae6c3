-- What is chosen for a loop variable: the form of a path to it, with small numbers.
--
-- An upper form of a variable is the weight of an edge from 0 and the bound from that edge's end on, so it is the sum
-- of a path from 0 to the variable of at most 65 edges. Its coefficients are those of the one edge, since the weights
-- between loop variables are numbers, and so it stays small. That it is the least of the upper forms isn't needed
-- here.
use Rattle.std.proofs.Common.{◌≡◌, ◌+◌, ◌*◌, ◌^◌, ◌≤◌, ◌<◌, ℕ, suc, ℤ, ◌+ℤ◌, List, [], ◌∷◌, ◌++◌, length}
use Rattle.std.proofs.Common.{Bool, true, false, cond, refl, sym, ap, ◌∙◌, subst, arith, ◌==◌, ◌&&◌, lt-ltb}
use Rattle.std.specs.Prelude.{Option, Some, None, All, nat_lt, slice_get, unsigned_abs, IfSome}
use Rattle.std.specs.Option.{option_map}
use Rattle.std.proofs.lemmas.Bool.{eq-eqb}
use Rattle.std.proofs.lemmas.List.Elements.{All-nil, All-cons}
use Rattle.std.proofs.lemmas.Option.{same_Some, slice_get_within}
use Rattle.affine_core.specs.declared.form.Form.{Form}
use Rattle.int_polyhedra.specs.declared.system.System.{System}
use Rattle.int_polyhedra.specs.declared.system.Term.{Term}
use Rattle.tree_graphs.specs.Asked.{depth_of_write}
use Rattle.lex_max.specs.Choices.{chosen_place, upper_of, uppers_of, AreChoices, AreChosen, AreReady}
use Rattle.tree_graphs.specs.Closed.{bound_at, number_parts, value_at, value_of, IsBound}
use Rattle.tree_graphs.specs.Edges.{IsEdge}
use Rattle.tree_graphs.specs.Facts.{form_parts}
use Rattle.lex_max.specs.Leaves.{IsPlaceOf}
use Rattle.tree_graphs.specs.Paths.{term_of, IsPath}
use Rattle.tree_graphs.specs.declared.closure.Bound.{Bound}
use Rattle.tree_graphs.specs.declared.closure.Bounds.{Bounds}
use Rattle.lex_max.specs.declared.decide.Choice.{Choice}
use Rattle.tree_graphs.specs.declared.edges.Edge.{Edge}
use Rattle.tree_graphs.specs.declared.writes.Writes.{Writes}
use Rattle.tree_graphs.proofs.OrderEdges.{raised_part}
use Rattle.tree_graphs.proofs.ZeroCycles.{raised_within}
use Rattle.lex_max.proofs.Uppers.{choice_is, is_upper, IsUpper}
use Rattle.tree_graphs.proofs.PathSums.{path_edge, path_join, path_same}
use Rattle.plain_data.proofs.Lists.{All-slice_get}
use Rattle.tree_sums.specs.Parts.{Part, part_of, weight, IsWithin}
use Rattle.tree_sums.proofs.Weights.{weight_sum}
use Rattle.tree_sums.proofs.Within.{IsWithin-weaker}

-- the bound that has a value
pub bound_of : (o : Option Bound) (value : ℤ) → value_of o ≡ Some value → (b : Bound) × (o ≡ Some b) × (b.value ≡ value)
bound_of None value e = absurd (let f : None ≡ Some value = e in cc)
bound_of (Some b) value e = (b, refl, same_Some b.value value e)

pub place_count : (choices : List Choice) → length (chosen_place choices) ≡ length choices
place_count [] = refl
place_count (choice ∷ choices) = ap suc (place_count choices)

module _ (w : Writes) (edges : List Edge) (bounds : Bounds) (ready : AreReady w edges bounds) where
  abbrev vars : ℕ
  vars = w.vars

  abbrev depth : ℕ
  depth = depth_of_write w

  -- the path that a form is the sum of
  pub record IsLed (v k : ℕ) (form : Form) : Type 0 where
    pub edge : Edge
    pub is : slice_get edges k ≡ Some edge
    pub inside : edge.to < depth
    pub bound : Bound
    pub bound_is : bound_at bounds edge.to v ≡ Some bound
    pub path : IsPath edges ((term_of k ∷ []) ++ bound.terms) (form_parts form) depth v
    pub light : weight ((term_of k ∷ []) ++ bound.terms) ≤ 65
    pub over : length form.coefs ≡ vars
    pub small : IsWithin (2 ^ 33 + 2 ^ 39) form
    pub within : IsWithin (2 ^ 40) form

  pub is_led : (v k : ℕ) (form : Form) → slice_get (uppers_of depth bounds edges v) k ≡ Some (Some form)
      → IsLed v k form
  is_led v k form e =
      let u : IsUpper w edges bounds ready v k form = is_upper w edges bounds ready v k form e in
      let b = bound_of (bound_at bounds u.edge.to v) u.value u.value_is in
      let bound : Bound = b.0 in
      let sound : IsBound edges 64 u.edge.to v bound =
      subst (λ o. IfSome o (IsBound edges 64 u.edge.to v)) b.1 (ready.closed.sound u.edge.to v) in
      let edge : IsEdge vars depth u.edge = All-slice_get (IsEdge vars depth) edges k u.edge ready.graph.graph.each u.is in
      let first : List Term = term_of k ∷ [] in
      let there : IsPath edges first (λ part. part_of part u.edge.weight) u.edge.from u.edge.to =
      path_edge edges k u.edge u.is in
      let whole = path_join edges first bound.terms (λ part. part_of part u.edge.weight)
      (number_parts bound.value) u.edge.from u.edge.to v there sound.path in
      let own : (part : Part) → part_of part u.edge.weight +ℤ number_parts bound.value part ≡ form_parts form part
      = λ part. ap (λ z. part_of part u.edge.weight +ℤ number_parts z part) b.2
      ∙ sym (ap (part_of part) u.form_is ∙ raised_part u.edge.weight u.value part) in
      let named : IsPath edges (first ++ bound.terms) (form_parts form) u.edge.from v
      = path_same edges (first ++ bound.terms) (λ part. part_of part u.edge.weight +ℤ number_parts bound.value part)
      (form_parts form) u.edge.from v own whole in
      let near : unsigned_abs u.value ≤ 2 ^ 33 * 64 = subst (λ z. unsigned_abs z ≤ 2 ^ 33 * 64) b.2 sound.near in
      let small : IsWithin (2 ^ 33 + 2 ^ 39) form
      = subst (IsWithin (2 ^ 33 + 2 ^ 39)) (sym u.form_is)
      (raised_within (2 ^ 33) (2 ^ 39) u.edge.weight u.value edge.within (omega (arith, near))) in
      record {
        edge = u.edge;
        is = u.is;
        inside = u.inside;
        bound = bound;
        bound_is = b.1;
        path = subst (λ n. IsPath edges (first ++ bound.terms) (form_parts form) n v) u.first named;
        light = omega (arith, weight_sum first bound.terms, sound.light);
        over = ap (λ (f : Form). length f.coefs) u.form_is ∙ edge.over;
        small = small;
        within = IsWithin-weaker (2 ^ 33 + 2 ^ 39) (2 ^ 40) form (omega arith) small;
      }

  -- the terms of the path, as they are found
  module _ (v k to : ℕ) (form : Form) (led : IsLed v k form)
      (to_is : option_map (λ (g : Edge). g.to) (slice_get edges k) ≡ Some to) where
    same_end : to ≡ led.edge.to
    same_end = same_Some to led.edge.to (sym to_is ∙ ap (option_map (λ (g : Edge). g.to)) led.is)

    pub led_found : bound_at bounds to v ≡ None → ⊥
    led_found none =
        absurd (let f : None ≡ Some led.bound = sym none ∙ ap (λ n. bound_at bounds n v) same_end ∙ led.bound_is in cc)

    pub led_terms : (bound : Bound) (terms : List Term) → bound_at bounds to v ≡ Some bound → terms ≡ (term_of k ∷ [])
        ++ bound.terms → IsPath edges terms (form_parts form) depth v × (weight terms ≤ 65)
    led_terms bound terms is terms_is =
        let same : bound ≡ led.bound =
        same_Some bound led.bound (sym is ∙ ap (λ n. bound_at bounds n v) same_end ∙ led.bound_is) in
        let whole : terms ≡ (term_of k ∷ []) ++ led.bound.terms = terms_is
        ∙ ap (λ (b : Bound). (term_of k ∷ []) ++ b.terms) same in (
          subst (λ ts. IsPath edges ts (form_parts form) depth v) (sym whole) led.path,
          omega (arith, ap weight whole, led.light),
        )

  pub led_within : (v k : ℕ) (form : Form) → IsLed v k form → (k < length edges) × (k ≤ 55)
  led_within v k form led =
      let lt : k < length edges = slice_get_within edges k led.edge led.is in
      (lt, omega (arith, lt, ready.graph.graph.few))

  choices_small : (context : System) (v : ℕ) (choices : List Choice) → AreChoices depth bounds edges context v choices
      → All (λ (form : Form). length form.coefs ≡ vars) (chosen_place choices)
      × All (IsWithin (2 ^ 40)) (chosen_place choices)
  choices_small context v [] h = (All-nil _, All-nil _)
  choices_small context v (choice ∷ choices) h =
      let led : IsLed v choice.edge choice.form = is_led v choice.edge choice.form h.0.edge_is in
      let rest = choices_small context (v + 1) choices h.1 in (
        All-cons (λ (form : Form). length form.coefs ≡ vars) choice.form (chosen_place choices) led.over rest.0,
        All-cons (IsWithin (2 ^ 40)) choice.form (chosen_place choices) led.within rest.1,
      )

  pub is_place : (context : System) (choices : List Choice) → AreChosen w edges bounds context choices
      → IsPlaceOf w (chosen_place choices)
  is_place context choices chosen =
      let s = choices_small context 0 choices chosen.each in
      record { deep = place_count choices ∙ chosen.all; over = s.0; within = s.1 }

  pub led_at : (context : System) (choices : List Choice) → AreChosen w edges bounds context choices
      → (v : ℕ) (choice : Choice) → slice_get choices v ≡ Some choice → IsLed v choice.edge choice.form
  led_at context choices chosen v choice is =
      is_led v choice.edge choice.form (choice_is w edges bounds ready context choices chosen v choice is).edge_is

-- What an edge's form is, test by test

pub upper_out : (depth : ℕ) (bounds : Bounds) (v : ℕ) (g : Edge) → (g.from ≡ depth → ⊥) → upper_of depth bounds v g
    ≡ None
upper_out depth bounds v g out =
    ap (λ b. cond (b && nat_lt g.to depth) (option_map (λ value. record g.weight
    { constant = g.weight.constant +ℤ value }) (value_at bounds g.to v)) None) (differ_where g.from depth out) where
      differ_where : (m n : ℕ) → (m ≡ n → ⊥) → (m == n) ≡ false
      differ_where m n h = grind arith

pub upper_past : (depth : ℕ) (bounds : Bounds) (v : ℕ) (g : Edge) → depth ≤ g.to → upper_of depth bounds v g ≡ None
upper_past depth bounds v g past = go (g.from == depth) where
  not_less : (m n : ℕ) → n ≤ m → nat_lt m n ≡ false
  not_less m n h = grind arith

  go : (b : Bool) → cond (b && nat_lt g.to depth) (option_map
      (λ value. record g.weight { constant = g.weight.constant +ℤ value }) (value_at bounds g.to v)) None ≡ None
  go true = ap (λ b. cond b (option_map (λ value. record g.weight { constant = g.weight.constant +ℤ value })
      (value_at bounds g.to v)) None) (not_less g.to depth past)
  go false = refl

same_either : (b : Bool) (form : Option Form) → cond b form form ≡ form
same_either true form = refl
same_either false form = refl

pub upper_none : (depth : ℕ) (bounds : Bounds) (v : ℕ) (g : Edge) → bound_at bounds g.to v ≡ None
    → upper_of depth bounds v g ≡ None
upper_none depth bounds v g none =
    ap (λ o. cond ((g.from == depth) && nat_lt g.to depth)
    (option_map (λ value. record g.weight { constant = g.weight.constant +ℤ value }) (value_of o)) None) none
    ∙ same_either ((g.from == depth) && nat_lt g.to depth) None

pub upper_some : (depth : ℕ) (bounds : Bounds) (v : ℕ) (g : Edge) (b : Bound) (form : Form) → g.from ≡ depth
    → g.to < depth → bound_at bounds g.to v ≡ Some b
    → form ≡ record g.weight { constant = g.weight.constant +ℤ b.value } → Some form ≡ upper_of depth bounds v g
upper_some depth bounds v g b form first inside is form_is =
    ap Some form_is
    ∙ sym (ap (λ t. cond (t && nat_lt g.to depth) (option_map
    (λ value. record g.weight { constant = g.weight.constant +ℤ value }) (value_at bounds g.to v)) None)
    (eq-eqb g.from depth first)
    ∙ ap (λ t. cond t (option_map (λ value. record g.weight { constant = g.weight.constant +ℤ value })
    (value_at bounds g.to v)) None) (lt-ltb g.to depth inside)
    ∙ ap (λ o. option_map (λ value. record g.weight { constant = g.weight.constant +ℤ value }) (value_of o)) is)
