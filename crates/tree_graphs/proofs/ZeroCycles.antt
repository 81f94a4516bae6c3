-- Cycles through 0, and what refutes by one of them.
--
-- An edge from 0, a path between loop variables and an edge back are joined end to end, so their rows add up to the
-- weights of both edges and the bound, whatever the writer's point is. A context that shows the opposite of that form,
-- which is -form - 1, contradicts the cycle: both together are -1. Whether the cycle is the least one is not asked.
use Rattle.std.proofs.Common.{◌≡◌, ◌+◌, ◌^◌, ◌≤◌, ℕ, ℤ, pos, negsuc, ◌+ℤ◌, ◌*ℤ◌, List, []}
use Rattle.std.proofs.Common.{◌∷◌, ◌++◌, length, refl, sym, ap, ◌∙◌, subst, arith}
use Rattle.std.specs.Prelude.{Some, slice_get, unsigned_abs}
use Rattle.std.proofs.lemmas.Int.{ints}
use Rattle.std.proofs.lemmas.List.{get_or_past}
use Rattle.std.proofs.lemmas.List.Elements.{All-nil}
use Rattle.affine_core.specs.declared.form.Form.{Form}
use Rattle.affine_core.specs.Affine.{constant_form, form_product, form_sum}
use Rattle.affine_core.proofs.Integers.{unsigned_abs-sum}
use Rattle.affine_core.proofs.Linear.{length-sums}
use Rattle.int_polyhedra.specs.declared.system.System.{System}
use Rattle.int_polyhedra.specs.declared.system.Term.{Term}
use Rattle.int_polyhedra.proofs.Variables.{length_zeros}
use Rattle.tree_graphs.specs.Cycles.{IsContradiction, IsCycle}
use Rattle.tree_graphs.specs.Closed.{number_parts, IsNegativeCycle}
use Rattle.tree_graphs.specs.Edges.{IsEdge}
use Rattle.tree_graphs.specs.Facts.{form_parts, IsFact}
use Rattle.tree_graphs.specs.Paths.{term_of, IsPath}
use Rattle.tree_graphs.specs.Rounds.{RoundIsAsked}
use Rattle.tree_graphs.specs.declared.closure.Bound.{Bound}
use Rattle.tree_graphs.specs.declared.cycles.Cycle.{Cycle}
use Rattle.tree_graphs.specs.declared.edges.Edge.{Edge}
use Rattle.tree_graphs.proofs.OrderEdges.{raised_part}
use Rattle.tree_graphs.proofs.Small.{negative_over, opposite_form}
use Rattle.tree_graphs.proofs.PathSums.{path_edge, path_join, path_same}
use Rattle.plain_data.proofs.Lists.{get_or-replicate_same}
use Rattle.tree_sums.specs.Parts.{Part, the_coefficient, part_of, weight, IsWithin}
use Rattle.tree_sums.proofs.Bound.{sum_within}
use Rattle.tree_sums.proofs.Ideal.{product_part, sum_part}
use Rattle.tree_sums.proofs.Weights.{weight_sum}
use Rattle.tree_sums.proofs.Within.{IsWithin-weaker}

-- the form of a cycle
abbrev pub round_form : Edge → Bound → Edge → Form
round_form out bound back =
    let sum = form_sum out.weight back.weight in record sum { constant = sum.constant +ℤ bound.value }

abbrev pub round_terms : ℕ → Bound → ℕ → List Term
round_terms out bound back = (term_of out ∷ []) ++ (bound.terms ++ term_of back ∷ [])

round_part : (vars : ℕ) (out : Edge) (bound : Bound) (back : Edge) (part : Part) → length out.weight.coefs ≡ vars
    → length back.weight.coefs ≡ vars
    → part_of part out.weight +ℤ (number_parts bound.value part +ℤ part_of part back.weight)
    ≡ form_parts (round_form out bound back) part
round_part vars out bound back part e f =
    omega (
      arith,
      ints,
      raised_part (form_sum out.weight back.weight) bound.value part,
      sum_part part out.weight back.weight (e ∙ sym f),
    )

pub raised_within : (a b : ℕ) (f : Form) (by : ℤ) → IsWithin a f → unsigned_abs by ≤ b
    → IsWithin (a + b) (record f { constant = f.constant +ℤ by })
raised_within a b f by h k = record {
  constant = omega (arith, unsigned_abs-sum f.constant by, h.constant, k);
  coefs = (IsWithin-weaker a (a + b) f (omega arith) h).coefs;
}

pub round_is_cycle : (edges : List Edge) (vars depth : ℕ) (out back : Edge) (bound : Bound) (out_number back_number : ℕ)
    (cycle : Cycle) → RoundIsAsked edges vars depth out out_number bound back back_number
    → cycle.form ≡ round_form out bound back → cycle.terms ≡ round_terms out_number bound back_number
    → IsCycle vars edges cycle
round_is_cycle edges vars depth out back bound out_number back_number cycle a form_is terms_is =
    let form : Form = round_form out bound back in
    let terms : List Term = round_terms out_number bound back_number in
    let there : IsPath edges (term_of out_number ∷ []) (λ part. part_of part out.weight) out.from out.to =
    path_edge edges out_number out a.out_is in
    let home : IsPath edges (term_of back_number ∷ []) (λ part. part_of part back.weight) back.from back.to =
    path_edge edges back_number back a.back_is in
    let rest = path_join edges bound.terms (term_of back_number ∷ []) (number_parts bound.value)
    (λ part. part_of part back.weight) out.to back.from back.to a.path.path home in
    let whole = path_join edges (term_of out_number ∷ []) (bound.terms ++ term_of back_number ∷ [])
    (λ part. part_of part out.weight)
    (λ part. number_parts bound.value part +ℤ part_of part back.weight) out.from out.to back.to there rest in
    let named : IsPath edges terms (form_parts form) out.from back.to
    = path_same edges terms (λ part. part_of part out.weight +ℤ
    (number_parts bound.value part +ℤ part_of part back.weight)) (form_parts form) out.from back.to
    (λ part. round_part vars out bound back part a.out_edge.over a.back_edge.over) whole in
    let cyclic : IsPath edges terms (form_parts form) depth depth
    = subst (IsPath edges terms (form_parts form) depth) a.last
    (subst (λ n. IsPath edges terms (form_parts form) n back.to) a.first named) in
    let wide : IsWithin (2 ^ 33 + 2 ^ 33 + 2 ^ 39) form
    = raised_within (2 ^ 33 + 2 ^ 33) (2 ^ 39) (form_sum out.weight back.weight) bound.value
    (sum_within (2 ^ 33) (2 ^ 33) out.weight back.weight a.out_edge.within a.back_edge.within)
    (omega (arith, a.path.near)) in
    record {
      node = depth;
      path = subst (λ ts. IsPath edges ts (form_parts cycle.form) depth depth) (sym terms_is)
          (subst (λ f. IsPath edges terms (form_parts f) depth depth) (sym form_is) cyclic);
      over = ap (λ (f : Form). length f.coefs) form_is
          ∙ length-sums out.weight.coefs back.weight.coefs (a.out_edge.over ∙ sym a.back_edge.over) ∙ a.out_edge.over;
      within = subst (IsWithin (2 ^ 40)) (sym form_is)
          (IsWithin-weaker (2 ^ 33 + 2 ^ 33 + 2 ^ 39) (2 ^ 40) form (omega arith) wide);
      light = omega (
        arith,
        ap weight terms_is,
        weight_sum (term_of out_number ∷ [])
            (bound.terms ++ term_of back_number ∷ []),
        weight_sum bound.terms (term_of back_number ∷ []),
        a.path.light,
      );
    }

-- an edge from 0 to itself
pub self_is_cycle : (edges : List Edge) (vars depth : ℕ) (g : Edge) (number : ℕ) (cycle : Cycle)
    → slice_get edges number ≡ Some g → IsEdge vars depth g → g.from ≡ depth → g.to ≡ depth
    → cycle.form ≡ g.weight → cycle.terms ≡ term_of number ∷ [] → IsCycle vars edges cycle
self_is_cycle edges vars depth g number cycle is edge first last form_is terms_is =
    let one : IsPath edges (term_of number ∷ []) (λ part. part_of part g.weight) depth depth
    = subst (IsPath edges (term_of number ∷ []) (λ part. part_of part g.weight) depth) last
    (subst (λ n. IsPath edges (term_of number ∷ []) (λ part. part_of part g.weight) n g.to) first
    (path_edge edges number g is)) in
    record {
      node = depth;
      path = subst (λ ts. IsPath edges ts (form_parts cycle.form) depth depth) (sym terms_is)
          (subst (λ f. IsPath edges (term_of number ∷ []) (form_parts f) depth depth) (sym form_is) one);
      over = ap (λ (f : Form). length f.coefs) form_is ∙ edge.over;
      within = subst (IsWithin (2 ^ 40)) (sym form_is) (IsWithin-weaker (2 ^ 33) (2 ^ 40) g.weight (omega arith) edge.within);
      light = omega (arith, ap weight terms_is);
    }

-- the opposite of a form, part by part
pub opposite_constant : (f : Form) → (opposite_form f).constant ≡ (f.constant *ℤ negsuc 0) +ℤ negsuc 0
opposite_constant f = refl

pub opposite_coefficient : (f : Form) (i : ℕ) → part_of (the_coefficient i) (opposite_form f)
    ≡ part_of (the_coefficient i) f *ℤ negsuc 0
opposite_coefficient f i =
    let even : length (form_product (negsuc 0) f).coefs ≡ length (constant_form (length f.coefs) (negsuc 0)).coefs =
    negative_over f ∙ sym (length_zeros (length f.coefs)) in
    omega (
      arith,
      ints,
      sum_part (the_coefficient i) (form_product (negsuc 0) f)
          (constant_form (length f.coefs) (negsuc 0)) even,
      product_part (the_coefficient i) (negsuc 0) f,
      get_or-replicate_same (length f.coefs) i (pos 0),
    )

-- terms that show the opposite of a cycle's form refute with the cycle
pub opposite_contradicts : (vars : ℕ) (context : System) (edges : List Edge) (cycle : Cycle) (shown : List Term)
    → context.vars ≡ vars → IsCycle vars edges cycle
    → IsFact context 65536 (form_parts (opposite_form cycle.form)) shown
    → IsContradiction context.vars context.rows edges shown cycle.terms
opposite_contradicts vars context edges cycle shown vars_is c fact =
    let f : Form = cycle.form in
    record {
      row = form_parts (opposite_form f);
      sum = form_parts f;
      node = c.node;
      narrow = λ i past.
          (let gone : part_of (the_coefficient i) f ≡ pos 0 =
          get_or_past f.coefs i (pos 0) (omega (arith, past, vars_is, c.over)) in
          omega (arith, ints, opposite_coefficient f i, gone));
      shows = fact.shows;
      cycle = c.path;
      negative = omega (arith, ints, opposite_constant f);
      no_variable = λ i. omega (arith, ints, opposite_coefficient f i);
      light = omega (arith, fact.light, c.light);
    }

-- a negative sum alone
pub negative_contradicts : (context : System) (edges : List Edge) (ts : List Term) → IsNegativeCycle edges ts
    → IsContradiction context.vars context.rows edges [] ts
negative_contradicts context edges ts h = record {
  row = λ part. pos 0;
  sum = number_parts h.value;
  node = h.variable;
  narrow = λ i past. refl;
  shows = record { name_rows = All-nil _; not_negative = All-nil _; at_most = omega (arith, ints); same = λ i l. refl };
  cycle = h.path;
  negative = omega (arith, ints, h.negative);
  no_variable = λ i. omega (arith, ints);
  light = omega (arith, h.light);
}
