-- Cycles through 0 that are known to be below 0.
--
-- An edge from 0, a path and an edge back to 0 add up to a form, whatever the writer's point is. Where terms show that
-- its opposite is at least 0, both add up to -1. The paths are those of the candidate's own edges, which come first;
-- order edges stand behind them.
use Rattle.std.proofs.Common.{◌≡◌, ◌+◌, ◌^◌, ◌≤◌, ◌<◌, ℕ, zero, suc, pos, ◌+ℤ◌, ◌*ℤ◌, List, [], ◌∷◌, ◌++◌, length, drop}
use Rattle.std.proofs.Common.{refl, sym, ap, ◌∙◌, subst, arith}
use Rattle.std.specs.Prelude.{Some, All, IfSome, slice_get, slice_index_or}
use Rattle.std.specs.Option.{option_map_or}
use Rattle.std.proofs.lemmas.Int.{ints}
use Rattle.std.proofs.lemmas.List.{append-nil, length-append, get_or_past}
use Rattle.std.proofs.lemmas.List.Elements.{All-append, All-head, All-tail, All-weaker}
use Rattle.affine_core.specs.declared.form.Form.{Form}
use Rattle.affine_core.specs.Affine.{form_sum}
use Rattle.affine_core.proofs.Integers.{unsigned_abs-sum}
use Rattle.affine_core.proofs.Linear.{length-sums}
use Rattle.int_polyhedra.specs.declared.system.System.{System}
use Rattle.int_polyhedra.specs.declared.system.Term.{Term}
use Rattle.int_polyhedra.specs.Steps.{negation_of}
use Rattle.tree_order.specs.Absence.{AreBack, AreNumbered, AreOut, AreRefuting, IsContradicted, IsNearEdge}
use Rattle.tree_order.specs.Absence.{RoundIsNear}
use Rattle.tree_order.specs.Candidates.{IsCandidate}
use Rattle.tree_order.specs.Contexts.{IsPathContext}
use Rattle.tree_order.specs.declared.candidates.Candidate.{Candidate}
use Rattle.tree_order.specs.declared.candidates.Read.{Read}
use Rattle.tree_order.proofs.NextLoop.{opposite_part}
use Rattle.tree_graphs.specs.Cycles.{IsCycle}
use Rattle.tree_graphs.specs.Asked.{depth_of_write}
use Rattle.tree_graphs.specs.Closed.{bound_at, number_parts, AreClosed, IsBound, IsClosure, IsNegativeCycle}
use Rattle.tree_graphs.specs.Edges.{edge_parts, IsEdge}
use Rattle.tree_graphs.specs.Facts.{form_parts, IsFact}
use Rattle.tree_graphs.specs.Paths.{edge_part, term_of, terms_from, IsPath}
use Rattle.tree_graphs.specs.declared.closure.Bound.{Bound}
use Rattle.tree_graphs.specs.declared.closure.Bounds.{Bounds}
use Rattle.tree_graphs.specs.declared.closure.Closure.TheVariants.{Closed}
use Rattle.tree_graphs.specs.declared.cycles.Cycle.{Cycle}
use Rattle.tree_graphs.specs.declared.edges.Edge.{Edge}
use Rattle.tree_graphs.proofs.OrderEdges.{raised_part}
use Rattle.tree_graphs.proofs.ZeroCycles.{negative_contradicts}
use Rattle.tree_graphs.proofs.ZeroCycles.{opposite_contradicts, round_form, round_terms}
use Rattle.tree_graphs.proofs.Small.{opposite_form, negation_of-some}
use Rattle.tree_graphs.proofs.PathSums.{dropped_at, path_edge, path_join, path_same}
use Rattle.plain_data.proofs.Lists.{All-slice_get}
use Rattle.tree_sums.specs.Parts.{Part, the_constant, the_coefficient, part_of, weighted_sum, IsWithin}
use Rattle.tree_sums.specs.Shown.{RowParts}
use Rattle.tree_sums.proofs.Bound.{sum_within}
use Rattle.tree_sums.proofs.Ideal.{sum_part}
use Rattle.tree_sums.proofs.Weights.{weight_sum}
use Rattle.tree_sums.proofs.Within.{IsWithin-weaker}

-- Edges behind others

get_first : (xs ys : List Edge) (k : ℕ) → k < length xs → slice_get (xs ++ ys) k ≡ slice_get xs k
get_first [] ys k lt = absurd (omega (arith, lt))
get_first (x ∷ xs) ys zero lt = refl
get_first (x ∷ xs) ys (suc k) lt = get_first xs ys k (omega (arith, lt))

same_sums : (place : List Form) (part : Part) (own more : List Edge) (ts : List Term) → All (λ t. t.row < length own) ts
    → weighted_sum (edge_part place (own ++ more) part) ts ≡ weighted_sum (edge_part place own part) ts
same_sums place part own more [] h = refl
same_sums place part own more (t ∷ ts) h =
    let one : edge_part place (own ++ more) part t.row ≡ edge_part place own part t.row
    = ap (λ o. option_map_or (λ g. edge_parts place g part) o (pos 0))
    (get_first own more t.row (All-head (λ (t : Term). t.row < length own) t ts h)) in
    ap (λ z. (z *ℤ t.times) +ℤ weighted_sum (edge_part place (own ++ more) part) ts) one
    ∙ ap (λ z. (edge_part place own part t.row *ℤ t.times) +ℤ z)
    (same_sums place part own more ts (All-tail (λ (t : Term). t.row < length own) t ts h))

path_first : (own more : List Edge) (ts : List Term) (sum : RowParts) (from to : ℕ) → IsPath own ts sum from to
    → IsPath (own ++ more) ts sum from to
path_first own more ts sum from to h = record {
  name_edges = All-weaker (λ (t : Term). t.row < length own) (λ (t : Term). t.row < length (own ++ more))
      (λ t lt. omega (arith, lt, length-append own more)) ts h.name_edges;
  not_negative = h.not_negative;
  same = λ place part. same_sums place part own more ts h.name_edges ∙ h.same place part;
}

bound_first : (own edges : List Edge) (from to : ℕ) (bound : Bound) → ((more : List Edge) × (edges ≡ own ++ more))
    → IsBound own 64 from to bound → IsBound edges 64 from to bound
bound_first own edges from to bound begins h =
    subst (λ edges. IsBound edges 64 from to bound) (sym begins.1)
    (record {
      path = path_first own begins.0 bound.terms (number_parts bound.value) from to h.path;
      light = h.light;
      near = h.near;
    })

-- One round

module _ (edges : List Edge) (vars : ℕ) (out back : Edge) (bound : Bound) (out_number back_number : ℕ)
    (a : RoundIsNear edges vars out out_number bound back back_number) where
  abbrev form : Form
  form = round_form out bound back

  abbrev rows : List Term
  rows = round_terms out_number bound back_number

  pub even : length out.weight.coefs ≡ length back.weight.coefs
  even = a.out_near.over ∙ sym a.back_near.over

  pub sum_small : IsWithin (2 ^ 50) (form_sum out.weight back.weight)
  sum_small =
      IsWithin-weaker (2 ^ 49 + 2 ^ 49) (2 ^ 50) (form_sum out.weight back.weight) (omega arith)
      (sum_within (2 ^ 49) (2 ^ 49) out.weight back.weight a.out_near.within a.back_near.within)

  pub form_small : IsWithin (2 ^ 60) form
  form_small = record {
    constant = omega
        (arith, unsigned_abs-sum (form_sum out.weight back.weight).constant bound.value, sum_small.constant, a.path.near);
    coefs = (IsWithin-weaker (2 ^ 50) (2 ^ 60) (form_sum out.weight back.weight) (omega arith) sum_small).coefs;
  }

  pub form_over : length form.coefs ≡ vars
  form_over = length-sums out.weight.coefs back.weight.coefs even ∙ a.out_near.over

  part_is : (part : Part) → part_of part out.weight +ℤ (number_parts bound.value part +ℤ part_of part back.weight)
      ≡ form_parts form part
  part_is part = omega (
    arith,
    ints,
    raised_part (form_sum out.weight back.weight) bound.value part,
    sum_part part out.weight back.weight even,
  )

  round_path : IsPath edges rows (form_parts form) back.to back.to
  round_path =
      let there : IsPath edges (term_of out_number ∷ []) (λ part. part_of part out.weight) out.from out.to =
      path_edge edges out_number out a.out_is in
      let home : IsPath edges (term_of back_number ∷ []) (λ part. part_of part back.weight) back.from back.to =
      path_edge edges back_number back a.back_is in
      let rest = path_join edges bound.terms (term_of back_number ∷ []) (number_parts bound.value)
      (λ part. part_of part back.weight) out.to back.from back.to a.path.path home in
      let whole = path_join edges (term_of out_number ∷ []) (bound.terms ++ term_of back_number ∷ [])
      (λ part. part_of part out.weight)
      (λ part. number_parts bound.value part +ℤ part_of part back.weight) out.from out.to back.to there rest in
      subst (λ n. IsPath edges rows (form_parts form) n back.to) a.same
      (path_same edges rows (λ part. part_of part out.weight +ℤ
      (number_parts bound.value part +ℤ part_of part back.weight)) (form_parts form) out.from back.to part_is whole)

  pub rows_named : All (λ t. t.row < length edges) rows
  rows_named = round_path.name_edges

  pub round_contradicts : (context : System) (other : Form) (shown terms : List Term) → context.vars ≡ vars
      → negation_of form ≡ Some other → IsFact context 65536 (form_parts other) shown
      → terms ≡ shown ++ terms_from (length context.rows) rows → IsContradicted context edges terms
  round_contradicts context other shown terms vars_is negated fact is =
      let same : other ≡ opposite_form form = negation_of-some (2 ^ 60) form other (omega arith) form_small negated in
      let opposed : IsFact context 65536 (form_parts (opposite_form form)) shown =
      subst (λ f. IsFact context 65536 (form_parts f) shown) same fact in
      record {
        shown = shown;
        rows = rows;
        contradiction = record {
          row = form_parts (opposite_form form);
          sum = form_parts form;
          node = back.to;
          narrow = λ i past.
              (let gone : part_of (the_coefficient i) form ≡ pos 0 =
              get_or_past form.coefs i (pos 0) (omega (arith, past, vars_is, form_over)) in
              let none : slice_index_or [] i (pos 0) ≡ pos 0 = refl in
              omega (arith, ints, opposite_part form (the_coefficient i), gone, none));
          shows = opposed.shows;
          cycle = round_path;
          negative = omega (arith, ints, opposite_part form the_constant);
          no_variable = λ i. (let none : slice_index_or [] i (pos 0) ≡ pos 0 = refl
              in omega (arith, ints, opposite_part form (the_coefficient i), none));
          light = omega (
            arith,
            opposed.light,
            weight_sum (term_of out_number ∷ [])
                (bound.terms ++ term_of back_number ∷ []),
            weight_sum bound.terms (term_of back_number ∷ []),
            a.path.light,
          );
        };
        is = is;
      }

-- rows behind a context have numbers that can be counted
pub rows_fit : (context : System) (edges : List Edge) (ts : List Term) → AreRefuting context edges
    → All (λ t. t.row < length edges) ts → All (λ t. length context.rows + t.row < 2 ^ 32) ts
rows_fit context edges ts fit h = All-weaker (λ (t : Term). t.row < length edges)
    (λ (t : Term). length context.rows + t.row < 2 ^ 32) (λ t lt. omega (arith, lt, fit)) ts h

-- the cycles of a candidate
pub cycle_contradicts : (context : System) (edges : List Edge) (cycle : Cycle) (other : Form) (shown terms : List Term)
    → IsCycle context.vars edges cycle → negation_of cycle.form ≡ Some other
    → IsFact context 65536 (form_parts other) shown → terms ≡ shown ++ terms_from (length context.rows) cycle.terms
    → IsContradicted context edges terms
cycle_contradicts context edges cycle other shown terms h negated fact is =
    let same : other ≡ opposite_form cycle.form =
    negation_of-some (2 ^ 40) cycle.form other (omega arith) h.within negated in
    record {
      shown = shown;
      rows = cycle.terms;
      contradiction = opposite_contradicts context.vars context edges cycle shown refl h
          (subst (λ f. IsFact context 65536 (form_parts f) shown) same fact);
      is = is;
    }

pub negative_is_contradicted : (context : System) (edges : List Edge) (rows terms : List Term) → IsNegativeCycle edges
    rows → terms ≡ [] ++ terms_from (length context.rows) rows → IsContradicted context edges terms
negative_is_contradicted context edges rows terms h is =
    record { shown = []; rows = rows; contradiction = negative_contradicts context edges rows h; is = is }

-- Lists of edges

pub near_own : (vars depth : ℕ) (edges : List Edge) → All (IsEdge vars depth) edges → All (IsNearEdge vars) edges
near_own vars depth edges h =
    All-weaker (IsEdge vars depth) (IsNearEdge vars)
    (λ g e. record { over = e.over; within = IsWithin-weaker (2 ^ 33) (2 ^ 49) g.weight (omega arith) e.within }) edges h

pub numbered_next : (edges some : List Edge) (g : Edge) (number : ℕ) → AreNumbered edges (g ∷ some) number
    → (slice_get edges number ≡ Some g) × AreNumbered edges some (number + 1)
numbered_next edges some g number h =
    let d = dropped_at edges number g (some ++ h.0) h.1 in
    (d.0, (h.0, d.1))

drop_length : (xs ys : List Edge) → drop (length xs) (xs ++ ys) ≡ ys
drop_length [] ys = refl
drop_length (x ∷ xs) ys = drop_length xs ys

pub numbered_behind : (own orders : List Edge) (number : ℕ) → number ≡ length own
    → AreNumbered (own ++ orders) orders number
numbered_behind own orders number e =
    ([], ap (λ n. drop n (own ++ orders)) e ∙ drop_length own orders ∙ sym (append-nil orders))

pub numbered_first : (own orders : List Edge) → AreNumbered (own ++ orders) own 0
numbered_first own orders = (orders, refl)

pub out_next : (context : System) (own edges : List Edge) (bounds : Bounds) (node : ℕ) (out : Edge) (outs : List Edge)
    (number : ℕ) (back : Edge) (back_number : ℕ)
    → AreOut context own edges bounds node (out ∷ outs) number back back_number
    → AreOut context own edges bounds node outs (number + 1) back back_number
out_next context own edges bounds node out outs number back back_number h =
    record { to = h.to; numbered = (numbered_next edges outs out number h.numbered).1 }

pub out_round : (context : System) (own edges : List Edge) (bounds : Bounds) (node : ℕ) (out : Edge) (outs : List Edge)
    (number : ℕ) (back : Edge) (back_number : ℕ) (bound : Bound)
    → AreOut context own edges bounds node (out ∷ outs) number back back_number → out.from ≡ node
    → bound_at bounds out.to back.from ≡ Some bound
    → RoundIsNear edges context.vars out number bound back back_number
out_round context own edges bounds node out outs number back back_number bound h from found =
    let is : slice_get edges number ≡ Some out = (numbered_next edges outs out number h.numbered).0 in
    record {
      out_is = is;
      back_is = h.to.is;
      out_near = All-slice_get (IsNearEdge context.vars) edges number out h.to.near is;
      back_near = All-slice_get (IsNearEdge context.vars) edges back_number back h.to.near h.to.is;
      path = bound_first own edges out.to back.from bound h.to.begins
          (subst (λ o. IfSome o (IsBound own 64 out.to back.from)) found (h.to.bounds_are out.to back.from));
      same = from ∙ sym h.to.last;
    }

pub back_next : (context : System) (own edges : List Edge) (bounds : Bounds) (node : ℕ) (outs : List Edge) (first : ℕ)
    (back : Edge) (backs : List Edge) (number : ℕ)
    → AreBack context own edges bounds node outs first (back ∷ backs) number
    → AreBack context own edges bounds node outs first backs (number + 1)
back_next context own edges bounds node outs first back backs number h = record {
  fit = h.fit;
  begins = h.begins;
  near = h.near;
  bounds_are = h.bounds_are;
  numbered = h.numbered;
  backs_numbered = (numbered_next edges backs back number h.backs_numbered).1;
}

pub back_out : (context : System) (own edges : List Edge) (bounds : Bounds) (node : ℕ) (outs : List Edge) (first : ℕ)
    (back : Edge) (backs : List Edge) (number : ℕ)
    → AreBack context own edges bounds node outs first (back ∷ backs) number → back.to ≡ node
    → AreOut context own edges bounds node outs first back number
back_out context own edges bounds node outs first back backs number h to = record {
  to = record {
    fit = h.fit;
    begins = h.begins;
    near = h.near;
    bounds_are = h.bounds_are;
    is = (numbered_next edges backs back number h.backs_numbered).0;
    last = to;
  };
  numbered = h.numbered;
}

-- a candidate's edges and order edges behind them
pub with_orders : (context : System) (r : Read) (c : Candidate) (bounds : Bounds) (orders outs backs : List Edge)
    (node first number : ℕ) → IsCandidate r c → c.closure ≡ Closed bounds
    → IsPathContext c.writes.vars 0 context → All (IsNearEdge c.writes.vars) orders
    → length orders ≤ 13 → AreNumbered (c.edges ++ orders) outs first
    → AreNumbered (c.edges ++ orders) backs number
    → AreBack context c.edges (c.edges ++ orders) bounds node outs first backs number
with_orders context r c bounds orders outs backs node first number h closed path near few outs_are backs_are =
    let all : AreClosed c.edges (depth_of_write c.writes) 64 (depth_of_write c.writes) bounds =
    subst (IsClosure c.edges (depth_of_write c.writes)) closed h.closure in
    record {
      fit = omega (arith, path.few, h.graph.graph.few, few, length-append c.edges orders);
      begins = (orders, refl);
      near = subst (λ v. All (IsNearEdge v) (c.edges ++ orders)) (sym path.vars_are)
          (All-append (IsNearEdge c.writes.vars) c.edges orders
          (near_own c.writes.vars (depth_of_write c.writes) c.edges h.graph.graph.each) near);
      bounds_are = all.sound;
      numbered = outs_are;
      backs_numbered = backs_are;
    }

pub own_fits : (context : System) (r : Read) (c : Candidate) → IsCandidate r c
    → IsPathContext c.writes.vars 0 context → AreRefuting context c.edges
own_fits context r c h path = omega (arith, path.few, h.graph.graph.few)
