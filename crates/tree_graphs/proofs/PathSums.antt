-- Sums of edges along paths, and bounds of differences.
--
-- A path is told by its sum at every place: its weights and where it begins, less where it ends. So two paths join
-- where one ends and the other begins, and an edge is a path. A bound is a path whose weights are numbers. Where the
-- edges are gone through one by one, the bound so far is no greater than the edges so far, and stays a path: it is
-- exchanged for a lesser one alone.
use Rattle.std.proofs.Common.{◌≡◌, ◌+◌, ◌≤◌, ◌<◌, ℕ, zero, suc, ℤ, pos, ◌+ℤ◌, ◌≤ℤ◌, List}
use Rattle.std.proofs.Common.{[], ◌∷◌, ◌++◌, length, drop, true, false, refl, ap, ◌∙◌, subst, arith}
use Rattle.std.specs.Prelude.{Option, Some, None, All, slice_get, IfSome}
use Rattle.std.specs.Int.RustNames.{int_lt}
use Rattle.std.specs.Option.{option_map_or}
use Rattle.std.proofs.lemmas.Int.{ints}
use Rattle.std.proofs.lemmas.List.Elements.{All-nil, All-cons, All-append}
use Rattle.std.proofs.lemmas.Option.{slice_get_within}
use Rattle.affine_core.proofs.Integers.{unsigned_abs-sum, int_lt-false}
use Rattle.int_polyhedra.specs.declared.system.Term.{Term}
use Rattle.tree_graphs.specs.Closed.{number_parts, value_of, IsBettered, IsBound, IsFirst}
use Rattle.tree_graphs.specs.Edges.{edge_parts, IsEdge}
use Rattle.tree_graphs.specs.Paths.{edge_part, term_of, IsPath}
use Rattle.tree_graphs.specs.declared.closure.Bound.{Bound}
use Rattle.tree_graphs.specs.declared.edges.Edge.{Edge}
use Rattle.plain_data.proofs.Lists.{All-slice_get}
use Rattle.tree_sums.specs.Closure.{AtMost}
use Rattle.tree_sums.specs.Parts.{Part, the_constant, the_coefficient, part_of}
use Rattle.tree_sums.specs.Shown.{RowParts}
use Rattle.tree_sums.proofs.SumAlgebra.{weighted_sum_append}
use Rattle.tree_sums.proofs.Weights.{weight_sum}

-- Paths

pub path_join : (edges : List Edge) (ts us : List Term) (a b : RowParts) (x y z : ℕ) → IsPath edges ts a x y
    → IsPath edges us b y z → IsPath edges (ts ++ us) (λ part. a part +ℤ b part) x z
path_join edges ts us a b x y z h k = record {
  name_edges = All-append (λ (t : Term). t.row < length edges) ts us h.name_edges k.name_edges;
  not_negative = All-append (λ (t : Term). pos 0 ≤ℤ t.times) ts us h.not_negative k.not_negative;
  same = λ place part. omega
      (arith, ints, weighted_sum_append (edge_part place edges part) ts us, h.same place part, k.same place part);
}

pub path_same : (edges : List Edge) (ts : List Term) (a b : RowParts) (x y : ℕ) → ((part : Part) → a part ≡ b part)
    → IsPath edges ts a x y → IsPath edges ts b x y
path_same edges ts a b x y e h = record {
  name_edges = h.name_edges;
  not_negative = h.not_negative;
  same = λ place part. omega (arith, ints, h.same place part, e part);
}

pub path_edge : (edges : List Edge) (k : ℕ) (g : Edge) → slice_get edges k ≡ Some g
    → IsPath edges (term_of k ∷ []) (λ part. part_of part g.weight) g.from g.to
path_edge edges k g is = record {
  name_edges = All-cons (λ (t : Term). t.row < length edges) (term_of k) [] (slice_get_within edges k g is) (All-nil _);
  not_negative = All-cons (λ (t : Term). pos 0 ≤ℤ t.times) (term_of k) [] (omega (arith, ints)) (All-nil _);
  same = λ place part.
      (let here : edge_part place edges part k ≡ edge_parts place g part =
      ap (λ o. option_map_or (λ g. edge_parts place g part) o (pos 0)) is in
      omega (arith, ints, here));
}

number_sum : (x y : ℤ) (part : Part) → number_parts x part +ℤ number_parts y part ≡ number_parts (x +ℤ y) part
number_sum x y the_constant = refl
number_sum x y (the_coefficient i) = omega (arith, ints)

-- the weight of an edge between two loop variables
weight_is : (vars depth : ℕ) (g : Edge) → IsEdge vars depth g → g.from < depth → g.to < depth → (part : Part)
    → part_of part g.weight ≡ number_parts g.weight.constant part
weight_is vars depth g e a b the_constant = refl
weight_is vars depth g e a b (the_coefficient i) = e.inner a b i

-- Bounds

abbrev joined_bound : Bound → Bound → Bound
joined_bound a b = record { value = a.value +ℤ b.value; terms = a.terms ++ b.terms }

pub bound_join : (edges : List Edge) (most x y z : ℕ) (a b : Bound) → IsBound edges most x y a
    → IsBound edges most y z b → IsBound edges (most + most) x z (joined_bound a b)
bound_join edges most x y z a b h k = record {
  path = path_same edges (a.terms ++ b.terms) (λ part. number_parts a.value part +ℤ number_parts b.value part)
      (number_parts (a.value +ℤ b.value)) x z (number_sum a.value b.value)
      (path_join edges a.terms b.terms (number_parts a.value) (number_parts b.value) x y z h.path k.path);
  light = omega (arith, weight_sum a.terms b.terms, h.light, k.light);
  near = omega (arith, unsigned_abs-sum a.value b.value, h.near, k.near);
}

pub bound_wider : (edges : List Edge) (most more x y : ℕ) (b : Bound) → most ≤ more → IsBound edges most x y b
    → IsBound edges more x y b
bound_wider edges most more x y b le h =
    record { path = h.path; light = omega (arith, h.light, le); near = omega (arith, h.near, le) }

pub bound_edge : (edges : List Edge) (vars depth k : ℕ) (g : Edge) → slice_get edges k ≡ Some g → IsEdge vars depth g
    → g.from < depth → g.to < depth
    → IsBound edges 1 g.from g.to (record { value = g.weight.constant; terms = term_of k ∷ [] })
bound_edge edges vars depth k g is e a b = record {
  path = path_same edges (term_of k ∷ []) (λ part. part_of part g.weight) (number_parts g.weight.constant) g.from g.to
      (weight_is vars depth g e a b) (path_edge edges k g is);
  light = omega arith;
  near = omega (arith, e.within.constant);
}

-- Order of bounds

pub at_most_trans : (x y z : Option ℤ) → AtMost x y → AtMost y z → AtMost x z
at_most_trans x y None h k = tt
at_most_trans x None (Some z) h k = absurd k
at_most_trans None (Some y) (Some z) h k = absurd h
at_most_trans (Some x) (Some y) (Some z) h k = omega (arith, ints, h, k)

less_where : (a b : ℤ) → int_lt a b ≡ true → a ≤ℤ b
less_where a b e = grind (arith, ints)

-- a value that is less than a bound, or no less
pub below_bound : (value : ℤ) (bound : Option Bound) → option_map_or (λ b. int_lt value b.value) bound true ≡ true
    → AtMost (Some value) (value_of bound)
below_bound value None e = tt
below_bound value (Some b) e = less_where value b.value e

pub above_bound : (value : ℤ) (bound : Option Bound) → option_map_or (λ b. int_lt value b.value) bound true ≡ false
    → AtMost (value_of bound) (Some value)
above_bound value None e = absurd (let h : true ≡ false = e in cc)
above_bound value (Some b) e = int_lt-false value b.value e

-- Betterment by the edges that are left

pub dropped_at : {X : Type 0} (xs : List X) (k : ℕ) (x : X) (rest : List X) → drop k xs ≡ x ∷ rest
    → (slice_get xs k ≡ Some x) × (drop (k + 1) xs ≡ rest)
dropped_at [] zero x rest e = absurd (cc)
dropped_at [] (suc k) x rest e = absurd (cc)
dropped_at (y ∷ xs) zero x rest e = (let h : y ≡ x = cc in ap Some h, let t : xs ≡ rest = cc in t)
dropped_at (y ∷ xs) (suc k) x rest e =
    let d = dropped_at xs k x rest e in
    let next : suc k + 1 ≡ suc (k + 1) = omega arith in
    (d.0, ap (λ n. drop n (y ∷ xs)) next ∙ d.1)

pub bettered_by : (whole rest : List Edge) (vars depth number from to : ℕ) (g : Edge) (bound better : Option Bound)
    → All (IsEdge vars depth) whole → drop number whole ≡ g ∷ rest → from < depth → to < depth → g.from ≡ from → g.to
    ≡ to
    → AtMost (Some g.weight.constant) (value_of bound)
    → IsBettered whole rest from to (Some (record { value = g.weight.constant; terms = term_of number ∷ [] })) better
    → IsBettered whole (g ∷ rest) from to bound better
bettered_by whole rest vars depth number from to g bound better each at a b e f less h =
    let here = dropped_at whole number g rest at in
    let edge : IsEdge vars depth g = All-slice_get (IsEdge vars depth) whole number g each here.0 in
    let one : IsBound whole 1 g.from g.to (record { value = g.weight.constant; terms = term_of number ∷ [] })
    = bound_edge whole vars depth number g here.0 edge (omega (arith, e, a)) (omega (arith, f, b)) in
    let moved : IsBound whole 1 from to (record { value = g.weight.constant; terms = term_of number ∷ [] })
    = subst (λ to. IsBound whole 1 from to (record { value = g.weight.constant; terms = term_of number ∷ [] })) f
    (subst (λ from. IsBound whole 1 from g.to (record { value = g.weight.constant; terms = term_of number ∷ [] })) e
    one) in
    record {
      sound = λ old. h.sound moved;
      no_greater = at_most_trans (value_of better) (Some g.weight.constant) (value_of bound) h.no_greater less;
      least = All-cons (λ (g : Edge). g.from ≡ from → g.to ≡ to → AtMost (value_of better) (Some g.weight.constant)) g
          rest (λ e f. h.no_greater) h.least;
    }

pub bettered_past : (whole rest : List Edge) (from to : ℕ) (g : Edge) (bound better : Option Bound)
    → (g.from ≡ from → g.to ≡ to → AtMost (value_of bound) (Some g.weight.constant))
    → IsBettered whole rest from to bound better → IsBettered whole (g ∷ rest) from to bound better
bettered_past whole rest from to g bound better no_less h = record {
  sound = h.sound;
  no_greater = h.no_greater;
  least = All-cons (λ (g : Edge). g.from ≡ from → g.to ≡ to → AtMost (value_of better) (Some g.weight.constant)) g rest
      (λ e f. at_most_trans (value_of better) (value_of bound) (Some g.weight.constant) h.no_greater (no_less e f))
      h.least;
}

-- the least bound by one edge
pub first_from : (edges : List Edge) (from to : ℕ) (start better : Option Bound)
    → IfSome start (IsBound edges 1 from to) → (from ≡ to → AtMost (value_of start) (Some (pos 0)))
    → IsBettered edges edges from to start better → IsFirst edges from to better
first_from edges from to start better sound itself h = record {
  sound = h.sound sound;
  least = h.least;
  itself = λ e. at_most_trans (value_of better) (value_of start) (Some (pos 0)) h.no_greater (itself e);
}
