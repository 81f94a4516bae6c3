-- The edges of the rows that a place stands before the writer's point.
--
-- Above the level the loop's values are equal, `v - j` and `j - v`: an edge from 0 to the loop with weight v, and one
-- back with -v. At the level of a common loop j is greater, `j - v - 1`: an edge back with -v - 1. The rows go down the
-- loops as the edges do.
use Rattle.std.proofs.Common.{◌≡◌, ◌+◌, ◌^◌, ◌<◌, ℕ, zero, suc, pos, negsuc, ◌+ℤ◌, List, [], ◌∷◌, ◌++◌, length}
use Rattle.std.proofs.Common.{drop, Bool, true, false, refl, sym, ap, ◌∙◌, subst, arith, lt-ltb, ltb-true, ltb-false}
use Rattle.std.proofs.Common.{le-ltb}
use Rattle.std.specs.Prelude.{Some, None, All, nat_lt, slice_get}
use Rattle.std.proofs.lemmas.Int.{ints}
use Rattle.std.proofs.lemmas.List.{append-nil, append_assoc}
use Rattle.std.proofs.lemmas.List.Elements.{All-head, All-push, All-tail}
use Rattle.std.proofs.lemmas.Option.{same_Some, slice_get-map}
use Rattle.affine_core.specs.declared.form.Form.{Form}
use Rattle.affine_core.specs.Affine.{form_product}
use Rattle.affine_core.proofs.Integers.{unsigned_abs-sum}
use Rattle.tree_order.specs.Absence.{AddsOrderEdges, IsNearEdge}
use Rattle.tree_order.specs.Comparisons.{AreForms}
use Rattle.tree_graphs.specs.Edges.{edge_parts, AreEdges}
use Rattle.tree_graphs.specs.declared.edges.Edge.{Edge}
use Rattle.tree_graphs.proofs.EdgeRows.{edges_more}
use Rattle.tree_graphs.proofs.Differences.{past_part}
use Rattle.tree_graphs.proofs.OrderEdges.{raised_part}
use Rattle.tree_graphs.proofs.Small.{negative_over, negative_within}
use Rattle.tree_graphs.proofs.PathSums.{dropped_at}
use Rattle.plain_data.proofs.Options.{option_map-some}
use Rattle.tree_sums.specs.Made.{parts_of}
use Rattle.tree_sums.specs.Parts.{Part, row_part, IsWithin}
use Rattle.tree_sums.proofs.Ideal.{product_part}
use Rattle.tree_sums.proofs.Within.{IsWithin-weaker, row_part-some}
use Rattle.source_tree.specs.Places.{order_rows}
use Rattle.source_tree.specs.Rows.{RowExpr, Take, equal_rows, minus, one_less}

abbrev pub out_edge : ℕ → ℕ → Form → Edge
out_edge at none value = record { from = none; to = at; weight = value }

abbrev pub back_edge : ℕ → ℕ → Form → Edge
back_edge at none value = record { from = at; to = none; weight = form_product (negsuc 0) value }

abbrev pub less_edge : ℕ → ℕ → Form → Edge
less_edge at none value =
    let minus_value = form_product (negsuc 0) value in
    record { from = at; to = none; weight = record minus_value { constant = minus_value.constant +ℤ negsuc 0 } }

-- Their rows

none_part : (point : List Form) (none : ℕ) (part : Part) → none ≡ length point → row_part point part none ≡ pos 0
none_part point none part e = ap (row_part point part) e ∙ past_part point part

module _ (point : List Form) (at none : ℕ) (v w : Form) (is : slice_get point at ≡ Some w) (e : none ≡ length point)
    (part : Part) where
  out_row : parts_of (minus (Take v) (Take w)) part ≡ edge_parts point (out_edge at none v) part
  out_row = omega (arith, ints, row_part-some point at w part is, none_part point none part e)

  back_row : parts_of (minus (Take w) (Take v)) part ≡ edge_parts point (back_edge at none v) part
  back_row = omega (arith, ints, row_part-some point at w part is, none_part point none part e, product_part part (negsuc 0) v)

  less_row : parts_of (one_less (minus (Take w) (Take v))) part ≡ edge_parts point (less_edge at none v) part
  less_row =
      omega (
        arith,
        ints,
        row_part-some point at w part is,
        none_part point none part e,
        product_part part (negsuc 0) v,
        raised_part (form_product (negsuc 0) v) (negsuc 0) part,
      )

-- Levels

less_none : (c : ℕ) → false ≡ nat_lt 0 c → c ≡ 0
less_none c e = grind arith

less_some : (c : ℕ) → true ≡ nat_lt 0 c → 0 < c
less_some c e = grind arith

less_next : (l c : ℕ) (b : Bool) → b ≡ nat_lt (suc l) (suc c) → b ≡ nat_lt l c
less_next l c b e = e ∙ go (nat_lt l c) refl where
  go : (d : Bool) → nat_lt l c ≡ d → nat_lt (suc l) (suc c) ≡ nat_lt l c
  go true f = lt-ltb (suc l) (suc c) (omega (arith, ltb-true l c f)) ∙ sym f
  go false f = le-ltb (suc l) (suc c) (omega (arith, ltb-false l c f)) ∙ sym f

-- a place without a value has no rows
pub orders_end : (at none level : ℕ) (within : Bool) (old new : List Edge) → new ≡ old
    → AddsOrderEdges [] at none level within old new
orders_end at none level within old new e zero true point before order n w is h = go level is where
  go : (level : ℕ) → slice_get ([] ∷ []) level ≡ Some order → AreEdges point (before ++ order) new
  go zero is =
      subst (λ order. AreEdges point (before ++ order) new) (same_Some [] order is)
      (subst (λ rows. AreEdges point rows new) (sym (append-nil before)) (subst (AreEdges point before) (sym e) h))
  go (suc l) is = absurd (let f : None ≡ Some order = is in cc)
orders_end at none level within old new e zero false point before order n w is h =
    absurd (let f : None ≡ Some order = is in cc)
orders_end at none level within old new e (suc c) less point before order n w is h =
    absurd (let f : None ≡ Some order = is in cc)

-- the level behind the common loops
pub orders_behind : (place : List Form) (at none : ℕ) (old new : List Edge) → new ≡ old
    → AddsOrderEdges place at none 0 false old new
orders_behind place at none old new e c less point before order n w is h =
    let end : c ≡ 0 = less_none c w in
    go less (subst (λ c. slice_get (order_rows c less place (drop at point)) 0 ≡ Some order) end is) where
      go : (less : Bool) → slice_get (order_rows 0 less place (drop at point)) 0 ≡ Some order
          → AreEdges point (before ++ order) new
      go true is =
          subst (λ order. AreEdges point (before ++ order) new) (same_Some [] order is)
          (subst (λ rows. AreEdges point rows new) (sym (append-nil before)) (subst (AreEdges point before) (sym e) h))
      go false is = absurd (let f : None ≡ Some order = is in cc)

-- the level of a common loop
pub orders_less : (v : Form) (place : List Form) (at none : ℕ) (old new : List Edge) → new ≡ old ++ less_edge at none v
    ∷ [] → AddsOrderEdges (v ∷ place) at none 0 true old new
orders_less v place at none old new e zero less point before order n w is h =
    absurd (let k : 0 < 0 = less_some 0 w in omega (arith, k))
orders_less v place at none old new e (suc c) less point before order n w is h = go (drop at point) refl is where
  go : (b : List Form) → drop at point ≡ b → slice_get (order_rows (suc c) less (v ∷ place) b) 0 ≡ Some order
      → AreEdges point (before ++ order) new
  go [] f is = absurd (let k : None ≡ Some order = is in cc)
  go (j ∷ b) f is =
      let there : slice_get point at ≡ Some j = (dropped_at point at j b f).0 in
      let row : RowExpr = one_less (minus (Take j) (Take v)) in
      subst (λ order. AreEdges point (before ++ order) new) (same_Some (row ∷ []) order is)
      (subst (AreEdges point (before ++ row ∷ [])) (sym e)
      (edges_more point before old row (less_edge at none v) h (λ part. less_row point at none v j there n part)))

-- a loop above the level
pub orders_equal : (v : Form) (place : List Form) (at none level : ℕ) (within : Bool) (old first middle new : List Edge)
    → first ≡ old ++ out_edge at none v ∷ [] → middle ≡ first ++ back_edge at none v ∷ []
    → AddsOrderEdges place (at + 1) none level within middle new
    → AddsOrderEdges (v ∷ place) at none (suc level) within old new
orders_equal v place at none level within old first middle new e f rest zero less point before order n w is h =
    absurd (gone less is) where
      gone : (less : Bool) → slice_get (order_rows 0 less (v ∷ place) (drop at point)) (suc level) ≡ Some order → ⊥
      gone true is = let k : None ≡ Some order = is in cc
      gone false is = let k : None ≡ Some order = is in cc
orders_equal v place at none level within old first middle new e f rest (suc c) less point before order n w is h =
    go (drop at point) refl is where
      go : (b : List Form) → drop at point ≡ b → slice_get (order_rows (suc c) less (v ∷ place) b) (suc level)
          ≡ Some order
          → AreEdges point (before ++ order) new
      go [] k is = absurd (let k : None ≡ Some order = is in cc)
      go (j ∷ b) k is =
          let d = dropped_at point at j b k in
          let pair : List RowExpr = equal_rows (Take v) (Take j) in
          let i = option_map-some (λ inner. pair ++ inner) (slice_get (order_rows c less place b) level) order (sym (slice_get-map (λ inner. pair ++ inner) (order_rows c less place b) level) ∙ is) in
          let one : RowExpr = minus (Take v) (Take j) in
          let two : RowExpr = minus (Take j) (Take v) in
          let a : AreEdges point (before ++ one ∷ []) first = subst (AreEdges point (before ++ one ∷ [])) (sym e)
          (edges_more point before old one (out_edge at none v) h (λ part. out_row point at none v j d.0 n part)) in
          let b2 : AreEdges point ((before ++ one ∷ []) ++ two ∷ []) middle
          = subst (AreEdges point ((before ++ one ∷ []) ++ two ∷ [])) (sym f)
          (edges_more point (before ++ one ∷ []) first two (back_edge at none v) a
          (λ part. back_row point at none v j d.0 n part)) in
          let inner_is : slice_get (order_rows c less place (drop (at + 1) point)) level ≡ Some i.0 =
          subst (λ b. slice_get (order_rows c less place b) level ≡ Some i.0) (sym d.1) i.1 in
          let all : AreEdges point (((before ++ one ∷ []) ++ two ∷ []) ++ i.0) new =
          rest c less point ((before ++ one ∷ []) ++ two ∷ []) i.0 n (less_next level c within w) inner_is b2 in
          subst (λ order. AreEdges point (before ++ order) new) i.2
          (subst (λ rows. AreEdges point rows new)
          (append_assoc (before ++ one ∷ []) (two ∷ []) i.0 ∙ append_assoc before (one ∷ []) (two ∷ i.0)) all)

-- a place, a level and a word on it that are the same
pub orders_same : (place other : List Form) (level last : ℕ) (within told : Bool) (at none : ℕ) (old new : List Edge)
    → place ≡ other → level ≡ last → within ≡ told
    → AddsOrderEdges other at none last told old new → AddsOrderEdges place at none level within old new
orders_same place other level last within told at none old new e f g h =
    subst (λ p. AddsOrderEdges p at none level within old new) (sym e)
    (subst (λ n. AddsOrderEdges other at none n within old new) (sym f)
    (subst (λ b. AddsOrderEdges other at none last b old new) (sym g) h))

-- Small weights

pub near_out : (vars at none : ℕ) (v : Form) (place : List Form) → AreForms vars (v ∷ place)
    → IsNearEdge vars (out_edge at none v)
near_out vars at none v place h = record {
  over = All-head (λ (form : Form). length form.coefs ≡ vars) v place h.over;
  within = IsWithin-weaker (2 ^ 48) (2 ^ 49) v (omega arith) (All-head (IsWithin (2 ^ 48)) v place h.within);
}

pub near_back : (vars at none : ℕ) (v : Form) (place : List Form) → AreForms vars (v ∷ place)
    → IsNearEdge vars (back_edge at none v)
near_back vars at none v place h = record {
  over = negative_over v ∙ All-head (λ (form : Form). length form.coefs ≡ vars) v place h.over;
  within = IsWithin-weaker (2 ^ 48) (2 ^ 49) (form_product (negsuc 0) v) (omega arith)
      (negative_within (2 ^ 48) v (All-head (IsWithin (2 ^ 48)) v place h.within));
}

pub near_less : (vars at none : ℕ) (v : Form) (place : List Form) → AreForms vars (v ∷ place)
    → IsNearEdge vars (less_edge at none v)
near_less vars at none v place h =
    let back : IsWithin (2 ^ 48) (form_product (negsuc 0) v) =
    negative_within (2 ^ 48) v (All-head (IsWithin (2 ^ 48)) v place h.within) in
    record {
      over = negative_over v ∙ All-head (λ (form : Form). length form.coefs ≡ vars) v place h.over;
      within = record {
        constant = omega (arith, unsigned_abs-sum (form_product (negsuc 0) v).constant (negsuc 0), back.constant);
        coefs = (IsWithin-weaker (2 ^ 48) (2 ^ 49) (form_product (negsuc 0) v) (omega arith) back).coefs;
      };
    }

pub forms_rest : (vars : ℕ) (v : Form) (place : List Form) → AreForms vars (v ∷ place) → AreForms vars place
forms_rest vars v place h = record {
  over = All-tail (λ (form : Form). length form.coefs ≡ vars) v place h.over;
  within = All-tail (IsWithin (2 ^ 48)) v place h.within;
}

-- one near edge more
pub one_pushed : (vars : ℕ) (old new : List Edge) (g : Edge) → new ≡ old ++ g ∷ [] → IsNearEdge vars g
    → All (IsNearEdge vars) old → All (IsNearEdge vars) new
one_pushed vars old new g e near all = subst (All (IsNearEdge vars)) (sym e) (All-push (IsNearEdge vars) old g all near)
