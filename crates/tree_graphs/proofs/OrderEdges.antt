-- The edges of the order rows, level by level.
--
-- The rows from one loop on are those of the order of the inner loops: at a loop above the level the two rows that the
-- values are equal and then the rows from the next loop on, at the level the one row that the value is less, and behind
-- the last common loop none.
use Rattle.std.proofs.Common.{◌≡◌, ◌+◌, ◌-◌, ◌*◌, ◌^◌, ◌≤◌, ◌<◌, ℕ, zero, suc, ℤ, pos, negsuc, ◌+ℤ◌, List}
use Rattle.std.proofs.Common.{[], ◌∷◌, ◌++◌, length, map, drop, replicate, Bool, refl, sym, ap, ◌∙◌}
use Rattle.std.proofs.Common.{subst, arith, append_assoc, length-append}
use Rattle.std.specs.Prelude.{Some, All, slice_get, slice_index_or, nat_lt, unsigned_abs}
use Rattle.std.proofs.lemmas.Int.{ints}
use Rattle.std.proofs.lemmas.List.Elements.{All-nil, All-cons, All-append, All-replicate}
use Rattle.std.proofs.lemmas.Option.{same_Some, slice_get-map}
use Rattle.affine_core.specs.declared.form.Form.{Form}
use Rattle.affine_core.specs.Affine.{form_product, variable_form}
use Rattle.int_polyhedra.proofs.Variables.{length_zeros}
use Rattle.tree_graphs.specs.Asked.{depth_of_read, depth_of_write, read_of, write_of}
use Rattle.tree_graphs.specs.Edges.{edge_parts, AreEdges, AreEdgesOf, AddsEdges, AddsOrder, AreOrderRows, IsEdge, IsGraph}
use Rattle.tree_graphs.specs.Level.{common_of}
use Rattle.tree_graphs.specs.declared.edges.Edge.{Edge}
use Rattle.tree_graphs.specs.declared.writes.Writes.{Writes}
use Rattle.tree_graphs.proofs.EdgeRows.{edges_more}
use Rattle.tree_graphs.proofs.Differences.{past_part_at}
use Rattle.tree_graphs.proofs.ProblemBounds.{IsKnown}
use Rattle.tree_graphs.proofs.Small.{negative_over, negative_within}
use Rattle.plain_data.proofs.Options.{option_map-some}
use Rattle.plain_data.proofs.Lists.{get_or-replicate_same}
use Rattle.tree_sums.specs.Made.{parts_of}
use Rattle.tree_sums.specs.Parts.{Part, the_constant, the_coefficient, part_of, IsWithin}
use Rattle.tree_sums.proofs.Ideal.{product_part}
use Rattle.tree_sums.proofs.Within.{IsWithin-weaker, row_part-some}
use Rattle.source_tree.specs.Places.{cell_rows, domain_rows, order_rows, variables}
use Rattle.source_tree.specs.Rows.{RowExpr, Take, minus, one_less, equal_rows}
use Rattle.source_tree.specs.Systems.{reader_place}

-- Variables

unit_at : (i a b k : ℕ) → slice_index_or (replicate i (pos 0) ++ pos 1 ∷ replicate a (pos 0)) k (pos 0)
    ≡ slice_index_or (replicate i (pos 0) ++ pos 1 ∷ replicate b (pos 0)) k (pos 0)
unit_at zero a b zero = refl
unit_at zero a b (suc k) = get_or-replicate_same a k (pos 0) ∙ sym (get_or-replicate_same b k (pos 0))
unit_at (suc i) a b zero = refl
unit_at (suc i) a b (suc k) = unit_at i a b k

pub variable_part : (m n i : ℕ) (part : Part) → part_of part (variable_form m i) ≡ part_of part (variable_form n i)
variable_part m n i the_constant = refl
variable_part m n i (the_coefficient k) = unit_at i (m - (i + 1)) (n - (i + 1)) k

pub variable_over : (n i : ℕ) → i < n → length (variable_form n i).coefs ≡ n
variable_over n i lt =
    let k : ℕ = n - (i + 1) in
    omega (arith, length-append (replicate i (pos 0)) (pos 1 ∷ replicate k (pos 0)), length_zeros i, length_zeros k)

pub variable_within : (n i : ℕ) → IsWithin 1 (variable_form n i)
variable_within n i = record {
  constant = omega arith;
  coefs = All-append (λ c. unsigned_abs c ≤ 1) (replicate i (pos 0)) (pos 1 ∷ replicate (n - (i + 1)) (pos 0))
      (All-replicate (λ c. unsigned_abs c ≤ 1) i (pos 0) (omega arith))
      (All-cons (λ c. unsigned_abs c ≤ 1) (pos 1) (replicate (n - (i + 1)) (pos 0)) (omega arith)
      (All-replicate (λ c. unsigned_abs c ≤ 1) (n - (i + 1)) (pos 0) (omega arith)));
}

-- a list from one place on
pub record IsDropped (place : List Form) (i : ℕ) : Type 0 where
  pub first : Form
  pub is : slice_get place i ≡ Some first
  pub rest : drop i place ≡ first ∷ drop (i + 1) place

pub dropped : (place : List Form) (i : ℕ) → i < length place → IsDropped place i
dropped [] i lt = absurd (omega arith)
dropped (f ∷ place) zero lt = record { first = f; is = refl; rest = refl }
dropped (f ∷ place) (suc i) lt =
    let d : IsDropped place i = dropped place i (omega (arith, lt)) in
    let next : i + 1 ≡ suc i = omega arith in
    record {
      first = d.first;
      is = d.is;
      rest = d.rest ∙ ap (λ k. d.first ∷ drop k place) next
          ∙ (let more : suc (suc i) ≡ suc i + 1 = omega arith in ap (λ k. d.first ∷ drop k (f ∷ place)) more);
    }

pub variable_at : (k d i : ℕ) → i < d → slice_get (variables k d) i ≡ Some (variable_form (k + i + 1) (k + i))
variable_at k zero i lt = absurd (omega arith)
variable_at k (suc d) zero lt = let e : k ≡ k + 0 = omega arith in ap (λ n. Some (variable_form (n + 1) n)) e
variable_at k (suc d) (suc i) lt =
    let e : k + 1 + i ≡ k + suc i = omega arith in
    variable_at (k + 1) d i (omega (arith, lt)) ∙ ap (λ n. Some (variable_form (n + 1) n)) e

pub length_variables : (k d : ℕ) → length (variables k d) ≡ d
length_variables k zero = refl
length_variables k (suc d) = ap suc (length_variables (k + 1) d)

pub reader_at : (d i : ℕ) → i < d → slice_get (variables 0 d) i ≡ Some (variable_form (i + 1) i)
reader_at d i lt = let e : 0 + i ≡ i = omega arith in variable_at 0 d i lt ∙ ap (λ n. Some (variable_form (n + 1) n)) e

-- Rows of an order

-- the row that a loop's value is less
abbrev strict_row : Form → Form → RowExpr
strict_row v x = one_less (minus (Take x) (Take v))

at_level : (m q : ℕ) (less : Bool) (a b : List Form) (v x : Form) (a' b' : List Form) (rows : List RowExpr) → 0 < m → q
    ≡ 0 → a ≡ v ∷ a' → b ≡ x ∷ b'
    → slice_get (order_rows m less a b) q ≡ Some rows → strict_row v x ∷ [] ≡ rows
at_level zero q less a b v x a' b' rows h q_is a_is b_is e = absurd (omega arith)
at_level (suc m) q less a b v x a' b' rows h q_is a_is b_is e =
    same_Some (strict_row v x ∷ []) rows
    (ap (λ b. slice_get (order_rows (suc m) less (v ∷ a') b) 0) (sym b_is)
    ∙ ap (λ a. slice_get (order_rows (suc m) less a b) 0) (sym a_is)
    ∙ ap (λ q. slice_get (order_rows (suc m) less a b) q) (sym q_is) ∙ e)

-- the rows of an inner order, and the rows with those of one loop before them
record AreInner (m q : ℕ) (less : Bool) (v x : Form) (a b : List Form) (rows : List RowExpr) : Type 0 where
  inner : List RowExpr
  is : slice_get (order_rows m less a b) q ≡ Some inner
  whole : equal_rows (Take v) (Take x) ++ inner ≡ rows

above_level : (m q : ℕ) (less : Bool) (a b : List Form) (v x : Form) (a' b' : List Form) (rows : List RowExpr) → a ≡ v
    ∷ a' → b ≡ x ∷ b'
    → slice_get (order_rows (suc m) less a b) (suc q) ≡ Some rows → AreInner m q less v x a' b' rows
above_level m q less a b v x a' b' rows a_is b_is e =
    let pair : List RowExpr = equal_rows (Take v) (Take x) in
    let e' : slice_get (map (λ inner. pair ++ inner) (order_rows m less a' b')) q ≡ Some rows
    = ap (λ b. slice_get (order_rows (suc m) less (v ∷ a') b) (suc q)) (sym b_is)
    ∙ ap (λ a. slice_get (order_rows (suc m) less a b) (suc q)) (sym a_is) ∙ e in
    let i = option_map-some (λ inner. pair ++ inner) (slice_get (order_rows m less a' b') q) rows (sym (slice_get-map (λ inner. pair ++ inner) (order_rows m less a' b') q) ∙ e') in
    record { inner = i.0; is = i.1; whole = i.2 }

-- Edges of an order

pub raised_part : (f : Form) (by : ℤ) (part : Part) → part_of part (record f { constant = f.constant +ℤ by })
    ≡ part_of part f +ℤ part_of part (record { constant = by; coefs = [] })
raised_part f by the_constant = refl
raised_part f by (the_coefficient i) = omega (arith, ints)

abbrev pub later_edge : ℕ → ℕ → ℕ → Edge
later_edge vars depth i = record { from = i; to = depth; weight = form_product (negsuc 0) (variable_form vars i) }

abbrev pub earlier_edge : ℕ → ℕ → ℕ → Edge
earlier_edge vars depth i = record { from = depth; to = i; weight = variable_form vars i }

abbrev pub strict_edge : ℕ → ℕ → ℕ → Edge
strict_edge vars depth i =
    let value = variable_form vars i
    in record { from = depth; to = i; weight = record value { constant = value.constant +ℤ negsuc 0 } }

module _ (vars depth i : ℕ) (below : i < vars) (inside : i < depth) where
  abbrev value : Form
  value = variable_form vars i

  pub later_is_edge : IsEdge vars depth (later_edge vars depth i)
  later_is_edge = record {
    from = omega arith;
    to = omega arith;
    over = negative_over value ∙ variable_over vars i below;
    within = IsWithin-weaker 1 (2 ^ 33) (form_product (negsuc 0) value) (omega arith)
        (negative_within 1 value (variable_within vars i));
    inner = λ a b k. absurd (let lt : depth < depth = b in omega (arith, lt));
  }

  pub earlier_is_edge : IsEdge vars depth (earlier_edge vars depth i)
  earlier_is_edge = record {
    from = omega arith;
    to = omega arith;
    over = variable_over vars i below;
    within = IsWithin-weaker 1 (2 ^ 33) value (omega arith) (variable_within vars i);
    inner = λ a b k. absurd (let lt : depth < depth = a in omega (arith, lt));
  }

  pub strict_is_edge : IsEdge vars depth (strict_edge vars depth i)
  strict_is_edge = record {
    from = omega arith;
    to = omega arith;
    over = variable_over vars i below;
    within = record {
      constant = omega arith;
      coefs =
          (IsWithin-weaker 1 (2 ^ 33) value (omega arith) (variable_within vars i)).coefs;
    };
    inner = λ a b k. absurd (let lt : depth < depth = a in omega (arith, lt));
  }

  module _ (place : List Form) (v x : Form) (deep : length place ≡ depth) (v_is : slice_get place i ≡ Some v)
      (x_is : variable_form (i + 1) i ≡ x) (part : Part) where
    at_x : part_of part value ≡ part_of part x
    at_x = variable_part vars (i + 1) i part ∙ ap (part_of part) x_is

    pub later_row : parts_of (minus (Take v) (Take x)) part ≡ edge_parts place (later_edge vars depth i) part
    later_row =
        omega (
          arith,
          ints,
          past_part_at place depth part deep,
          row_part-some place i v part v_is,
          at_x,
          product_part part (negsuc 0) value,
        )

    pub earlier_row : parts_of (minus (Take x) (Take v)) part ≡ edge_parts place (earlier_edge vars depth i) part
    earlier_row = omega (arith, ints, past_part_at place depth part deep, row_part-some place i v part v_is, at_x)

    pub strict_parts : parts_of (strict_row v x) part ≡ edge_parts place (strict_edge vars depth i) part
    strict_parts =
        omega (
          arith,
          ints,
          past_part_at place depth part deep,
          row_part-some place i v part v_is,
          at_x,
          raised_part value (negsuc 0) part,
        )

module _ (w : Writes) (from : ℕ) (old : List Edge) where
  abbrev vars : ℕ
  vars = w.vars

  abbrev depth : ℕ
  depth = depth_of_write w

  abbrev readers : List Form
  readers = reader_place (read_of w)

  abbrev own : ℕ
  own = depth_of_read w

  module _ (common : from < w.common) (below : from < vars) (own_loop : from < own) (inside : from < depth) where
    -- what stands at this loop
    record IsHere (place : List Form) : Type 0 where
      v : IsDropped place from
      x : IsDropped readers from
      x_is : variable_form (from + 1) from ≡ x.first

    here : (place : List Form) → length place ≡ depth → IsHere place
    here place deep =
        let x : IsDropped readers from = dropped readers from (omega (arith, length_variables 0 own, own_loop)) in
        record {
          v = dropped place from (omega (arith, deep, inside));
          x = x;
          x_is = same_Some (variable_form (from + 1) from) x.first (sym (reader_at own from own_loop) ∙ x.is);
        }

    -- at the level
    pub adds_strict : (new : List Edge) → new ≡ old ++ strict_edge vars depth from ∷ [] → w.level ≡ from
        → AddsOrder w from old new
    adds_strict new is last = record {
      added = λ place before rows deep order h.
          (let d : IsHere place = here place deep in
          let one : strict_row d.v.first d.x.first ∷ [] ≡ rows
          = at_level (w.common - from) (w.level - from) (nat_lt w.write.number w.read.number) (drop from place)
          (drop from readers) d.v.first d.x.first (drop (from + 1) place) (drop (from + 1) readers) rows
          (omega (arith, common)) (omega (arith, last)) d.v.rest d.x.rest order in
          subst (λ more. AreEdges place (before ++ more) new) one
          (subst (AreEdges place (before ++ strict_row d.v.first d.x.first ∷ [])) (sym is)
          (edges_more place before old (strict_row d.v.first d.x.first) (strict_edge vars depth from) h
          (λ part. strict_parts vars depth from below inside place d.v.first d.x.first deep d.v.is d.x_is part))));
      each = λ h. subst (All (IsEdge vars depth)) (sym is)
          (All-append (IsEdge vars depth) old (strict_edge vars depth from ∷ []) h
          (All-cons (IsEdge vars depth) (strict_edge vars depth from) []
          (strict_is_edge vars depth from below inside) (All-nil _)));
    }

    -- above it
    pub adds_equal : (middle middle' new : List Edge) → middle ≡ old ++ later_edge vars depth from ∷ [] → middle'
        ≡ middle ++ earlier_edge vars depth from ∷ []
        → from < w.level → AddsOrder w (from + 1) middle' new → AddsOrder w from old new
    adds_equal middle middle' new is is' above rest = record {
      added = λ place before rows deep order h.
          (let d : IsHere place = here place deep in
          let less : Bool = nat_lt w.write.number w.read.number in
          let m_is : suc (w.common - (from + 1)) ≡ w.common - from = omega (arith, common) in
          let q_is : suc (w.level - (from + 1)) ≡ w.level - from = omega (arith, above) in
          let order' : slice_get (order_rows (suc (w.common - (from + 1))) less (drop from place) (drop from readers))
          (suc (w.level - (from + 1))) ≡ Some rows
          = ap (λ m. slice_get (order_rows m less (drop from place) (drop from readers)) (suc (w.level - (from + 1))))
          m_is
          ∙ ap (λ q. slice_get (order_rows (w.common - from) less (drop from place) (drop from readers)) q) q_is ∙ order
          in
          let i = above_level (w.common - (from + 1)) (w.level - (from + 1)) less (drop from place)
          (drop from readers) d.v.first d.x.first (drop (from + 1) place) (drop (from + 1) readers) rows
          d.v.rest d.x.rest order' in
          let v : Form = d.v.first in
          let x : Form = d.x.first in
          let first : List RowExpr = before ++ minus (Take v) (Take x) ∷ [] in
          let second : List RowExpr = first ++ minus (Take x) (Take v) ∷ [] in
          let h1 : AreEdges place first middle
          = subst (AreEdges place first) (sym is)
          (edges_more place before old (minus (Take v) (Take x)) (later_edge vars depth from) h
          (λ part. later_row vars depth from below inside place v x deep d.v.is d.x_is part)) in
          let h2 : AreEdges place second middle'
          = subst (AreEdges place second) (sym is')
          (edges_more place first middle (minus (Take x) (Take v)) (earlier_edge vars depth from) h1
          (λ part. earlier_row vars depth from below inside place v x deep d.v.is d.x_is part)) in
          let whole : second ++ i.inner ≡ before ++ rows
          = append_assoc first (minus (Take x) (Take v) ∷ []) i.inner
          ∙ append_assoc before (minus (Take v) (Take x) ∷ []) (minus (Take x) (Take v) ∷ i.inner)
          ∙ ap (λ more. before ++ more) i.whole in
          subst (λ rows. AreEdges place rows new) whole (rest.added place second i.inner deep i.is h2));
      each = λ h. rest.each
          (subst (All (IsEdge vars depth)) (sym is')
          (All-append (IsEdge vars depth) middle (earlier_edge vars depth from ∷ [])
          (subst (All (IsEdge vars depth)) (sym is)
          (All-append (IsEdge vars depth) old (later_edge vars depth from ∷ []) h
          (All-cons (IsEdge vars depth) (later_edge vars depth from) [] (later_is_edge vars depth from below inside)
          (All-nil _))))
          (All-cons (IsEdge vars depth) (earlier_edge vars depth from) [] (earlier_is_edge vars depth from below inside)
          (All-nil _))));
    }

-- The functions that add edges

pub variable_small : (n i : ℕ) (f : Form) → f ≡ variable_form n i → IsWithin (2 ^ 60) f
variable_small n i f is =
    subst (IsWithin (2 ^ 60)) (sym is) (IsWithin-weaker 1 (2 ^ 60) (variable_form n i) (omega arith) (variable_within n i))

drop_none : (place : List Form) → drop 0 place ≡ place
drop_none [] = refl
drop_none (f ∷ place) = refl

-- all rows
pub edges_are : (w : Writes) (e1 e2 e3 : List Edge) → w.common ≡ common_of (write_of w) (read_of w)
    → AddsEdges w (λ place. domain_rows w.rows.now place) [] e1
    → AddsEdges w (λ place. cell_rows w.write_forms.now w.read_forms.now place) e1 e2
    → AddsOrder w 0 e2 e3 → AreEdgesOf (read_of w) (write_of w) w.level e3
edges_are w e1 e2 e3 common domain cells order place level deep is =
    let d : List RowExpr = domain_rows w.rows.now place in
    let c : List RowExpr = cell_rows w.write_forms.now w.read_forms.now place in
    let less : Bool = nat_lt w.write.number w.read.number in
    let m : common_of (write_of w) (read_of w) ≡ w.common - 0 = sym common ∙ omega arith in
    let q : w.level ≡ w.level - 0 = omega arith in
    let rows : AreOrderRows w 0 place level
    = ap (λ place. slice_get (order_rows (w.common - 0) less place (drop 0 (reader_place (read_of w)))) (w.level - 0))
    (drop_none place)
    ∙ ap (λ readers. slice_get (order_rows (w.common - 0) less place readers) (w.level - 0))
    (drop_none (reader_place (read_of w)))
    ∙ ap (λ m. slice_get (order_rows m less place (reader_place (read_of w))) (w.level - 0)) (sym m)
    ∙ ap (λ q. slice_get (order_rows (common_of (write_of w) (read_of w)) less place (reader_place (read_of w))) q)
    (sym q) ∙ is in
    let h : AreEdges place ((d ++ c) ++ level) e3 =
    order.added place (d ++ c) level deep rows (cells.added place d deep (domain.added place [] deep tt)) in
    subst (λ rows. AreEdges place rows e3) (append_assoc d c level) h

pub are_graph : (w : Writes) (f : IsKnown w.vars (read_of w) (write_of w) w.level) (e1 e2 e3 : List Edge)
    → AddsEdges w (λ place. domain_rows w.rows.now place) [] e1
    → length e1 ≡ 0 + length w.rows.now
    → AddsEdges w (λ place. cell_rows w.write_forms.now w.read_forms.now place) e1 e2
    → length e2 ≤ length e1 + 2 * length w.write_forms.now → AddsOrder w 0 e2 e3 → length e3
    + 2 * 0 ≤ length e2 + 12 → IsGraph w.vars (depth_of_write w) e3
are_graph w f e1 e2 e3 domain n1 cells n2 order n3 = record {
  each = order.each (cells.each (domain.each (All-nil _)));
  few = omega (arith, n1, n2, n3, f.few_rows, f.few_subscripts);
}
