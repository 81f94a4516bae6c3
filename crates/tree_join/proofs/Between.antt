-- What a candidate proves of its own point, told of the best's.
--
-- A candidate proves that no write of its own stands after its point z. Where z stands before the best's point y, a
-- write j after y stands after z too, at the lesser of both levels: so its proof at that level, with each order row of
-- z before j replaced by one of y before j and by what shows that z stands before y, refutes j after y.
use Rattle.std.proofs.Common.{◌≡◌, ◌+◌, ◌*◌, ◌^◌, ◌≤◌, ◌<◌, ℕ, zero, suc, ℤ, pos, List, [], ◌∷◌, ◌++◌, length, map}
use Rattle.std.proofs.Common.{Bool, true, false, cond, refl, sym, ap, ◌∙◌, subst, arith}
use Rattle.std.specs.Prelude.{Option, Some, None, All, min, nat_lt, slice_get, unsigned_abs}
use Rattle.std.specs.Int.{w128}
use Rattle.std.specs.List.{range_with_len}
use Rattle.std.specs.Option.{option_map, option_map_or}
use Rattle.std.proofs.lemmas.Int.{fits_signed_mul, ints}
use Rattle.std.proofs.lemmas.List.{length-append, map-append, get_or_past}
use Rattle.std.proofs.lemmas.List.Elements.{All-head, All-tail, All-weaker}
use Rattle.std.proofs.lemmas.Option.{same_Some, slice_get-map, slice_get_within}
use Rattle.affine_core.specs.declared.form.Form.{Form}
use Rattle.affine_core.specs.Affine.{widened_form}
use Rattle.int_polyhedra.specs.declared.system.Proof.TheVariants.{Sum}
use Rattle.int_polyhedra.specs.declared.system.System.{System}
use Rattle.int_polyhedra.specs.declared.system.Term.{Term}
use Rattle.tree_order.specs.Candidates.{levels_before, IsCandidate}
use Rattle.tree_graphs.specs.Contexts.{IsMadeAs}
use Rattle.tree_order.specs.Contexts.{IsPathContext}
use Rattle.tree_join.specs.Leaves.{order_sums}
use Rattle.tree_graphs.specs.Joint.{orders_behind}
use Rattle.tree_order.specs.Refutations.{IsPointIn}
use Rattle.tree_order.specs.Orders.{difference_parts, strict_parts, AreEqual, DecidesAt, IsOrder}
use Rattle.tree_order.specs.Positions.{own_sums, IsAt, IsNode, IsOwnProof, IsPointAt}
use Rattle.tree_order.specs.declared.candidates.Candidate.{Candidate}
use Rattle.tree_order.specs.declared.candidates.Read.{Read}
use Rattle.tree_order.specs.declared.order.Equality.{Equality}
use Rattle.tree_order.specs.declared.order.Order.{Order}
use Rattle.tree_order.specs.declared.seen.Position.{Position}
use Rattle.tree_order.proofs.Absent.{orders_are_made}
use Rattle.tree_order.proofs.PointSystems.{carried_write, context_over, joined_rows, light_own, near_forms}
use Rattle.tree_order.proofs.PointSystems.{near_variables, node_over, orders_made, own_at, own_row}
use Rattle.tree_order.proofs.PointSystems.{system, AreLightSums, AreMadeRows, IsNodeOver}
use Rattle.tree_graphs.proofs.Nodes.{checked_point, simple_point, IsCheckedPoint, IsSimplePoint}
use Rattle.tree_join.proofs.OrderChains.{orders_stood, AreAlike, AreOwn, AreStood, IsLess}
use Rattle.tree_graphs.specs.Asked.{read_of, write_of}
use Rattle.tree_graphs.specs.Edges.{AreLevelRows}
use Rattle.tree_graphs.specs.Facts.{form_parts}
use Rattle.tree_graphs.specs.Level.{common_of}
use Rattle.tree_graphs.specs.Paths.{term_of}
use Rattle.tree_graphs.specs.declared.writes.Writes.{Writes}
use Rattle.tree_graphs.proofs.OrderEdges.{length_variables}
use Rattle.tree_graphs.proofs.ZeroSystems.{IsPlaced}
use Rattle.plain_data.proofs.Options.{option_map-some}
use Rattle.plain_data.proofs.Lists.{slice_get-append_right, All-slice_get}
use Rattle.tree_sums.specs.Carried.{carried_terms, sum_in_place, CarryFits, ProductsFit}
use Rattle.tree_sums.specs.Made.{parts_of}
use Rattle.tree_sums.specs.Parts.{Part, the_constant, the_coefficient, part_of, row_part, weight, IsWithin}
use Rattle.tree_sums.specs.Shown.{RowParts, Shows}
use Rattle.tree_sums.proofs.SumAlgebra.{combines}
use Rattle.tree_sums.proofs.Within.{IsWithin-weaker}
use Rattle.tree_sums.proofs.MoreVariables.{shown_widens}
use Rattle.sanlp.proofs.Lists.{range_with_len-append}
use Rattle.sanlp.proofs.Precedence.{common_first, common_loops-comm, common_loops-same}
use Rattle.source_tree.specs.Checked.{IsRefuted}
use Rattle.source_tree.specs.Places.{order_rows}
use Rattle.source_tree.specs.Rows.{RowExpr, Take, equal_rows, minus, one_less}
use Rattle.source_tree.specs.Systems.{Context, Occurrence, with_rows, with_write_at, writer_place}

-- Multiples of light sums

products_fit : (by : ℤ) (us : List Term) → unsigned_abs by ≤ 2 ^ 48 → weight us ≤ 2 ^ 26 → ProductsFit by us
products_fit by [] h k = tt
products_fit by (t ∷ us) h k = (
  fits_signed_mul w128 t.times by (2 ^ 26) (2 ^ 48) (omega (arith, k)) h (omega arith),
  products_fit by us h (omega (arith, k)),
)

light_each : (sums : List (List Term)) (k : ℕ) → AreLightSums (2 ^ 26) sums → weight (sum_in_place sums k) ≤ 2 ^ 26
light_each [] k h = omega arith
light_each (ts ∷ sums) zero h = h.0
light_each (ts ∷ sums) (suc k) h = light_each sums k h.1

pub carry_fits : (sums : List (List Term)) (ts : List Term) → weight ts ≤ 2 ^ 48 → AreLightSums (2 ^ 26) sums
    → CarryFits sums ts
carry_fits sums [] h k = tt
carry_fits sums (t ∷ ts) h k = (
  products_fit t.times (sum_in_place sums t.row) (omega (arith, h))
      (light_each sums t.row k),
  carry_fits sums ts (omega (arith, h)) k,
)

-- Points

pub point_is : (r : Read) (context : System) (at : Position) (place : List Form) → IsAt r context at
    → IsPointAt at place → IsPointIn context (write_of at.candidate.now.writes) place
point_is r context at place h p =
    let w : Writes = at.candidate.now.writes in
    let u : Occurrence = write_of w in
    let k : IsCheckedPoint (read_of w) u w.level h.node.own u.number place p.0
    = checked_point (read_of w) u w.level h.node.own at.node.now u.number place p.0 h.node.checked p.1 in
    let s : IsSimplePoint place p.0 = simple_point h.node.tests at.node.now u.number place p.0 h.node.simple p.1 in
    record {
      few_loops = w.problem.few_loops;
      deep = k.deep;
      forms = record {
        over = subst (λ v. All (λ form. length form.coefs ≡ v) place) h.node.vars k.over;
        within = All-weaker (IsWithin (2 ^ 40)) (IsWithin (2 ^ 48))
            (λ f l. IsWithin-weaker (2 ^ 40) (2 ^ 48) f (omega arith) l) place s.within;
      };
    }

-- a level of a common loop exists
record HasRows (c l : ℕ) (less : Bool) (a b : List Form) : Type 0 where
  pub rows : List RowExpr
  pub is : slice_get (order_rows c less a b) l ≡ Some rows

order_exists : (c l : ℕ) (less : Bool) (a b : List Form) → l < c → c ≤ length a → c ≤ length b → HasRows c l less a b
order_exists zero l less a b lt h k = absurd (omega (arith, lt))
order_exists (suc c) l less [] b lt h k = absurd (omega (arith, h))
order_exists (suc c) l less (v ∷ a) [] lt h k = absurd (omega (arith, k))
order_exists (suc c) zero less (v ∷ a) (w ∷ b) lt h k = record { rows = _; is = refl }
order_exists (suc c) (suc l) less (v ∷ a) (w ∷ b) lt h k =
    let inner : HasRows c l less a b =
    order_exists c l less a b (omega (arith, lt)) (omega (arith, h)) (omega (arith, k)) in
    record { rows = _; is = slice_get-map _ (order_rows c less a b) l ∙ ap (option_map _) inner.is }

-- what stands for rows by their numbers
stood_at : (vars : ℕ) (rows : List Form) (es : List RowExpr) (sums : List (List Term)) (j : ℕ) (e : RowExpr)
    → AreStood vars rows es sums → slice_get es j ≡ Some e → Shows vars rows (sum_in_place sums j) (parts_of e)
stood_at vars rows [] sums j e h is = absurd (let f : None ≡ Some e = is in cc)
stood_at vars rows (d ∷ es) [] j e h is = absurd h
stood_at vars rows (d ∷ es) (ts ∷ sums) zero e h is =
    subst (λ e. Shows vars rows ts (parts_of e)) (same_Some d e is) h.0
stood_at vars rows (d ∷ es) (ts ∷ sums) (suc j) e h is = stood_at vars rows es sums j e h.1 is

own_all : (vars : ℕ) (rows : List Form) (es : List RowExpr) (start : ℕ)
    → ((i : ℕ) (e : RowExpr) → slice_get es i ≡ Some e → Shows vars rows (term_of (start + i) ∷ []) (parts_of e))
    → AreOwn vars rows start es
own_all vars rows [] start h = tt
own_all vars rows (e ∷ es) start h =
    let first : start + 0 ≡ start = omega arith in (
      subst (λ n. Shows vars rows (term_of n ∷ []) (parts_of e)) first (h 0 e refl),
      own_all vars rows es (start + 1)
          (λ i d is. (let n : start + suc i ≡ start + 1 + i = omega arith
          in subst (λ n. Shows vars rows (term_of n ∷ []) (parts_of d)) n (h (suc i) d is))),
    )

-- light sums for order rows
pub light_orders : (context : System) (most : ℕ) (z y : List Form) (equal : List Equality) (strict : Option (List Term))
    (q start : ℕ) → most < 2 ^ 26 → AreEqual context most z y equal
    → ((ts : List Term) → strict ≡ Some ts → weight ts ≤ most) → AreLightSums (2 ^ 26) (order_sums equal strict q start)
light_orders context most z y [] None q start le h k = tt
light_orders context most z y [] (Some ts) zero start le h k = (omega (arith, le, k ts refl), tt)
light_orders context most z y [] (Some ts) (suc q) start le h k = (omega (arith, le, k ts refl), tt)
light_orders context most [] y (e ∷ equal) strict q start le h k = absurd h
light_orders context most (a ∷ z) [] (e ∷ equal) strict q start le h k = absurd h
light_orders context most (a ∷ z) (b ∷ y) (e ∷ equal) strict zero start le h k = (omega (arith, le, h.0.1.light), tt)
light_orders context most (a ∷ z) (b ∷ y) (e ∷ equal) strict (suc q) start le h k = (
  omega (arith, le, h.0.0.light),
  (omega (arith, le, h.0.1.light), light_orders context most z y equal strict q (start + 2) le h.1 k),
)

pub own_append : (first m n : ℕ) → own_sums first (m + n) ≡ own_sums first m ++ own_sums (first + m) n
own_append first m n = ap (map (λ row. term_of row ∷ [])) (range_with_len-append first m n)
    ∙ map-append (λ row. term_of row ∷ []) (range_with_len first m) (range_with_len (first + m) n)

get_beyond : {X : Type 0} (xs : List X) (k : ℕ) → slice_get xs k ≡ None → length xs ≤ k
get_beyond [] k e = omega arith
get_beyond (x ∷ xs) zero e = absurd (let f : Some x ≡ None = e in cc)
get_beyond (x ∷ xs) (suc k) e = omega (arith, get_beyond xs k e)

few_orders : (c q : ℕ) (less : Bool) (a b : List Form) (rows : List RowExpr) → slice_get (order_rows c less a b) q
    ≡ Some rows → length rows ≤ q + q + 1
few_orders zero zero true a b rows e = omega (arith, ap length (same_Some [] rows e))
few_orders zero (suc q) true a b rows e = absurd (let f : None ≡ Some rows = e in cc)
few_orders zero q false a b rows e = absurd (let f : None ≡ Some rows = e in cc)
few_orders (suc c) q less [] b rows e = absurd (let f : None ≡ Some rows = e in cc)
few_orders (suc c) q less (v ∷ a) [] rows e = absurd (let f : None ≡ Some rows = e in cc)
few_orders (suc c) zero less (v ∷ a) (w ∷ b) rows e =
    omega (arith, ap length (same_Some (one_less (minus (Take w) (Take v)) ∷ []) rows e))
few_orders (suc c) (suc q) less (v ∷ a) (w ∷ b) rows e =
    let pair : List RowExpr = equal_rows (Take v) (Take w) in
    let i = option_map-some (λ inner. pair ++ inner) (slice_get (order_rows c less a b) q) rows (sym (slice_get-map (λ inner. pair ++ inner) (order_rows c less a b) q) ∙ e) in
    omega (arith, ap length i.2, length-append pair i.0, few_orders c q less a b i.0 i.1)

pub few_levels : (r : Read) (cand : Candidate) → IsCandidate r cand → length (write_of cand.writes).statement.loops ≤ 6
few_levels r cand h = cand.writes.problem.few_loops

pub same_text : (u w : Occurrence) (q : ℕ) → u.number ≤ w.number → q < levels_before w u → q < common_of w u
same_text u w q le lt = go (nat_lt w.number u.number) refl lt where
  go : (b : Bool) → nat_lt w.number u.number ≡ b → q < common_of w u + cond b 1 0 → q < common_of w u
  go true e h = absurd (let k : w.number < u.number = grind arith in omega (arith, k, le))
  go false e h = omega (arith, h)

-- The joined system

module _ (r : Read) (context : System) (path : IsPathContext r.context.now.vars 0 context) (at : Position)
    (h : IsAt r context at) (c : Context) (made : IsMadeAs context c) where
  abbrev cand : Candidate
  cand = at.candidate.now

  abbrev read : Occurrence
  read = read_of cand.writes

  abbrev u : Occurrence
  u = write_of cand.writes

  abbrev more : ℕ
  more = c.vars + length u.statement.loops

  abbrev point : List Form
  point = writer_place c u

  abbrev sys : IsPlaced read u cand.writes.level c context.rows cand.edges
  sys = system r context 0 path cand h.candidate c made.vars made.rows

  abbrev over : IsNodeOver context cand at.node.now at.rows c.vars
  over = node_over context cand at.node.now at.rows c.vars h.node (sym made.vars)

  -- the node over these variables
  abbrev node : IsNode context cand at.node.now at.rows
  node = record {
    own = record { vars = c.vars; rows = over.rows };
    made = over.made;
    vars = made.vars;
    are_made = over.are_made;
    checked = over.checked;
    shown = over.shown;
    tests = h.node.tests;
    simple = h.node.simple;
    few = h.node.few;
  }

  module _ (order : List Form) where
    abbrev all : List Form
    all = joined_rows r context 0 path cand h.candidate c made.vars made.rows order

    -- what the context shows
    wide_shows : (ts : List Term) (row : RowParts) → ((i : ℕ) → context.vars ≤ i → row (the_coefficient i) ≡ pos 0)
        → Shows context.vars context.rows ts row → Shows more all ts row
    wide_shows ts row narrow shows =
        (combines more (map (widened_form more) context.rows)).behind (sys.forms ++ order) ts row
        (shown_widens c.vars more context.rows ts row (context_over r context 0 path cand h.candidate c made.vars
        made.rows) (λ i le. narrow i (omega (arith, le, made.vars)))
        (subst (λ v. Shows v context.rows ts row) (sym made.vars) shows))

  -- an order row is shown by itself
  order_shown : (order : List RowExpr) (rows : AreMadeRows more order) (i : ℕ) (e : RowExpr) → slice_get order i
      ≡ Some e
      → Shows more (all rows.forms) (term_of (length context.rows + length cand.edges + i) ∷ []) (parts_of e)
  order_shown order rows i e is =
      let inside : i < length order = slice_get_within order i e is in
      let j : ℕ = length sys.forms + i in
      let same : (part : Part) → row_part (sys.forms ++ rows.forms) part j ≡ parts_of e part
      = λ part. ap (λ o. option_map_or (part_of part) o (pos 0)) (slice_get-append_right sys.forms rows.forms i) ∙ rows.parts i part
      ∙ ap (λ o. option_map_or (λ e. parts_of e part) o (pos 0)) is in
      let number : length context.rows + j ≡ length context.rows + length cand.edges + i = omega (arith, sys.are.count)
      in
      subst (λ n. Shows more (all rows.forms) (term_of n ∷ []) (parts_of e)) number
      ((combines more (all rows.forms)).weaker (term_of (length context.rows + j) ∷ [])
      (λ part. row_part (sys.forms ++ rows.forms) part j) (parts_of e)
      (own_row r context 0 path cand h.candidate c made.vars made.rows rows.forms j
      (omega (arith, inside, rows.count, length-append sys.forms rows.forms)))
      (omega (arith, ints, same the_constant)) (λ i l. same (the_coefficient i)))

  own_shown : (order : List RowExpr) (rows : AreMadeRows more order) (j : ℕ) → j < length rows.forms → j < 13
      → Shows more (all rows.forms) (sum_in_place (own_sums (length context.rows + length cand.edges) 13) j)
      (λ part. row_part rows.forms part j)
  own_shown order rows j inside lt =
      let k : ℕ = length sys.forms + j in
      let same : (part : Part) → row_part (sys.forms ++ rows.forms) part k ≡ row_part rows.forms part j
      = λ part. ap (λ o. option_map_or (part_of part) o (pos 0)) (slice_get-append_right sys.forms rows.forms j) in
      let number : length context.rows + k ≡ length context.rows + length cand.edges + j = omega (arith, sys.are.count)
      in
      subst (λ ts. Shows more (all rows.forms) ts (λ part. row_part rows.forms part j))
      (sym (own_at (length context.rows + length cand.edges) 13 j lt))
      (subst (λ n. Shows more (all rows.forms) (term_of n ∷ []) (λ part. row_part rows.forms part j)) number
      ((combines more (all rows.forms)).weaker (term_of (length context.rows + k) ∷ [])
      (λ part. row_part (sys.forms ++ rows.forms) part k) (λ part. row_part rows.forms part j)
      (own_row r context 0 path cand h.candidate c made.vars made.rows rows.forms k
      (omega (arith, inside, length-append sys.forms rows.forms)))
      (omega (arith, ints, same the_constant)) (λ i l. same (the_coefficient i))))

  -- what shows each row of some order rows shows the rows that are made of them
  each_shown : (order : List Form) (es : List RowExpr) (rows : AreMadeRows more es) (sums : List (List Term))
      → AreStood more (all order) es sums → (j : ℕ) → j < length rows.forms
      → Shows more (all order) (sum_in_place sums j) (λ part. row_part rows.forms part j)
  each_shown order es rows sums stood j lt = go (slice_get es j) refl where
    go : (o : Option RowExpr) → slice_get es j ≡ o
        → Shows more (all order) (sum_in_place sums j) (λ part. row_part rows.forms part j)
    go None is = absurd (omega (arith, lt, rows.count, get_beyond es j is))
    go (Some e) is =
        let same : (part : Part) → parts_of e part ≡ row_part rows.forms part j =
        λ part. sym (rows.parts j part ∙ ap (λ o. option_map_or (λ e. parts_of e part) o (pos 0)) is) in
        (combines more (all order)).weaker (sum_in_place sums j) (parts_of e) (λ part. row_part rows.forms part j)
        (stood_at more (all order) es sums j e stood is)
        (omega (arith, ints, same the_constant)) (λ i l. same (the_coefficient i))

  -- Equal loops
  module _ (order : List Form) (most : ℕ) where
    gap_narrow : (a b : Form) (i : ℕ) → length a.coefs ≡ context.vars → length b.coefs ≡ context.vars → context.vars ≤ i
        → difference_parts a b (the_coefficient i) ≡ pos 0
    gap_narrow a b i e f le =
        let first : form_parts a (the_coefficient i) ≡ pos 0 = get_or_past a.coefs i (pos 0) (omega (arith, e, le)) in
        let second : form_parts b (the_coefficient i) ≡ pos 0 = get_or_past b.coefs i (pos 0) (omega (arith, f, le)) in
        omega (arith, ints, first, second)

    strict_narrow : (a b : Form) (i : ℕ) → length a.coefs ≡ context.vars → length b.coefs ≡ context.vars
        → context.vars ≤ i → strict_parts a b (the_coefficient i) ≡ pos 0
    strict_narrow a b i e f le = omega (arith, ints, gap_narrow a b i e f le)

    alike : (z y : List Form) (equal : List Equality) → All (λ form. length form.coefs ≡ context.vars) z
        → All (λ form. length form.coefs ≡ context.vars) y → AreEqual context most z y equal
        → AreAlike more (all order) z y equal
    alike z y [] f g k = tt
    alike [] y (e ∷ equal) f g k = absurd k
    alike (a ∷ z) [] (e ∷ equal) f g k = absurd k
    alike (a ∷ z) (b ∷ y) (e ∷ equal) f g k =
        let a_over : length a.coefs ≡ context.vars = All-head (λ (form : Form). length form.coefs ≡ context.vars) a z f
        in
        let b_over : length b.coefs ≡ context.vars = All-head (λ (form : Form). length form.coefs ≡ context.vars) b y g
        in (
          (
            wide_shows order e.above (difference_parts a b) (λ i le. gap_narrow a b i a_over b_over le) k.0.0.shows,
            wide_shows order e.below (difference_parts b a) (λ i le. gap_narrow b a i b_over a_over le) k.0.1.shows,
          ),
          alike z y equal (All-tail (λ (form : Form). length form.coefs ≡ context.vars) a z f)
              (All-tail (λ (form : Form). length form.coefs ≡ context.vars) b y g) k.1,
        )

    less_at : (w : Occurrence) (z y : List Form) (l : ℕ) (strict : Option (List Term)) (q : ℕ)
        → All (λ form. length form.coefs ≡ context.vars) z → All (λ form. length form.coefs ≡ context.vars) y
        → DecidesAt context most u w z y l strict → q < levels_before w u → l ≤ q → IsLess more (all order) z y l strict
    less_at w z y l (Some ts) q f g d lt le =
        let a_over : length d.1.a.coefs ≡ context.vars =
        All-slice_get (λ (form : Form). length form.coefs ≡ context.vars) z l d.1.a f d.1.first in
        let b_over : length d.1.b.coefs ≡ context.vars =
        All-slice_get (λ (form : Form). length form.coefs ≡ context.vars) y l d.1.b g d.1.second in
        record {
          a = d.1.a;
          b = d.1.b;
          ts = ts;
          first = d.1.first;
          second = d.1.second;
          is = refl;
          shows = wide_shows order ts (strict_parts d.1.b d.1.a)
              (λ i le. strict_narrow d.1.b d.1.a i b_over a_over le) d.1.fact.shows;
        }
    less_at w z y l None q f g d lt le =
        absurd (omega (arith, le, d.0, same_text u w q d.1 lt, common_loops-comm u.statement.loops w.statement.loops))

  pub few_decided : (most : ℕ) (w : Occurrence) (z y : List Form) (l : ℕ) (strict : Option (List Term)) (q : ℕ)
      → DecidesAt context most u w z y l strict → q < levels_before w u → min q l < common_of u w
  few_decided most w z y l (Some ts) q d lt = omega (arith, d.0)
  few_decided most w z y l None q d lt =
      omega (arith, d.0, same_text u w q d.1 lt, common_loops-comm u.statement.loops w.statement.loops)

  -- the proof at the lesser level, carried behind the best
  module _ (w : Occurrence) (z y : List Form) (order : Order) (q : ℕ) (z_is : IsPointIn context u z)
      (y_is : IsPointIn context w y) (stands : IsOrder context (65536 * 896) u w z y order)
      (lt : q < levels_before w u) where
    abbrev level_of : ℕ
    level_of = min q (length order.equal)

    few : level_of < common_of u w
    few = few_decided (65536 * 896) w z y (length order.equal) order.strict q stands.decides lt

    common_own : common_of u u ≡ length u.statement.loops
    common_own = common_loops-same u.statement.loops

    strict_light : (ts : List Term) → order.strict ≡ Some ts → weight ts ≤ 65536 * 896
    strict_light ts e = go order.strict e stands.decides where
      go : (o : Option (List Term)) → o ≡ Some ts → DecidesAt context (65536 * 896) u w z y (length order.equal) o
          → weight ts ≤ 65536 * 896
      go None e d = absurd (let f : None ≡ Some ts = e in cc)
      go (Some us) e d = omega (arith, ap weight (same_Some us ts e), d.1.fact.light)

    pub between_carried : (level rows : List RowExpr) (ts : List Term) (start : ℕ) → start ≡ length context.rows
        + length cand.edges → AreLevelRows read u cand.writes.level point level
        → slice_get (orders_behind w y c u) q ≡ Some rows
        → IsOwnProof context at z level_of (Sum ts) → weight ts ≤ 2 ^ 48
        → IsRefuted (with_rows (with_write_at read c u) (level ++ rows))
        (Sum (carried_terms (sum_in_place (at.rows ++ (own_sums (length context.rows) (length cand.edges)
        ++ order_sums order.equal order.strict q start))) ts))
    between_carried level rows ts start start_is level_is rows_is own light =
        let e : ℕ = length u.statement.loops in
        let long : length point ≡ e = length_variables c.vars e in
        let exists : HasRows (common_of u u) level_of (nat_lt u.number u.number) z point
        = order_exists (common_of u u) level_of (nat_lt u.number u.number) z point
        (omega (arith, few, common_own, common_first u.statement.loops w.statement.loops))
        (omega (arith, common_own, z_is.deep))
        (omega (arith, common_own, long)) in
        let near_point = near_variables more c.vars e (omega arith) in
        let zs : AreMadeRows more exists.rows
        = orders_made more (common_of u u) level_of (nat_lt u.number u.number) z point exists.rows
        (near_forms context.vars more z (omega (arith, made.vars)) z_is.forms.over z_is.forms.within) near_point
        exists.is in
        let ys : AreMadeRows more rows = orders_are_made context w u y q c rows made y_is rows_is in
        let stood : AreStood more (all ys.forms) exists.rows (order_sums order.equal order.strict q start)
        = orders_stood more (all ys.forms) (common_of u u) (common_of w u) (nat_lt u.number u.number)
        (nat_lt w.number u.number) z y point order.equal order.strict q start exists.rows rows
        (omega (arith, few, common_own, common_first u.statement.loops w.statement.loops))
        (omega (arith, few, common_loops-comm u.statement.loops w.statement.loops)) exists.is rows_is
        (alike ys.forms (65536 * 896) z y order.equal z_is.forms.over y_is.forms.over stands.equal)
        (λ le. less_at ys.forms (65536 * 896) w z y
        (length order.equal) order.strict q z_is.forms.over y_is.forms.over stands.decides lt le)
        (own_all more (all ys.forms) rows start
        (λ i d is. subst (λ n. Shows more (all ys.forms) (term_of n ∷ []) (parts_of d))
        (let n : length context.rows + length cand.edges + i ≡ start + i = omega (arith, start_is) in n)
        (order_shown rows ys i d is))) in
        carried_write r context 0 path cand h.candidate c made.vars made.rows at.node.now at.rows over exists.rows rows
        zs ys (order_sums order.equal order.strict q start)
        (light_orders context (65536 * 896) z y order.equal order.strict q start (omega arith) stands.equal
        strict_light) (each_shown ys.forms exists.rows zs (order_sums order.equal order.strict q start) stood)
        level ts level_is light (own.refuted node level exists.rows level_is exists.is)

  -- the candidate's own order rows, each shown by itself
  pub same_carried : (y : List Form) (q : ℕ) (level rows : List RowExpr) (ts : List Term) → IsPointIn context u y
      → q < length u.statement.loops → AreLevelRows read u cand.writes.level point level
      → slice_get (orders_behind u y c u) q ≡ Some rows
      → IsOwnProof context at y q (Sum ts) → weight ts ≤ 2 ^ 48
      → IsRefuted (with_rows (with_write_at read c u) (level ++ rows))
      (Sum (carried_terms (sum_in_place (at.rows ++ (own_sums (length context.rows) (length cand.edges)
      ++ own_sums (length context.rows + length cand.edges) 13))) ts))
  same_carried y q level rows ts y_is lt level_is rows_is own light =
      let ys : AreMadeRows more rows = orders_are_made context u u y q c rows made y_is rows_is in
      let few : length rows ≤ 13 = omega (
        arith,
        few_orders (common_of u u) q
            (nat_lt u.number u.number) y point rows rows_is,
        few_levels r cand h.candidate,
        lt,
      ) in
      carried_write r context 0 path cand h.candidate c made.vars made.rows at.node.now at.rows over rows rows ys ys
      (own_sums (length context.rows + length cand.edges) 13)
      (light_own (2 ^ 26) (length context.rows + length cand.edges) 13 (omega arith))
      (λ j inside. own_shown rows ys j inside (omega (arith, inside, ys.count, few)))
      level ts level_is light (own.refuted node level rows level_is rows_is)
