-- The system of a write at a point, in the joined context.
--
-- Its rows are those of the context, widened, those on the writer's point, and order rows behind. All can be made,
-- since their numbers are small: a row on the point is an edge between nodes, of which each is one variable or none,
-- and an order row is the difference of two small forms. So what a candidate's own proof shows in its own system is
-- carried to this one.
use Rattle.std.proofs.Common.{◌≡◌, ◌+◌, ◌^◌, ◌≤◌, ◌<◌, ◌==◌, ℕ, zero, suc, ℤ, pos, negsuc, ◌+ℤ◌, ◌-ℤ◌}
use Rattle.std.proofs.Common.{inl, inr, List, [], ◌∷◌, ◌++◌, length, map, Bool, true, false, slice_index_or, refl, sym}
use Rattle.std.proofs.Common.{ap, ◌∙◌, subst, arith}
use Rattle.std.specs.Prelude.{Option, Some, None, All, slice_get, unsigned_abs}
use Rattle.std.specs.List.{AllZip}
use Rattle.std.specs.Option.{option_and_then, option_map_or}
use Rattle.std.proofs.lemmas.Bool.{eq-eqb, and_from}
use Rattle.std.proofs.lemmas.Int.{ints}
use Rattle.std.proofs.lemmas.List.{append_assoc, length-append, length-map, get_or_past}
use Rattle.std.proofs.lemmas.List.Elements.{All-append, All-nil, All-cons, All-head, All-tail, All-weaker}
use Rattle.std.proofs.lemmas.List.FromFn.{length-map-range_with_len}
use Rattle.std.proofs.lemmas.Option.{same_Some, slice_get-get_or, slice_get-map, slice_get_within}
use Rattle.affine_core.specs.declared.form.Form.{Form}
use Rattle.affine_core.specs.Affine.{variable_form, widened_form}
use Rattle.int_polyhedra.specs.declared.system.Proof.TheVariants.{Sum}
use Rattle.int_polyhedra.specs.declared.system.System.{System}
use Rattle.int_polyhedra.specs.declared.system.Term.{Term}
use Rattle.int_polyhedra.specs.Systems.{AreOver, all_over}
use Rattle.int_polyhedra.proofs.Variables.{over_at}
use Rattle.tree_order.specs.Candidates.{IsCandidate}
use Rattle.tree_order.specs.Contexts.{IsPathContext}
use Rattle.tree_order.specs.Positions.{own_sums, IsNode}
use Rattle.tree_order.specs.declared.candidates.Candidate.{Candidate}
use Rattle.tree_order.specs.declared.candidates.Read.{Read}
use Rattle.tree_order.proofs.CarriedProofs.{carried_refuted, AreSystems, StandsIn, split_number}
use Rattle.tree_graphs.specs.Asked.{read_of, write_of}
use Rattle.tree_graphs.specs.Problems.{IsProblem}
use Rattle.tree_graphs.specs.Edges.{edge_parts, write_rows, AreLevelRows, IsEdge}
use Rattle.tree_graphs.specs.Facts.{form_parts, IsFact}
use Rattle.tree_graphs.specs.Paths.{edge_part, term_of}
use Rattle.tree_graphs.specs.Simple.{IsSimple}
use Rattle.tree_graphs.specs.Joint.{IsCheckedFor}
use Rattle.tree_graphs.specs.declared.edges.Edge.{Edge}
use Rattle.tree_graphs.proofs.OrderEdges.{variable_over, variable_within}
use Rattle.tree_graphs.proofs.ZeroSystems.{placed, IsPlaced}
use Rattle.tree_graphs.proofs.EdgeSums.{over_append, AreRowsOf}
use Rattle.tree_graphs.proofs.RowBounds.{forms_append}
use Rattle.plain_data.proofs.Options.{option_map-some}
use Rattle.plain_data.proofs.Lists.{slice_get-append_right, All-slice_get}
use Rattle.tree_sums.specs.Carried.{carried_terms, sum_in_place}
use Rattle.tree_sums.specs.Made.{parts_of, reach, TakesWithin}
use Rattle.tree_sums.proofs.MadeLaws.{IsMade}
use Rattle.tree_sums.specs.Parts.{Part, the_constant, the_coefficient, part_of, row_part, weight, IsWithin}
use Rattle.tree_sums.specs.Shown.{Shows}
use Rattle.tree_sums.proofs.SumAlgebra.{combines}
use Rattle.tree_sums.proofs.SmallRows.{small_is_made}
use Rattle.tree_sums.proofs.RowParts.{AreOver-row_forms}
use Rattle.tree_sums.proofs.Within.{IsWithin-weaker, IsWithin-from_parts, part_of-le}
use Rattle.sanlp.proofs.Lists.{slice_get-map-range_with_len}
use Rattle.source_tree.specs.Checked.{IsRefuted}
use Rattle.source_tree.specs.Places.{cell_rows, domain_rows, order_rows, variables}
use Rattle.source_tree.specs.Rows.{RowExpr, Take, equal_rows, minus, number, one_less, row_forms}
use Rattle.source_tree.specs.Systems.{Context, Occurrence, with_rows, with_write_at, writer_place}
use Rattle.source_tree.specs.declared.tree.Tree.{Tree}

-- Numbers of forms

-- Rows on the writer's point

variable_bound : (k d i : ℕ) (part : Part) → unsigned_abs (row_part (variables k d) part i) ≤ 1
variable_bound k zero i part = omega arith
variable_bound k (suc d) zero part = part_of-le 1 (variable_form (k + 1) k) part (variable_within (k + 1) k)
variable_bound k (suc d) (suc i) part = variable_bound (k + 1) d i part

three_bound : (m : ℕ) (a b c : ℤ) → unsigned_abs a ≤ m → unsigned_abs b ≤ 1 → unsigned_abs c ≤ 1
    → unsigned_abs ((a +ℤ b) -ℤ c) ≤ m + 2
three_bound m a b c h k l = omega (arith, ints, h, k, l)

edge_bound : (vars depth k d : ℕ) (g : Edge) (part : Part) → IsEdge vars depth g
    → unsigned_abs (edge_parts (variables k d) g part) ≤ 2 ^ 34
edge_bound vars depth k d g part h =
    let sum : unsigned_abs (edge_parts (variables k d) g part) ≤ 2 ^ 33 + 2
    = three_bound (2 ^ 33) (part_of part g.weight) (row_part (variables k d) part g.from)
    (row_part (variables k d) part g.to) (part_of-le (2 ^ 33) g.weight part h.within)
    (variable_bound k d g.from part) (variable_bound k d g.to part) in
    omega (arith, sum)

edge_part_bound : (vars depth k d : ℕ) (edges : List Edge) (part : Part) (i : ℕ) → All (IsEdge vars depth) edges
    → unsigned_abs (edge_part (variables k d) edges part i) ≤ 2 ^ 34
edge_part_bound vars depth k d edges part i each = go (slice_get edges i) refl where
  go : (o : Option Edge) → slice_get edges i ≡ o
      → unsigned_abs (option_map_or (λ g. edge_parts (variables k d) g part) o (pos 0)) ≤ 2 ^ 34
  go None e = omega arith
  go (Some g) e = edge_bound vars depth k d g part (All-slice_get (IsEdge vars depth) edges i g each e)

row_within : (vars depth k d : ℕ) (edges : List Edge) (forms : List Form) (i : ℕ) (f : Form)
    → AreRowsOf (variables k d) edges forms → All (IsEdge vars depth) edges → slice_get forms i ≡ Some f
    → IsWithin (2 ^ 51) f
row_within vars depth k d edges forms i f are each is =
    IsWithin-weaker (2 ^ 34) (2 ^ 51) f (omega arith)
    (IsWithin-from_parts (2 ^ 34) f
    (λ part. (let same : part_of part f ≡ edge_part (variables k d) edges part i =
    sym (ap (λ o. option_map_or (part_of part) o (pos 0)) is) ∙ are.parts i part in
    subst (λ z. unsigned_abs z ≤ 2 ^ 34) (sym same) (edge_part_bound vars depth k d edges part i each))))

rows_within : (vars depth k d : ℕ) (edges : List Edge) (forms : List Form) → AreRowsOf (variables k d) edges forms
    → All (IsEdge vars depth) edges → All (IsWithin (2 ^ 51)) forms
rows_within vars depth k d edges forms are each = λ i f lt. row_within vars depth k d edges forms i
    (slice_index_or forms i f) are each (slice_get-get_or forms i f lt)

-- Order rows

abbrev IsNear : ℕ → Form → Type 0
IsNear vars f = (length f.coefs ≤ vars) × IsWithin (2 ^ 48) f

abbrev pub AreNear : ℕ → List Form → Type 0
AreNear vars [] = Unit {0}
AreNear vars (f ∷ forms) = IsNear vars f × AreNear vars forms

record IsNearRow (vars : ℕ) (e : RowExpr) : Type 0 where
  pub takes : TakesWithin vars (2 ^ 48) e
  pub reaches : reach (2 ^ 48) e ≤ 2 ^ 51

abbrev AreNearRows : ℕ → List RowExpr → Type 0
AreNearRows vars [] = Unit {0}
AreNearRows vars (e ∷ es) = IsNearRow vars e × AreNearRows vars es

near_append : (vars : ℕ) (xs ys : List RowExpr) → AreNearRows vars xs → AreNearRows vars ys
    → AreNearRows vars (xs ++ ys)
near_append vars [] ys h k = k
near_append vars (x ∷ xs) ys h k = (h.0, near_append vars xs ys h.1 k)

near_minus : (vars : ℕ) (a b : Form) → IsNear vars a → IsNear vars b → IsNearRow vars (minus (Take a) (Take b))
near_minus vars a b h k = record { takes = (h, k); reaches = omega arith }

near_number : (vars : ℕ) → TakesWithin vars (2 ^ 48) (number (negsuc 0))
near_number vars = (omega arith, record { constant = omega arith; coefs = All-nil _ })

near_less : (vars : ℕ) (a b : Form) → IsNear vars a → IsNear vars b
    → IsNearRow vars (one_less (minus (Take a) (Take b)))
near_less vars a b h k = record { takes = ((h, k), near_number vars); reaches = omega arith }

near_orders : (vars c q : ℕ) (less : Bool) (a b : List Form) (rows : List RowExpr) → AreNear vars a → AreNear vars b
    → slice_get (order_rows c less a b) q ≡ Some rows → AreNearRows vars rows
near_orders vars zero zero true a b rows h k e = subst (AreNearRows vars) (same_Some [] rows e) tt
near_orders vars zero (suc q) true a b rows h k e = absurd (let f : None ≡ Some rows = e in cc)
near_orders vars zero q false a b rows h k e = absurd (let f : None ≡ Some rows = e in cc)
near_orders vars (suc c) q less [] b rows h k e = absurd (let f : None ≡ Some rows = e in cc)
near_orders vars (suc c) q less (v ∷ a) [] rows h k e = absurd (let f : None ≡ Some rows = e in cc)
near_orders vars (suc c) zero less (v ∷ a) (w ∷ b) rows h k e =
    subst (AreNearRows vars) (same_Some (one_less (minus (Take w) (Take v)) ∷ []) rows e)
    (near_less vars w v k.0 h.0, tt)
near_orders vars (suc c) (suc q) less (v ∷ a) (w ∷ b) rows h k e =
    let pair : List RowExpr = equal_rows (Take v) (Take w) in
    let i = option_map-some (λ inner. pair ++ inner) (slice_get (order_rows c less a b) q) rows (sym (slice_get-map (λ inner. pair ++ inner) (order_rows c less a b) q) ∙ e) in
    subst (AreNearRows vars) i.2
    (near_append vars pair i.0 (near_minus vars v w h.0 k.0, (near_minus vars w v k.0 h.0, tt))
    (near_orders vars c q less a b i.0 h.1 k.1 i.1))

pub near_variables : (vars i d : ℕ) → i + d ≤ vars → AreNear vars (variables i d)
near_variables vars i zero le = tt
near_variables vars i (suc d) le = (
  (
    let long : length (variable_form (i + 1) i).coefs ≡ i + 1 = variable_over (i + 1) i (omega arith) in omega
        (arith, long, le),
    IsWithin-weaker 1 (2 ^ 48) (variable_form (i + 1) i) (omega arith) (variable_within (i + 1) i),
  ),
  near_variables vars (i + 1) d (omega (arith, le)),
)

pub near_forms : (vars more : ℕ) (forms : List Form) → vars ≤ more → All (λ form. length form.coefs ≡ vars) forms
    → All (IsWithin (2 ^ 48)) forms → AreNear more forms
near_forms vars more [] le over within = tt
near_forms vars more (f ∷ forms) le over within = (
  (
    omega (arith, le, All-head (λ form. length form.coefs ≡ vars) f forms over),
    All-head (IsWithin (2 ^ 48)) f forms within,
  ),
  near_forms vars more forms le (All-tail (λ form. length form.coefs ≡ vars) f forms over)
      (All-tail (IsWithin (2 ^ 48)) f forms within),
)

-- rows as they are made, with small numbers
pub record AreMadeRows (vars : ℕ) (rows : List RowExpr) : Type 0 where
  pub forms : List Form
  pub are : row_forms vars rows ≡ Some forms
  pub count : length forms ≡ length rows
  pub over : AreOver vars forms
  pub within : All (IsWithin (2 ^ 51)) forms
  pub parts : (k : ℕ) (part : Part) → row_part forms part k
      ≡ option_map_or (λ e. parts_of e part) (slice_get rows k) (pos 0)

near_made : (vars : ℕ) (rows : List RowExpr) → AreNearRows vars rows → AreMadeRows vars rows
near_made vars [] h =
    record { forms = []; are = refl; count = refl; over = refl; within = All-nil _; parts = λ k part. refl }
near_made vars (e ∷ es) h =
    let one = small_is_made vars (2 ^ 48) e h.0.takes (omega (arith, h.0.reaches)) in
    let row : Form = one.0 in
    let made : IsMade vars (2 ^ 48) e row = one.1 in
    let rest : AreMadeRows vars es = near_made vars es h.1 in
    record {
      forms = row ∷ rest.forms;
      are = ap (option_and_then (λ row. option_and_then (λ rest. Some (row ∷ rest)) (row_forms vars es))) made.is
          ∙ ap (option_and_then (λ rest. Some (row ∷ rest))) rest.are;
      count = ap suc rest.count;
      over = and_from (length row.coefs == vars) (all_over vars rest.forms)
          (eq-eqb (length row.coefs) vars made.over) rest.over;
      within = All-cons (IsWithin (2 ^ 51)) row rest.forms
          (IsWithin-weaker (reach (2 ^ 48) e) (2 ^ 51) row h.0.reaches made.within) rest.within;
      parts = λ k part. parts_at row rest.forms e es made.parts rest.parts k part;
    } where
      parts_at : (row : Form) (forms : List Form) (e : RowExpr) (es : List RowExpr)
          → ((part : Part) → part_of part row ≡ parts_of e part)
          → ((k : ℕ) (part : Part) → row_part forms part k
          ≡ option_map_or (λ e. parts_of e part) (slice_get es k) (pos 0))
          → (k : ℕ) (part : Part) → row_part (row ∷ forms) part k
          ≡ option_map_or (λ e. parts_of e part) (slice_get (e ∷ es) k) (pos 0)
      parts_at row forms e es own rest zero part = own part
      parts_at row forms e es own rest (suc k) part = rest k part

pub orders_made : (vars c q : ℕ) (less : Bool) (a b : List Form) (rows : List RowExpr) → AreNear vars a → AreNear vars b
    → slice_get (order_rows c less a b) q ≡ Some rows → AreMadeRows vars rows
orders_made vars c q less a b rows h k e = near_made vars rows (near_orders vars c q less a b rows h k e)

pub no_rows : (vars : ℕ) → AreMadeRows vars []
no_rows vars = near_made vars [] tt

-- Sums in their places

pub placed_left : (sums others : List (List Term)) (k : ℕ) → k < length sums → sum_in_place (sums ++ others) k
    ≡ sum_in_place sums k
placed_left [] others k lt = absurd (omega (arith, lt))
placed_left (ts ∷ sums) others zero lt = refl
placed_left (ts ∷ sums) others (suc k) lt = placed_left sums others k (omega (arith, lt))

pub placed_right : (sums others : List (List Term)) (n k : ℕ) → n ≡ length sums → sum_in_place (sums ++ others) (n + k)
    ≡ sum_in_place others k
placed_right [] others n k e = let z : n + k ≡ k = omega (arith, e) in ap (sum_in_place others) z
placed_right (ts ∷ sums) others n k e =
    let z : n + k ≡ suc (length sums + k) = omega (arith, e) in
    ap (sum_in_place (ts ∷ (sums ++ others))) z ∙ placed_right sums others (length sums) k refl

pub own_at : (first count k : ℕ) → k < count → sum_in_place (own_sums first count) k ≡ term_of (first + k) ∷ []
own_at first count k lt = ap (λ o. option_map_or (λ ts. ts) o [])
    (slice_get-map-range_with_len (λ row. term_of row ∷ []) first count k (first + k) lt refl)

-- no sum is heavier
abbrev pub AreLightSums : ℕ → List (List Term) → Type 0
AreLightSums most [] = Unit {0}
AreLightSums most (ts ∷ sums) = (weight ts ≤ most) × AreLightSums most sums

pub light_append : (most : ℕ) (xs ys : List (List Term)) → AreLightSums most xs → AreLightSums most ys
    → AreLightSums most (xs ++ ys)
light_append most [] ys h k = k
light_append most (x ∷ xs) ys h k = (h.0, light_append most xs ys h.1 k)

pub light_at : (most : ℕ) (sums : List (List Term)) (k : ℕ) → AreLightSums most sums
    → weight (sum_in_place sums k) ≤ most
light_at most [] k h = omega arith
light_at most (ts ∷ sums) zero h = h.0
light_at most (ts ∷ sums) (suc k) h = light_at most sums k h.1

pub light_own : (most first count : ℕ) → 1 ≤ most → AreLightSums most (own_sums first count)
light_own most first zero le = tt
light_own most first (suc count) le = (omega (arith, le), light_own most (first + 1) count le)

pub light_shown : (context : System) (rows : List Form) (sums : List (List Term))
    → AllZip (λ row ts. IsFact context 65536 (form_parts row) ts) rows sums → AreLightSums (2 ^ 26) sums
light_shown context [] [] h = tt
light_shown context [] (ts ∷ sums) h = absurd h
light_shown context (f ∷ rows) [] h = absurd h
light_shown context (f ∷ rows) (ts ∷ sums) h = (omega (arith, h.0.light), light_shown context rows sums h.1)

pub shown_count : (context : System) (rows : List Form) (sums : List (List Term))
    → AllZip (λ row ts. IsFact context 65536 (form_parts row) ts) rows sums → length rows ≡ length sums
shown_count context [] [] h = refl
shown_count context [] (ts ∷ sums) h = absurd h
shown_count context (f ∷ rows) [] h = absurd h
shown_count context (f ∷ rows) (ts ∷ sums) h = ap suc (shown_count context rows sums h.1)

shown_at : (context : System) (rows : List Form) (sums : List (List Term)) (k : ℕ) (f : Form)
    → AllZip (λ row ts. IsFact context 65536 (form_parts row) ts) rows sums → slice_get rows k ≡ Some f
    → Shows context.vars context.rows (sum_in_place sums k) (form_parts f)
shown_at context [] [] k f h e = absurd (let g : None ≡ Some f = e in cc)
shown_at context [] (ts ∷ sums) k f h e = absurd h
shown_at context (g ∷ rows) [] k f h e = absurd h
shown_at context (g ∷ rows) (ts ∷ sums) zero f h e =
    subst (λ f. Shows context.vars context.rows ts (form_parts f)) (same_Some g f e) h.0.shows
shown_at context (g ∷ rows) (ts ∷ sums) (suc k) f h e = shown_at context rows sums k f h.1 e

-- a candidate's proof, over the rows of its own context and others behind them
pub carried_node : (vars more : ℕ) (own joined extra further : List RowExpr) (made rows back behind : List Form)
    → AreSystems vars more own joined extra further made rows back behind
    → (context : System) → context.vars ≡ vars → context.rows ≡ rows → (sums others : List (List Term))
    → AllZip (λ row ts. IsFact context 65536 (form_parts row) ts) made sums
    → AreLightSums (2 ^ 26) others
    → ((j : ℕ) → j < length back
    → Shows more (map (widened_form more) rows ++ behind) (sum_in_place others j) (λ part. row_part back part j))
    → (ts : List Term) → weight ts ≤ 2 ^ 48 → IsRefuted (record { vars = more; rows = own ++ extra }) (Sum ts)
    → IsRefuted (record { vars = more; rows = joined ++ further })
    (Sum (carried_terms (sum_in_place (sums ++ others)) ts))
carried_node vars more own joined extra further made rows back behind s context vars_is rows_is sums others shown light
    each ts small refuted =
    let count : length made ≡ length sums = shown_count context made sums shown in
    let all : AreLightSums (2 ^ 26) (sums ++ others) =
    light_append (2 ^ 26) sums others (light_shown context made sums shown) light in
    let stands : StandsIn vars more own joined extra further made rows back behind s (2 ^ 26) (sums ++ others)
    = record {
      of_context = λ k f is.
          (let within : k < length made = slice_get_within made k f is in
          let same : sum_in_place (sums ++ others) k ≡ sum_in_place sums k =
          placed_left sums others k (omega (arith, within, count)) in
          subst (λ ts. Shows vars rows ts (form_parts f)) (sym same)
          (subst (λ rows. Shows vars rows (sum_in_place sums k) (form_parts f)) rows_is
          (subst (λ vars. Shows vars context.rows (sum_in_place sums k) (form_parts f)) vars_is
          (shown_at context made sums k f shown is))));
      narrow = λ f k i is le. get_or_past f.coefs i (pos 0) (omega (arith, le, over_at vars made k f s.made_over is));
      of_others = λ j lt.
          subst (λ ts. Shows more (map (widened_form more) rows ++ behind) ts (λ part. row_part back part j))
          (sym (placed_right sums others (length made) j count)) (each j lt);
      light = λ k. light_at (2 ^ 26) (sums ++ others) k all;
    } in
    carried_refuted vars more own joined extra further made rows back behind s (2 ^ 26) (sums ++ others) ts stands
    (omega (arith, small)) refuted

-- A write in the joined context

-- the node, where its own context is over these variables
pub record IsNodeOver (context : System) (c : Candidate) (node : Tree) (sums : List (List Term))
    (vars : ℕ) : Type 0 where
  pub rows : List RowExpr
  pub made : List Form
  pub are_made : row_forms vars rows ≡ Some made
  pub checked : IsCheckedFor (read_of c.writes) (write_of c.writes) c.writes.level
      (record { vars = vars; rows = rows }) node
  pub shown : AllZip (λ row ts. IsFact context 65536 (form_parts row) ts) made sums
  pub tests : ℕ
  pub simple : IsSimple tests node

pub node_over : (context : System) (c : Candidate) (node : Tree) (sums : List (List Term)) (vars : ℕ)
    → IsNode context c node sums → context.vars ≡ vars → IsNodeOver context c node sums vars
node_over context c node sums vars h e = record {
  rows = h.own.rows;
  made = h.made;
  are_made = subst (λ v. row_forms v h.own.rows ≡ Some h.made) (h.vars ∙ e) h.are_made;
  checked = subst (λ v. IsCheckedFor (read_of c.writes) (write_of c.writes) c.writes.level
      (record { vars = v; rows = h.own.rows }) node) (h.vars ∙ e) h.checked;
  shown = h.shown;
  tests = h.tests;
  simple = h.simple;
}

pub regroup : (c d e l m : List RowExpr) → (c ++ (d ++ e)) ++ (l ++ m) ≡ c ++ ((d ++ (e ++ l)) ++ m)
regroup c d e l m =
    append_assoc c (d ++ e) (l ++ m) ∙ ap (λ x. c ++ x)
    (append_assoc d e (l ++ m) ∙ ap (λ x. d ++ x) (sym (append_assoc e l m)) ∙ sym (append_assoc d (e ++ l) m))

module _ (r : Read) (context : System) (room : ℕ) (path : IsPathContext r.context.now.vars room context)
    (cand : Candidate) (h : IsCandidate r cand) (c : Context)
    (vars_is : c.vars ≡ context.vars) (made_is : row_forms c.vars c.rows ≡ Some context.rows) where
  abbrev u : Occurrence
  u = write_of cand.writes

  abbrev pub more_vars : ℕ
  more_vars = c.vars + length u.statement.loops

  abbrev read : Occurrence
  read = read_of cand.writes

  problem : IsProblem c.vars read u cand.writes.level
  problem = subst (λ v. IsProblem v read u cand.writes.level) (h.vars ∙ sym path.vars_are ∙ sym vars_is)
      cand.writes.problem

  pub system : IsPlaced read u cand.writes.level c context.rows cand.edges
  system = placed c.vars read u cand.writes.level c context.rows cand.edges problem refl made_is h.graph.edges_are

  pub forms_within : All (IsWithin (2 ^ 51)) system.forms
  forms_within = rows_within cand.writes.vars (length u.statement.loops) c.vars
      (length u.statement.loops) cand.edges system.forms system.are h.graph.graph.each

  pub context_over : AreOver c.vars context.rows
  context_over = AreOver-row_forms c.vars c.rows context.rows made_is

  pub context_within : All (IsWithin (2 ^ 51)) context.rows
  context_within = All-weaker (IsWithin (2 ^ 50)) (IsWithin (2 ^ 51))
      (λ f k. IsWithin-weaker (2 ^ 50) (2 ^ 51) f (omega arith) k) context.rows path.within

  abbrev pub wide_context : List Form
  wide_context = map (widened_form more_vars) context.rows

  -- the rows on the point, in a system with these order rows
  abbrev pub joined_rows : List Form → List Form
  joined_rows order = wide_context ++ (system.forms ++ order)

  -- a row of the context is the same row, by its number
  pub own_row : (order : List Form) (j : ℕ) → j < length (system.forms ++ order)
      → Shows more_vars (joined_rows order) (term_of (length context.rows + j) ∷ [])
      (λ part. row_part (system.forms ++ order) part j)
  own_row order j lt =
      let behind : List Form = system.forms ++ order in
      let wide : length wide_context ≡ length context.rows = length-map context.rows (widened_form more_vars) in
      let row : ℕ = length context.rows + j in
      let inside : row < length (joined_rows order) = omega (arith, length-append wide_context behind, wide, lt) in
      let part_is : (part : Part) → row_part (joined_rows order) part row ≡ row_part behind part j
      = λ part. ap (λ o. option_map_or (part_of part) o (pos 0))
      (ap (λ n. slice_get (joined_rows order) (n + j)) (sym wide) ∙ slice_get-append_right wide_context behind j) in
      (combines more_vars (joined_rows order)).weaker (term_of row ∷ []) (λ part. row_part (joined_rows order) part row)
      (λ part. row_part behind part j)
      ((combines more_vars (joined_rows order)).own row inside) (omega (arith, ints, part_is the_constant))
      (λ i l. part_is (the_coefficient i))

  first_part : (xs ys : List Form) (j : ℕ) (part : Part) → j < length xs → row_part (xs ++ ys) part j
      ≡ row_part xs part j
  first_part [] ys j part lt = absurd (omega (arith, lt))
  first_part (x ∷ xs) ys zero part lt = refl
  first_part (x ∷ xs) ys (suc j) part lt = first_part xs ys j part (omega (arith, lt))

  last_part : (xs ys : List Form) (j : ℕ) (part : Part) → row_part (xs ++ ys) part (length xs + j) ≡ row_part ys part j
  last_part xs ys j part = ap (λ o. option_map_or (part_of part) o (pos 0)) (slice_get-append_right xs ys j)

  module _ (node : Tree) (sums : List (List Term)) (o : IsNodeOver context cand node sums c.vars)
      (own_extra order : List RowExpr) (own : AreMadeRows more_vars own_extra) (all : AreMadeRows more_vars order)
      (extra_sums : List (List Term)) (light : AreLightSums (2 ^ 26) extra_sums)
      (each : (j : ℕ) → j < length own.forms → Shows more_vars (joined_rows all.forms) (sum_in_place extra_sums j)
      (λ part. row_part own.forms part j)) where
    abbrev write : List RowExpr
    write = write_rows read u system.level (writer_place c u)

    systems : AreSystems c.vars more_vars o.rows c.rows (write ++ own_extra) (write ++ order) o.made context.rows
        (system.forms ++ own.forms) (system.forms ++ all.forms)
    systems = record {
      wider = omega arith;
      own_made = o.are_made;
      joined_made = made_is;
      extra_made = forms_append more_vars write own_extra system.forms own.forms system.own own.are;
      further_made = forms_append more_vars write order system.forms all.forms system.own all.are;
      made_over = AreOver-row_forms c.vars o.rows o.made o.are_made;
      rows_over = context_over;
      back_over = over_append more_vars system.forms own.forms system.over own.over;
      behind_over = over_append more_vars system.forms all.forms system.over all.over;
      rows_within = context_within;
      behind_within = All-append (IsWithin (2 ^ 51)) system.forms all.forms forms_within all.within;
    }

    fixed : length cand.edges ≡ length system.forms
    fixed = sym system.are.count

    abbrev others_of : List (List Term)
    others_of = own_sums (length context.rows) (length cand.edges) ++ extra_sums

    own_count : length (own_sums (length context.rows) (length cand.edges)) ≡ length system.forms
    own_count = length-map-range_with_len (λ row. term_of row ∷ []) (length context.rows) (length cand.edges) ∙ fixed

    each_other : (j : ℕ) → j < length (system.forms ++ own.forms) → Shows more_vars (joined_rows all.forms)
        (sum_in_place others_of j) (λ part. row_part (system.forms ++ own.forms) part j)
    each_other j lt = elim (split_number j (length system.forms) (length own.forms)
        (omega (arith, lt, length-append system.forms own.forms))) [
          | inl below ↦
              let sum_is : sum_in_place others_of j ≡ term_of (length context.rows + j) ∷ []
              = placed_left (own_sums (length context.rows) (length cand.edges)) extra_sums j
              (omega (arith, below, own_count))
              ∙ own_at (length context.rows) (length cand.edges) j (omega (arith, below, fixed)) in
              let same : (part : Part) → row_part (system.forms ++ all.forms) part j
              ≡ row_part (system.forms ++ own.forms) part j
              = λ part. first_part system.forms all.forms j part below
              ∙ sym (first_part system.forms own.forms j part below) in
              subst (λ ts. Shows more_vars (joined_rows all.forms) ts
              (λ part. row_part (system.forms ++ own.forms) part j))
              (sym sum_is)
              ((combines more_vars (joined_rows all.forms)).weaker (term_of (length context.rows + j) ∷ [])
              (λ part. row_part (system.forms ++ all.forms) part j)
              (λ part. row_part (system.forms ++ own.forms) part j)
              (own_row all.forms j (omega (arith, below, length-append system.forms all.forms)))
              (omega (arith, ints, same the_constant)) (λ i l. same (the_coefficient i)))
          | inr rest ↦
              let k : ℕ = rest.0 in
              let here : j ≡ length system.forms + k = rest.1 in
              let sum_is : sum_in_place others_of j ≡ sum_in_place extra_sums k
              = ap (sum_in_place others_of) here ∙ placed_right (own_sums (length context.rows) (length cand.edges))
              extra_sums (length system.forms) k (sym own_count) in
              let same : (part : Part) → row_part own.forms part k ≡ row_part (system.forms ++ own.forms) part j
              = λ part. sym
              (ap (row_part (system.forms ++ own.forms) part) here ∙ last_part system.forms own.forms k part)
              in
              subst (λ ts. Shows more_vars (joined_rows all.forms) ts
              (λ part. row_part (system.forms ++ own.forms) part j))
              (sym sum_is)
              ((combines more_vars (joined_rows all.forms)).weaker (sum_in_place extra_sums k)
              (λ part. row_part own.forms part k)
              (λ part. row_part (system.forms ++ own.forms) part j) (each k rest.2)
              (omega (arith, ints, same the_constant))
              (λ i l. same (the_coefficient i)))
        ]

    -- the same writes, with these order rows
    pub carried_write : (level : List RowExpr) (ts : List Term)
        → AreLevelRows read u cand.writes.level (writer_place c u) level → weight ts ≤ 2 ^ 48
        → IsRefuted (with_rows (with_write_at read (record { vars = c.vars; rows = o.rows }) u)
        (level ++ own_extra)) (Sum ts)
        → IsRefuted (with_rows (with_write_at read c u) (level ++ order))
        (Sum (carried_terms (sum_in_place (sums ++ others_of)) ts))
    carried_write level ts level_is small refuted =
        let same : level ≡ system.level = same_Some level system.level (sym level_is ∙ system.level_is) in
        let place : List Form = writer_place c u in
        let d : List RowExpr = domain_rows u.statement.rows place in
        let e : List RowExpr = cell_rows u.access.subscripts read.access.subscripts place in
        let there : IsRefuted (record { vars = more_vars; rows = o.rows ++ (write ++ own_extra) }) (Sum ts)
        = subst (λ rows. IsRefuted (record { vars = more_vars; rows = rows }) (Sum ts))
        (ap (λ level. (o.rows ++ (d ++ e)) ++ (level ++ own_extra)) same
        ∙ regroup o.rows d e system.level own_extra) refuted in
        let here = carried_node c.vars more_vars o.rows c.rows (write ++ own_extra) (write ++ order) o.made context.rows
        (system.forms ++ own.forms) (system.forms ++ all.forms) systems
        context (sym vars_is) refl sums others_of o.shown
        (light_append (2 ^ 26) (own_sums (length context.rows) (length cand.edges)) extra_sums
        (light_own (2 ^ 26) (length context.rows) (length cand.edges) (omega arith)) light) each_other ts small
        there in
        subst (λ rows. IsRefuted (record { vars = more_vars; rows = rows })
        (Sum (carried_terms (sum_in_place (sums ++ others_of)) ts)))
        (sym (ap (λ level. (c.rows ++ (d ++ e)) ++ (level ++ order)) same ∙ regroup c.rows d e system.level order)) here
