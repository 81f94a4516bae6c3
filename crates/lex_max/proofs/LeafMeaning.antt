-- What the place of a Writer leaf means: at each point of the reader it is a write before the read, and no other is later.
--
-- Terms show each row of the place, so its values meet them: they are in the domain, write the cell and stand before
-- the read. Each form of the place is the sum of a path from 0 to its loop, and any such write meets the rows of that
-- path, so in each loop its value is no greater. So it is no later: the place is the greatest one in every loop at
-- once, which is more than the order asks.
use Rattle.std.proofs.Common.{◌≡◌, ◌+◌, ◌≤◌, ◌<◌, ℕ, zero, suc, ℤ, pos, ◌+ℤ◌, ◌-ℤ◌, ◌≤ℤ◌, ◌<ℤ◌, List}
use Rattle.std.proofs.Common.{[], ◌∷◌, ◌++◌, length, take, Bool, true, false, refl, sym, ap, ◌∙◌, subst, arith}
use Rattle.std.proofs.Common.{◌⊎◌}
use Rattle.std.specs.Prelude.{Some, None, slice_get, slice_index_or, nat_lt}
use Rattle.std.specs.Option.{option_map_or}
use Rattle.std.proofs.lemmas.Int.{ints}
use Rattle.std.proofs.lemmas.List.{append-nil, take-take}
use Rattle.std.proofs.lemmas.Option.{same_Some, slice_get-map}
use Rattle.affine_core.specs.declared.form.Form.{Form}
use Rattle.affine_core.specs.Affine.{form_at, variable_form}
use Rattle.affine_core.proofs.Linear.{form_at_more}
use Rattle.int_polyhedra.specs.declared.system.System.{System}
use Rattle.int_polyhedra.specs.declared.system.Term.{Term}
use Rattle.int_polyhedra.specs.Systems.{AreOver, Meets}
use Rattle.sanlp.specs.Order.{PrecedesWithin}
use Rattle.lex_max.specs.Answer.{IsContextOf}
use Rattle.tree_graphs.specs.Asked.{depth_of_read, depth_of_write, read_of, write_of}
use Rattle.lex_max.specs.Choices.{AreCerts}
use Rattle.tree_graphs.specs.Edges.{edge_parts, write_rows, AreEdges, AreLevelRows}
use Rattle.tree_graphs.specs.Facts.{form_parts}
use Rattle.tree_graphs.specs.Level.{common_of, IsGreatest, WritesBefore}
use Rattle.tree_graphs.specs.Paths.{terms_from, IsPath}
use Rattle.tree_graphs.specs.Rounds.{IsGraphOf}
use Rattle.tree_graphs.specs.declared.edges.Edge.{Edge}
use Rattle.tree_graphs.specs.declared.writes.Writes.{Writes}
use Rattle.tree_graphs.proofs.Differences.{past_part}
use Rattle.tree_graphs.proofs.ProblemBounds.{writes_fit, IsKnown}
use Rattle.lex_max.proofs.RowMeaning.{all_met, all_over_rows, all_rows, base, j_is, no_later, system}
use Rattle.tree_graphs.proofs.OrderEdges.{length_variables, variable_at, variable_over, variable_within}
use Rattle.tree_graphs.proofs.EdgeSums.{cycle_shows}
use Rattle.lex_max.proofs.RowValues.{made_at, met_domain, taken_value, taken_values}
use Rattle.tree_graphs.proofs.RowBounds.{most_made, most_taken, small_minus, AreSmall, IsSmallRow, IsTaken}
use Rattle.plain_data.proofs.Options.{option_map-some}
use Rattle.tree_sums.specs.Made.{parts_of}
use Rattle.tree_sums.proofs.MadeLaws.{IsMade}
use Rattle.tree_sums.specs.Parts.{Part, the_constant, the_coefficient, part_of, row_part}
use Rattle.tree_sums.specs.Shown.{RowParts, Shows}
use Rattle.tree_sums.proofs.PointRows.{shown_holds}
use Rattle.tree_sums.proofs.SmallRows.{small_is_made}
use Rattle.tree_sums.proofs.Within.{IsWithin-weaker}
use Rattle.source_tree.specs.Gives.{values}
use Rattle.source_tree.specs.Places.{at_place, cell_rows, domain_rows, order_rows, variables}
use Rattle.source_tree.specs.Rows.{RowExpr, Take, equal_rows, minus, one_less, row_at}
use Rattle.source_tree.specs.Systems.{reader_place}
use Rattle.source_tree.specs.declared.tree.Found.TheVariants.{At}
use Rattle.source_tree.proofs.Gives.{row_at-at_place}
use Rattle.source_tree.proofs.MetRows.{AreMet}

-- A row that is shown

pub shown_row : (vars : ℕ) (rows : List Form) (at : List ℤ) (e : RowExpr) (a : RowParts) (ts : List Term)
    → AreOver vars rows → IsSmallRow vars e most_made → ((part : Part) → parts_of e part ≡ a part)
    → Shows vars rows ts a → Meets rows at → pos 0 ≤ℤ row_at e at
shown_row vars rows at e a ts over small same s meets =
    let one = small_is_made vars most_taken e small.takes (omega (arith, small.reaches)) in
    let f : Form = one.0 in
    let made : IsMade vars most_taken e f = one.1 in
    let is : (part : Part) → part_of part f ≡ a part = λ part. made.parts part ∙ same part in
    let shows : Shows vars rows ts (λ part. part_of part f)
    = record {
      name_rows = s.name_rows;
      not_negative = s.not_negative;
      at_most = omega (arith, ints, s.at_most, is the_constant);
      same = λ i l. s.same i l ∙ sym (is (the_coefficient i));
    } in
    subst (λ z. pos 0 ≤ℤ z) (made_at vars e f at made.is) (shown_holds vars rows ts f at over made.over shows meets)

-- rows that are edges, with terms for each edge
pub certs_met : (context : System) (place : List Form) (x : List ℤ) (rows : List RowExpr) (edges : List Edge)
    (certs : List (List Term)) → AreOver context.vars context.rows → Meets context.rows x
    → AreSmall context.vars rows → AreEdges place rows edges → AreCerts context place edges certs → AreMet rows x
certs_met context place x [] edges certs over meets small are shown = tt
certs_met context place x (row ∷ rows) [] certs over meets small are shown = absurd are
certs_met context place x (row ∷ rows) (g ∷ edges) [] over meets small are shown = absurd shown
certs_met context place x (row ∷ rows) (g ∷ edges) (ts ∷ certs) over meets small are shown = (
  shown_row context.vars context.rows x row (edge_parts place g) ts over small.0 are.0 shown.0.shows meets,
  certs_met context place x rows edges certs over meets small.1 are.1 shown.1,
)

-- What rows that are met say

met_left : (xs ys : List RowExpr) (at : List ℤ) → AreMet (xs ++ ys) at → AreMet xs at
met_left [] ys at h = tt
met_left (x ∷ xs) ys at h = (h.0, met_left xs ys at h.1)

met_right : (xs ys : List RowExpr) (at : List ℤ) → AreMet (xs ++ ys) at → AreMet ys at
met_right [] ys at h = h
met_right (x ∷ xs) ys at h = met_right xs ys at h.1

equal_is : (a b : RowExpr) (at : List ℤ) → AreMet (equal_rows a b) at → row_at a at ≡ row_at b at
equal_is a b at h = omega (arith, ints, h.0, h.1.0)

pub met_cells : (writes reads place : List Form) (at : List ℤ) → length writes ≡ length reads
    → AreMet (cell_rows writes reads place) at → values writes (values place at) ≡ values reads at
met_cells [] [] place at e h = refl
met_cells [] (r ∷ reads) place at e h = absurd (omega arith)
met_cells (w ∷ writes) [] place at e h = absurd (omega arith)
met_cells (w ∷ writes) (r ∷ reads) place at e h =
    let pair : List RowExpr = equal_rows (at_place w place) (Take r) in
    let one : row_at (at_place w place) at ≡ form_at r at =
    equal_is (at_place w place) (Take r) at (met_left pair (cell_rows writes reads place) at h) in
    let rest : values writes (values place at) ≡ values reads at =
    met_cells writes reads place at (omega (arith, e)) (met_right pair (cell_rows writes reads place) at h) in
    ap (λ z. z ∷ values writes (values place at)) (sym (row_at-at_place w place at) ∙ one)
    ∙ ap (λ zs. form_at r at ∷ zs) rest

pub met_level : (c p : ℕ) (less : Bool) (a b : List Form) (rows : List RowExpr) (at : List ℤ)
    → slice_get (order_rows c less a b) p ≡ Some rows → AreMet rows at
    → (take p (values a at) ≡ take p (values b at))
    × (p < c → slice_index_or (values a at) p (pos 0) <ℤ slice_index_or (values b at) p (pos 0))
met_level zero zero less a b rows at e h = (refl, λ lt. absurd (omega arith))
met_level zero (suc p) true a b rows at e h = absurd (let f : None ≡ Some rows = e in cc)
met_level zero (suc p) false a b rows at e h = absurd (let f : None ≡ Some rows = e in cc)
met_level (suc c) p l [] b rows at e h = absurd (let f : None ≡ Some rows = e in cc)
met_level (suc c) p l (v ∷ a) [] rows at e h = absurd (let f : None ≡ Some rows = e in cc)
met_level (suc c) zero l (v ∷ a) (x ∷ b) rows at e h =
    let m : AreMet (one_less (minus (Take x) (Take v)) ∷ []) at =
    subst (λ rows. AreMet rows at) (sym (same_Some (one_less (minus (Take x) (Take v)) ∷ []) rows e)) h in
    (refl, λ lt. omega (arith, ints, m.0))
met_level (suc c) (suc p) l (v ∷ a) (x ∷ b) rows at e h =
    let pair : List RowExpr = equal_rows (Take v) (Take x) in
    let i = option_map-some (λ inner. pair ++ inner) (slice_get (order_rows c l a b) p) rows (sym (slice_get-map (λ inner. pair ++ inner) (order_rows c l a b) p) ∙ e) in
    let m : AreMet (pair ++ i.0) at = subst (λ rows. AreMet rows at) (sym i.2) h in
    let one : form_at v at ≡ form_at x at = equal_is (Take v) (Take x) at (met_left pair i.0 at m) in
    let rest = met_level c p l a b i.0 at i.1 (met_right pair i.0 at m) in
    (ap (λ z. z ∷ take p (values a at)) one ∙ ap (λ zs. form_at x at ∷ zs) rest.0, λ lt. rest.1 (omega (arith, lt)))

values_count : (fs : List Form) (at : List ℤ) → length (values fs at) ≡ length fs
values_count [] at = refl
values_count (f ∷ fs) at = ap suc (values_count fs at)

values_at : (fs : List Form) (v : ℕ) (f : Form) (at : List ℤ) → slice_get fs v ≡ Some f
    → slice_index_or (values fs at) v (pos 0) ≡ form_at f at
values_at [] v f at e = absurd (let g : None ≡ Some f = e in cc)
values_at (g ∷ fs) zero f at e = ap (λ f. form_at f at) (same_Some g f e)
values_at (g ∷ fs) (suc v) f at e = values_at fs v f at e

x_self : (d : ℕ) (x : List ℤ) → d ≤ length x → values (variables 0 d) x ≡ take d x
x_self d x le = ap (values (variables 0 d)) (sym (append-nil x)) ∙ taken_values d x [] le

-- a place whose rows are met is a write before the read
pub writes_before : (w : Writes) (fits : IsKnown w.vars (read_of w) (write_of w) w.level) (place : List Form)
    (level : List RowExpr) (x : List ℤ) → length place ≡ depth_of_write w
    → length x ≡ w.vars → AreLevelRows (read_of w) (write_of w) w.level place level
    → AreMet (write_rows (read_of w) (write_of w) level place) x
    → WritesBefore (read_of w) (write_of w) w.level x (values place x)
writes_before w fits place level x deep long level_is met =
    let d : List RowExpr = domain_rows w.rows.now place in
    let c : List RowExpr = cell_rows w.write_forms.now w.read_forms.now place in
    let reader : ℕ = depth_of_read w in
    let own : values (reader_place (read_of w)) x ≡ take reader x =
    x_self reader x (omega (arith, long, fits.reader)) in
    let after : AreMet (c ++ level) x = met_right d (c ++ level) x met in
    let order = met_level (common_of (write_of w) (read_of w)) w.level (nat_lt w.write.number w.read.number) place
    (reader_place (read_of w)) level x level_is (met_right c level x after) in
    record {
      deep = values_count place x ∙ deep;
      in_domain = met_domain w.rows.now place x (met_left d (c ++ level) x met);
      same_cell = met_cells w.write_forms.now w.read_forms.now place x fits.even
          (met_left c level x after);
      before = (
        order.0 ∙ ap (take w.level) own ∙ take-take w.level reader x (omega (arith, fits.level, fits.common_vars)),
        λ lt. subst (λ z. slice_index_or (values place x) w.level (pos 0) <ℤ z)
            (taken_value reader w.level x (omega (arith, lt, fits.common_vars)))
            (subst (λ xs. slice_index_or (values place x) w.level (pos 0) <ℤ slice_index_or xs w.level (pos 0)) own
            (order.1 lt)),
      );
    }

-- No write before the read is above the form of a path

own_taken : (d depth v : ℕ) → v < depth → IsTaken (d + depth) (variable_form (d + v + 1) (d + v))
own_taken d depth v lt = record {
  short = (let over : length (variable_form (d + v + 1) (d + v)).coefs ≡ d + v + 1 =
      variable_over (d + v + 1) (d + v) (omega arith) in omega (arith, over, lt));
  within = IsWithin-weaker 1 most_taken (variable_form (d + v + 1) (d + v)) (omega arith) (variable_within (d + v + 1) (d + v));
}

module _ (w : Writes) (context : System) (edges : List Edge) (graph : IsGraphOf w edges) (of : IsContextOf w 0 context)
    (x j : List ℤ) (long : length x ≡ w.vars) (meets : Meets context.rows x)
    (h : WritesBefore (read_of w) (write_of w) w.level x j) where
  abbrev d : ℕ
  d = w.vars

  abbrev depth : ℕ
  depth = depth_of_write w

  abbrev more : ℕ
  more = d + depth

  pub below : (v : ℕ) (form : Form) (ts : List Term) → v < depth → length form.coefs ≡ d → IsTaken more form
      → IsPath edges ts (form_parts form) depth v → slice_index_or j v (pos 0) ≤ℤ form_at form x
  below v form ts lt over taken path =
      let s = system w context edges graph of in
      let points : List Form = variables d depth in
      let own : Form = variable_form (d + v + 1) (d + v) in
      let own_is : slice_get points v ≡ Some own = variable_at d depth v lt in
      let a : RowParts = λ part. (form_parts form part +ℤ row_part points part depth) -ℤ row_part points part v in
      let shows : Shows more (all_rows w context edges graph of) (terms_from (length context.rows) ts) a
      = cycle_shows d more context.rows s.forms points edges (omega arith)
      (base w context edges graph of) s.over s.within s.are ts (form_parts form) depth v path in
      let end_is : (part : Part) → row_part points part v ≡ part_of part own =
      λ part. ap (λ o. option_map_or (part_of part) o (pos 0)) own_is in
      let zero_is : (part : Part) → row_part points part depth ≡ pos 0 =
      λ part. ap (row_part points part) (sym (length_variables d depth)) ∙ past_part points part in
      let row : pos 0 ≤ℤ row_at (minus (Take form) (Take own)) (x ++ j)
      = shown_row more (all_rows w context edges graph of) (x ++ j) (minus (Take form) (Take own)) a
      (terms_from (length context.rows) ts) (all_over_rows w context edges graph of)
      (small_minus more form own taken (own_taken d depth v lt))
      (λ part. omega (arith, ints, end_is part, zero_is part)) shows
      (all_met w context edges graph of x j long meets h) in
      let first : form_at form (x ++ j) ≡ form_at form x = form_at_more form x j (omega (arith, over, long)) in
      let second : slice_index_or j v (pos 0) ≡ form_at own (x ++ j)
      = ap (λ js. slice_index_or js v (pos 0)) (sym (j_is w context edges graph of x j long meets h))
      ∙ values_at points v own (x ++ j) own_is in
      omega (arith, ints, row, first, second)

-- the point of a Writer leaf is the greatest
pub greatest_there : (w : Writes) (context : System) (edges : List Edge) (graph : IsGraphOf w edges)
    (of : IsContextOf w 0 context) (place : List Form) (level : List RowExpr) (certs : List (List Term))
    → length place ≡ depth_of_write w → AreLevelRows (read_of w) (write_of w) w.level place level
    → AreSmall context.vars (write_rows (read_of w) (write_of w) level place)
    → AreCerts context place edges certs
    → ((v : ℕ) → v < depth_of_write w → (form : Form) × (slice_get place v ≡ Some form)
    × (length form.coefs ≡ w.vars) × IsTaken (w.vars + depth_of_write w) form
    × ((ts : List Term) × IsPath edges ts (form_parts form) (depth_of_write w) v))
    → (x : List ℤ) → length x ≡ w.vars → Meets context.rows x → IsGreatest (read_of w) (write_of w) w.level x
    (At (record { statement = w.write.number; at = values place x }))
greatest_there w context edges graph of place level certs deep level_is small shown paths x long meets =
    let fits : IsKnown w.vars (read_of w) (write_of w) w.level = writes_fit w in
    let met : AreMet (write_rows (read_of w) (write_of w) level place) x
    = certs_met context place x (write_rows (read_of w) (write_of w) level place) edges certs of.over meets small
    (graph.edges_are place level deep level_is) shown in
    let count : length (values place x) ≡ depth_of_write w = values_count place x ∙ deep in (
      refl,
      writes_before w fits place level x deep long level_is met,
      λ j h.
          subst (λ n. (j ≡ values place x) ⊎ PrecedesWithin n false j (values place x)) count
          (no_later j (values place x) (h.deep ∙ sym count)
          (λ i lt.
          let p = paths i (omega (arith, lt, h.deep)) in
          subst (λ z. slice_index_or j i (pos 0) ≤ℤ z) (sym (values_at place i p.0 x p.1))
          (below w context edges graph of x j long meets h i p.0 p.4.0 (omega (arith, lt, h.deep)) p.2 p.3 p.4.1))),
    )
