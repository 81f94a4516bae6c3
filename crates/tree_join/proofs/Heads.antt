-- A candidate's proofs that its point is in the domain, writes the read's cell and stands before the read.
--
-- Their systems add rows over the context's variables alone, so the same rows stand in the candidate's own system and
-- in the joined one, and each is shown by itself. Their numbers are small, part by part: a form of the class at a place
-- is a constant and at most two of the place's values.
use Rattle.std.proofs.Common.{◌≡◌, ◌+◌, ◌^◌, ◌≤◌, ◌<◌, ◌==◌, ℕ, zero, suc, ℤ, pos, negsuc, ◌-◌, ◌+ℤ◌, ◌-ℤ◌, ◌*ℤ◌, List, []}
use Rattle.std.proofs.Common.{◌∷◌, ◌++◌, length, map, Bool, true, false, cond, refl, sym, ap, ◌∙◌, subst, arith}
use Rattle.std.specs.Prelude.{Option, Some, None, All, nat_lt, slice_get, unsigned_abs}
use Rattle.std.specs.List.{list_all, AllZip}
use Rattle.std.specs.Option.{option_and_then, option_map_or}
use Rattle.std.proofs.lemmas.Bool.{eq-eqb, and_parts, and_from}
use Rattle.std.proofs.lemmas.Int.{ints}
use Rattle.std.proofs.lemmas.List.{length-append, length-map, map-append}
use Rattle.std.proofs.lemmas.List.Elements.{All-nil, All-cons, All-head, All-tail}
use Rattle.affine_core.specs.declared.form.Form.{Form}
use Rattle.affine_core.specs.Affine.{constant_form, widened_form}
use Rattle.int_polyhedra.specs.declared.system.Proof.{Proof}
use Rattle.int_polyhedra.specs.declared.system.Proof.TheVariants.{Sum}
use Rattle.int_polyhedra.specs.declared.system.System.{System}
use Rattle.int_polyhedra.specs.declared.system.Term.{Term}
use Rattle.int_polyhedra.specs.Systems.{all_over}
use Rattle.tree_order.specs.Candidates.{IsCandidate}
use Rattle.tree_graphs.specs.Contexts.{IsMadeAs}
use Rattle.tree_order.specs.Contexts.{IsPathContext}
use Rattle.tree_graphs.specs.Joint.{head_systems}
use Rattle.tree_graphs.specs.Joint.{ReadAndWrite}
use Rattle.tree_join.specs.Leaves.{IsCarried}
use Rattle.tree_order.specs.Positions.{own_sums}
use Rattle.tree_order.specs.declared.candidates.Candidate.{Candidate}
use Rattle.tree_order.specs.declared.candidates.Read.{Read}
use Rattle.tree_order.proofs.CarriedProofs.{AreSystems}
use Rattle.tree_order.proofs.PointSystems.{carried_node, context_over, context_within, light_own, own_at}
use Rattle.tree_order.proofs.PointSystems.{AreMadeRows, IsNodeOver}
use Rattle.tree_graphs.specs.Problems.{AreCells, IsProblem}
use Rattle.tree_graphs.specs.Class.{is_difference}
use Rattle.tree_graphs.specs.Edges.{node_of}
use Rattle.tree_graphs.specs.Level.{common_of}
use Rattle.tree_graphs.specs.Paths.{term_of}
use Rattle.tree_graphs.specs.Simple.{IsLightSum}
use Rattle.tree_graphs.proofs.Differences.{difference_at, differences_are, shifts_are, AreTrits}
use Rattle.tree_graphs.proofs.ProblemBounds.{form_is, FormFits}
use Rattle.tree_graphs.proofs.OrderEdges.{variable_within}
use Rattle.tree_graphs.proofs.Small.{number_within}
use Rattle.plain_data.proofs.Lists.{slice_get-append_right}
use Rattle.tree_sums.specs.Carried.{carried_terms, sum_in_place}
use Rattle.tree_sums.specs.Made.{parts_of}
use Rattle.tree_sums.specs.Parts.{Part, the_constant, the_coefficient, part_of, row_part, weight, IsWithin}
use Rattle.tree_sums.specs.Shown.{Shows}
use Rattle.tree_sums.proofs.SumAlgebra.{combines}
use Rattle.tree_sums.proofs.RowParts.{made_has_parts, AreOver-row_forms}
use Rattle.tree_sums.proofs.Within.{IsWithin-weaker, IsWithin-from_parts, part_of-le}
use Rattle.sanlp.proofs.Precedence.{common_second}
use Rattle.sanlp.specs.WellFormed.{form_fits}
use Rattle.source_tree.specs.Checked.{AreRefuted, IsRefuted}
use Rattle.source_tree.specs.Places.{at_place, before_rows, differ_rows, order_rows, same_rows, variables}
use Rattle.source_tree.specs.Rows.{RowExpr, Take, below_zero, equal_rows, minus, one_less, row_form, row_forms}
use Rattle.source_tree.specs.declared.tree.Tree.{Tree}
use Rattle.source_tree.specs.Systems.{Context, Occurrence, after_systems, cell_systems, reader_place, same_systems}
use Rattle.source_tree.specs.Systems.{with_rows}

-- Rows by their parts

abbrev IsTightRow : RowExpr → Type 0
IsTightRow e = (part : Part) → unsigned_abs (parts_of e part) ≤ 2 ^ 51

abbrev AreTightRows : List RowExpr → Type 0
AreTightRows [] = Unit {0}
AreTightRows (e ∷ es) = IsTightRow e × AreTightRows es

-- few rows, with small parts
pub record IsTight (n : ℕ) (rows : List RowExpr) : Type 0 where
  pub few : length rows ≤ n
  pub tight : AreTightRows rows

abbrev pub AreTight : ℕ → List (List RowExpr) → Type 0
AreTight n [] = Unit {0}
AreTight n (rows ∷ more) = IsTight n rows × AreTight n more

tight_append : (n : ℕ) (xs ys : List (List RowExpr)) → AreTight n xs → AreTight n ys → AreTight n (xs ++ ys)
tight_append n [] ys h k = k
tight_append n (x ∷ xs) ys h k = (h.0, tight_append n xs ys h.1 k)

tight_one : (e : RowExpr) → IsTightRow e → IsTight 13 (e ∷ [])
tight_one e h = record { few = omega arith; tight = (h, tt) }

number_bound : (k : ℤ) (part : Part) → unsigned_abs k ≤ 1
    → unsigned_abs (part_of part (record { constant = k; coefs = [] })) ≤ 1
number_bound k the_constant h = h
number_bound k (the_coefficient i) h = omega arith

less_bound : (a b : ℤ) (m : ℕ) → unsigned_abs a ≤ m → unsigned_abs b ≤ 1 → unsigned_abs (a +ℤ b) ≤ m + 1
less_bound a b m h k = omega (arith, ints, h, k)

below_bound : (a b : ℤ) (m : ℕ) → unsigned_abs a ≤ m → unsigned_abs b ≤ 1 → unsigned_abs ((a *ℤ negsuc 0) +ℤ b) ≤ m + 1
below_bound a b m h k = omega (arith, ints, h, k)

minus_bound : (a b : ℤ) (m n : ℕ) → unsigned_abs a ≤ m → unsigned_abs b ≤ n → unsigned_abs (a +ℤ (b *ℤ negsuc 0)) ≤ m
    + n
minus_bound a b m n h k = omega (arith, ints, h, k)

tight_less : (e : RowExpr) → ((part : Part) → unsigned_abs (parts_of e part) ≤ 2 ^ 50) → IsTightRow (one_less e)
tight_less e h part =
    let one : unsigned_abs (part_of part (record { constant = negsuc 0; coefs = [] })) ≤ 1 =
    number_bound (negsuc 0) part (omega arith) in
    omega (
      arith,
      less_bound (parts_of e part) (part_of part (record { constant = negsuc 0; coefs = [] })) (2 ^ 50) (h part) one,
    )

tight_below : (e : RowExpr) → ((part : Part) → unsigned_abs (parts_of e part) ≤ 2 ^ 50) → IsTightRow (below_zero e)
tight_below e h part =
    let one : unsigned_abs (part_of part (record { constant = negsuc 0; coefs = [] })) ≤ 1 =
    number_bound (negsuc 0) part (omega arith) in
    omega (
      arith,
      below_bound (parts_of e part) (part_of part (record { constant = negsuc 0; coefs = [] })) (2 ^ 50)
          (h part) one,
    )

-- A place

place_bound : (place : List Form) (part : Part) (i : ℕ) → All (IsWithin (2 ^ 48)) place
    → unsigned_abs (row_part place part i) ≤ 2 ^ 48
place_bound [] part i h = omega arith
place_bound (f ∷ place) part zero h = part_of-le (2 ^ 48) f part (All-head (IsWithin (2 ^ 48)) f place h)
place_bound (f ∷ place) part (suc i) h = place_bound place part i (All-tail (IsWithin (2 ^ 48)) f place h)

three_bound : (a b c : ℤ) → unsigned_abs a ≤ 2 ^ 32 → unsigned_abs b ≤ 2 ^ 48 → unsigned_abs c ≤ 2 ^ 48
    → unsigned_abs ((a +ℤ b) -ℤ c) ≤ 2 ^ 32 + 2 ^ 48 + 2 ^ 48
three_bound a b c h k l = omega (arith, ints, h, k, l)

-- a form of the class at a place
placed_bound : (depth : ℕ) (form : Form) (place : List Form) (part : Part) → FormFits depth form → AreTrits form.coefs
    → length place ≡ depth → All (IsWithin (2 ^ 48)) place
    → unsigned_abs (parts_of (at_place form place) part) ≤ 2 ^ 49 + 2 ^ 33
placed_bound depth form place part fits trits deep within =
    let k : ℤ = part_of part (constant_form 0 form.constant) in
    let from : ℤ = row_part place part (node_of (pos 1) form.coefs) in
    let to : ℤ = row_part place part (node_of (negsuc 0) form.coefs) in
    let bound : unsigned_abs ((k +ℤ from) -ℤ to) ≤ 2 ^ 32 + 2 ^ 48 + 2 ^ 48
    = three_bound k from to (part_of-le (2 ^ 32) (constant_form 0 form.constant) part
    (number_within 0 form.constant (2 ^ 32) fits.within.constant))
    (place_bound place part (node_of (pos 1) form.coefs) within)
    (place_bound place part (node_of (negsuc 0) form.coefs) within) in
    subst (λ z. unsigned_abs z ≤ 2 ^ 49 + 2 ^ 33) (sym (difference_at 0 form place part (fits.over ∙ sym deep) trits))
    (omega (arith, bound))

-- The systems

-- the rows that each of them adds to the context
abbrev outside_rows : List Form → List Form → List (List RowExpr)
outside_rows rows place = map (λ row. below_zero (at_place row place) ∷ []) rows

abbrev single_rows : List RowExpr → List (List RowExpr)
single_rows rows = map (λ row. row ∷ []) rows

abbrev same_of : Occurrence → Occurrence → List Form → List (List RowExpr)
same_of r w place = cond (w.number == r.number) (same_rows (reader_place r) place ∷ []) []

abbrev pub head_rows : Occurrence → Occurrence → List Form → List (List RowExpr)
head_rows r w place =
    outside_rows w.statement.rows place
    ++ (single_rows (differ_rows w.access.subscripts r.access.subscripts place)
    ++ (before_rows r.number r.statement (reader_place r) w.number w.statement place ++ same_of r w place))

outside_are : (c : Context) (rows place : List Form) → map
    (λ row. with_rows c (below_zero (at_place row place) ∷ [])) rows ≡ map (with_rows c) (outside_rows rows place)
outside_are c [] place = refl
outside_are c (row ∷ rows) place =
    ap (λ more. with_rows c (below_zero (at_place row place) ∷ []) ∷ more) (outside_are c rows place)

single_are : (c : Context) (rows : List RowExpr) → map (λ row. with_rows c (row ∷ [])) rows
    ≡ map (with_rows c) (single_rows rows)
single_are c [] = refl
single_are c (row ∷ rows) = ap (λ more. with_rows c (row ∷ []) ∷ more) (single_are c rows)

same_are : (r w : Occurrence) (place : List Form) (c : Context) → same_systems r c w place
    ≡ map (with_rows c) (same_of r w place)
same_are r w place c = go (w.number == r.number) where
  go : (b : Bool) → cond b (with_rows c (same_rows (reader_place r) place) ∷ []) []
      ≡ map (with_rows c) (cond b (same_rows (reader_place r) place ∷ []) [])
  go true = refl
  go false = refl

pub heads_are : (o : ReadAndWrite) (place : List Form) (c : Context) → head_systems o place c
    ≡ map (with_rows c) (head_rows o.read o.write place)
heads_are o place c =
    let r : Occurrence = o.read in
    let w : Occurrence = o.write in
    let out : List (List RowExpr) = outside_rows w.statement.rows place in
    let cell : List (List RowExpr) = single_rows (differ_rows w.access.subscripts r.access.subscripts place) in
    let before : List (List RowExpr) = before_rows r.number r.statement (reader_place r) w.number w.statement place in
    ap (λ xs. xs ++ (cell_systems r c w place ++ after_systems r c w place)) (outside_are c w.statement.rows place)
    ∙ ap (λ xs. map (with_rows c) out ++ (xs ++ after_systems r c w place))
    (single_are c (differ_rows w.access.subscripts r.access.subscripts place))
    ∙ ap (λ xs. map (with_rows c) out ++ (map (with_rows c) cell ++ (map (with_rows c) before ++ xs)))
    (same_are r w place c)
    ∙ ap (λ xs. map (with_rows c) out ++ (map (with_rows c) cell ++ xs))
    (sym (map-append (with_rows c) before (same_of r w place)))
    ∙ ap (λ xs. map (with_rows c) out ++ xs) (sym (map-append (with_rows c) cell (before ++ same_of r w place)))
    ∙ sym (map-append (with_rows c) out (cell ++ (before ++ same_of r w place)))

-- their parts are small
outside_tight : (depth : ℕ) (rows place : List Form) → list_all (form_fits depth) rows ≡ true
    → list_all is_difference rows ≡ true → length place ≡ depth → All (IsWithin (2 ^ 48)) place
    → AreTight 13 (outside_rows rows place)
outside_tight depth [] place f d deep within = tt
outside_tight depth (row ∷ rows) place f d deep within =
    let b = and_parts (form_fits depth row) (list_all (form_fits depth) rows) f in
    let e = and_parts (is_difference row) (list_all is_difference rows) d in (
      tight_one (below_zero (at_place row place))
          (tight_below (at_place row place) (λ part. omega (
            arith,
            placed_bound depth row place part (form_is depth row b.0)
                (differences_are row e.0) deep within,
          ))),
      outside_tight depth rows place b.1 e.1 deep within,
    )

cell_tight : (vars depth : ℕ) (writes reads place : List Form) → AreCells vars depth writes reads
    → length place ≡ depth → All (IsWithin (2 ^ 48)) place
    → AreTight 13 (single_rows (differ_rows writes reads place))
cell_tight vars depth [] reads place cells deep within = tt
cell_tight vars depth (write ∷ writes) [] place cells deep within = tt
cell_tight vars depth (write ∷ writes) (read ∷ reads) place (cell, cells) deep within =
    let at : (part : Part) → unsigned_abs (parts_of (at_place write place) part) ≤ 2 ^ 49 + 2 ^ 33
    = λ part. placed_bound depth write place part (form_is depth write cell.fits) (shifts_are write cell.shift).trits
    deep within in
    let of : (part : Part) → unsigned_abs (part_of part read) ≤ 2 ^ 33 =
    λ part. (let bound = part_of-le (2 ^ 33 - unsigned_abs write.constant) read part cell.within in
    omega (arith, bound)) in (
      tight_one (one_less (minus (at_place write place) (Take read)))
          (tight_less (minus (at_place write place) (Take read))
          (λ part. omega (
            arith,
            minus_bound (parts_of (at_place write place) part) (part_of part read)
                (2 ^ 49 + 2 ^ 33) (2 ^ 33) (at part) (of part),
          ))),
      (
        tight_one (one_less (minus (Take read) (at_place write place)))
            (tight_less (minus (Take read) (at_place write place))
            (λ part. omega (
              arith,
              minus_bound (part_of part read) (parts_of (at_place write place) part) (2 ^ 33)
                  (2 ^ 49 + 2 ^ 33) (of part) (at part),
            ))),
        cell_tight vars depth writes reads place cells deep within,
      ),
    )

abbrev AreSmallForms : List Form → Type 0
AreSmallForms [] = Unit {0}
AreSmallForms (f ∷ forms) = IsWithin (2 ^ 48) f × AreSmallForms forms

small_forms : (forms : List Form) → All (IsWithin (2 ^ 48)) forms → AreSmallForms forms
small_forms [] h = tt
small_forms (f ∷ forms) h =
    (All-head (IsWithin (2 ^ 48)) f forms h, small_forms forms (All-tail (IsWithin (2 ^ 48)) f forms h))

small_variables : (i d : ℕ) → AreSmallForms (variables i d)
small_variables i zero = tt
small_variables i (suc d) = (IsWithin-weaker 1 (2 ^ 48) _ (omega arith) (variable_within (i + 1) i), small_variables (i + 1) d)

gap_bound : (a b : Form) (part : Part) → IsWithin (2 ^ 48) a → IsWithin (2 ^ 48) b
    → unsigned_abs (parts_of (minus (Take a) (Take b)) part) ≤ 2 ^ 50
gap_bound a b part h k = omega (
  arith,
  minus_bound (part_of part a) (part_of part b) (2 ^ 48) (2 ^ 48)
      (part_of-le (2 ^ 48) a part h) (part_of-le (2 ^ 48) b part k),
)

tight_gap : (a b : Form) → IsWithin (2 ^ 48) a → IsWithin (2 ^ 48) b → IsTightRow (minus (Take a) (Take b))
tight_gap a b h k part = omega (arith, gap_bound a b part h k)

tight_pairs : (n : ℕ) (v w : Form) (levels : List (List RowExpr)) → IsWithin (2 ^ 48) v → IsWithin (2 ^ 48) w
    → AreTight n levels
    → AreTight (n + 2) (map (λ rows. equal_rows (Take v) (Take w) ++ rows) levels)
tight_pairs n v w [] h k t = tt
tight_pairs n v w (rows ∷ levels) h k t = (
  record { few = omega (arith, t.0.few); tight = (tight_gap v w h k, (tight_gap w v k h, t.0.tight)) },
  tight_pairs n v w levels h k t.1,
)

tight_wider : (m n : ℕ) (levels : List (List RowExpr)) → m ≤ n → AreTight m levels → AreTight n levels
tight_wider m n [] le t = tt
tight_wider m n (rows ∷ levels) le t =
    (record { few = omega (arith, t.0.few, le); tight = t.0.tight }, tight_wider m n levels le t.1)

orders_tight : (c : ℕ) (less : Bool) (a b : List Form) → AreSmallForms a → AreSmallForms b
    → AreTight (c + c + 1) (order_rows c less a b)
orders_tight zero true a b h k = (record { few = omega arith; tight = tt }, tt)
orders_tight zero false a b h k = tt
orders_tight (suc c) less [] b h k = tt
orders_tight (suc c) less (v ∷ a) [] h k = tt
orders_tight (suc c) less (v ∷ a) (w ∷ b) h k =
    let n : c + c + 1 + 2 ≡ suc c + suc c + 1 = omega arith in (
      record {
        few = omega arith;
        tight = (tight_less (minus (Take w) (Take v)) (λ part. gap_bound w v part k.0 h.0), tt);
      },
      subst (λ n. AreTight n (map (λ rows. equal_rows (Take v) (Take w) ++ rows) (order_rows c less a b))) n
          (tight_pairs (c + c + 1) v w (order_rows c less a b) h.0 k.0 (orders_tight c less a b h.1 k.1)),
    )

same_tight : (a b : List Form) → AreSmallForms a → AreSmallForms b → IsTight (length b + length b) (same_rows a b)
same_tight [] b h k = record { few = omega arith; tight = tt }
same_tight (v ∷ a) [] h k = record { few = omega arith; tight = tt }
same_tight (v ∷ a) (w ∷ b) h k =
    let rest : IsTight (length b + length b) (same_rows a b) = same_tight a b h.1 k.1 in
    record { few = omega (arith, rest.few); tight = (tight_gap v w h.0 k.0, (tight_gap w v k.0 h.0, rest.tight)) }

same_of_tight : (r w : Occurrence) (place : List Form) → length place ≤ 6 → AreSmallForms (reader_place r)
    → AreSmallForms place → AreTight 13 (same_of r w place)
same_of_tight r w place few h k = go (w.number == r.number) where
  go : (b : Bool) → AreTight 13 (cond b (same_rows (reader_place r) place ∷ []) [])
  go false = tt
  go true =
      let t : IsTight (length place + length place) (same_rows (reader_place r) place) =
      same_tight (reader_place r) place h k in
      (record { few = omega (arith, t.few, few); tight = t.tight }, tt)

common_few : (r w : Occurrence) → common_of r w ≤ length w.statement.loops
common_few r w = common_second r.statement.loops w.statement.loops

pub heads_tight : (vars : ℕ) (r w : Occurrence) (p : ℕ) (place : List Form) → IsProblem vars r w p
    → length place ≡ length w.statement.loops → All (IsWithin (2 ^ 48)) place → AreTight 13 (head_rows r w place)
heads_tight vars r w p place f deep within =
    let depth : ℕ = length w.statement.loops in
    let readers : AreSmallForms (reader_place r) = small_variables 0 (length r.statement.loops) in
    let few : length place ≤ 6 = omega (arith, deep, f.few_loops) in
    let least = common_few r w in
    tight_append 13 (outside_rows w.statement.rows place) _
    (outside_tight depth w.statement.rows place f.rows f.differences deep within)
    (tight_append 13 (single_rows (differ_rows w.access.subscripts r.access.subscripts place)) _
    (cell_tight vars depth w.access.subscripts r.access.subscripts place f.cells deep within)
    (tight_append 13 (before_rows r.number r.statement (reader_place r) w.number w.statement place)
    (same_of r w place)
    (tight_wider (common_of r w + common_of r w + 1) 13
    (before_rows r.number r.statement (reader_place r) w.number w.statement place)
    (omega (arith, least, f.few_loops))
    (orders_tight (common_of r w) (nat_lt r.number w.number) (reader_place r) place readers
    (small_forms place within)))
    (same_of_tight r w place few readers (small_forms place within))))

-- Made rows with small parts

made_tight : (vars : ℕ) (rows : List RowExpr) (forms : List Form) → row_forms vars rows ≡ Some forms → AreTightRows rows
    → AreMadeRows vars rows
made_tight vars [] forms e t =
    record { forms = []; are = refl; count = refl; over = refl; within = All-nil _; parts = λ k part. refl }
made_tight vars (d ∷ es) forms e t = go (made_tight vars es) (row_form vars d) (row_forms vars es) refl refl e where
  parts_at : (row : Form) (forms : List Form) (e : RowExpr) (es : List RowExpr)
      → ((part : Part) → part_of part row ≡ parts_of e part)
      → ((k : ℕ) (part : Part) → row_part forms part k ≡ option_map_or (λ e. parts_of e part) (slice_get es k) (pos 0))
      → (k : ℕ) (part : Part) → row_part (row ∷ forms) part k
      ≡ option_map_or (λ e. parts_of e part) (slice_get (e ∷ es) k) (pos 0)
  parts_at row forms e es own rest zero part = own part
  parts_at row forms e es own rest (suc k) part = rest k part

  go : ((forms : List Form) → row_forms vars es ≡ Some forms → AreTightRows es → AreMadeRows vars es)
      → (o : Option Form) (p : Option (List Form)) → row_form vars d ≡ o → row_forms vars es ≡ p
      → option_and_then (λ row. option_and_then (λ rest. Some (row ∷ rest)) p) o ≡ Some forms
      → AreMadeRows vars (d ∷ es)
  go later None p f g h = absurd (let k : None ≡ Some forms = h in cc)
  go later (Some row) None f g h = absurd (let k : None ≡ Some forms = h in cc)
  go later (Some row) (Some rest) f g h =
      let made = made_has_parts vars d row f in
      let others : AreMadeRows vars es = later rest g t.1 in
      record {
        forms = row ∷ others.forms;
        are = ap (option_and_then (λ row. option_and_then (λ rest. Some (row ∷ rest)) (row_forms vars es))) f
            ∙ ap (option_and_then (λ rest. Some (row ∷ rest))) others.are;
        count = ap suc others.count;
        over = and_from (length row.coefs == vars) (all_over vars others.forms)
            (eq-eqb (length row.coefs) vars made.0) others.over;
        within = All-cons (IsWithin (2 ^ 51)) row others.forms
            (IsWithin-from_parts (2 ^ 51) row (λ part. subst (λ z. unsigned_abs z ≤ 2 ^ 51) (sym (made.1 part)) (t.0 part)))
            others.within;
        parts = λ k part. parts_at row others.forms d es made.1 others.parts k part;
      }

-- the last rows of a system that was made
pub record AreSplit (vars : ℕ) (ys : List RowExpr) : Type 0 where
  pub forms : List Form
  pub are : row_forms vars ys ≡ Some forms

made_split : (vars : ℕ) (xs ys : List RowExpr) (forms : List Form) → row_forms vars (xs ++ ys) ≡ Some forms
    → AreSplit vars ys
made_split vars [] ys forms e = record { forms = forms; are = e }
made_split vars (x ∷ xs) ys forms e =
    go (made_split vars xs ys) (row_form vars x) (row_forms vars (xs ++ ys)) refl e where
      go : ((forms : List Form) → row_forms vars (xs ++ ys) ≡ Some forms → AreSplit vars ys)
          → (o : Option Form) (p : Option (List Form)) → row_forms vars (xs ++ ys) ≡ p
          → option_and_then (λ row. option_and_then (λ rest. Some (row ∷ rest)) p) o ≡ Some forms → AreSplit vars ys
      go later None p g h = absurd (let k : None ≡ Some forms = h in cc)
      go later (Some row) None g h = absurd (let k : None ≡ Some forms = h in cc)
      go later (Some row) (Some rest) g h = later rest g

-- Carried

module _ (r : Read) (context : System) (path : IsPathContext r.context.now.vars 0 context)
    (cand : Candidate) (h : IsCandidate r cand) (c : Context) (made : IsMadeAs context c)
    (node : Tree) (sums : List (List Term)) (o : IsNodeOver context cand node sums c.vars) (count : ℕ)
    (enough : 13 ≤ count) where
  abbrev own : Context
  own = record { vars = c.vars; rows = o.rows }

  abbrev placed : List (List Term)
  placed = sums ++ own_sums (length context.rows) count

  -- a row behind is shown by itself
  row_shown : (rows : List RowExpr) (m : AreMadeRows c.vars rows) (j : ℕ) → j < length m.forms → j < count
      → Shows c.vars (map (widened_form c.vars) context.rows ++ m.forms)
      (sum_in_place (own_sums (length context.rows) count) j) (λ part. row_part m.forms part j)
  row_shown rows m j inside lt =
      let wide : List Form = map (widened_form c.vars) context.rows in
      let long : length wide ≡ length context.rows = length-map context.rows (widened_form c.vars) in
      let row : ℕ = length context.rows + j in
      let part_is : (part : Part) → row_part (wide ++ m.forms) part row ≡ row_part m.forms part j
      = λ part. ap (λ o. option_map_or (part_of part) o (pos 0))
      (ap (λ n. slice_get (wide ++ m.forms) (n + j)) (sym long) ∙ slice_get-append_right wide m.forms j) in
      subst (λ ts. Shows c.vars (wide ++ m.forms) ts (λ part. row_part m.forms part j))
      (sym (own_at (length context.rows) count j lt))
      ((combines c.vars (wide ++ m.forms)).weaker (term_of row ∷ []) (λ part. row_part (wide ++ m.forms) part row)
      (λ part. row_part m.forms part j)
      ((combines c.vars (wide ++ m.forms)).own row (omega (arith, length-append wide m.forms, long, inside)))
      (omega (arith, ints, part_is the_constant)) (λ i l. part_is (the_coefficient i)))

  one_carried : (rows : List RowExpr) (ts : List Term) → IsTight 13 rows → weight ts ≤ 2 ^ 48
      → IsRefuted (with_rows own rows) (Sum ts)
      → IsRefuted (with_rows c rows) (Sum (carried_terms (sum_in_place placed) ts))
  one_carried rows ts tight light refuted =
      let split : AreSplit c.vars rows = made_split c.vars o.rows rows refuted.rows refuted.are_made in
      let m : AreMadeRows c.vars rows = made_tight c.vars rows split.forms split.are tight.tight in
      let systems : AreSystems c.vars c.vars o.rows c.rows rows rows o.made context.rows m.forms m.forms
      = record {
        wider = omega arith;
        own_made = o.are_made;
        joined_made = made.rows;
        extra_made = m.are;
        further_made = m.are;
        made_over = AreOver-row_forms c.vars o.rows o.made o.are_made;
        rows_over = context_over r context 0 path cand h c made.vars made.rows;
        back_over = m.over;
        behind_over = m.over;
        rows_within = context_within r context 0 path cand h c made.vars made.rows;
        behind_within = m.within;
      } in
      carried_node c.vars c.vars o.rows c.rows rows rows o.made context.rows m.forms m.forms systems context
      (sym made.vars) refl sums (own_sums (length context.rows) count) o.shown
      (light_own (2 ^ 26) (length context.rows) count (omega arith))
      (λ j inside. row_shown rows m j inside (omega (arith, inside, m.count, tight.few, enough))) ts light refuted

  pub heads_carried : (rows : List (List RowExpr)) (ps qs : List Proof) → AreTight 13 rows
      → AreRefuted (map (with_rows own) rows) ps → AllZip (IsCarried placed) ps qs → All IsLightSum ps
      → AreRefuted (map (with_rows c) rows) qs
  heads_carried [] [] [] t k z l = tt
  heads_carried [] [] (q ∷ qs) t k z l = absurd z
  heads_carried [] (p ∷ ps) qs t k z l = absurd k
  heads_carried (row ∷ rows) [] qs t k z l = absurd k
  heads_carried (row ∷ rows) (p ∷ ps) [] t k z l = absurd z
  heads_carried (row ∷ rows) (p ∷ ps) (q ∷ qs) t k z l =
      let s : IsLightSum p = All-head IsLightSum p ps l in (
        subst (IsRefuted (with_rows c row)) (sym (z.0 s.0 s.1))
            (one_carried row s.0 t.0 s.2 (subst (IsRefuted (with_rows own row)) s.1 k.0)),
        heads_carried rows ps qs t.1 k.1 z.1 (All-tail IsLightSum p ps l),
      )
