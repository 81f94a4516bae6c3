-- A leaf has few systems.
--
-- An order has a level for each common loop and at most one more, so at most seven, where one of its statements has at
-- most six loops; with a further order that is forty-nine systems for each writer. A nest has at most 64 statements, of
-- at most 32 rows and six subscripts each. So the number of a leaf's systems is far below 2^64, and the count of the
-- tests, which stops there, is that number. How many there are isn't said, and is never asked.
use Rattle.std.proofs.Common.{◌≡◌, ◌+◌, ◌*◌, ◌^◌, ◌≤◌, ◌<◌, ◌==◌, ℕ, zero, suc, List, [], ◌∷◌, ◌++◌, length, map, Bool}
use Rattle.std.proofs.Common.{true, false, cond, refl, sym, subst, arith, length-append}
use Rattle.std.specs.Prelude.{Option, Some, None, IsTrue, nat_le, nat_lt}
use Rattle.std.specs.List.{flat_map, list_all}
use Rattle.std.proofs.Math.Nat.{mul-le-mul_left}
use Rattle.std.proofs.lemmas.Bool.{and_parts, leb-true, and_from}
use Rattle.std.proofs.lemmas.List.{length-map}
use Rattle.affine_core.specs.declared.form.Form.{Form}
use Rattle.sanlp.specs.declared.nest.ArrayDecl.{ArrayDecl}
use Rattle.sanlp.specs.declared.nest.Nest.{Nest}
use Rattle.sanlp.specs.declared.nest.Statement.{Statement}
use Rattle.sanlp.specs.Order.{common_loops}
use Rattle.sanlp.specs.WellFormed.{depth_of, statement_fits}
use Rattle.sanlp.proofs.Elements.{list_all_at}
use Rattle.sanlp.proofs.Roles.{fits_of}
use Rattle.source_check.proofs.Levels.{both_orders}
use Rattle.source_check.proofs.Readers.{named_parts, statement_fits_at, subscripts_of, write_fits_at, write_to_parts}
use Rattle.source_tree.specs.Places.{at_place, before_rows, differ_rows, order_rows, same_rows}
use Rattle.source_tree.specs.Rows.{RowExpr, Take, below_zero, equal_rows}
use Rattle.source_tree.specs.Systems.{Occurrence, Context, every, named_write, write_to, with_write, writes_from}
use Rattle.source_tree.specs.Systems.{with_rows, with_write_at, writer_place, reader_place, write_systems, zero_systems}
use Rattle.source_tree.specs.Systems.{outside_systems, cell_systems, same_systems, after_systems, between_systems}
use Rattle.source_tree.specs.Systems.{writer_systems}

few_levels : (m : ℕ) (less : Bool) (a b : List Form) → length (order_rows m less a b) ≤ m + 1
few_levels zero true a b = omega arith
few_levels zero false a b = omega arith
few_levels (suc m) less [] b = omega arith
few_levels (suc m) less (v ∷ a) [] = omega arith
few_levels (suc m) less (v ∷ a) (w ∷ b) =
    omega (
      arith,
      few_levels m less a b,
      length-map (order_rows m less a b) (λ rows. equal_rows (Take v) (Take w) ++ rows),
    )

few_common : (ks ls : List ℕ) → (common_loops ks ls ≤ length ks) × (common_loops ks ls ≤ length ls)
few_common [] ls = (omega arith, omega arith)
few_common (k ∷ ks) [] = (omega arith, omega arith)
few_common (k ∷ ks) (l ∷ ls) = go (k == l) (few_common ks ls) where
  go : (b : Bool) → (common_loops ks ls ≤ length ks) × (common_loops ks ls ≤ length ls)
      → (cond b (suc (common_loops ks ls)) 0 ≤ suc (length ks))
      × (cond b (suc (common_loops ks ls)) 0 ≤ suc (length ls))
  go true h = (omega (arith, h.0), omega (arith, h.1))
  go false h = (omega arith, omega arith)

-- at most seven levels where one of the statements has at most six loops
few_before : (u : ℕ) (su : Statement) (a : List Form) (s : ℕ) (ss : Statement) (b : List Form) → length su.loops ≤ 6
    → length (before_rows u su a s ss b) ≤ 7
few_before u su a s ss b h =
    omega (arith, few_levels (common_loops su.loops ss.loops) (nat_lt u s) a b, (few_common su.loops ss.loops).0)

few_after : (u : ℕ) (su : Statement) (a : List Form) (s : ℕ) (ss : Statement) (b : List Form) → length ss.loops ≤ 6
    → length (before_rows u su a s ss b) ≤ 7
few_after u su a s ss b h =
    omega (arith, few_levels (common_loops su.loops ss.loops) (nat_lt u s) a b, (few_common su.loops ss.loops).1)

length_both : (c : Context) (ps qs : List (List RowExpr)) → length (both_orders c ps qs) ≡ length qs * length ps
length_both c [] qs = omega arith
length_both c (p ∷ ps) qs =
    omega (
      arith,
      length-append (map (λ q. with_rows c (p ++ q)) qs) (both_orders c ps qs),
      length-map qs (λ q. with_rows c (p ++ q)),
      length_both c ps qs,
    )

seven_seven : (m n : ℕ) → m ≤ 7 → n ≤ 7 → m * n ≤ 49
seven_seven m n h k = omega (arith, mul-le-mul_left m k)

module _ (r : Occurrence) (c : Context) (further : Occurrence → List (List RowExpr))
    (few : (u : Occurrence) → length u.statement.loops ≤ 6 → length (further u) ≤ 7) where
  few_write : (u : Occurrence) → length u.statement.loops ≤ 6 → length (write_systems r every c further u) ≤ 49
  few_write u h =
      let ps : List (List RowExpr) =
      before_rows u.number u.statement (writer_place c u) r.number r.statement (reader_place r) in
      omega (
        arith,
        length_both (with_write_at r c u) ps (further u),
        seven_seven (length (further u)) (length ps) (few u h)
            (few_before u.number u.statement (writer_place c u) r.number r.statement (reader_place r) h),
      )

  few_writes : (array number : ℕ) (statements : List Statement)
      → IsTrue (list_all (λ (s : Statement). nat_le (length s.loops) 6) statements)
      → length (flat_map (write_systems r every c further)
      (writes_from array number statements)) ≤ 49 * length statements
  few_writes array number [] h = omega arith
  few_writes array number (s ∷ statements) h =
      let b = and_parts (nat_le (length s.loops) 6)
      (list_all (λ (s : Statement). nat_le (length s.loops) 6) statements) h in
      one (write_to array number s) refl (leb-true (length s.loops) 6 b.0)
      (few_writes array (number + 1) statements b.1) where
        one : (o : Option Occurrence) → write_to array number s ≡ o → length s.loops ≤ 6
            → length (flat_map (write_systems r every c further)
            (writes_from array (number + 1) statements)) ≤ 49 * length statements
            → length (flat_map (write_systems r every c further)
            (with_write o (writes_from array (number + 1) statements))) ≤ 49 * suc (length statements)
        one None is short more = omega arith
        one (Some u) is short more =
            let here : length u.statement.loops ≤ 6
            = write_to_parts array number s u is
            (λ n statement w a. subst (λ (s : Statement). length s.loops ≤ 6) (sym statement) short) in
            omega (
              arith,
              more,
              few_write u here,
              length-append (write_systems r every c further u)
                  (flat_map (write_systems r every c further) (writes_from array (number + 1) statements)),
            )

-- the statements of a nest have few loops
pub short_statements : (n : Nest) → IsTrue (list_all (λ (s : Statement). nat_le (length s.loops) 6) n.statements)
short_statements n = go n.statements n.well_formed.statements_fit where
  go : (statements : List Statement) → IsTrue (list_all (statement_fits n.arrays) statements)
      → IsTrue (list_all (λ (s : Statement). nat_le (length s.loops) 6) statements)
  go [] h = refl
  go (s ∷ statements) h =
      let b = and_parts (statement_fits n.arrays s) (list_all (statement_fits n.arrays) statements) h in
      and_from (nat_le (length s.loops) 6) (list_all (λ (s : Statement). nat_le (length s.loops) 6) statements)
      (fits_of n.arrays s b.0).few_loops (go statements b.1)

pub zero_few : (n : Nest) (r : Occurrence) (c : Context) → length (zero_systems n r every c) < 2 ^ 64
zero_few n r c =
    omega (
      arith,
      few_writes r c (λ u. [] ∷ []) (λ u h. omega arith) r.access.array 0 n.statements (short_statements n),
      n.well_formed.few_statements,
    )

few_differ : (writes reads place : List Form) → length (differ_rows writes reads place) ≤ 2 * length writes
few_differ [] reads place = omega arith
few_differ (w ∷ writes) [] place = omega arith
few_differ (w ∷ writes) (x ∷ reads) place = omega (arith, few_differ writes reads place)

few_same : (r : Occurrence) (c : Context) (w : Occurrence) (place : List Form) → length (same_systems r c w place) ≤ 1
few_same r c w place = go (w.number == r.number) where
  go : (b : Bool) → length (cond b (with_rows c (same_rows (reader_place r) place) ∷ []) []) ≤ 1
  go true = omega arith
  go false = omega arith

pub writer_few : (n : Nest) (r w : Occurrence) (number : ℕ) (c : Context) (place : List Form)
    → named_write n r number ≡ Some w
    → length (writer_systems n r every c w place) < 2 ^ 64
writer_few n r w number c place is =
    named_parts n r number w is
    (λ same found writes array.
    let fits = fits_of n.arrays w.statement (statement_fits_at n w.number w.statement found) in
    let short : length w.statement.loops ≤ 6 = leb-true (length w.statement.loops) 6 fits.few_loops in
    let rows : length w.statement.rows ≤ 32 = leb-true (length w.statement.rows) 32 fits.few_rows in
    let subscripts : length w.access.subscripts ≤ 6
    = subscripts_of n.arrays (depth_of w.statement) w.access
    (write_fits_at n w.number w.statement w.access found writes)
    (λ array is many over.
    let few : length array.extents ≤ 6 =
    leb-true (length array.extents) 6
    (list_all_at
    (λ (array : ArrayDecl).
    nat_le (length array.extents) 6) n.arrays w.access.array array n.well_formed.few_extents is) in
    omega arith) in
    let outside = outside_systems c w place in
    let cell = cell_systems r c w place in
    let levels = before_rows r.number r.statement (reader_place r) w.number w.statement place in
    let between = between_systems n r every c w place in
    omega (
      arith,
      rows,
      subscripts,
      n.well_formed.few_statements,
      length-append outside (cell ++ (after_systems r c w place ++ between)),
      length-append cell (after_systems r c w place ++ between),
      length-append (after_systems r c w place) between,
      length-append (map (with_rows c) levels) (same_systems r c w place),
      length-map levels (with_rows c),
      few_after r.number r.statement (reader_place r) w.number w.statement place short,
      few_same r c w place,
      length-map w.statement.rows (λ row. with_rows c (below_zero (at_place row place) ∷ [])),
      length-map (differ_rows w.access.subscripts r.access.subscripts place) (λ row. with_rows c (row ∷ [])),
      few_differ w.access.subscripts r.access.subscripts place,
      few_writes r c (λ u. before_rows w.number w.statement place u.number u.statement (writer_place c u))
          (λ u h. few_after w.number w.statement place u.number u.statement
          (writer_place c u) h) r.access.array 0 n.statements (short_statements n),
    ))
