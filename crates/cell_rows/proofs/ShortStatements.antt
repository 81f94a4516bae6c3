-- The statements of a nest have few reads, and accesses with few subscripts.
use Rattle.std.proofs.Common.{◌≡◌, ◌<◌, ℕ, zero, suc, List, [], ◌∷◌, length, get_or, refl, sym, ap, ◌∙◌, arith}
use Rattle.std.specs.Prelude.{true, false, ◌==◌, IsTrue, Option, Some, None, nat_le, slice_get}
use Rattle.std.specs.List.{list_all}
use Rattle.std.specs.Option.{option_map_or}
use Rattle.std.proofs.lemmas.Bool.{and_parts, and_from, eqb-true, false≢true}
use Rattle.std.proofs.lemmas.Option.{get_or_from_slice_get, slice_get_within}
use Rattle.wrap_expr.specs.Value.{uses_only}
use Rattle.sanlp.specs.declared.nest.Access.{Access}
use Rattle.sanlp.specs.declared.nest.ArrayDecl.{ArrayDecl}
use Rattle.sanlp.specs.declared.nest.Nest.{Nest}
use Rattle.sanlp.specs.declared.nest.Statement.{Statement}
use Rattle.sanlp.specs.WellFormed.{access_fits, assigns, depth_of, form_fits, statement_fits}
use Rattle.cell_rows.specs.ShortAccesses.{access_short, statement_short}

module _ (arrays : List ArrayDecl) (few : IsTrue (list_all (λ array. nat_le (length array.extents) 6) arrays)) where
  few_at : (declared : List ArrayDecl) → IsTrue (list_all (λ array. nat_le (length array.extents) 6) declared)
      → (i n : ℕ)
      → option_map_or (λ array. n == length array.extents) (slice_get declared i) false ≡ true → nat_le n 6 ≡ true
  few_at [] h i n e = absurd (false≢true e)
  few_at (array ∷ declared) h zero n e =
      ap (λ k. nat_le k 6) (eqb-true n (length array.extents) e) ∙ (and_parts _ _ h).0
  few_at (array ∷ declared) h (suc i) n e = few_at declared (and_parts _ _ h).1 i n e

  short : (depth : ℕ) (access : Access) → access_fits arrays depth access ≡ true → access_short depth access ≡ true
  short depth access h =
      let tests =
      and_parts (option_map_or (λ array. length access.subscripts == length array.extents)
      (slice_get arrays access.array) false) (list_all (form_fits depth) access.subscripts) h in
      and_from _ _ (few_at arrays few access.array (length access.subscripts) tests.0) tests.1

  all_short : (depth : ℕ) (accesses : List Access) → list_all (access_fits arrays depth) accesses ≡ true
      → list_all (access_short depth) accesses ≡ true
  all_short depth [] h = refl
  all_short depth (access ∷ accesses) h =
      let tests = and_parts (access_fits arrays depth access) (list_all (access_fits arrays depth) accesses) h in
      and_from _ _ (short depth access tests.0) (all_short depth accesses tests.1)

  write_short : (depth : ℕ) (write : Option Access) → option_map_or (access_fits arrays depth) write true ≡ true
      → option_map_or (access_short depth) write true ≡ true
  write_short depth None h = refl
  write_short depth (Some access) h = short depth access h

  pub short_statement : (s : Statement) → IsTrue (statement_fits arrays s) → statement_short (depth_of s) s ≡ true
  short_statement s h =
      let used = and_parts _ (assigns s.role s) h in
      let expr = and_parts _ (uses_only (depth_of s) (length s.reads) s.expr) used.0 in
      let reads = and_parts _ (list_all (access_fits arrays (depth_of s)) s.reads) expr.0 in
      let write = and_parts _ (option_map_or (access_fits arrays (depth_of s)) s.write true) reads.0 in
      let rows = and_parts _ (list_all (form_fits (depth_of s)) s.rows) write.0 in
      let numbers = and_parts _ (nat_le (length s.rows) 32) rows.0 in
      let slots = and_parts (nat_le (depth_of s) 6) (nat_le (length s.reads) 8) numbers.0 in
      and_from _ _
      (and_from _ _ (and_from _ _ slots.1 (all_short (depth_of s) s.reads reads.1))
      (write_short (depth_of s) s.write write.1)) expr.1

all_fit : (arrays : List ArrayDecl) (statements : List Statement) (i : ℕ) (s : Statement)
    → IsTrue (list_all (statement_fits arrays) statements) → i < length statements → s ≡ get_or statements i s
    → IsTrue (statement_fits arrays s)
all_fit arrays [] i s h lt e = absurd (omega arith)
all_fit arrays (first ∷ statements) zero s h lt e =
    ap (statement_fits arrays) e
    ∙ (and_parts (statement_fits arrays first) (list_all (statement_fits arrays) statements) h).0
all_fit arrays (first ∷ statements) (suc i) s h lt e =
    all_fit arrays statements i s
    (and_parts (statement_fits arrays first) (list_all (statement_fits arrays) statements) h).1 (omega arith) e

-- each statement of a nest
pub statement_is_short : (n : Nest) (statements : List Statement) (i : ℕ) (s : Statement)
    → statements ≡ n.statements → i < length statements → s ≡ get_or statements i s
    → statement_short (depth_of s) s ≡ true
statement_is_short n statements i s same lt e =
    short_statement n.arrays n.well_formed.few_extents s
    (all_fit n.arrays statements i s (ap (list_all (statement_fits n.arrays)) same ∙ n.well_formed.statements_fit) lt e)

pub found_is_short : (n : Nest) (i : ℕ) (s : Statement) → slice_get n.statements i ≡ Some s
    → statement_short (depth_of s) s ≡ true
found_is_short n i s found =
    statement_is_short n n.statements i s refl (slice_get_within n.statements i s found)
    (sym (get_or_from_slice_get n.statements i s s found))

pub short_write : (depth : ℕ) (s : Statement) → statement_short depth s ≡ true
    → option_map_or (access_short depth) s.write true ≡ true
short_write depth s h =
    let used = and_parts _ (uses_only depth (length s.reads) s.expr) h in
    (and_parts _ (option_map_or (access_short depth) s.write true) used.0).1

pub short_reads : (depth : ℕ) (s : Statement) → statement_short depth s ≡ true
    → list_all (access_short depth) s.reads ≡ true
short_reads depth s h =
    let used = and_parts _ (uses_only depth (length s.reads) s.expr) h in
    let write = and_parts _ (option_map_or (access_short depth) s.write true) used.0 in
    (and_parts (nat_le (length s.reads) 8) (list_all (access_short depth) s.reads) write.0).1
