-- Numbers of a nest's statements, reads and points, for the crates above.
use Rattle.std.proofs.Common.{◌≡◌, ◌≤◌, ℕ, suc, ◌+◌, List, [], ◌∷◌, length, true, false, cond, refl, arith}
use Rattle.std.specs.Prelude.{◌==◌, IsTrue, Option, Some, None, slice_get}
use Rattle.std.specs.Option.{option_map_or}
use Rattle.std.proofs.lemmas.Bool.{leb-true}
use Rattle.std.proofs.lemmas.List.FromFn.{length-map-range_with_len}
use Rattle.sanlp.specs.declared.nest.ArrayDecl.{ArrayDecl}
use Rattle.sanlp.specs.declared.nest.Nest.{Nest}
use Rattle.sanlp.specs.declared.nest.Point.{Point}
use Rattle.sanlp.specs.declared.nest.Statement.{Statement}
use Rattle.sanlp.specs.Access.{read_count}
use Rattle.sanlp.specs.Laws.{entries_from}
use Rattle.sanlp.specs.Points.{points_of, vectors_of}
use Rattle.sanlp.specs.Size.{size}
use Rattle.sanlp.specs.Trace.{trace}
use Rattle.sanlp.specs.WellFormed.{statement_fits}
use Rattle.sanlp.proofs.Elements.{list_all_at}
use Rattle.sanlp.proofs.Roles.{fits_of}

pub few_statements : (n : Nest) → length n.statements ≤ 64
few_statements n = n.well_formed.few_statements

pub few_reads : (arrays : List ArrayDecl) (s : Statement) → IsTrue (statement_fits arrays s) → length s.reads ≤ 8
few_reads arrays s h = leb-true (length s.reads) 8 (fits_of arrays s h).few_reads

pub few_read_count : (n : Nest) (p : ℕ) → read_count n p ≤ 8
few_read_count n p = of_statement (slice_get n.statements p) refl where
  of_statement : (o : Option Statement) → slice_get n.statements p ≡ o → option_map_or (λ s. length s.reads) o 0 ≤ 8
  of_statement None is = omega arith
  of_statement (Some s) is =
      few_reads n.arrays s (list_all_at (statement_fits n.arrays) n.statements p s n.well_formed.statements_fit is)

-- one list of points for each statement
pub points_length : (n : Nest) → length (points_of n) ≡ length n.statements
unfolding points_of
points_length n = length-map-range_with_len (vectors_of (trace n)) 0 (length n.statements)

-- a statement has no more entries than there are
pub few_entries : (t : ℕ) (points : List Point) (s : ℕ) → length (entries_from t points s) ≤ length points
few_entries t [] s = omega arith
few_entries t (p ∷ points) s =
    elim (p.statement == s) as
    (λ b. length (cond b (t ∷ entries_from (t + 1) points s) (entries_from (t + 1) points s)) ≤ suc (length points))
    [ true ↦ omega (arith, few_entries (t + 1) points s) | false ↦ omega (arith, few_entries (t + 1) points s) ]

pub trace_within : (n : Nest) → length (trace n) ≤ size n
unfolding size
trace_within n = omega arith
