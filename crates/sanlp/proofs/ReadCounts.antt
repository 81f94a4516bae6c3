-- How many reads a statement has, and that each entry of the trace is of a statement, also the next one of those left.
use Rattle.std.proofs.Common.{◌≡◌, ◌<◌, ◌-◌, ℕ, Some, List, ◌∷◌, length, drop, slice_get, ap}
use Rattle.std.specs.Option.{option_map_or}
use Rattle.std.proofs.lemmas.Option.{slice_get_within}
use Rattle.plain_data.proofs.Lists.{left-first}
use Rattle.sanlp.specs.declared.nest.Nest.{Nest}
use Rattle.sanlp.specs.declared.nest.Point.{Point}
use Rattle.sanlp.specs.declared.nest.Statement.{Statement}
use Rattle.sanlp.specs.Access.{read_count}
use Rattle.sanlp.specs.Trace.{trace}
use Rattle.sanlp.proofs.Enumerates.{enumerates_domains}

pub read_count-some : (n : Nest) (s : ℕ) (statement : Statement) → slice_get n.statements s ≡ Some statement
    → read_count n s ≡ length statement.reads
read_count-some n s statement is = ap (λ o. option_map_or (λ (s : Statement). length s.reads) o 0) is

pub trace-statement : (n : Nest) (t : ℕ) (p : Point) → slice_get (trace n) t ≡ Some p
    → p.statement < length n.statements
trace-statement n t p is =
    let point = (enumerates_domains n).entry t p is in
    slice_get_within n.statements p.statement point.statement point.found

-- the next entry of the trace, of which some is left
pub trace-next_statement : (n : Nest) (left later : List Point) (p : Point)
    → drop (length (trace n) - length left) (trace n) ≡ left → left ≡ p ∷ later → p.statement < length n.statements
trace-next_statement n left later p is first =
    trace-statement n (length (trace n) - length left) p (left-first (trace n) left later p is first)
