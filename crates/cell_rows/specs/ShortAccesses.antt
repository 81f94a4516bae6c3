-- Accesses with few subscripts and statements with few reads, whose forms fit the loops round them.
use Rattle.std.specs.Prelude.{ℕ, Bool, true, ◌&&◌, length, nat_le}
use Rattle.std.specs.List.{list_all}
use Rattle.std.specs.Option.{option_map_or}
use Rattle.wrap_expr.specs.Value.{uses_only}
use Rattle.sanlp.specs.declared.nest.Access.{Access}
use Rattle.sanlp.specs.declared.nest.Statement.{Statement}
use Rattle.sanlp.specs.WellFormed.{form_fits}

-- an access with at most 6 subscripts over the loops round it
abbrev pub access_short : ℕ → Access → Bool
access_short depth access =
    nat_le (length access.subscripts) 6 && list_all (form_fits depth) access.subscripts

-- a statement with at most 8 reads, and accesses and an expression over the loops round it
abbrev pub statement_short : ℕ → Statement → Bool
statement_short depth s =
    nat_le (length s.reads) 8 && list_all (access_short depth) s.reads
    && option_map_or (access_short depth) s.write true
    && uses_only depth (length s.reads) s.expr
