use Rattle.std.proofs.Common.{ℕ, ap, ◌∙◌}
use Rattle.std.specs.Prelude.{true}
use Rattle.std.specs.List.{list_all}
use Rattle.std.specs.Option.{option_map_or}
use Rattle.sanlp.specs.WellFormed.{depth_of}
use Rattle.cell_rows.specs.ShortAccesses.{access_short}
use Rattle.cell_rows.proofs.ShortStatements.{statement_is_short, short_write, short_reads}
use Rattle.cell_rows.proofs.narrow_access.narrow_statements.Goals as goal

pub narrow_statement-requires-clause-write : goal.narrow_statement-requires-clause-write
narrow_statement-requires-clause-write c =
    let n = c.args.nest.now in
    let s = c.statement-item.result in
    ap (λ (depth : ℕ). option_map_or (access_short depth) s.write true) c.len-depth.ensures
    ∙ short_write (depth_of s) s (statement_is_short n c.as_slice-statement-items.result.now
    c.loop-statement.statement-index s c.as_slice-statement-items.ensures c.loop-statement-test.true
    c.statement-item.is)

pub narrow_statement-requires-clause-reads : goal.narrow_statement-requires-clause-reads
narrow_statement-requires-clause-reads c =
    let n = c.args.nest.now in
    let s = c.statement-item.result in
    ap (λ (depth : ℕ). list_all (access_short depth) s.reads) c.len-depth.ensures
    ∙ short_reads (depth_of s) s (statement_is_short n c.as_slice-statement-items.result.now
    c.loop-statement.statement-index s c.as_slice-statement-items.ensures c.loop-statement-test.true
    c.statement-item.is)
