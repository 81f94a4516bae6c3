use Rattle.std.proofs.Common.{ℕ, length, sym, ap, ◌∙◌, subst}
use Rattle.std.specs.Prelude.{IsTrue}
use Rattle.cell_rows.specs.ShortAccesses.{statement_short}
use Rattle.cell_rows.proofs.ShortStatements.{short_statement}
use Rattle.loop_run.proofs.StatementPlaces.{depth_is}
use Rattle.loop_run.proofs.execute.execute_point.Goals as goal

pub execute_statement-requires-clause-short : goal.execute_statement-requires-clause-short
execute_statement-requires-clause-short c =
    let n = c.args.nest.now in
    let s = c.statement-found.result.now in
    let depth =
    depth_is n.statements (length c.args.at.now) c.args.statement s c.requires.depth c.statement-found.ensures.value in
    subst (λ (depth : ℕ). IsTrue (statement_short depth s)) (depth ∙ sym (ap length c.as_slice-values.ensures.value))
    (short_statement n.arrays n.well_formed.few_extents s c.statement-found.ensures.fits)
