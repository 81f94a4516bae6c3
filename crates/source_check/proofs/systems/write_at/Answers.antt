use Rattle.std.proofs.Common.{◌≡◌, ◌++◌, ap, sym, subst, ◌∙◌}
use Rattle.std.proofs.lemmas.Result.{IfOk-weaker}
use Rattle.source_check.specs.Making.{IsMadeOver, forms_of, system_with_all}
use Rattle.source_check.specs.Paths.{path_rows}
use Rattle.source_check.specs.Verdict.{made_system}
use Rattle.source_check.proofs.LeafSystems.{write_at_is}
use Rattle.source_check.proofs.SystemRows.{system_all_over, system_over}
use Rattle.source_tree.specs.Places.{cell_rows, domain_rows}
use Rattle.source_check.proofs.systems.write_at.Goals as goal

pub with_cell-requires : goal.with_cell-requires
with_cell-requires c =
    subst (IsMadeOver c.args.space.now.vars) (sym c.in_ok-system-2.ensures)
    (system_all_over c.args.space.now.vars c.in_ok-system.system
    (domain_rows c.as_slice-2.result.now c.args.point.now) c.in_ok-system.ensures.over)

pub returns-clause-value : goal.returns-clause-value
returns-clause-value c =
    let rows : c.as_slice.result.now ≡ c.args.reader.now.statement.now.rows = c.as_slice.ensures in
    let first : c.in_ok-system.system
    ≡ made_system c.args.space.now.vars (path_rows c.args.reader.now.statement.now.rows c.args.path.now)
    = c.in_ok-system.ensures.value
    ∙ ap (λ rows. made_system c.args.space.now.vars (path_rows rows c.args.path.now)) rows in
    let second : c.in_ok-system-2.system
    ≡ system_with_all c.in_ok-system.system
    (forms_of c.args.space.now.vars (domain_rows c.args.writer.now.statement.now.rows c.args.point.now))
    = c.in_ok-system-2.ensures
    ∙ ap (λ rows.
    system_with_all c.in_ok-system.system
    (forms_of c.args.space.now.vars (domain_rows rows c.args.point.now))) c.as_slice-2.ensures in
    IfOk-weaker c.with_cell.result _ _
    (λ system is.
    write_at_is c.args.space.now.vars (path_rows c.args.reader.now.statement.now.rows c.args.path.now)
    (domain_rows c.args.writer.now.statement.now.rows c.args.point.now)
    (cell_rows c.args.writer.now.access.now.subscripts c.args.reader.now.access.now.subscripts c.args.point.now)
    c.in_ok-system.system c.in_ok-system-2.system system first second
    (is ∙ ap (λ writes.
    system_with_all c.in_ok-system-2.system
    (forms_of c.args.space.now.vars
    (cell_rows writes c.as_slice-4.result.now c.args.point.now))) c.as_slice-3.ensures
    ∙ ap (λ reads.
    system_with_all c.in_ok-system-2.system
    (forms_of c.args.space.now.vars
    (cell_rows c.args.writer.now.access.now.subscripts reads c.args.point.now))) c.as_slice-4.ensures))
    c.with_cell.ensures

pub returns-clause-over : goal.returns-clause-over
returns-clause-over c =
    IfOk-weaker c.with_cell.result _ _
    (λ system is. system_over c.args.space.now.vars
    (path_rows c.args.reader.now.statement.now.rows c.args.path.now
    ++ (domain_rows c.args.writer.now.statement.now.rows c.args.point.now
    ++ cell_rows c.args.writer.now.access.now.subscripts c.args.reader.now.access.now.subscripts c.args.point.now))
    system is) (returns-clause-value c)
