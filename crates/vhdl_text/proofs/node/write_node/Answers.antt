use Rattle.text_out.proofs.Wrote.{Wrote-append}
use Rattle.vhdl_text.proofs.node.write_node.Goals as goal

pub returns : goal.returns
returns g c =
    let w = g.W.TextWriter.given in
    Wrote-append w _ _ c.write_start.ensures (
    Wrote-append w _ _ c.write_role_ports.ensures (
    Wrote-append w _ _ (rw c.as_slice-gets.ensures at c.write_parts.ensures) (
    Wrote-append w _ _ (rw c.as_slice-puts.ensures at c.write_parts-2.ensures) (
    Wrote-append w _ _ c.write_entity_end.ensures (
    Wrote-append w _ _ c.write_architecture_head.ensures (
    Wrote-append w _ _ c.write_column.ensures (
    Wrote-append w _ _ c.write_column-2.ensures (
    Wrote-append w _ _ c.write_column-3.ensures (
    Wrote-append w _ _ c.write_reads.ensures (
    Wrote-append w _ _ c.write_variables.ensures (
    Wrote-append w _ _ c.write_signals.ensures (
    Wrote-append w _ _ c.write_role_signal.ensures (
    Wrote-append w _ _ c.write_functions.ensures (
    Wrote-append w _ _ c.write_role_lines.ensures (
    Wrote-append w _ _ (rw c.as_slice-gets.ensures at c.write_parts-3.ensures) (
    Wrote-append w _ _ (rw c.as_slice-puts.ensures at c.write_parts-4.ensures) (
    Wrote-append w _ _ c.write_process_head.ensures (
    Wrote-append w _ _ c.write_gave_low.ensures (
    Wrote-append w _ _ c.write_case_head.ensures (
    Wrote-append w _ _ (rw c.as_slice-gets.ensures at c.write_branch.ensures) (
    Wrote-append w _ _ c.write_fire.ensures (
    Wrote-append w _ _ c.write_gave_high.ensures (
    Wrote-append w _ _ c.write_step.ensures
    (Wrote-append w _ _
    (rw c.as_slice-puts.ensures at c.write_branch-2.ensures) c.write_process_end.ensures))))))))))))))))))))))))
