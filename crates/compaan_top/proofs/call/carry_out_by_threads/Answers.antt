use Rattle.std.specs.Prelude.{Some}
use Rattle.call_endings.proofs.Endings.{stopped}
use Rattle.compaan_top.specs.Commands.{reads_of}
use Rattle.compaan_top.specs.Outcome.{IsOutcome}
use Rattle.compaan_top.proofs.Endings.{others_read, planned_refusal_of_bundle, planned_work}
use Rattle.compaan_top.proofs.call.carry_out_by_threads.Goals as goal

pub returns-in-Ok : goal.returns-in-Ok
returns-in-Ok g c =
    c.finish.ensures _ _
    (planned_work c.args.order.now _ c.in-Ok.bundle c.perform_by_threads.result
    (others_read c.args.order.now.command c.requires.other) c.in-Ok.ensures
    (rw c.deref.ensures.value at c.perform_by_threads.ensures))

pub returns-in-Err : goal.returns-in-Err
returns-in-Err g c =
    stopped (IsOutcome (Some c.args.order.now)) (reads_of c.args.order.now.command) _ _ _ _
    (planned_refusal_of_bundle c.args.order.now _ c.in-Err.stop
    (others_read c.args.order.now.command c.requires.other) c.in-Err.ensures) c.tell_stop.ensures
