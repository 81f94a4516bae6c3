use Rattle.std.specs.Prelude.{Some}
use Rattle.call_endings.proofs.Endings.{stopped}
use Rattle.compaan_top.specs.Commands.{reads_of}
use Rattle.compaan_top.specs.Outcome.{IsOutcome}
use Rattle.compaan_top.proofs.Endings.{planned_certificate, planned_refusal_of_bundle, planned_work, quiet_reads}
use Rattle.compaan_top.proofs.call.carry_out_quietly.Goals as goal

pub returns-in-Cert : goal.returns-in-Cert
returns-in-Cert g c =
    c.finish_certificate.ensures _ _
    (planned_certificate c.args.order.now _ c.in-Ok.bundle c.print_certificate-made.result c.in-Cert.is c.in-Ok.ensures
    (rw c.deref.ensures.value at c.print_certificate-made.ensures))

pub returns-in-Ok : goal.returns-in-Ok
returns-in-Ok g c =
    c.finish.ensures _ _
    (planned_work c.args.order.now _ c.in-Ok.bundle c.perform.result
    (quiet_reads c.args.order.now.command c.requires) c.in-Ok.ensures
    (rw c.deref-in_default.ensures.value at c.perform.ensures))

pub returns : goal.returns
returns g c =
    stopped (IsOutcome (Some c.args.order.now)) (reads_of c.args.order.now.command) _ _ _ _
    (planned_refusal_of_bundle c.args.order.now _ c.in-Err.stop
    (quiet_reads c.args.order.now.command c.requires) c.in-Err.ensures) c.tell_stop.ensures
