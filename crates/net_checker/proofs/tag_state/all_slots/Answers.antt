use Rattle.std.proofs.Common.{None, replicate, length, refl, arith}
use Rattle.std.proofs.lemmas.Option.{slice_get_read}
use Rattle.net_core.specs.declared.network.Process.{Process}
use Rattle.net_checker.proofs.SlotLemmas.{row_more}
use Rattle.net_checker.proofs.tag_state.all_slots.Goals as goal

pub loop-process-preserved : goal.loop-process-preserved
loop-process-preserved c =
    let processes = c.args.processes.now in
    row_more _ _ _ (λ (process : Process). replicate process.slots None) processes c.loop-process.process-index
    c.process-item.result c.in_ok-push.ensures.items c.loop-process.invariant c.in_ok-empty_slots.ensures
    (slice_get_read processes (length processes) c.loop-process.process-index c.process-item.result refl (omega arith)
    c.process-item.is)
