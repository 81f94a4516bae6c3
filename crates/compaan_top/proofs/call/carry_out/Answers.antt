use Rattle.compaan_top.proofs.Endings.{planned_load}
use Rattle.compaan_top.proofs.call.carry_out.Goals as goal

pub returns-in-Run : goal.returns-in-Run
returns-in-Run g c = rw c.number.ensures (c.what_ends_is_a_call.ensures _ _ _ _ _ c.carry_out_by_threads.ensures)

pub returns-in-Load : goal.returns-in-Load
returns-in-Load g c =
    rw c.number-in-Load.ensures
    (c.what_ends_is_a_call.ensures _ _ _ _ _
    (c.finish.ensures _ _ (planned_load c.args.order.now _ _ c.load.result c.in-Load.is c.load.ensures)))
