use Rattle.std.proofs.Common.{◌≡◌}
use Rattle.net_core.specs.declared.machine.Local.{Local}
use Rattle.net_core.specs.Machine.{net_of}
use Rattle.net_core.specs.Held.{fresh_local}
use Rattle.net_core.proofs.Fresh.{fresh_more}
use Rattle.net_core.proofs.opening.fresh_locals.Goals as goal

pub loop-at-preserved : goal.loop-at-preserved
loop-at-preserved g c =
    let n = net_of c.args.network.now in
    let made : ◌≡◌ {A = Local g.row.T.Denot} (record { position = 0; room = c.in_ok-room.room })
    (fresh_local n c.loop-at.at) =
    λ i. record { position = 0; room = c.in_ok-room.ensures i } in
    fresh_more n c.loop-at.locals.items c.push.new.self.items
    (record { position = 0; room = c.in_ok-room.room }) c.loop-at.at c.loop-at.invariant c.in_ok-push.ensures.items made
