use Rattle.std.proofs.Common.{refl, arith}
use Rattle.net_checker.proofs.SlotLemmas.{filled_map, filled_row}
use Rattle.net_checker.proofs.slots.Slots.fill.Goals as goal

pub returns-then-slot-len : goal.returns-then-slot-len
returns-then-slot-len g c =
    filled_row c.args.self.now _ c.args.slot c.args.token refl
    (omega (arith, c.if-slot-len.true, c.len.ensures, c.args.self.now.row.ok.0)) refl refl

pub returns : goal.returns
returns g c =
    filled_map c.args.self.now _ c.args.slot c.args.token refl
    (omega (arith, c.if-slot-len.false, c.len.ensures, c.args.self.now.row.ok.0)) refl c.in_ok-insert.ensures.updates.0
