use Rattle.std.specs.Prelude.{map, string_bytes}
use Rattle.command_line.specs.Words.{order_of}
use Rattle.call_endings.proofs.Endings.{stopped}
use Rattle.compaan_top.specs.Commands.{read_by}
use Rattle.compaan_top.specs.Outcome.{IsOutcome}
use Rattle.compaan_top.proofs.Calls.{call_ordered}
use Rattle.compaan_top.proofs.Endings.{planned_refusal_of_words}
use Rattle.compaan_top.proofs.call.compaan.Goals as goal

pub returns-in-Ok : goal.returns-in-Ok
returns-in-Ok g c = call_ordered _ c.in-Ok.order _ _ _ _ c.in-Ok.ensures c.carry_out.ensures

pub returns-in-Err : goal.returns-in-Err
returns-in-Err g c =
    let wanted = order_of (map string_bytes c.args.words.now) in
    rw c.number.ensures
    (c.what_ends_is_a_call.ensures wanted _ _ _ _
    (stopped (IsOutcome wanted) (read_by wanted) _ _ _ _
    (planned_refusal_of_words wanted (g.S.Source.left c.args.input.now) (g.S.Source.faults c.args.input.now)
    c.in-Err.stop c.in-Err.ensures) c.tell_stop.ensures))
