use Rattle.std.proofs.Common.{true, refl}
use Rattle.script_blocks.specs.Places.{left}
use Rattle.script_blocks.proofs.Walks.{turn_begun}
use Rattle.script_blocks.proofs.cursor.begin_turn.Goals as goal

pub returns-clause-turns : goal.returns-clause-turns
returns-clause-turns g c =
    turn_begun (record { part = c.args.frame.now.part; inside = true; later = c.args.later })
    (left c.restart.new.frames) c.args.body.now c.args.later refl c.restart.ensures
