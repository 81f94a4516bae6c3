use Rattle.std.proofs.Common.{vec_capacity, arith}
use Rattle.net_core.specs.Held.{held_of}
use Rattle.trace_board.proofs.BoardSteps.{board_more, room_left}
use Rattle.trace_board.proofs.board.make_event.Goals as goal

pub step-requires-clause-state : goal.step-requires-clause-state
step-requires-clause-state c = c.requires.board.holds

pub push_reserved-requires : goal.push_reserved-requires
push_reserved-requires c =
    let left =
    room_left c.args.network.now (held_of c.args.state.now) c.args.history.now.items
    (vec_capacity c.args.history.now) c.requires.board c.args.process c.requires.enabled in
    omega (arith, left, c.args.history.now.ok.0)

pub returns-clause-board : goal.returns-clause-board
returns-clause-board c =
    board_more c.args.network.now (held_of c.args.state.now) c.args.history.now.items
    (vec_capacity c.args.history.now) c.requires.board c.args.process c.requires.enabled
    (held_of c.step.new.state) c.push_reserved.new.self.items (vec_capacity c.push_reserved.new.self)
    c.step.ensures.state c.step.ensures.run c.push_reserved.ensures.items c.push_reserved.ensures.capacity
