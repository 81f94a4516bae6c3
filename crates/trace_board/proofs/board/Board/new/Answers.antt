use Rattle.std.proofs.Common.{vec_capacity, arith}
use Rattle.net_core.specs.Held.{held_of}
use Rattle.trace_board.proofs.BoardSteps.{board_none}
use Rattle.trace_board.proofs.board.Board.new.Goals as goal

pub invariant_of-result : goal.invariant_of-result
invariant_of-result c =
    board_none c.args.network (held_of c.in_ok-state.state) c.in_ok-history.history.items
    (vec_capacity c.in_ok-history.history)
    c.in_ok-state.ensures.run c.in_ok-state.ensures.state c.in_ok-history.ensures.items
    (omega (arith, c.in_ok-history.ensures.capacity, c.event_count.ensures))
