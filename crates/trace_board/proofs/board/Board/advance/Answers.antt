use Rattle.std.proofs.Common.{vec_capacity}
use Rattle.net_core.specs.Held.{held_of, run_of}
use Rattle.net_core.specs.Machine.{net_of}
use Rattle.trace_board.specs.declared.lanes.Advance.TheVariants.{Stepped}
use Rattle.trace_board.proofs.LaneAnswers.{stepped_is_least, told_alike}
use Rattle.trace_board.proofs.BoardSteps.{told_stepped, told_idle, told_done}
use Rattle.trace_board.proofs.board.Board.advance.Goals as goal

pub make_event-requires-clause-board : goal.make_event-requires-clause-board
make_event-requires-clause-board c = c.self.invariant

pub make_event-requires-clause-enabled : goal.make_event-requires-clause-enabled
make_event-requires-clause-enabled c =
    let i = c.self.inside in
    (stepped_is_least (net_of i.network) (run_of i.state) c.args.lane c.args.lanes c.look-advance.result
    c.look-advance.ensures c.in-Stepped.process c.in-Stepped.is).1

-- the answers where a process stepped

pub returns-clause-stepped : goal.returns-clause-stepped
returns-clause-stepped c =
    let i = c.self.inside in
    let stepped = Stepped c.in-Stepped.process in
    let told =
    told_alike (net_of i.network) (run_of i.state) c.args.lane c.args.lanes c.look-advance.result stepped
    c.in-Stepped.is c.look-advance.ensures in
    rw (← c.self.view_is)
    (told_stepped i.network (held_of i.state) i.history.items (vec_capacity i.history) c.self.invariant c.args.lane
    c.args.lanes stepped told)

pub returns-clause-idle : goal.returns-clause-idle
returns-clause-idle c =
    let i = c.self.inside in
    let stepped = Stepped c.in-Stepped.process in
    let told =
    told_alike (net_of i.network) (run_of i.state) c.args.lane c.args.lanes c.look-advance.result stepped
    c.in-Stepped.is c.look-advance.ensures in
    rw (← c.self.view_is)
    (told_idle i.network (held_of i.state) i.history.items (vec_capacity i.history) c.self.invariant c.args.lane
    c.args.lanes stepped told)

pub returns-clause-done : goal.returns-clause-done
returns-clause-done c =
    let i = c.self.inside in
    let stepped = Stepped c.in-Stepped.process in
    let told =
    told_alike (net_of i.network) (run_of i.state) c.args.lane c.args.lanes c.look-advance.result stepped
    c.in-Stepped.is c.look-advance.ensures in
    rw (← c.self.view_is)
    (told_done i.network (held_of i.state) i.history.items (vec_capacity i.history) c.self.invariant c.args.lane
    c.args.lanes stepped told)

pub returns-clause-history : goal.returns-clause-history
returns-clause-history c = rw (← c.self.view_is) c.make_event.ensures.history

pub returns-clause-run : goal.returns-clause-run
returns-clause-run c = c.make_event.ensures.board.run
