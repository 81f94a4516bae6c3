use Rattle.std.proofs.Common.{List, sym, subst}
use Rattle.node_runner.specs.Nodes.{Ports}
use Rattle.thread_runner.specs.declared.ends.NodeEnds.{NodeEnds}
use Rattle.thread_runner.specs.Made.{port_at}
use Rattle.thread_runner.specs.Runs.{AreEndsOf}
use Rattle.nest_tests.specs.declared.meeting.MeetEnds.{MeetEnds}
use Rattle.nest_tests.proofs.EndWrappers.{wrapped_ends}
use Rattle.nest_tests.proofs.meeting.run_meeting.Goals as goal

pub run_threads-requires-clause-ends : goal.run_threads-requires-clause-ends
run_threads-requires-clause-ends g c κs within =
    let nest = c.args.made.now.nest in
    let d = c.args.inputs.now in
    let network = c.args.made.now.network in
    let from : NodeEnds → Ports = λ e channel. port_at e.gets.items channel in
    let to : NodeEnds → Ports = λ e channel. port_at e.puts.items channel in
    wrapped_ends (λ (e : MeetEnds). e.ends) from to nest network d c.in_ok-ends-2.ends.items
    (subst (λ (l : List NodeEnds). AreEndsOf from to nest network d l)
    (sym c.in_ok-ends-2.ensures) c.in_ok-ends.ensures.ends)
