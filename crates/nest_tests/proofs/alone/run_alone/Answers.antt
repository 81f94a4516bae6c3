use Rattle.std.proofs.Common.{◌∙◌, ap}
use Rattle.node_runner.specs.Logs.{nth_stream}
use Rattle.node_runner.specs.Nodes.{stream}
use Rattle.nest_tests.proofs.Streams.{same_incoming, same_outgoing}
use Rattle.nest_tests.proofs.alone.run_alone.Goals as goal

pub run_node-requires-clause-incoming : goal.run_node-requires-clause-incoming
run_node-requires-clause-incoming g c b =
    c.in_ok-ends.ensures.from b
    ∙ same_incoming (nth_stream c.deref.result.now)
    (stream c.args.made.now.nest c.args.made.now.network c.args.inputs.now) c.args.made.now.network c.args.process
    (λ i lt. ap (λ l. nth_stream l i) c.deref.ensures.value ∙ c.in_ok-streams.ensures.each i lt) b

pub run_node-requires-clause-outgoing : goal.run_node-requires-clause-outgoing
run_node-requires-clause-outgoing g c b =
    c.in_ok-ends.ensures.to b
    ∙ same_outgoing (nth_stream c.deref.result.now)
    (stream c.args.made.now.nest c.args.made.now.network c.args.inputs.now) c.args.made.now.network c.args.process
    (λ i lt. ap (λ l. nth_stream l i) c.deref.ensures.value ∙ c.in_ok-streams.ensures.each i lt) b
