use Rattle.std.proofs.Common.{◌∙◌, ◌+◌, ◌∷◌, [], length, length-append, ap}
use Rattle.node_runner.specs.Nodes.{stream}
use Rattle.nest_tests.proofs.Streams.{more_streams}
use Rattle.nest_tests.proofs.alone.streams_of.Goals as goal

pub loop-channel-preserved : goal.loop-channel-preserved
loop-channel-preserved c =
    let i = c.loop-channel.invariant in
    record {
      number =
          ap length c.in_ok-push.ensures.items
          ∙ length-append c.loop-channel.streams.items (c.in_ok-stream_of.field-0 ∷ []) ∙ ap (λ k. k + 1) i.number;
      each = more_streams c.loop-channel.streams.items c.push.new.self.items c.in_ok-stream_of.field-0
          c.loop-channel.channel (stream c.args.made.now.nest c.args.made.now.network c.args.inputs.now)
          c.in_ok-push.ensures.items i.number i.each c.in_ok-stream_of.ensures;
    }
