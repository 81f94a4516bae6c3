use Rattle.std.proofs.Common.{◌≡◌, ◌<◌, ◌+◌, ◌==◌, ◌∷◌, [], length, length-append, ap, sym, ◌∙◌, arith}
use Rattle.node_runner.specs.Nodes.{incoming, outgoing}
use Rattle.node_runner.specs.Logs.{nth_stream}
use Rattle.node_runner.proofs.LogLemmas.{all_ends, end_here, incoming_past, more_ends, more_left, outgoing_past}
use Rattle.node_runner.proofs.logged.LogEnds.new.Goals as goal

pub loop-at-preserved : goal.loop-at-preserved
loop-at-preserved c =
    let i = c.loop-at.invariant in
    let at = c.loop-at.at in
    let streams = c.args.streams.now in
    let network = c.args.network.now in
    let p = c.args.process in
    let channels = c.as_slice-channel-items.result.now in
    let lt : at < length streams =
    omega (arith, c.loop-at-test.true, ap length c.as_slice-channel-items.ensures, c.requires) in
    let into : _ ≡ incoming (nth_stream streams) network p at =
    end_here streams network c.requires (λ channel. channel.reader == p) at channels _ c.index-streams-at.result
    c.deref.result.now c.in_ok-end_if.field-0 c.as_slice-channel-items.ensures c.loop-at-test.true
    c.index-streams-at.is c.deref.ensures.value c.in_ok-end_if.ensures in
    let out : _ ≡ outgoing (nth_stream streams) network p at =
    end_here streams network c.requires (λ channel. channel.writer == p) at channels _
    c.index-streams-at-in-loop-at.result c.deref-in-loop-at.result.now c.in_ok-end_if-2.field-0
    c.as_slice-channel-items.ensures c.loop-at-test.true c.index-streams-at-in-loop-at.is
    c.deref-in-loop-at.ensures.value c.in_ok-end_if-2.ensures in
    record {
      gets_many =
          ap length c.in_ok-push.ensures.items ∙ length-append c.loop-at.gets.items (c.in_ok-end_if.field-0 ∷ [])
          ∙ ap (λ k. k + 1) i.gets_many;
      puts_many =
          ap length c.in_ok-push-2.ensures.items ∙ length-append c.loop-at.puts.items (c.in_ok-end_if-2.field-0 ∷ [])
          ∙ ap (λ k. k + 1) i.puts_many;
      gets = more_ends c.loop-at.gets.items c.push.new.self.items c.in_ok-end_if.field-0 at
          (incoming (nth_stream streams) network p) c.in_ok-push.ensures.items i.gets_many i.gets into;
      puts = more_ends c.loop-at.puts.items c.push-in-loop-at.new.self.items c.in_ok-end_if-2.field-0 at
          (outgoing (nth_stream streams) network p) c.in_ok-push-2.ensures.items i.puts_many i.puts out;
      gets_left =
          more_left c.loop-at.gets.items c.push.new.self.items c.in_ok-end_if.field-0 _ streams
          c.index-streams-at.result c.deref.result.now at c.in_ok-push.ensures.items c.deref.ensures.value
          c.in_ok-end_if.ensures lt c.index-streams-at.is i.gets_left;
      puts_left =
          more_left c.loop-at.puts.items c.push-in-loop-at.new.self.items c.in_ok-end_if-2.field-0 _ streams
          c.index-streams-at-in-loop-at.result c.deref-in-loop-at.result.now at c.in_ok-push-2.ensures.items
          c.deref-in-loop-at.ensures.value c.in_ok-end_if-2.ensures lt c.index-streams-at-in-loop-at.is
          i.puts_left;
    }

pub returns-clause-from : goal.returns-clause-from
returns-clause-from c b =
    let i = c.loop-at.invariant in
    let done : length c.args.network.now.channels ≡ length c.as_slice-channel-items.result.now =
    ap length (sym c.as_slice-channel-items.ensures) in
    all_ends c.loop-at.gets.items (length c.args.network.now.channels) c.loop-at.at
    (incoming (nth_stream c.args.streams.now) c.args.network.now c.args.process)
    (omega (arith, done, c.loop-at-test.false)) i.gets_many
    (incoming_past (nth_stream c.args.streams.now) c.args.network.now c.args.process) i.gets b

pub returns-clause-to : goal.returns-clause-to
returns-clause-to c b =
    let i = c.loop-at.invariant in
    let done : length c.args.network.now.channels ≡ length c.as_slice-channel-items.result.now =
    ap length (sym c.as_slice-channel-items.ensures) in
    all_ends c.loop-at.puts.items (length c.args.network.now.channels) c.loop-at.at
    (outgoing (nth_stream c.args.streams.now) c.args.network.now c.args.process)
    (omega (arith, done, c.loop-at-test.false)) i.puts_many
    (outgoing_past (nth_stream c.args.streams.now) c.args.network.now c.args.process) i.puts b
