use Rattle.std.proofs.Common.{◌<◌, arith, length, ap, ◌∙◌}
use Rattle.ruled_links.specs.Ports.{stream_at}
use Rattle.thread_runner.proofs.ProcessEnds.{made_more, made_all, made_capacities, streams_number, stream_is, channel_read}
use Rattle.thread_runner.proofs.ProcessEnds.{writer_read, reader_read}
use Rattle.thread_runner.proofs.ends.made.Goals as goal

pub link-requires-clause-channel : goal.link-requires-clause-channel
link-requires-clause-channel g c =
    let number = ap length c.requires.plan ∙ streams_number c.args.nest.now c.args.network.now c.args.inputs.now in
    omega (arith, number, c.loop-at-test.true, ap length c.as_slice-channels.ensures)

pub place-requires-clause-writer : goal.place-requires-clause-writer
place-requires-clause-writer g c =
    writer_read c.args.network.now c.as_slice-channels.result.now _ c.loop-at.at _ c.as_slice-channels.ensures
    c.loop-at-test.true c.requires.sound.fits.shaped.wired (c.loop-at.ends.ok.0 ∙ c.loop-at.invariant.number)

pub place-requires-clause-reader : goal.place-requires-clause-reader
place-requires-clause-reader g c =
    reader_read c.args.network.now c.as_slice-channels.result.now _ c.loop-at.at _ c.as_slice-channels.ensures
    c.loop-at-test.true c.requires.sound.fits.shaped.wired (c.loop-at.ends.ok.0 ∙ c.loop-at.invariant.number)

pub loop-at-preserved : goal.loop-at-preserved
loop-at-preserved g c =
    let n = c.args.network.now in
    let lt : c.loop-at.at < length n.channels =
    omega (arith, c.loop-at-test.true, ap length c.as_slice-channels.ensures) in
    let values =
    ap (λ l. stream_at l c.loop-at.at) c.requires.plan
    ∙ stream_is c.args.nest.now n c.args.inputs.now c.loop-at.at lt in
    made_more c.args.nest.now n c.args.inputs.now c.loop-at.at _
    (stream_at g.P.Plan.streams c.loop-at.at) _ c.in_ok-put.put c.in_ok-put.get c.loop-at.ends.items
    c.place.new.ends.items
    (channel_read n c.as_slice-channels.result.now _ c.loop-at.at c.as_slice-channels.ensures c.loop-at-test.true)
    values c.max.ensures c.in_ok-put.ensures.fresh.0 c.in_ok-put.ensures.fresh.1 c.in_ok-put.ensures.line
    c.loop-at.invariant c.place.ensures

pub returns-clause-capacities : goal.returns-clause-capacities
returns-clause-capacities g c =
    made_capacities c.args.nest.now c.args.network.now c.args.inputs.now c.loop-at.at c.loop-at.ends.items
    c.loop-at.invariant

pub returns-clause-ends : goal.returns-clause-ends
returns-clause-ends g c =
    made_all c.args.nest.now c.args.network.now c.args.inputs.now c.loop-at.at c.loop-at.ends.items
    (omega (arith, c.loop-at-test.false, ap length c.as_slice-channels.ensures)) c.loop-at.invariant

pub returns-clause-joined : goal.returns-clause-joined
returns-clause-joined g c = c.loop-at.invariant.joined
