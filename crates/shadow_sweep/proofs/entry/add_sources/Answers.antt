use Rattle.std.proofs.Common.{◌≡◌, length, map, take, vec_len, arith, sym, ap, ◌∙◌}
use Rattle.sanlp.specs.Access.{cell_at}
use Rattle.shadow_sweep.specs.LastWrites.{writes_in}
use Rattle.shadow_sweep.proofs.Lists.{length-with_sources, sources_step}
use Rattle.shadow_sweep.proofs.entry.add_sources.Goals as goal

pub add_source-requires : goal.add_source-requires
add_source-requires c =
    let sources =
    map (writes_in c.args.cells.now) (map (cell_at c.args.at.now) (take c.loop-read.read c.args.reads.now)) in
    let same : vec_len c.loop-read.lists ≡ vec_len c.args.lists.now =
    c.loop-read.lists.ok.0 ∙ ap length c.loop-read.invariant
    ∙ length-with_sources c.args.lists.now.items c.args.first sources ∙ sym c.args.lists.now.ok.0 in
    omega (arith, same, c.requires.room, c.loop-read-test.true)

pub loop-read-preserved : goal.loop-read-preserved
loop-read-preserved c =
    sources_step (writes_in c.args.cells.now)
    (cell_at c.args.at.now) c.args.lists.now.items c.loop-read.lists.items _ c.args.first c.loop-read.read
    c.args.reads.now c.index-reads-read.result c.read-source.result
    c.loop-read-test.true c.index-reads-read.is c.read-source.ensures
    c.loop-read.invariant c.in_ok-add_source.ensures
