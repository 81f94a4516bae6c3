use Rattle.std.proofs.Common.{◌≡◌, pos, length, map, take, get_or, vec_len, arith, sym, ap, ◌∙◌, FitsSigned}
use Rattle.std.specs.Prelude.{Some}
use Rattle.std.specs.Int.{w64}
use Rattle.std.proofs.lemmas.Int.{to_z-of_z}
use Rattle.sanlp.specs.Access.{cell_at}
use Rattle.cell_lines.specs.declared.access_line.Line.{Line}
use Rattle.cell_lines.proofs.LineCells.{item_is}
use Rattle.shadow_sweep.specs.LastWrites.{writes_in}
use Rattle.shadow_sweep.proofs.Lists.{length-with_sources, sources_step}
use Rattle.shadow_sweep.proofs.along.add_sources_along.Goals as goal

pub place_at-place-requires-clause-short : goal.place_at-place-requires-clause-short
place_at-place-requires-clause-short c =
    let none : Line = record { place = 0; step = pos 0 } in
    (c.requires.placed c.loop-read.read c.loop-read-test.true c.index-reads-read.result c.index-reads-read.is
    (get_or c.args.lines.now c.loop-read.read none) (item_is c.args.lines.now c.loop-read.read none)).short

pub read_at-source-requires-clause-placed : goal.read_at-source-requires-clause-placed
read_at-source-requires-clause-placed c =
    let f : FitsSigned w64 c.args.turn = c.ranges.turn in
    let none : Line = record { place = 0; step = pos 0 } in
    let placed = simp to_z-of_z at c.place_at-place.ensures in
    (c.requires.placed c.loop-read.read c.loop-read-test.true c.index-reads-read.result c.index-reads-read.is
    (get_or c.args.lines.now c.loop-read.read none) (item_is c.args.lines.now c.loop-read.read none)).place
    ∙ ap Some (sym placed)

pub add_source-requires : goal.add_source-requires
add_source-requires c =
    let sources =
    map (writes_in c.args.cells.now) (map (cell_at c.args.at.now) (take c.loop-read.read c.args.reads.now)) in
    let same : vec_len c.loop-read.lists ≡ vec_len c.args.lists.now =
    c.loop-read.lists.ok.0 ∙ ap length c.loop-read.invariant
    ∙ length-with_sources c.args.lists.now.items c.args.first sources ∙ sym c.args.lists.now.ok.0 in
    omega (arith, same, c.requires.room, c.loop-read-test.true)

pub loop-read-preserved : goal.loop-read-preserved
loop-read-preserved c =
    sources_step (writes_in c.args.cells.now)
    (cell_at c.args.at.now) c.args.lists.now.items c.loop-read.lists.items _ c.args.first c.loop-read.read
    c.args.reads.now c.index-reads-read.result c.read_at-source.result
    c.loop-read-test.true c.index-reads-read.is c.read_at-source.ensures
    c.loop-read.invariant c.in_ok-add_source.ensures
