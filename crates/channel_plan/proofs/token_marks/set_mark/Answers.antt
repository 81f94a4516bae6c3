use Rattle.std.proofs.Common.{◌/◌, length-set, arith}
use Rattle.std.proofs.lemmas.List.{get_or_read}
use Rattle.channel_plan.proofs.MarkBits.{mark_elsewhere, mark_there}
use Rattle.channel_plan.proofs.token_marks.set_mark.Goals as goal

pub index_mut-requires : goal.index_mut-requires
index_mut-requires c = omega (arith, c.requires, c.args.words.now.ok.0)

pub returns-clause-same_length : goal.returns-clause-same_length
returns-clause-same_length c = length-set c.args.words.now.items (c.args.turn / 64) _

pub returns-clause-marked : goal.returns-clause-marked
returns-clause-marked c =
    let words = c.args.words.now.items in
    let read = get_or_read words (c.args.turn / 64) c.index_mut.result.now (omega (arith, c.requires))
    c.index_mut.ensures.value 0 in
    mark_there words c.args.turn c.index_mut.result.now c.requires read

pub returns-clause-others : goal.returns-clause-others
returns-clause-others c k other =
    let words = c.args.words.now.items in
    let read = get_or_read words (c.args.turn / 64) c.index_mut.result.now (omega (arith, c.requires))
    c.index_mut.ensures.value 0 in
    mark_elsewhere words c.args.turn c.index_mut.result.now c.requires read k other
