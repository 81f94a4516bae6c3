use Rattle.loop_walk.proofs.WalkLemmas.{left_at_start, valid_at_start}
use Rattle.loop_walk.proofs.walk.restart.Goals as goal

pub returns-clause-left : goal.returns-clause-left
returns-clause-left c = left_at_start c.args.frames.now c.args.parts.now c.args.at.now c.requires.room

pub returns-clause-valid : goal.returns-clause-valid
returns-clause-valid c =
    valid_at_start c.args.frames.now c.args.parts.now c.args.at.now c.requires.room c.requires.within
