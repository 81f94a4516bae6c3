use Rattle.script_blocks.specs.Places.{left}
use Rattle.script_blocks.proofs.CursorItems.{none_filled}
use Rattle.script_blocks.proofs.place.Place.prepare.Goals as goal

pub returns-clause-ready : goal.returns-clause-ready
returns-clause-ready g c = λ none.
    none_filled c.fill_in.result c.fill_in.new.batch (left c.fill_in.new.frames c.args.parts.now) none
    c.fill_in.ensures.full c.fill_in.ensures.done
