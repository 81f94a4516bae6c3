use Rattle.std.proofs.Common.{◌++◌, ap, sym, ◌∙◌}
use Rattle.script_blocks.specs.Places.{left}
use Rattle.script_blocks.proofs.CursorItems.{none_filled}
use Rattle.script_blocks.proofs.place.Place.before.Goals as goal

pub returns-clause-left : goal.returns-clause-left
returns-clause-left g c =
    sym c.fill_in.ensures.items
    ∙ ap (λ batch. batch ++ left c.restart.new.frames c.args.parts.now) c.new-batch.ensures
    ∙ c.restart.ensures

pub returns-clause-ready : goal.returns-clause-ready
returns-clause-ready g c = λ none.
    none_filled c.fill_in.result c.fill_in.new.batch (left c.fill_in.new.frames c.args.parts.now) none
    c.fill_in.ensures.full c.fill_in.ensures.done
