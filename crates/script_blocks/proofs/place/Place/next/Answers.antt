use Rattle.std.proofs.Common.{◌≡◌, ◌∙◌}
use Rattle.std.specs.Prelude.{Some, slice_get}
use Rattle.script_blocks.specs.Places.{left}
use Rattle.script_blocks.specs.Scripts.{items_left}
use Rattle.script_blocks.proofs.CursorItems.{next_given}
use Rattle.script_blocks.proofs.place.Place.next.Goals as goal

pub returns-clause-next : goal.returns-clause-next
returns-clause-next g c =
    let self = c.args.self.now in
    let is : Some c.in_ok-item.item ≡ slice_get self.batch self.given = c.in_ok-item.ensures ∙ c.get.ensures.item in
    next_given self.given self.batch (left self.frames c.args.parts.now)
    (items_left c.prepare.new.self c.args.parts.now) c.in_ok-item.item is c.prepare.ensures.left
