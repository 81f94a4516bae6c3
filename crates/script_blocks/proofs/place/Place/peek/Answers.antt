use Rattle.std.specs.Option.{option_copied}
use Rattle.script_blocks.specs.Places.{left}
use Rattle.script_blocks.proofs.CursorItems.{peeked}
use Rattle.script_blocks.proofs.place.Place.peek.Goals as goal

pub returns : goal.returns
returns g c =
    peeked c.args.self.now.given c.args.self.now.batch (left c.args.self.now.frames c.args.parts.now)
    (option_copied c.get.result) c.get.ensures.item c.requires
