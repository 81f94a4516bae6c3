use Rattle.script_blocks.proofs.Walks.{left_at_start}
use Rattle.script_blocks.proofs.cursor.restart.Goals as goal

pub returns : goal.returns
returns g c = left_at_start c.args.frames.now c.args.parts.now c.requires
