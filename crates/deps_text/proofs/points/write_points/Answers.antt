use Rattle.deps_text.proofs.Fires.{points_told}
use Rattle.deps_text.proofs.points.write_points.Goals as goal

pub returns : goal.returns
returns g c =
    points_told g.W.TextWriter.given c.args.nest.now c.args.statement c.args.read _ _ _
    c.requires.swept.points c.requires.swept.table c.sources_at-sources.ensures c.requires.read
    c.write_line.ensures c.write_turns.ensures
