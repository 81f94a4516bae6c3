use Rattle.deps_text.proofs.points.vector_at.Goals as goal
use Rattle.net_core.proofs.Vectors.{vector_at-turn_past, vector_at-process_past}

pub returns-in-None-get : goal.returns-in-None-get
returns-in-None-get c =
    vector_at-turn_past c.args.points.now.of c.args.process c.args.turn _ c.in-Some.ensures.value c.in-None-get.ensures.value

pub returns-in-None : goal.returns-in-None
returns-in-None c = vector_at-process_past c.args.points.now.of c.args.process c.args.turn c.in-None.ensures.value
