use Rattle.loop_parse.proofs.Outside.{no_bracket}
use Rattle.loop_parse.proofs.expression.Expression.has_no_bracket.Goals as goal

pub returns : goal.returns
returns c = no_bracket c.is_empty.result c.args.self.now.outer c.args.self.now.reading c.is_empty.ensures
