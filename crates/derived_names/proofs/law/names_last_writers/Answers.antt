use Rattle.derived_names.proofs.Names.{names_last_writers}
use Rattle.derived_names.proofs.law.names_last_writers.Goals as goal

pub returns : goal.returns
returns c = names_last_writers c.args.nest.now
