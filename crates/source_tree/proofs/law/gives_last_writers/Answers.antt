use Rattle.source_tree.proofs.TableNumbers.{gives_last_writers}
use Rattle.source_tree.proofs.law.gives_last_writers.Goals as goal

pub returns : goal.returns
returns c = gives_last_writers c.args.nest.now
