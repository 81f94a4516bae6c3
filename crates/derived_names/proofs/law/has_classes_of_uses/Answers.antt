use Rattle.derived_names.proofs.Classes.{has_classes_of_uses}
use Rattle.derived_names.proofs.law.has_classes_of_uses.Goals as goal

pub returns : goal.returns
returns c = has_classes_of_uses c.args.nest.now
