use Rattle.tree_facts.proofs.FactSystems.{system_away}
use Rattle.tree_facts.proofs.law.proofs_hold_without_facts.Goals as goal

pub returns : goal.returns
returns c = system_away
