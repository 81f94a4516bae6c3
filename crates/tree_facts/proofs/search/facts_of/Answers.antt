use Rattle.tree_facts.proofs.Adding.{no_facts}
use Rattle.tree_facts.proofs.search.facts_of.Goals as goal

pub push_of_rows-requires : goal.push_of_rows-requires
push_of_rows-requires c = no_facts c.args.context.now _ c.new.ensures c.new-2.ensures c.requires
