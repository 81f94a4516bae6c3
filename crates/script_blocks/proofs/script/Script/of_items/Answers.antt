use Rattle.std.proofs.Common.{ap, ◌∙◌}
use Rattle.script_blocks.specs.Nesting.{are_proper}
use Rattle.script_blocks.proofs.Nestings.{items_proper}
use Rattle.script_blocks.proofs.script.Script.of_items.Goals as goal

pub of_blocks-requires-clause-proper : goal.of_blocks-requires-clause-proper
of_blocks-requires-clause-proper g c = ap are_proper c.in_ok-blocks.ensures.items ∙ items_proper c.args.items.now
