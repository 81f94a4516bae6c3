use Rattle.std.proofs.Common.{ap}
use Rattle.net_text.specs.NetworkText.{net_text}
use Rattle.command_answers.specs.Replies.{done}
use Rattle.command_answers.proofs.printing.compiled_answer.Goals as goal

pub returns : goal.returns
returns c = ap done (ap (net_text c.args.nest) c.in_ok-network.ensures.network)
