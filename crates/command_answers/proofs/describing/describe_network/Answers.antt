use Rattle.std.proofs.lemmas.Result.{err_from_is_err_and}
use Rattle.command_answers.specs.Describing.{Describes, source_refused}
use Rattle.command_answers.specs.Replying.{as_reply}
use Rattle.command_answers.proofs.VhdlAnswers.{described_without_nodes, described_nodes}
use Rattle.command_answers.proofs.Stops.{without_nest}
use Rattle.command_answers.proofs.describing.describe_network.Goals as goal

pub returns-in_err-nest : goal.returns-in_err-nest
returns-in_err-nest c =
    let stop = err_from_is_err_and c.from_residual.result c.from_residual.ensures.1 in
    rw (stop.1, stop.2)
    (without_nest (λ answer. Describes c.args.policy c.args.params.now c.args.bundle.now (as_reply answer))
    c.args.params.now c.args.bundle.now c.parts_of-parts.result.source.now _ source_refused
    c.parts_of-parts.ensures.source c.in_err-nest.ensures)

pub returns-in_err-nodes : goal.returns-in_err-nodes
returns-in_err-nodes c =
    let stop = err_from_is_err_and c.from_residual-in_err-nodes.result c.from_residual-in_err-nodes.ensures.1 in
    rw (stop.1, stop.2) (described_without_nodes c.args.policy c.args.params.now c.args.bundle.now
    c.parts_of-parts.result.source.now c.in_ok-nest.nest _ c.parts_of-parts.ensures.source c.in_ok-nest.ensures.0
    c.in_err-nodes.ensures)

pub returns : goal.returns
returns c =
    described_nodes c.args.policy c.args.params.now c.args.bundle.now c.parts_of-parts.result.source.now
    c.in_ok-nest.nest c.in_ok-nodes.nodes c.parts_of-parts.ensures.source c.in_ok-nest.ensures.0
    c.in_ok-nodes.ensures
