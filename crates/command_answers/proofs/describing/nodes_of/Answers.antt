use Rattle.std.proofs.Common.{◌∙◌, ℕ, Some, ap, sym}
use Rattle.sanlp.proofs.NestFacts.{points_length}
use Rattle.vhdl_text.specs.Refusal.{first_too_long}
use Rattle.command_answers.proofs.VhdlAnswers.{automata_planned, none_planned, refused_planned}
use Rattle.command_answers.proofs.describing.nodes_of.Goals as goal

pub too_long_script-requires : goal.too_long_script-requires
too_long_script-requires c = c.in_ok-network.ensures.numbers.processes

pub returns-in-Some : goal.returns-in-Some
returns-in-Some c =
    let nest = c.args.nest.now in
    let many = sym (c.in_ok-network.ensures.sound.fits.shaped.processes ∙ points_length nest) in
    refused_planned c.args.policy nest c.in_ok-network.network c.in_ok-network.ensures.network c.in-Some.process
    c.from.result
    (ap (λ (events : ℕ). Some (c.in-Some.process, events)) c.from.ensures ∙ sym c.in-Some.is
    ∙ c.too_long_script.ensures nest many)

pub invariant_of-result : goal.invariant_of-result
invariant_of-result c =
    let nest = c.args.nest.now in
    let network = c.in_ok-network.network in
    let planned = c.in_ok-network.ensures.network in
    let many = sym (c.in_ok-network.ensures.sound.fits.shaped.processes ∙ points_length nest) in
    record {
      short = ap first_too_long (c.from_vec.ensures ∙ automata_planned c.args.policy nest network planned _ c.in_ok-autos.ensures)
          ∙ none_planned c.args.policy nest network planned (sym c.in_default.is ∙ c.too_long_script.ensures nest many);
    }

pub returns : goal.returns
returns c =
    let nest = c.args.nest.now in
    let network = c.in_ok-network.network in
    let planned = c.in_ok-network.ensures.network in
    let many = sym (c.in_ok-network.ensures.sound.fits.shaped.processes ∙ points_length nest) in (
      planned,
      c.from_vec.ensures ∙ automata_planned c.args.policy nest network planned _ c.in_ok-autos.ensures,
      none_planned c.args.policy nest network planned (sym c.in_default.is ∙ c.too_long_script.ensures nest many),
    )
