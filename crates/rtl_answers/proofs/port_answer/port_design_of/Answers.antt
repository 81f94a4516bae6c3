use Rattle.std.proofs.Common.{◌∙◌, refl, sym, ap, subst}
use Rattle.std.specs.Option.{option_copied}
use Rattle.port_rtl.specs.Designs.{ArePortUnitsOf, port_rtl_text}
use Rattle.port_text.specs.Limits.{first_with_long_sequencer}
use Rattle.rtl_answers.proofs.port_answer.port_design_of.Goals as goal

pub returns-in-Some : goal.returns-in-Some
returns-in-Some c =
    let units = c.in_ok-network.units in (
      units,
      c.in-Some.unit.now,
      subst (λ network. ArePortUnitsOf c.args.nest network units) c.in_ok-network.ensures.network
          c.in_ok-network.ensures.units,
      ap first_with_long_sequencer (sym c.as_slice.ensures) ∙ sym c.first_with_long_sequencer.ensures
          ∙ ap option_copied c.in-Some.is,
      c.port_refusal_of.ensures,
    )

pub returns : goal.returns
returns c =
    let nest = c.args.nest in
    let units = c.in_ok-network.units in
    let same = c.in_ok-network.ensures.network in (
      port_rtl_text nest c.in_ok-network.network units,
      refl,
      (
        record {
          units = units;
          are_units = subst (λ network. ArePortUnitsOf nest network units) same c.in_ok-network.ensures.units;
          text_is = ap (λ network. port_rtl_text nest network units) same;
        },
        ap first_with_long_sequencer (sym c.as_slice.ensures) ∙ sym c.first_with_long_sequencer.ensures
            ∙ ap option_copied c.in_default.is,
      ),
    )
