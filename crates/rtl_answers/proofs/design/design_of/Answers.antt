use Rattle.std.proofs.Common.{◌∙◌, refl, sym, ap, subst}
use Rattle.std.specs.Option.{option_copied}
use Rattle.rtl_text.specs.Designs.{AreUnitsOf}
use Rattle.rtl_text.specs.Networks.{rtl_text}
use Rattle.unit_text.specs.Limits.{first_with_long_sequencer}
use Rattle.rtl_answers.proofs.design.design_of.Goals as goal

pub returns-in-Some : goal.returns-in-Some
returns-in-Some c =
    let units = c.in_ok-network.units in (
      units,
      c.in-Some.unit.now,
      subst (λ network. AreUnitsOf c.args.nest network units) c.in_ok-network.ensures.network
          c.in_ok-network.ensures.units,
      ap first_with_long_sequencer (sym c.as_slice.ensures) ∙ sym c.first_with_long_sequencer.ensures
          ∙ ap option_copied c.in-Some.is,
      c.refusal_of.ensures,
    )

pub returns : goal.returns
returns c =
    let nest = c.args.nest in
    let units = c.in_ok-network.units in
    let same = c.in_ok-network.ensures.network in (
      rtl_text nest c.in_ok-network.network units,
      refl,
      (
        record {
          units = units;
          are_units = subst (λ network. AreUnitsOf nest network units) same c.in_ok-network.ensures.units;
          text_is = ap (λ network. rtl_text nest network units) same;
        },
        ap first_with_long_sequencer (sym c.as_slice.ensures) ∙ sym c.first_with_long_sequencer.ensures
            ∙ ap option_copied c.in_default.is,
      ),
    )
