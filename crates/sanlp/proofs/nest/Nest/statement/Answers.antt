use Rattle.std.proofs.Common.{◌<◌, length, refl, sym, ap, ◌∙◌, subst}
use Rattle.std.specs.Prelude.{slice_get}
use Rattle.std.proofs.lemmas.Option.{slice_get_read}
use Rattle.sanlp.specs.WellFormed.{statement_fits}
use Rattle.sanlp.proofs.Elements.{list_all_at}
use Rattle.sanlp.proofs.nest.Nest.statement.Goals as goal

pub returns-clause-fits : goal.returns-clause-fits
returns-clause-fits c =
    let nest = c.args.self.now in
    let seen = c.as_slice.result.now in
    let within : c.args.number < length seen =
    subst (λ xs. c.args.number < length xs) (sym c.as_slice.ensures) c.requires in
    let found =
    ap (λ xs. slice_get xs c.args.number) (sym c.as_slice.ensures)
    ∙ slice_get_read seen
    (length seen) c.args.number c.index-as_slice-number.result refl within c.index-as_slice-number.is in
    list_all_at (statement_fits nest.arrays) nest.statements c.args.number c.index-as_slice-number.result
    nest.well_formed.statements_fit found
