use Rattle.std.proofs.Common.{rules, FitsSigned}
use Rattle.std.specs.Int.{w128}
use Rattle.std.proofs.lemmas.Int.{to_z-of_z}
use Rattle.source_check.proofs.SystemRows.{at_place_is}
use Rattle.source_check.proofs.make.Space.at_place.Goals as goal

pub returns-clause-value : goal.returns-clause-value
returns-clause-value c =
    let fits : FitsSigned w128 c.args.form.now.constant = search rules in
    at_place_is c.args.self.now.vars _ c.args.form.now c.args.place.now _ _ _ c.constant.ensures.value
    c.as_slice.ensures.value c.with_terms.ensures.value
    (to_z-of_z w128 c.args.form.now.constant fits)
