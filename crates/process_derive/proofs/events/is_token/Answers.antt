use Rattle.std.proofs.Common.{◌∙◌, ap, sym, refl, false, length}
use Rattle.std.specs.Prelude.{slice_index_or}
use Rattle.std.specs.Option.{option_map_or}
use Rattle.std.proofs.lemmas.Bool.{ltb-true}
use Rattle.std.proofs.lemmas.Option.{slice_get_past, slice_get_read}
use Rattle.process_derive.proofs.events.is_token.Goals as goal

pub returns-in-Some : goal.returns-in-Some
returns-in-Some c =
    let plans = c.args.plans.now in
    let plan = c.in-Some.plan.now in
    let lookup = c.in-Some.ensures.lookup in
    let there = slice_get_read plans (length plans) c.args.channel plan refl
    (ltb-true c.args.channel (length plans) (sym lookup.0)) lookup.1 in
    c.has.ensures
    ∙ sym (ap (λ o. option_map_or (λ plan. slice_index_or plan.is_token c.args.turn false) o false) there)

pub returns-in-None : goal.returns-in-None
returns-in-None c =
    let plans = c.args.plans.now in
    sym (ap (λ o. option_map_or (λ plan. slice_index_or plan.is_token c.args.turn false) o false)
    (slice_get_past plans c.args.channel c.in-None.ensures.lookup.3))
