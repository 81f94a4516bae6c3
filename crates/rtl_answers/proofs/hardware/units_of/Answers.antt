use Rattle.std.proofs.Common.{◌≡◌, ◌∙◌, ◌++◌, ◌∷◌, [], ◌+◌, length, take, get_or, ap, sym, subst, arith, add-one}
use Rattle.std.specs.List.{AllZip}
use Rattle.std.proofs.Math.Seq.{take-suc}
use Rattle.std.proofs.lemmas.List.{take_all}
use Rattle.std.proofs.lemmas.Option.{get_or_from_slice_get, slice_get_within}
use Rattle.plain_data.proofs.Lists.{AllZip-push}
use Rattle.sanlp.proofs.NestFacts.{points_length}
use Rattle.net_core.specs.Machine.{net_of}
use Rattle.net_core.specs.Shape.{IsShaped}
use Rattle.node_automata.specs.Automata.{automata}
use Rattle.node_automata.proofs.Places.{automata_length}
use Rattle.rtl_answers.proofs.Units.{few_values}
use Rattle.rtl_answers.proofs.hardware.units_of.Goals as goal

pub from_automaton-requires : goal.from_automaton-requires
from_automaton-requires g c =
    few_values c.args.nest_points.now.nest.now c.args.network.now c.loop-process.process c.in_ok-auto.auto
    (subst (IsShaped (net_of c.args.network.now)) c.args.nest_points.now.points_of_nest c.requires.shaped)
    c.requires.numbers c.in_ok-auto.ensures

pub loop-process-preserved : goal.loop-process-preserved
loop-process-preserved g c =
    let IsOf = g.U.Hardware.is_of in
    let all = automata c.args.nest_points.now.nest.now c.args.network.now in
    let p = c.loop-process.process in
    let auto = c.in_ok-auto.auto in
    let unit = c.in_ok-unit.unit in
    let found = c.in_ok-auto.ensures in
    let item : get_or all p auto ≡ auto = get_or_from_slice_get all p auto auto found in
    let next : take (p + 1) all ≡ take p all ++ auto ∷ [] =
    ap (λ n. take n all) (add-one p) ∙ take-suc all p auto (slice_get_within all p auto found)
    ∙ ap (λ last. take p all ++ last ∷ []) item in
    subst (AllZip IsOf (take (p + 1) all)) (sym c.in_ok-push.ensures.ok)
    (subst (λ autos. AllZip IsOf autos (c.loop-process.units ++ unit ∷ [])) (sym next)
    (AllZip-push IsOf (take p all) c.loop-process.units auto unit c.loop-process.invariant c.in_ok-unit.ensures))

pub returns : goal.returns
returns g c =
    let nest = c.args.nest_points.now.nest.now in
    let network = c.args.network.now in
    let many : length network.processes ≡ length nest.statements =
    c.requires.shaped.processes ∙ ap length c.args.nest_points.now.points_of_nest ∙ points_length nest in
    subst (λ autos. AllZip g.U.Hardware.is_of autos c.loop-process.units)
    (take_all c.loop-process.process (automata nest network)
    (omega (arith, automata_length nest network, many, c.len-process-end.ensures, c.loop-process-test.false)))
    c.loop-process.invariant
