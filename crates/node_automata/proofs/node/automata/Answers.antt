use Rattle.std.proofs.Common.{◌≡◌, ◌∙◌, ◌++◌, ◌∷◌, [], ◌+◌, length, take, get_or, ap, sym, arith, add-one}
use Rattle.std.proofs.Math.Seq.{take-suc}
use Rattle.std.proofs.lemmas.List.{take_all}
use Rattle.std.proofs.lemmas.Option.{get_or_from_slice_get, slice_get_within}
use Rattle.node_automata.specs.Automata.{automata}
use Rattle.node_automata.proofs.Places.{automata_length}
use Rattle.sanlp.proofs.NestFacts.{points_length}
use Rattle.node_automata.proofs.node.automata.Goals as goal

pub loop-process-preserved : goal.loop-process-preserved
loop-process-preserved c =
    let all = automata c.args.nest.now c.args.network.now in
    let p = c.loop-process.process in
    let auto = c.in_ok-automaton.field-0 in
    let found = c.in_ok-automaton.ensures in
    let item : get_or all p auto ≡ auto = get_or_from_slice_get all p auto auto found in
    let next : take (p + 1) all ≡ take p all ++ get_or all p auto ∷ [] =
    ap (λ n. take n all) (add-one p) ∙ take-suc all p auto (slice_get_within all p auto found) in
    c.in_ok-push.ensures.items ∙ ap (λ list. list ++ auto ∷ []) c.loop-process.invariant
    ∙ sym (next ∙ ap (λ last. take p all ++ last ∷ []) item)

pub returns : goal.returns
returns c =
    let nest = c.args.nest.now in
    let network = c.args.network.now in
    let many : length network.processes ≡ length nest.statements =
    c.requires.shaped.processes ∙ ap length c.requires.points ∙ points_length nest in
    c.loop-process.invariant ∙ take_all c.loop-process.process (automata nest network)
    (omega (arith, automata_length nest network, many, c.len-process-end.ensures, c.loop-process-test.false))
