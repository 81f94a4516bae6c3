use Rattle.std.proofs.Common.{◌≡◌, ◌∙◌, Some, [], length, slice_get, get_or, ap, sym, arith}
use Rattle.std.specs.Option.{option_map_or}
use Rattle.std.proofs.lemmas.Option.{get_or_from_slice_get}
use Rattle.net_core.specs.declared.network.Process.{Process}
use Rattle.net_core.specs.Machine.{net_of}
use Rattle.sanlp.specs.Points.{points_of}
use Rattle.sanlp.proofs.NestFacts.{points_length}
use Rattle.node_automata.specs.Automata.{automaton_of}
use Rattle.node_automata.proofs.Places.{made_at}
use Rattle.node_automata.proofs.node.automaton.Goals as goal
use Rattle.plain_data.proofs.Lists.{slice_get_read_same}

pub statement-statement-requires : goal.statement-statement-requires
statement-statement-requires c =
    let lists : length c.args.network.now.processes ≡ length c.args.nest.now.statements =
    c.requires.shaped.processes ∙ ap length c.requires.points ∙ points_length c.args.nest.now in
    omega (arith, lists, c.requires.process)

pub returns : goal.returns
returns c =
    let nest = c.args.nest.now in
    let network = c.args.network.now in
    let p = c.args.process in
    let statement = c.statement-statement.result.now in
    let body = c.index-as_slice-at.result in
    let found : slice_get network.processes p ≡ Some body =
    slice_get_read_same network.processes c.as_slice.result.now p body c.as_slice.ensures
    (omega (arith, ap length c.as_slice.ensures, c.requires.process)) c.index-as_slice-at.is in
    let slots : (net_of network).slots p ≡ body.slots =
    ap (λ o. option_map_or (λ (process : Process). process.slots) o 0) found in
    let script : (net_of network).script p ≡ body.script =
    ap (λ o. option_map_or (λ (process : Process). process.script) o []) found in
    let events = script ∙ sym c.in_ok-events.ensures in
    let vectors = c.index-as_slice-at-2.result in
    let points : slice_get (points_of nest) p ≡ Some vectors =
    slice_get_read_same (points_of nest) c.as_slice-2.result.now p vectors (c.as_slice-2.ensures ∙ c.requires.points)
    (omega (arith, ap length c.as_slice-2.ensures, c.requires.shaped.processes, c.requires.process))
    c.index-as_slice-at-2.is in
    let values : get_or (points_of nest) p [] ≡ c.in_ok-values.values =
    get_or_from_slice_get (points_of nest) p vectors [] points ∙ sym (c.in_ok-values.ensures ∙ c.as_slice-3.ensures) in
    made_at (λ numbered.
    automaton_of nest network numbered.0 numbered.1) nest.statements p statement c.statement-statement.ensures.value
    ∙ λ i. Some (record {
      process = p;
      role = statement.role;
      depth = sym c.len.ensures i;
      reads = sym c.len-2.ensures i;
      gets = sym c.in_ok-gets.ensures i;
      puts = sym c.in_ok-puts.ensures i;
      slots = slots i;
      events = events i;
      values = values i;
      expr = sym c.in_ok-expr.ensures i;
    })
