-- A process has few points: it fires once at each, and its script has fewer than 2 ^ 32 events.
--
-- The automaton of a process has one value for each of its points, and the network's shape says that the process
-- fires once at each. A fire is an event of the script, so the values are no more than the events, and a script whose
-- network fits its numbers has fewer than 2 ^ 32. There is no induction: both counts are bounds that hold of each
-- script. It isn't said that a unit's text is short, which depends on its expressions too.
use Rattle.std.proofs.Common.{◌≡◌, ◌<◌, ◌^◌, ◌∙◌, ℕ, [], Some, length, slice_get, sym, ap, arith}
use Rattle.std.specs.Prelude.{slice_index_or}
use Rattle.std.proofs.lemmas.List.Sums.{count_by-le-length}
use Rattle.std.proofs.lemmas.Option.{same_Some, slice_get_within}
use Rattle.plain_data.proofs.Lists.{slice_get-some}
use Rattle.sanlp.specs.declared.nest.Nest.{Nest}
use Rattle.sanlp.specs.Points.{points_of}
use Rattle.net_core.specs.declared.network.Network.{Network}
use Rattle.net_core.specs.Machine.{net_of}
use Rattle.net_core.specs.Shape.{FitsNumbers, IsShaped, is_fire}
use Rattle.net_core.proofs.Ready.{script_short}
use Rattle.node_automata.specs.declared.node.NodeAuto.{NodeAuto}
use Rattle.node_automata.specs.Automata.{automata, automaton_of}
use Rattle.node_automata.proofs.Places.{automata_length, made_at}

pub few_values : (nest : Nest) (network : Network) (p : ℕ) (auto : NodeAuto)
    → IsShaped (net_of network) (points_of nest)
    → FitsNumbers (net_of network) → slice_get (automata nest network) p ≡ Some auto → length auto.values < 2 ^ 32
few_values nest network p auto shaped numbers is =
    let within = slice_get_within (automata nest network) p auto is in
    let found = slice_get-some nest.statements p (omega (arith, within, automata_length nest network)) in
    let made =
    made_at (λ numbered. automaton_of nest network numbered.0 numbered.1) nest.statements p found.0 found.1 in
    let same : auto ≡ automaton_of nest network p found.0 = same_Some _ _ (sym is ∙ made) in
    let many : length auto.values ≡ length (slice_index_or (points_of nest) p []) =
    ap (λ (a : NodeAuto). length a.values) same in
    omega (
      arith,
      many,
      shaped.turns p,
      count_by-le-length is_fire ((net_of network).script p),
      script_short (net_of network) shaped.wired numbers p,
    )
