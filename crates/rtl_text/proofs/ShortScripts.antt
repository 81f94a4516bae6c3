-- Where no automaton has too long a script, no unit has too long a sequencer.
--
-- The automata and the units go together, and along both: where the first of them isn't found, neither test passes here nor behind.
-- A unit's longest sequencer is within the events of its automaton (`unit_text.proofs.Limits`), since the automaton has as many
-- values as fires, which are some of its events. It isn't an equivalence: a script that is too long may fold to a short sequencer.
use Rattle.std.proofs.Common.{◌≡◌, ◌≤◌, ◌+◌, ◌∙◌, ℕ, Bool, true, false, cond, Option, Some, None, List, [], ◌∷◌, count_by, length}
use Rattle.std.proofs.Common.{map, refl, ap, arith}
use Rattle.std.specs.List.{AllZip, enumerate_from, find}
use Rattle.std.proofs.lemmas.Bool.{le-ltb, ltb-false}
use Rattle.std.proofs.lemmas.List.Sums.{count_by-le-length}
use Rattle.sanlp.specs.declared.nest.Nest.{Nest}
use Rattle.sanlp.specs.declared.nest.Statement.{Statement}
use Rattle.sanlp.specs.Points.{points_of}
use Rattle.net_core.specs.declared.network.Network.{Network}
use Rattle.net_core.specs.Machine.{net_of}
use Rattle.net_core.specs.Shape.{IsShaped, is_fire}
use Rattle.node_automata.specs.Automata.{automata, automaton_of}
use Rattle.node_automata.specs.declared.node.NodeAuto.{NodeAuto}
use Rattle.vhdl_text.specs.Refusal.{first_too_long, is_too_long}
use Rattle.unit_text.specs.declared.unit.Unit.{Unit}
use Rattle.unit_text.specs.Limits.{first_with_long_sequencer, has_long_sequencer, most_instructions}
use Rattle.unit_text.specs.Units.{IsUnitOf}
use Rattle.unit_text.proofs.Limits.{control_within, loops_within}
use Rattle.rtl_text.specs.Designs.{AreUnitsOf}

-- where nothing is found, the first doesn't pass, and nothing is found behind it
not_here : {X : Type 0} (b : Bool) (x : X) (rest : Option X) → cond b (Some x) rest ≡ None → (b ≡ false) × (rest ≡ None)
not_here true x rest h = absurd (cc)
not_here false x rest h = (refl, h)

module _ (nest : Nest) (network : Network) (shaped : IsShaped (net_of network) (points_of nest)) where
  abbrev made : ℕ → List Statement → List NodeAuto
  made k statements =
      map (λ numbered. automaton_of nest network numbered.0 numbered.1) (enumerate_from k statements)

  short_one : (k : ℕ) (s : Statement) (unit : Unit) → IsUnitOf (automaton_of nest network k s) unit
      → is_too_long (automaton_of nest network k s) ≡ false → has_long_sequencer unit ≡ false
  short_one k s unit is short =
      let auto : NodeAuto = automaton_of nest network k s in
      let few : length auto.events ≤ 65536 = ltb-false 65536 (length auto.events) short in
      let fires : count_by is_fire auto.events ≡ length auto.values = shaped.turns k in
      let some : count_by is_fire auto.events ≤ length auto.events = count_by-le-length is_fire auto.events in
      le-ltb 65536 (most_instructions unit)
      (omega (arith, few, fires, some, control_within auto unit is, loops_within auto unit is))

  none_from : (k : ℕ) (statements : List Statement) (all : List Unit) → AllZip IsUnitOf (made k statements) all
      → find is_too_long (made k statements) ≡ None → find has_long_sequencer all ≡ None
  none_from k [] [] are none = refl
  none_from k [] (unit ∷ all) are none = absurd are
  none_from k (s ∷ statements) [] are none = absurd are
  none_from k (s ∷ statements) (unit ∷ all) are none =
      let here =
      not_here (is_too_long (automaton_of nest network k s)) (automaton_of nest network k s)
      (find is_too_long (made (k + 1) statements)) none in
      ap (λ (b : Bool). cond b (Some unit) (find has_long_sequencer all)) (short_one k s unit are.0 here.0)
      ∙ none_from (k + 1) statements all are.1 here.1

pub none_is_long : (nest : Nest) (network : Network) (units : List Unit) → IsShaped (net_of network) (points_of nest)
    → AreUnitsOf nest network units → first_too_long (automata nest network) ≡ None
    → first_with_long_sequencer units ≡ None
none_is_long nest network units shaped are none = none_from nest network shaped 0 nest.statements units are none
