-- The sequencers of a network's units give its scripts.
--
-- The automata and the units go together, in the order of the processes: the automaton of a process has its script
-- for events, and the sequencer of a unit gives those (`once`). By induction over the statements from any number on.
-- Behind the last process there is neither a script nor a sequencer.
use Rattle.std.proofs.Common.{◌≡◌, ℕ, zero, suc, ◌+◌, ◌<◌, ◌≤◌, List, [], ◌∷◌, length, map, refl, sym, subst, ◌∙◌}
use Rattle.std.proofs.Common.{inl, inr, arith}
use Rattle.std.specs.List.{AllZip, enumerate_from}
use Rattle.std.proofs.lemmas.Bool.{cases_lt}
use Rattle.sanlp.specs.declared.nest.Nest.{Nest}
use Rattle.sanlp.specs.declared.nest.Statement.{Statement}
use Rattle.sanlp.specs.Points.{points_of}
use Rattle.sanlp.proofs.NestFacts.{points_length}
use Rattle.net_core.specs.declared.network.Event.{Event}
use Rattle.net_core.specs.declared.network.Network.{Network}
use Rattle.net_core.specs.Machine.{net_of}
use Rattle.net_core.specs.Shape.{IsShaped}
use Rattle.node_automata.specs.Automata.{automaton_of}
use Rattle.node_automata.specs.declared.node.NodeAuto.{NodeAuto}
use Rattle.repeat_sequencer.specs.declared.sequencer.Sequencer.{Sequencer}
use Rattle.repeat_sequencer.specs.Steps.{Gives, at_end, at_start, step}
use Rattle.design_clocks.specs.Clocked.{GiveScripts}
use Rattle.design_clocks.specs.Plain.{plain}
use Rattle.unit_text.specs.declared.unit.Unit.{Unit}
use Rattle.unit_text.specs.Units.{IsUnitOf}
use Rattle.rtl_text.specs.Designs.{AreUnitsOf, controls_of}

abbrev GivesOnce : List Event → Sequencer Event → Type 0
GivesOnce script control = Gives control (step control) (at_start control) script (at_end control)

nothing_given : GivesOnce [] (plain [])
unfolding Gives
nothing_given = refl

module _ (once : (auto : NodeAuto) (unit : Unit) → IsUnitOf auto unit → GivesOnce auto.events unit.control)
    (nest : Nest) (network : Network) where
  abbrev made : ℕ → List Statement → List NodeAuto
  made k statements = map (λ numbered. automaton_of nest network numbered.0 numbered.1) (enumerate_from k statements)

  gives_at : (k : ℕ) (statements : List Statement) (units : List Unit) → AllZip IsUnitOf (made k statements) units
      → (i p : ℕ) → k + i ≡ p → i < length statements → GivesOnce ((net_of network).script p) (controls_of units i)
  gives_at k [] units are i p sum there = absurd (omega arith)
  gives_at k (s ∷ statements) [] are i p sum there = absurd are
  gives_at k (s ∷ statements) (unit ∷ units) are zero p sum there =
      let same : k ≡ p = omega arith in
      subst (λ (q : ℕ). GivesOnce ((net_of network).script q) unit.control) same
      (once (automaton_of nest network k s) unit are.0)
  gives_at k (s ∷ statements) (unit ∷ units) are (suc i) p sum there =
      gives_at (k + 1) statements units are.1 i p (omega arith) (omega arith)

  none_behind : (k : ℕ) (statements : List Statement) (units : List Unit) → AllZip IsUnitOf (made k statements) units
      → (i : ℕ) → length statements ≤ i → controls_of units i ≡ plain []
  none_behind k [] [] are i past = refl
  none_behind k [] (unit ∷ units) are i past = absurd are
  none_behind k (s ∷ statements) [] are i past = absurd are
  none_behind k (s ∷ statements) (unit ∷ units) are zero past = absurd (omega arith)
  none_behind k (s ∷ statements) (unit ∷ units) are (suc i) past =
      none_behind (k + 1) statements units are.1 i (omega arith)

pub give_scripts : (once : (auto : NodeAuto) (unit : Unit) → IsUnitOf auto unit → GivesOnce auto.events unit.control)
    → (nest : Nest) (network : Network) (units : List Unit) → IsShaped (net_of network) (points_of nest)
    → AreUnitsOf nest network units → GiveScripts (net_of network) (controls_of units)
give_scripts once nest network units shaped are p =
    elim (cases_lt p (length nest.statements)) [
      | inl there ↦ gives_at once nest network 0 nest.statements units are p p (omega arith) there
      | inr past ↦
          let many = shaped.processes ∙ points_length nest in
          let no_process : (net_of network).processes ≤ p = omega (arith, many, past) in
          subst (λ (control : Sequencer Event). GivesOnce ((net_of network).script p) control)
          (sym (none_behind once nest network 0 nest.statements units are p past))
          (subst (λ (script : List Event). GivesOnce script (plain []))
          (sym (shaped.wired.bounded p no_process)) nothing_given)
    ]
