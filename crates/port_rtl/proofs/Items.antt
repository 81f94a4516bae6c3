-- The sequencers of a network's units give the items of its ports.
--
-- The automata and the units go together, in the order of the processes: the automaton of a process has its script
-- for events. In a unit the controls of its ports and its channels go together, so the one that is found for a
-- channel gives that channel's items. By induction over the statements from any number on (`given_at`), and over
-- the channels of a process (`control_given`), for Gets and Puts alike. Where nothing is found, a sequencer
-- without repeats gives the same. That one is found for each channel isn't said.
use Rattle.std.proofs.Common.{◌≡◌, ℕ, zero, suc, ◌+◌, ◌==◌, Bool, cond, Option, List, [], ◌∷◌, Some, map, slice_get, subst, sym, ap}
use Rattle.std.proofs.Common.{◌∙◌}
use Rattle.std.proofs.Common.{inl, inr, arith}
use Rattle.std.specs.List.{AllZip, enumerate_from, find}
use Rattle.std.specs.Option.{option_map_or}
use Rattle.std.proofs.lemmas.Bool.{cases_Bool, eqb-true}
use Rattle.sanlp.specs.declared.nest.Nest.{Nest}
use Rattle.sanlp.specs.declared.nest.Statement.{Statement}
use Rattle.net_core.specs.declared.network.Event.{Event}
use Rattle.net_core.specs.declared.network.Network.{Network}
use Rattle.net_core.specs.Machine.{net_of}
use Rattle.node_automata.specs.Automata.{automaton_of}
use Rattle.node_automata.specs.declared.node.NodeAuto.{NodeAuto}
use Rattle.repeat_sequencer.specs.declared.sequencer.Sequencer.{Sequencer}
use Rattle.repeat_sequencer.specs.Instructions.{sequencer_of}
use Rattle.repeat_sequencer.proofs.Given.{round}
use Rattle.design_clocks.specs.Plain.{plain}
use Rattle.design_clocks.proofs.Plain.{GivesOnce, gives_plain}
use Rattle.port_items.specs.Items.{fire_items, port_gets, put_items}
use Rattle.port_design.specs.Clocked.{GiveItems}
use Rattle.port_text.specs.declared.unit.GetControl.{GetControl}
use Rattle.port_text.specs.declared.unit.PortUnit.{PortUnit}
use Rattle.port_text.specs.declared.unit.PutControl.{PutControl}
use Rattle.port_text.specs.Units.{IsGetControlOf, IsPortUnitOf, IsPutControlOf}
use Rattle.unit_text.specs.Units.{IsSequencerOf}
use Rattle.port_rtl.specs.Controls.{get_sequencer, port_controls, put_sequencer}
use Rattle.port_rtl.specs.Designs.{ArePortUnitsOf}

-- a sequencer of blocks that stand for a list gives this
module _ {T : Type 0} where
  gives_items : (items : List T) (s : Sequencer T) → IsSequencerOf items s → GivesOnce items s
  gives_items items s is =
      subst (λ (s : Sequencer T). GivesOnce items s) (sym is.sequencer_is)
      (subst (λ (xs : List T). GivesOnce xs (sequencer_of is.blocks)) is.stands (round is.blocks is.proper))

-- of the controls of some channels the one found for a channel gives its items, and a plain sequencer does where none is found
module _ {C T : Type 0} (channel_of : C → ℕ) (sequencer : C → Sequencer T) (items : ℕ → List T) (Is : ℕ → C → Type 0)
    (own : (d : ℕ) (x : C) → Is d x → (channel_of x ≡ d) × IsSequencerOf (items d) (sequencer x)) (c : ℕ) where
  abbrev of_channel : C → Bool
  of_channel x = channel_of x == c

  abbrev chosen : Option C → Sequencer T
  chosen = λ o. option_map_or sequencer o (plain (items c))

  control_given : (channels : List ℕ) (controls : List C) → AllZip Is channels controls
      → GivesOnce (items c) (chosen (find of_channel controls))
  control_given [] [] are = gives_plain (items c)
  control_given [] (x ∷ controls) are = absurd are
  control_given (d ∷ channels) [] are = absurd are
  control_given (d ∷ channels) (x ∷ controls) are =
      let mine = own d x are.0 in
      elim (cases_Bool (of_channel x)) [
        | inl on ↦
            let here : find of_channel (x ∷ controls) ≡ Some x =
            ap (λ b. cond b (Some x) (find of_channel controls)) on in
            let same : d ≡ c = sym mine.0 ∙ eqb-true (channel_of x) c on in
            subst (λ o. GivesOnce (items c) (chosen o)) (sym here)
            (subst (λ e. GivesOnce (items e) (sequencer x)) same (gives_items (items d) (sequencer x) mine.1))
        | inr off ↦
            let later : find of_channel (x ∷ controls) ≡ find of_channel controls =
            ap (λ b. cond b (Some x) (find of_channel controls)) off in
            subst (λ o. GivesOnce (items c) (chosen o)) (sym later) (control_given channels controls are.1)
      ]

module _ (script : List Event) (c : ℕ) where
  get_given : (channels : List ℕ) (controls : List GetControl) → AllZip (IsGetControlOf script) channels controls
      → GivesOnce (port_gets c script) (get_sequencer controls c (plain (port_gets c script)))
  get_given =
      control_given (λ (x : GetControl). x.channel) (λ x. x.items) (λ d. port_gets d script) (IsGetControlOf script)
      (λ d x is. (is.channel_is, is.items_are)) c

  put_given : (channels : List ℕ) (controls : List PutControl) → AllZip (IsPutControlOf script) channels controls
      → GivesOnce (put_items c script) (put_sequencer controls c (plain (put_items c script)))
  put_given =
      control_given (λ (x : PutControl). x.channel) (λ x. x.items) (λ d. put_items d script) (IsPutControlOf script)
      (λ d x is. (is.channel_is, is.items_are)) c

module _ (nest : Nest) (network : Network) where
  abbrev made : ℕ → List Statement → List NodeAuto
  made k statements = map (λ numbered. automaton_of nest network numbered.0 numbered.1) (enumerate_from k statements)

  abbrev script_of : ℕ → List Event
  script_of p = (net_of network).script p

  -- what a unit has of a kind gives these items, so what the unit of a process has does, or else a plain one
  given_at : {T : Type 0} (items : ℕ → List T) (part : PortUnit → Sequencer T → Sequencer T)
      → ((p : ℕ) (s : Statement) (unit : PortUnit) → IsPortUnitOf (automaton_of nest network p s) unit
      → GivesOnce (items p) (part unit (plain (items p))))
      → (k : ℕ) (statements : List Statement) (units : List PortUnit) → AllZip IsPortUnitOf (made k statements) units
      → (i p : ℕ) → k + i ≡ p
      → GivesOnce (items p)
      (option_map_or (λ unit. part unit (plain (items p))) (slice_get units i) (plain (items p)))
  given_at items part one k [] [] are i p sum = gives_plain (items p)
  given_at items part one k [] (unit ∷ units) are i p sum = absurd are
  given_at items part one k (s ∷ statements) [] are i p sum = absurd are
  given_at items part one k (s ∷ statements) (unit ∷ units) are zero p sum =
      let same : k ≡ p = omega arith in
      subst (λ (q : ℕ). GivesOnce (items q) (part unit (plain (items q)))) same (one k s unit are.0)
  given_at items part one k (s ∷ statements) (unit ∷ units) are (suc i) p sum =
      given_at items part one (k + 1) statements units are.1 i p (omega arith)

  pub give_items : (units : List PortUnit) → ArePortUnitsOf nest network units
      → GiveItems (net_of network) (port_controls (net_of network) units)
  give_items units are = record {
    fires = λ p.
        given_at (λ q. fire_items (script_of q)) (λ unit other. unit.fires)
        (λ q s unit is. gives_items (fire_items (script_of q)) unit.fires is.fires_are)
        0 nest.statements units are p p (omega arith);
    gets = λ c.
        given_at (λ q. port_gets c (script_of q)) (λ unit. get_sequencer unit.gets c)
        (λ q s unit is. get_given (script_of q) c _ unit.gets is.gets_are)
        0 nest.statements units are ((net_of network).reader c) ((net_of network).reader c) (omega arith);
    puts = λ c.
        given_at (λ q. put_items c (script_of q)) (λ unit. put_sequencer unit.puts c)
        (λ q s unit is. put_given (script_of q) c _ unit.puts is.puts_are)
        0 nest.statements units are ((net_of network).writer c) ((net_of network).writer c) (omega arith);
  }
