-- The hardware of a process whose ports go each at its own pace: a sequencer for its fires, and one for each of its ports.
use Rattle.std.specs.Prelude.{◌≡◌, ℕ, List}
use Rattle.std.specs.List.{AllZip}
use Rattle.net_core.specs.declared.network.Event.{Event}
use Rattle.node_automata.specs.declared.node.NodeAuto.{NodeAuto}
use Rattle.port_items.specs.Items.{begins_with_fire, fire_items, get_items, port_gets, put_items}
use Rattle.unit_text.specs.Units.{IsSequencerOf, IsUnitOf}
use Rattle.port_text.specs.declared.unit.GetControl.{GetControl}
use Rattle.port_text.specs.declared.unit.PortUnit.{PortUnit}
use Rattle.port_text.specs.declared.unit.PutControl.{PutControl}

-- A port that gets from a channel gives the items of the channel's Gets. Where the first is a fire without a Get, the port waits for
-- that fire at first, and the fire is given last.
pub record IsGetControlOf (script : List Event) (channel : ℕ) (control : GetControl) : Type 0 where
  pub channel_is : control.channel ≡ channel
  pub waits_is : control.waits ≡ begins_with_fire (get_items channel script)
  pub items_are : IsSequencerOf (port_gets channel script) control.items

-- a port that puts to a channel gives the items of the channel's Puts
pub record IsPutControlOf (script : List Event) (channel : ℕ) (control : PutControl) : Type 0 where
  pub channel_is : control.channel ≡ channel
  pub items_are : IsSequencerOf (put_items channel script) control.items

-- the unit of an automaton, with a sequencer of its fires and the controls of its ports, in the order of its channels
pub record IsPortUnitOf (a : NodeAuto) (unit : PortUnit) : Type 0 where
  pub unit_is : IsUnitOf a unit.unit
  pub fires_are : IsSequencerOf (fire_items a.events) unit.fires
  pub gets_are : AllZip (IsGetControlOf a.events) a.gets unit.gets
  pub puts_are : AllZip (IsPutControlOf a.events) a.puts unit.puts
