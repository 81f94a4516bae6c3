-- What the design of a network is whose ports go each at its own pace.
use Rattle.std.specs.Prelude.{◌≡◌, ℕ, List, [], ◌∷◌, codes, map}
use Rattle.std.specs.List.{AllZip, concat, flat_map}
use Rattle.sanlp.specs.declared.nest.Nest.{Nest}
use Rattle.net_core.specs.declared.network.Network.{Network}
use Rattle.node_automata.specs.Automata.{automata}
use Rattle.vhdl_text.specs.VhdlText.{channel_lines}
use Rattle.unit_text.specs.declared.unit.Unit.{Unit}
use Rattle.port_text.specs.declared.unit.PortUnit.{PortUnit}
use Rattle.port_text.specs.Nodes.{port_unit_text}
use Rattle.port_text.specs.Units.{IsPortUnitOf}
use Rattle.rtl_text.specs.Networks.{channel_text, network_body, network_entity}

-- what the processes do, with the counters of their loops
abbrev pub units_of : List PortUnit → List Unit
units_of all = map (λ unit. unit.unit) all

-- the version of the text, a line for each channel, the channel, the units, and the network, in which the nodes are joined as those of
-- one script are
abbrev pub port_rtl_text : Nest → Network → List PortUnit → List ℕ
port_rtl_text nest network all = concat (
    codes "-- compaan rtl 1\n" ∷ channel_lines network.channels ∷ channel_text
    ∷ flat_map port_unit_text all ∷ network_entity nest (units_of all)
    ∷ network_body nest network (units_of all) ∷ [])

-- the hardware of each process of a nest's network, in order
abbrev pub ArePortUnitsOf : Nest → Network → List PortUnit → Type 0
ArePortUnitsOf nest network units = AllZip IsPortUnitOf (automata nest network) units

-- A text is a design of a nest's network: that of hardware of its processes. A script can be kept as blocks in several ways, so a
-- network has several designs; the sequencers of each give the same items.
pub record IsPortDesignOf (nest : Nest) (network : Network) (text : List ℕ) : Type 0 where
  pub units : List PortUnit
  pub are_units : ArePortUnitsOf nest network units
  pub text_is : text ≡ port_rtl_text nest network units
