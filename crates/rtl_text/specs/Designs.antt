-- What the design of a network is.
use Rattle.std.specs.Prelude.{◌≡◌, ℕ, List, [], slice_get}
use Rattle.std.specs.List.{AllZip}
use Rattle.std.specs.Option.{option_map_or}
use Rattle.sanlp.specs.declared.nest.Nest.{Nest}
use Rattle.net_core.specs.declared.network.Network.{Network}
use Rattle.node_automata.specs.Automata.{automata}
use Rattle.design_clocks.specs.Plain.{plain}
use Rattle.design_clocks.specs.Registers.{Controls}
use Rattle.unit_text.specs.Units.{IsUnitOf}
use Rattle.unit_text.specs.declared.unit.Unit.{Unit}
use Rattle.rtl_text.specs.Networks.{rtl_text}

-- the hardware of each process of a nest's network, in order
abbrev pub AreUnitsOf : Nest → Network → List Unit → Type 0
AreUnitsOf nest network units = AllZip IsUnitOf (automata nest network) units

-- A text is a design of a nest's network: that of hardware of its processes. A script can be kept as blocks in several ways, so
-- a network has several designs; the sequencers of each give the same scripts.
pub record IsDesignOf (nest : Nest) (network : Network) (text : List ℕ) : Type 0 where
  pub units : List Unit
  pub are_units : AreUnitsOf nest network units
  pub text_is : text ≡ rtl_text nest network units

-- the sequencers that say where the nodes of units are in their scripts, and one of nothing where there is no unit
abbrev pub controls_of : List Unit → Controls
controls_of units p = option_map_or (λ unit. unit.control) (slice_get units p) (plain [])
