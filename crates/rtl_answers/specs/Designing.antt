-- What a design of a bundle's source comes to: one case for each cause, in the order in which they decide.
use Rattle.std.specs.Prelude.{◌≡◌, ℕ, ℤ, List, Some, None, Result, Ok, Err}
use Rattle.bundle.specs.Parts.{source_part}
use Rattle.sanlp.specs.declared.nest.Nest.{Nest}
use Rattle.net_core.specs.declared.network.Network.{Network}
use Rattle.rtl_line.specs.declared.words.Policy.{Policy}
use Rattle.rtl_line.specs.declared.words.Ports.{Ports}
use Rattle.rtl_line.specs.declared.words.Ports.TheVariants.{One, All}
use Rattle.port_text.specs.declared.unit.PortUnit.{PortUnit}
use Rattle.port_text.specs.Limits as ports
use Rattle.port_rtl.specs.Designs.{ArePortUnitsOf, IsPortDesignOf}
use Rattle.unit_text.specs.declared.unit.Unit.{Unit}
use Rattle.unit_text.specs.Limits.{first_with_long_sequencer, most_instructions}
use Rattle.rtl_text.specs.Designs.{AreUnitsOf, IsDesignOf}
use Rattle.command_answers.specs.Replies.{Reply, done}
use Rattle.command_answers.specs.Source.{GivesWithinSize}
use Rattle.command_answers.specs.declared.refusal.Refusal.{Refusal}
use Rattle.command_answers.specs.declared.refusal.Refusal.TheVariants.{Script}
use Rattle.rtl_answers.specs.Networks.{network_for}

-- the refusal of a process with a sequencer that is too long
abbrev pub unit_refusal : Unit → Refusal
unit_refusal unit = Script unit.auto.process (most_instructions unit)

abbrev pub port_unit_refusal : PortUnit → Refusal
port_unit_refusal unit = Script unit.unit.auto.process (ports.most_instructions unit)

-- a text is a design of a network, with ports that take turns so, and none of its sequencers is too long
abbrev pub IsShortDesign : Ports → Nest → Network → List ℕ → Type 0
IsShortDesign One nest network text =
    (design : IsDesignOf nest network text) × (first_with_long_sequencer design.units ≡ None)
IsShortDesign All nest network text =
    (design : IsPortDesignOf nest network text)
    × (ports.first_with_long_sequencer design.units ≡ None)

-- a sequencer of such hardware of the processes is too long, and the refusal tells the first process with such a one
abbrev pub IsTooLong : Ports → Nest → Network → Refusal → Type 0
IsTooLong One nest network refusal =
    (units : List Unit) × (unit : Unit) × AreUnitsOf nest network units
    × (first_with_long_sequencer units ≡ Some unit) × (refusal ≡ unit_refusal unit)
IsTooLong All nest network refusal =
    (units : List PortUnit) × (unit : PortUnit) × ArePortUnitsOf nest network units
    × (ports.first_with_long_sequencer units ≡ Some unit) × (refusal ≡ port_unit_refusal unit)

-- the reply is a design of a nest's network, with the capacities that are wanted; or a sequencer is too long
abbrev pub HasDesign : Ports → Policy → Nest → Result Reply Refusal → Type 0
HasDesign ports policy nest (Ok reply) =
    (text : List ℕ) × (reply ≡ done text) × IsShortDesign ports nest (network_for policy nest) text
HasDesign ports policy nest (Err refusal) = IsTooLong ports nest (network_for policy nest) refusal

-- The source gives no nest within the limit, a sequencer of a process is too long, or a design is written of the nest's network
-- with the capacities that are wanted.
--
-- Which blocks a script and what a loop gains are kept as is free, so where a process has more than 65,536 events both a design
-- and the refusal may be right; where none has, there is no refusal, as the law `rtl_text::short_scripts_have_short_sequencers`
-- says of designs with one port after the other.
pub data Designs (ports : Ports) (policy : Policy) (params : List (List ℕ × ℤ))
    (bundle : List ℕ) : Result Reply Refusal → Type 0 where
  source_refused : (refusal : Refusal) → GivesWithinSize (source_part bundle) params (Err refusal)
      → Designs ports policy params bundle (Err refusal)
  script_refused : (nest : Nest) (refusal : Refusal)
      → GivesWithinSize (source_part bundle) params (Ok nest)
      → IsTooLong ports nest (network_for policy nest) refusal
      → Designs ports policy params bundle (Err refusal)
  designed : (nest : Nest) (text : List ℕ)
      → GivesWithinSize (source_part bundle) params (Ok nest)
      → IsShortDesign ports nest (network_for policy nest) text
      → Designs ports policy params bundle (Ok (done text))
