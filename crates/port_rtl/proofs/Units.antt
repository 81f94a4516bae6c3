-- What the hardware of processes has besides the sequencers of their ports is hardware of the same processes.
--
-- What a unit of a process is says of its inner unit that it is one of the same process (`unit_is`). So of
-- automata and units that go together the inner units go with the automata too, by induction over both lists,
-- which are equally long. It says nothing of the sequencers of the ports. That of the script, which a unit has
-- too, stands in no text here.
use Rattle.std.proofs.Common.{List, [], ◌∷◌}
use Rattle.std.specs.List.{AllZip}
use Rattle.node_automata.specs.declared.node.NodeAuto.{NodeAuto}
use Rattle.unit_text.specs.Units.{IsUnitOf}
use Rattle.port_text.specs.declared.unit.PortUnit.{PortUnit}
use Rattle.port_text.specs.Units.{IsPortUnitOf}
use Rattle.port_rtl.specs.Designs.{units_of}

pub units_are : (autos : List NodeAuto) (units : List PortUnit) → AllZip IsPortUnitOf autos units
    → AllZip IsUnitOf autos (units_of units)
units_are [] [] all = tt
units_are [] (unit ∷ units) all = absurd all
units_are (auto ∷ autos) [] all = absurd all
units_are (auto ∷ autos) (unit ∷ units) all = (all.0.unit_is, units_are autos units all.1)
