use Rattle.std.proofs.lemmas.List.Folds.{flat_map-map}
use Rattle.rtl_text.specs.Networks.{unit_part_text}
use Rattle.rtl_text.proofs.network.write_for_units.Goals as goal

pub returns : goal.returns
returns g c =
    rw (flat_map-map (unit_part_text c.args.part c.args.nest.now) g.U.HasUnit.unit_of c.args.units.now)
    c.write_each_unit.ensures
