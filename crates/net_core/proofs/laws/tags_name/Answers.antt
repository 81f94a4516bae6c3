use Rattle.net_core.proofs.PlaceValues.{tags_named}
use Rattle.net_core.proofs.laws.tags_name.Goals as goal

pub returns : goal.returns
returns c n run wired is p = tags_named n wired run is p
