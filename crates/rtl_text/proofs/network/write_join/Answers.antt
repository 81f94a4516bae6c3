use Rattle.rtl_text.specs.Networks.{joins_text}
use Rattle.rtl_text.proofs.network.write_join.Goals as goal

pub returns-in-Reader : goal.returns-in-Reader
unfolding joins_text
returns-in-Reader g c = rw c.in-Reader.is c.write_with_number.ensures

pub returns-in-Writer : goal.returns-in-Writer
unfolding joins_text
returns-in-Writer g c = rw c.in-Writer.is c.write_with_number-in-Writer.ensures
