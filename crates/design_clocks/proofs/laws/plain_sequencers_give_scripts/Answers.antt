use Rattle.design_clocks.proofs.Plain.{plain_gives}
use Rattle.design_clocks.proofs.laws.plain_sequencers_give_scripts.Goals as goal

pub returns : goal.returns
returns c n = plain_gives n
