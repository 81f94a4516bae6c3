use Rattle.design_clocks.proofs.Clocked.{takes_clocks}
use Rattle.design_clocks.proofs.laws.design_takes_clocks.Goals as goal

pub returns : goal.returns
returns g c n controls rule wired give always =
    takes_clocks n controls rule wired give (c.clocked_run_ends.ensures n rule wired always) always
