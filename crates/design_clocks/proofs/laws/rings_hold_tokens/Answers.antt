use Rattle.design_clocks.proofs.Rings.{rings_hold}
use Rattle.design_clocks.proofs.laws.rings_hold_tokens.Goals as goal

pub returns : goal.returns
returns g c n controls rule k c' wired give some =
    rings_hold n controls rule (c.design_runs_by_clock.ensures n controls rule wired give).defined k c' some
