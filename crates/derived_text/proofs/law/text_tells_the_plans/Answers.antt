use Rattle.derived_text.proofs.Classes.{class_planned}
use Rattle.derived_text.proofs.Holds.{hold_planned}
use Rattle.derived_text.proofs.TokenCounts.{puts_planned}
use Rattle.derived_text.proofs.law.text_tells_the_plans.Goals as goal

pub returns : goal.returns
returns c = record {
  fires = c.fits_nest.ensures.shaped.turns;
  tokens = puts_planned c.args.nest.now;
  hold = hold_planned c.args.nest.now;
  class =
      class_planned c.args.nest.now;
}
