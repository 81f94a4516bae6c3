use Rattle.std.proofs.Common.{ap, ◌∙◌}
use Rattle.net_core.specs.Machine.{Net}
use Rattle.net_core.specs.Shape.{put_count}
use Rattle.net_text.specs.NetworkText.{hold}
use Rattle.process_derive.specs.Derived.{net}
use Rattle.witness_plan.proofs.OtherCapacities.{net_kept}
use Rattle.derived_text.proofs.Classes.{class_at_capacities}
use Rattle.derived_text.proofs.Holds.{hold_planned}
use Rattle.derived_text.proofs.TokenCounts.{puts_planned}
use Rattle.derived_text.proofs.law.other_capacities_tell_the_plans.Goals as goal

pub returns : goal.returns
returns c = record {
  fires = λ capacities. c.fits_nest.ensures.shaped.turns;
  tokens =
      λ capacities number plan there. ap (λ (n : Net). put_count n number) (net_kept (net c.args.nest.now) capacities)
      ∙ puts_planned c.args.nest.now number plan there;
  hold = λ capacities number plan there. ap (λ (n : Net). hold n number) (net_kept (net c.args.nest.now) capacities)
      ∙ hold_planned c.args.nest.now number plan there;
  class = class_at_capacities c.args.nest.now;
}
