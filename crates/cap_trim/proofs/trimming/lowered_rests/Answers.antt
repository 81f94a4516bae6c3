use Rattle.std.proofs.Common.{◌∙◌, ◌-◌, ◌<◌, List, ℕ, set, length, ap, arith}
use Rattle.std.specs.Prelude.{slice_index}
use Rattle.net_core.specs.Machine.{net_of}
use Rattle.net_core.specs.Progress.{at_capacities}
use Rattle.cap_trim.specs.Rests.{rest}
use Rattle.cap_trim.proofs.Turns.{rest_lowered, rests_more, set_back}
use Rattle.cap_trim.proofs.trimming.lowered_rests.Goals as goal

pub loop-at-preserved : goal.loop-at-preserved
loop-at-preserved c =
    let n = net_of c.args.wired.now.network.now in
    let at = c.loop-at.at in
    let own = c.args.capacities.now in
    let now = c.loop-at.capacities in
    let same = c.loop-at.invariant.same in
    let lower = c.saturating_sub.result in
    let there : at < length own = omega (arith, ap length same) in
    record {
      rests = c.in_ok-push.ensures.ok
          ∙ rests_more (at_capacities n own) at c.loop-at.rests c.from_vec.result c.loop-at.invariant.rests
          (c.from_vec.ensures ∙ c.in_ok-rest_at.ensures
          ∙ ap (λ (l : List ℕ). rest (at_capacities n (set l at lower))) same
          ∙ rest_lowered n own at lower there
          (c.saturating_sub.ensures ∙ ap (λ (l : List ℕ). slice_index l at - 1) same));
      same = set_back now at lower ∙ same;
    }
