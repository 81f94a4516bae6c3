-- Where the code has brought a network that can't go on: to its positions at rest.
--
-- What the code keeps says where each process stands (`IsProgress`), whatever the capacities. So where a run at some
-- capacities has led here, and no process may go on with them, the positions are those at rest (AtRest). That no process
-- may go on isn't shown here: it is what the search for the least enabled one finds.
use Rattle.std.proofs.Common.{◌≡◌, ℕ, false, map, sym, ap, ◌∙◌, refl}
use Rattle.std.specs.List.{range_with_len}
use Rattle.std.proofs.lemmas.List.FromFn.{fill_by_all}
use Rattle.net_core.specs.declared.progress.Progress.{Progress}
use Rattle.net_core.specs.Cuts.{Cut, enabled_at, opening}
use Rattle.net_core.specs.Machine.{Net}
use Rattle.net_core.specs.Progress.{IsProgress, cut_of, place_list}
use Rattle.net_core.specs.Shape.{IsWired}
use Rattle.witness_plan.proofs.OtherCapacities.{wired_at}
use Rattle.cap_trim.specs.Capacities.{with_room}
use Rattle.cap_trim.specs.LeastRuns.{LeadsTo}
use Rattle.cap_trim.specs.Rests.{rest}
use Rattle.cap_trim.proofs.AtRest.{cuts_at_rest, rest_from}

pub positions_are : (n : Net) (progress : Progress) → IsProgress n progress
    → place_list progress ≡ map (cut_of progress) (range_with_len 0 n.processes)
positions_are n progress is =
    fill_by_all (cut_of progress) (place_list progress) n.processes 0 is.number (λ p lt. refl)

-- a run from the start that can't go on has brought the code to the positions at rest
pub stands_at_rest : (n : Net) (wired : IsWired n) (room : ℕ → ℕ) (progress : Progress) → IsProgress n progress
    → LeadsTo (with_room n room) opening (cut_of progress)
    → ((q : ℕ) → enabled_at (with_room n room) (cut_of progress) q ≡ false)
    → place_list progress ≡ rest (with_room n room)
stands_at_rest n wired room progress is run stuck =
    let there : IsWired (with_room n room) = wired_at n room wired in
    positions_are n progress is
    ∙ rest_from (with_room n room) there (cut_of progress)
    (λ q. ap (λ (k : Cut). k q) run.2
    ∙ cuts_at_rest (with_room n room) there run.0 run.1
    (λ r. ap (λ (k : Cut). enabled_at (with_room n room) k r) (sym run.2) ∙ stuck r) q)
