use Rattle.std.proofs.Common.{◌≡◌, ◌<◌, ◌≤◌, ℕ, length}
use Rattle.std.specs.Prelude.{slice_index}
use Rattle.std.proofs.lemmas.Result.{IfOk-weaker}
use Rattle.net_checker.specs.Fits.{Fits}
use Rattle.net_core.specs.Machine.{net_of}
use Rattle.witness_plan.specs.Sequential.{with_capacities}
use Rattle.cap_trim.specs.declared.trimming.Trimmed.{Trimmed}
use Rattle.cap_trim.specs.Capacities.{SticksBelow, capacity_list, lowered_rests, trimmed_network}
use Rattle.swept_net.specs.Certificates.{swept_cert}
use Rattle.cap_trim.specs.Rests.{least_run}
use Rattle.cap_trim.proofs.TrimFits.{fits_trimmed, ok_both, places_stick, places_within, planned_wired}
use Rattle.cap_trim.proofs.trimming.trim.Goals as goal

pub invariant_of-wired-clause-wired : goal.invariant_of-wired-clause-wired
invariant_of-wired-clause-wired c = planned_wired c.args.nest.now c.args.network.now c.requires.planned

pub returns-clause-within : goal.returns-clause-within
returns-clause-within c =
    let nest = c.args.nest.now in
    let network = c.args.network.now in
    IfOk-weaker c.least_capacities.result
    (λ (t : Trimmed). t.capacities ≡ capacity_list (trimmed_network (net_of network)))
    (λ t. (d : ℕ) → d < length network.channels
    → (1 ≤ slice_index t.capacities d) × (slice_index t.capacities d ≤ (net_of network).capacity d))
    (λ t is. places_within nest network t.capacities c.requires.planned
    (planned_wired nest network c.requires.planned) is)
    c.least_capacities.ensures.capacities

pub returns-clause-fits : goal.returns-clause-fits
returns-clause-fits c =
    let nest = c.args.nest.now in
    let network = c.args.network.now in
    IfOk-weaker c.least_capacities.result
    (λ (t : Trimmed). t.capacities ≡ capacity_list (trimmed_network (net_of network)))
    (λ t. Fits nest (with_capacities network t.capacities)
    (swept_cert nest (least_run (net_of (with_capacities network t.capacities)))))
    (λ t is. fits_trimmed nest network t.capacities c.requires.planned c.fits_nest.ensures c.names_last_writers.ensures
    c.has_classes_of_uses.ensures is (planned_wired nest network c.requires.planned))
    c.least_capacities.ensures.capacities

pub returns-clause-sticks : goal.returns-clause-sticks
returns-clause-sticks c =
    let nest = c.args.nest.now in
    let network = c.args.network.now in
    IfOk-weaker c.least_capacities.result
    (λ (t : Trimmed). (t.capacities ≡ capacity_list (trimmed_network (net_of network)))
    × (t.rests ≡ lowered_rests (trimmed_network (net_of network))))
    (λ t. SticksBelow (net_of (with_capacities network t.capacities)) t.rests)
    (λ t both. places_stick nest network t.capacities c.requires.planned
    (planned_wired nest network c.requires.planned) both.0
    t.rests both.1)
    (ok_both c.least_capacities.result (λ (t : Trimmed). t.capacities ≡ capacity_list (trimmed_network (net_of network)))
    (λ t. t.rests ≡ lowered_rests (trimmed_network (net_of network))) c.least_capacities.ensures.capacities
    c.least_capacities.ensures.rests)
