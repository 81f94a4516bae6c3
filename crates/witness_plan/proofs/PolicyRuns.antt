-- The schedule of a nest's network is a run under every policy, and ends all.
--
-- The sequential schedule is followed point by point (SequentialRun). Where one run that heeds no capacity ends
-- all, no other can stop before, so the downward one ends all too (Downward). The capacities are the greatest
-- lengths of the queues along the schedule itself, so with them it is a run still (NeverFull). That another
-- schedule is a run with these capacities isn't said.
use Rattle.std.proofs.Common.{◌≡◌, ℕ, List, length, take, sym, subst}
use Rattle.std.specs.Prelude.{Result, Ok, Err, IfOk}
use Rattle.net_core.specs.declared.network.Network.{Network}
use Rattle.net_core.specs.Cuts.{IsCutRun, cut_after, opening}
use Rattle.net_core.specs.Machine.{net_of}
use Rattle.net_core.specs.Orders.{EndsAll, reached}
use Rattle.net_core.specs.Rules.{tags}
use Rattle.process_derive.specs.Derived.{net}
use Rattle.process_derive.proofs.ScriptNames.{is_wired}
use Rattle.sanlp.specs.declared.nest.Nest.{Nest}
use Rattle.witness_plan.specs.declared.schedules.Policy.{Policy}
use Rattle.witness_plan.specs.declared.schedules.Policy.TheVariants.{Seq, Down}
use Rattle.witness_plan.specs.declared.schedules.Witness.{Witness}
use Rattle.witness_plan.specs.Schedules.{planned_network, schedule}
use Rattle.witness_plan.specs.Sequential.{capacities, queue_length, with_capacities}
use Rattle.witness_plan.proofs.Downward.{downward_ends, downward_runs}
use Rattle.witness_plan.proofs.NeverFull as heedless
use Rattle.witness_plan.proofs.NeverFull.{never_full}
use Rattle.witness_plan.proofs.SequentialRun.{sequential_ends, sequential_runs}

planned_runs : (n : Nest) (policy : Policy) → IsCutRun (never_full (net_of (net n))) opening (schedule n policy)
planned_runs n Seq = sequential_runs n
planned_runs n Down = downward_runs (net_of (net n)) (is_wired n)

planned_ends : (n : Nest) (policy : Policy) (p : ℕ)
    → cut_after opening (schedule n policy) p ≡ length ((net_of (net n)).script p)
planned_ends n Seq = sequential_ends n
planned_ends n Down =
    downward_ends (net_of (net n)) (is_wired n) (schedule n Seq) (sequential_runs n) (sequential_ends n)

pub ends_all : (n : Nest) (policy : Policy) → EndsAll (net_of (planned_network n policy)) tags (schedule n policy)
ends_all n policy =
    heedless.ends_all (net n) (schedule n policy) (is_wired n) (planned_runs n policy) (planned_ends n policy)

pub queue_lengths : (n : Nest) (policy : Policy) (k c : ℕ)
    → length ((reached (net_of (planned_network n policy)) tags (take k (schedule n policy))).queue c)
    ≡ queue_length (net_of (net n)) (cut_after opening (take k (schedule n policy))) c
queue_lengths n policy =
    heedless.queue_lengths (net n) (schedule n policy) (is_wired n) (planned_runs n policy) (planned_ends n policy)

-- so it is in a network that is given, with a list of capacities that is given
ends_fitted : (n : Nest) (policy : Policy) (network : Network) (run lengths : List ℕ) → network ≡ net n
    → run ≡ schedule n policy → lengths ≡ capacities network (schedule n policy)
    → EndsAll (net_of (with_capacities network lengths)) tags run
ends_fitted n policy network run lengths e f g =
    subst (λ x. EndsAll (net_of (with_capacities network lengths)) tags x) (sym f)
    (subst (λ x. EndsAll (net_of (with_capacities network x)) tags (schedule n policy)) (sym g)
    (subst (λ x. EndsAll (net_of (with_capacities x (capacities x (schedule n policy)))) tags (schedule n policy))
    (sym e) (ends_all n policy)))

pub ends_planned : {E : Type 0} (n : Nest) (policy : Policy) (network : Network) (result : Result Witness E)
    → network ≡ net n → IfOk result (λ witness. witness.schedule ≡ schedule n policy)
    → IfOk result (λ witness. witness.capacities ≡ capacities network (schedule n policy))
    → IfOk result (λ witness. EndsAll (net_of (with_capacities network witness.capacities)) tags witness.schedule)
ends_planned n policy network (Ok witness) is run lengths =
    ends_fitted n policy network witness.schedule witness.capacities is run lengths
ends_planned n policy network (Err e) is run lengths = tt
