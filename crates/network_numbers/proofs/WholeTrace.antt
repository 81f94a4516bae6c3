-- The trace, run by run, and what is counted at its end.
--
-- With the entries that are gone goes that the turns of each process and the counts of each channel are those after so many
-- entries. Before the first there are none, and a run takes both as many entries on as it has (RunPassed, `turns_later`,
-- `queues_later`). After the last the schedule so far is the sequential one, so the greatest lengths are its capacities. That
-- a run ends where another process fires is not said.
use Rattle.std.proofs.Common.{◌≡◌, ℕ, ◌+◌, ◌<◌, Option, List}
use Rattle.std.proofs.Common.{length, map, set, get_or, replicate, refl, sym, ap, ◌∙◌}
use Rattle.std.proofs.Common.{arith}
use Rattle.std.specs.List.{range_with_len}
use Rattle.std.specs.Option.{option_map_or}
use Rattle.std.proofs.lemmas.List.{get_or_read_under}
use Rattle.std.proofs.lemmas.List.FromFn.{get_or-map-range_with_len, length-map-range_with_len}
use Rattle.std.proofs.lemmas.Simd.{map-map}
use Rattle.channel_plan.specs.Plans.{plans_of}
use Rattle.net_core.specs.Machine.{net_of}
use Rattle.network_numbers.specs.declared.queues.QueueCounts.{QueueCounts}
use Rattle.network_numbers.specs.Entries.{after_run}
use Rattle.network_numbers.specs.Links.{channels_at, read_lists}
use Rattle.network_numbers.specs.Queues.{empty_queue}
use Rattle.process_derive.specs.Derived.{net}
use Rattle.process_derive.proofs.Bounds.{few_entries}
use Rattle.process_derive.proofs.Numbers.{count_channels}
use Rattle.process_derive.proofs.Tags.{few_turns as turns_few}
use Rattle.plain_data.proofs.Lists.{slice_get-some}
use Rattle.plan_numbers.specs.Numbers.{numbers_of}
use Rattle.plan_numbers.specs.declared.numbers.PlanNumbers.{PlanNumbers}
use Rattle.sanlp.specs.Size.{SizeIsOk}
use Rattle.sanlp.specs.Trace.{trace}
use Rattle.sanlp.specs.declared.nest.Nest.{Nest}
use Rattle.sanlp.specs.declared.nest.Tag.{Tag}
use Rattle.sanlp.proofs.Lists.{map-range_with_len_replicate, map-range_with_len_same}
use Rattle.sanlp.proofs.ReadCounts.{trace-statement}
use Rattle.source_tree.specs.Sources.{sources_of}
use Rattle.witness_plan.specs.Sequential.{capacities, greatest_length, sequential_schedule}
use Rattle.net_core.proofs.CountedLists.{set_at}
use Rattle.witness_plan.proofs.InTraceOrder.{turns_before}
use Rattle.witness_plan.proofs.SequentialRun.{few_turns}
use Rattle.witness_plan.proofs.TraceSteps.{sequenced, sequenced_all}
use Rattle.fire_runs.proofs.TraceRuns.{HasRun}
use Rattle.network_numbers.proofs.RunTurns.{turns_other, turns_own}
use Rattle.network_numbers.proofs.RunPassed.{none_passed, queue_at, queue_with, queues_at, run_passed}

-- Channels of processes

-- the channels of a process, as they are read in the list for all processes
pub linked_at : (plans : List PlanNumbers) (linked : List (List ℕ)) (many p : ℕ) (one : List ℕ)
    → linked ≡ map (channels_at plans) (range_with_len 0 many) → p < many → one ≡ get_or linked p one
    → one ≡ channels_at plans p
linked_at plans linked many p one e lt is =
    get_or_read_under linked p many one (channels_at plans p) is lt
    (sym (ap length e ∙ length-map-range_with_len (channels_at plans) 0 many))
    ∙ ap (λ xs. get_or xs p (channels_at plans p)) e
    ∙ get_or-map-range_with_len (channels_at plans) 0 many p p (channels_at plans p) lt (omega arith)

-- At first

pub no_turns : (n : Nest) (turns : List ℕ) → turns ≡ replicate (length n.statements) 0
    → turns ≡ map (turns_before (trace n) 0) (range_with_len 0 (length n.statements))
no_turns n turns e =
    e ∙ sym (map-range_with_len_replicate (turns_before (trace n) 0) 0 0 (length n.statements) (λ p. refl))

pub no_queues : (n : Nest) (queues : List QueueCounts) → queues ≡ replicate (length (plans_of n)) empty_queue
    → queues ≡ queues_at n 0
no_queues n queues e =
    e ∙ sym (map-range_with_len_replicate (queue_at n 0) empty_queue 0 (length (plans_of n)) (none_passed n))

-- A run

module _ (n : Nest) (sized : SizeIsOk n) (p t count : ℕ) (run : HasRun n p t count) (some : 0 < count) where
  pub process_exists : p < length n.statements
  process_exists =
      let fire = run 0 some in
      omega (arith, trace-statement n (t + 0) fire.point fire.found, fire.same)

  module _ (turns : List ℕ)
      (so_far : turns ≡ map (turns_before (trace n) t) (range_with_len 0 (length n.statements))) where
    pub turn_is : get_or turns p 0 ≡ turns_before (trace n) t p
    turn_is =
        ap (λ xs. get_or xs p 0) so_far
        ∙ get_or-map-range_with_len (turns_before (trace n) t) 0 (length n.statements) p p 0 process_exists (omega arith)

    pub turns_small : get_or turns p 0 + count < 4294967296
    turns_small =
        omega (
          arith,
          turn_is,
          turns_own n p t count run,
          few_turns n (t + count) p,
          turns_few n p,
          few_entries n sized,
        )

    pub turns_later : set turns p (get_or turns p 0 + count)
        ≡ map (turns_before (trace n) (t + count)) (range_with_len 0 (length n.statements))
    turns_later =
        ap (λ m. set turns p (m + count)) turn_is
        ∙ ap (λ xs. set xs p (turns_before (trace n) t p + count)) so_far
        ∙ set_at (turns_before (trace n) t) (turns_before (trace n) (t + count)) (length n.statements) p
        (turns_before (trace n) t p + count) process_exists (turns_own n p t count run)
        (λ k ne. sym (turns_other n p t count k (λ e. ne (sym e)) run))

pub queues_later : (n : Nest) (p t count : ℕ) → HasRun n p t count → (plans : List PlanNumbers) (lists : List ℕ)
    (table : List (List (Option Tag))) (first : ℕ) (before after : List QueueCounts)
    → plans ≡ map numbers_of (plans_of n) → lists ≡ read_lists n plans → table ≡ sources_of n
    → first ≡ turns_before (trace n) t p → before ≡ queues_at n t
    → after ≡ after_run plans lists table p first count before → after ≡ queues_at n (t + count)
queues_later n p t count run plans lists table first before after planned listed exact turned so_far is =
    is
    ∙ ap (after_run plans lists table p first count) so_far
    ∙ ap (λ f. after_run plans lists table p f count (queues_at n t)) turned
    ∙ ap (λ ps. after_run ps lists table p (turns_before (trace n) t p) count (queues_at n t)) planned
    ∙ run_passed n p lists table (listed ∙ ap (read_lists n) planned) exact t count run

-- At the end

greatest_at : (n : Nest) (c : ℕ) → c < length (plans_of n)
    → (queue_at n (length (trace n)) c).greatest ≡ greatest_length (net_of (net n)) (sequenced n (length (trace n))) c
greatest_at n c lt =
    let item = slice_get-some (plans_of n) c lt in
    ap (λ o. (option_map_or (queue_with n (length (trace n)) c) o empty_queue).greatest) item.1

pub capacities_are : (n : Nest) (queues : List QueueCounts) (lengths : List ℕ) → queues ≡ queues_at n (length (trace n))
    → lengths ≡ map (λ queue. queue.greatest) queues
    → lengths ≡ capacities (net n) (sequential_schedule n)
capacities_are n queues lengths e f =
    f ∙ ap (map (λ (queue : QueueCounts). queue.greatest)) e
    ∙ map-map (λ (queue : QueueCounts). queue.greatest) (queue_at n (length (trace n))) (range_with_len 0 (length (plans_of n)))
    ∙ map-range_with_len_same (λ c. (queue_at n (length (trace n)) c).greatest)
    (greatest_length (net_of (net n)) (sequenced n (length (trace n)))) 0 (length (plans_of n))
    (λ c from below. greatest_at n c (omega arith))
    ∙ ap (λ s. map (greatest_length (net_of (net n)) s) (range_with_len 0 (length (plans_of n))))
    (sequenced_all n (sequenced n (length (trace n))) refl)
    ∙ ap (λ k. map (greatest_length (net_of (net n)) (sequential_schedule n)) (range_with_len 0 k))
    (sym (count_channels n))
