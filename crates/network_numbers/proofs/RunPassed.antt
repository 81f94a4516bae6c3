-- What is counted of the channels along the trace, run by run.
--
-- The invariant is that after t entries each channel has the turns of its writer that those of its reader so far want, and the
-- greatest length that its queue has had (`queue_at`). A run is as many turns of one process in a row. Of a channel that the
-- process reads its sources at these turns are wanted too, and of any other no more (`wanted_at`). The queue's length at the end
-- of each entry is how many turns of the writer so far are tokens, less how many of those wanted are (`queue_is`), where the
-- process writes to the channel; where it doesn't, nothing more is put, and the queue is never longer than it was (`still`). So
-- the greatest length is that before the run or one of these (`longest`). A channel's counts rest on no other channel.
use Rattle.std.proofs.Common.{◌≡◌, ◌≢◌, ℕ, zero, suc, ◌+◌, ◌-◌, ◌<◌, ◌≤◌, max, cond, Option, Some, None}
use Rattle.std.proofs.Common.{List, [], length, map, take, drop, slice_get, get_or, refl, sym, ap, ap₂, ◌∙◌}
use Rattle.std.proofs.Common.{inl, inr, arith}
use Rattle.std.specs.Prelude.{slice_index, slice_index_or, ◌==◌}
use Rattle.std.specs.List.{fold, range_with_len}
use Rattle.std.specs.Option.{option_map, option_map_or}
use Rattle.std.proofs.lemmas.Bool.{cases_Bool, cases_eq, eq-eqb, ne_eqb}
use Rattle.std.proofs.lemmas.List.{take-take}
use Rattle.std.proofs.lemmas.Option.{get_or_from_slice_get, slice_get-map, slice_get_within}
use Rattle.channel_plan.specs.declared.plans.ChannelPlan.{ChannelPlan}
use Rattle.channel_plan.specs.Plans.{plans_of, sources_at}
use Rattle.channel_plan.specs.Tokens.{tokens_below, turns_used}
use Rattle.net_core.specs.Cuts.{cut_after, opening}
use Rattle.net_core.specs.Machine.{net_of}
use Rattle.network_numbers.specs.declared.queues.QueueCounts.{QueueCounts}
use Rattle.network_numbers.specs.Entries.{after_run, after_turns, lengths, sources_for, tokens_among}
use Rattle.network_numbers.specs.Entries.{turns_passed, turns_wanted, wanted_by}
use Rattle.network_numbers.specs.Links.{read_lists}
use Rattle.network_numbers.specs.Queues.{empty_queue}
use Rattle.network_numbers.proofs.EntryCounts.{counts_are}
use Rattle.network_numbers.proofs.EntryLengths.{greatest_entry}
use Rattle.network_numbers.proofs.PlannedGets.{few_needed, gets_are, grown, tokens_are, turns_made}
use Rattle.network_numbers.proofs.QueueCounts.{ends, queue_counted}
use Rattle.network_numbers.proofs.TextNumbers.{numbered_range}
use Rattle.fire_runs.proofs.TraceRuns.{HasRun}
use Rattle.network_numbers.proofs.RunTurns.{turns_other, turns_own}
use Rattle.network_numbers.proofs.WantedTurns.{behind, folded, greatest_next}
use Rattle.plain_data.proofs.Lists.{slice_get-some}
use Rattle.plan_numbers.specs.Numbers.{numbers_of}
use Rattle.plan_numbers.specs.declared.numbers.PlanNumbers.{PlanNumbers}
use Rattle.process_derive.specs.Derived.{net}
use Rattle.sanlp.specs.Access.{read_count}
use Rattle.sanlp.specs.Trace.{trace}
use Rattle.sanlp.specs.declared.nest.Nest.{Nest}
use Rattle.sanlp.specs.declared.nest.Tag.{Tag}
use Rattle.sanlp.proofs.Lists.{map-range_with_len_same}
use Rattle.source_tree.specs.Sources.{read_number, read_sources, sources_of}
use Rattle.source_tree.proofs.TableNumbers.{read_at}
use Rattle.witness_plan.specs.Sequential.{greatest_length, queue_length}
use Rattle.witness_plan.proofs.InTraceOrder.{turns_before}
use Rattle.witness_plan.proofs.GreatestLengths.{now_within}
use Rattle.witness_plan.proofs.SequentialRun.{few_turns}
use Rattle.witness_plan.proofs.TraceSteps.{sequenced}

-- what is counted of a channel after the first t entries
abbrev pub queue_with : Nest → ℕ → ℕ → ChannelPlan → QueueCounts
queue_with n t c plan = record {
  wanted = turns_made n plan (turns_before (trace n) t plan.reader);
  greatest = greatest_length (net_of (net n)) (sequenced n t) c;
}

abbrev pub queue_at : Nest → ℕ → ℕ → QueueCounts
queue_at n t c = option_map_or (queue_with n t c) (slice_get (plans_of n) c) empty_queue

abbrev pub queues_at : Nest → ℕ → List QueueCounts
queues_at n t = map (queue_at n t) (range_with_len 0 (length (plans_of n)))

-- The table

-- what the table has for a read
table_row : (n : Nest) (p k : ℕ) → k < read_count n p → get_or (sources_of n) (read_number n p k) [] ≡ sources_at n p k
unfolding sources_of
table_row n p k h =
    let front : 0 + p ≡ p = omega arith in
    get_or_from_slice_get (sources_of n) (read_number n p k) (read_sources n (trace n) p k) []
    (read_at n (trace n) 0 n.statements p k h ∙ ap (λ q. Some (read_sources n (trace n) q k)) front)

-- what is wanted never falls
wanted_grows : (plan : PlanNumbers) (p : ℕ) (sources : List (Option Tag)) (wanted : ℕ)
    → wanted ≤ wanted_by plan p sources wanted
wanted_grows plan p sources wanted =
    elim (cases_Bool (plan.reader == p)) [
      | inl reads ↦ rw reads (omega (arith, folded plan.writer sources wanted))
      | inr other ↦ rw other (omega arith)
    ]

-- A run

-- a run up to an earlier end
front_run : (n : Nest) (p t count k : ℕ) → k ≤ count → HasRun n p t count → HasRun n p t k
front_run n p t count k le run = λ j below. run j (omega arith)

-- its entries are entries of the trace
within : (n : Nest) (p t count : ℕ) → HasRun n p t (suc count) → t + count < length (trace n)
within n p t count run =
    let fire = run count (omega arith) in slice_get_within (trace n) (t + count) fire.point fire.found

greatest_run : (n : Nest) (p t count c : ℕ) → HasRun n p t count
    → greatest_length (net_of (net n)) (sequenced n (t + count)) c
    ≡ fold max (greatest_length (net_of (net n)) (sequenced n t) c)
    (map (λ k. queue_length (net_of (net n)) (cut_after opening (sequenced n (t + (k + 1)))) c) (range_with_len 0 count))
greatest_run n p t zero c run =
    (let now : t + 0 ≡ t = omega arith in ap (λ s. greatest_length (net_of (net n)) (sequenced n s) c) now)
greatest_run n p t (suc count) c run =
    let length_after : ℕ → ℕ = λ k.
    queue_length (net_of (net n)) (cut_after opening (sequenced n (t + (k + 1)))) c in
    let before = greatest_length (net_of (net n)) (sequenced n t) c in
    let fire = run count (omega arith) in
    let next : t + suc count ≡ suc (t + count) = omega arith in
    let last : suc (t + count) ≡ t + (count + 1) = omega arith in
    let more : suc count ≡ count + 1 = omega arith in
    ap (λ s. greatest_length (net_of (net n)) (sequenced n s) c) next
    ∙ greatest_entry n (t + count) fire.point fire.found c
    ∙ ap₂ max (greatest_run n p t count c (front_run n p t (suc count) count (omega arith) run))
    (ap (λ s. queue_length (net_of (net n)) (cut_after opening (sequenced n s)) c) last)
    ∙ sym (greatest_next length_after before count)
    ∙ ap (λ m. fold max before (map length_after (range_with_len 0 m))) (sym more)

module _ (n : Nest) (p c : ℕ) (plan : ChannelPlan) (found : slice_get (plans_of n) c ≡ Some plan) where
  abbrev sources : List (Option Tag)
  sources = sources_at n plan.reader plan.read

  abbrev used : List ℕ
  used = turns_used plan.writer (sources_at n plan.reader plan.read)

  module _ (t count : ℕ) (run : HasRun n p t count) where
    abbrev first : ℕ
    first = turns_before (trace n) t p

    abbrev before : ℕ
    before = turns_made n plan (turns_before (trace n) t plan.reader)

    own : (k : ℕ) → k ≤ count → turns_before (trace n) (t + k) p ≡ turns_before (trace n) t p + k
    own k le = turns_own n p t k (front_run n p t count k le run)

    -- the turns that are wanted after so many turns
    wanted_at : (k : ℕ) → k ≤ count
        → turns_made n plan (turns_before (trace n) (t + k) plan.reader)
        ≡ wanted_by (numbers_of plan) p (take k (drop first sources)) before
    wanted_at k le =
        let more = fold max before (map (turns_wanted plan.writer) (take k (drop first sources))) in
        elim (cases_eq plan.reader p) [
          | inl same ↦
              let start : before ≡ turns_made n plan first = ap (λ r. turns_made n plan (turns_before (trace n) t r)) same in
              ap (λ r. turns_made n plan (turns_before (trace n) (t + k) r)) same
              ∙ ap (turns_made n plan) (own k le)
              ∙ sym (behind plan.writer first k sources before start)
              ∙ sym (ap (λ b. cond b more before) (eq-eqb plan.reader p same))
          | inr other ↦
              ap (turns_made n plan)
              (turns_other n p t k plan.reader (λ e. other (sym e)) (front_run n p t count k le run))
              ∙ sym (ap (λ b. cond b more before) (ne_eqb plan.reader p other))
        ]

    -- the length of the queue after so many turns
    queue_is : (k : ℕ) → t + k ≤ length (trace n) → k ≤ count
        → queue_length (net_of (net n)) (cut_after opening (sequenced n (t + k))) c
        ≡ tokens_below used (turns_before (trace n) (t + k) plan.writer)
        - tokens_below used (wanted_by (numbers_of plan) p (take k (drop first sources)) before)
    queue_is k inside le =
        queue_counted n c plan found (t + k) inside
        ∙ ap (λ m. tokens_below used (turns_before (trace n) (t + k) plan.writer) - m)
        (gets_are n c plan found (turns_before (trace n) (t + k) plan.reader)
        ∙ ap (tokens_below used) (wanted_at k le))

    -- what is got for the turns that are wanted
    got_is : (k : ℕ) → k ≤ count
        → tokens_below used (wanted_by (numbers_of plan) p (take k (drop first sources)) before)
        ≡ tokens_among (numbers_of plan) (wanted_by (numbers_of plan) p (take k (drop first sources)) before)
    got_is k le =
        sym (tokens_are n c plan found (wanted_by (numbers_of plan) p (take k (drop first sources)) before)
        (omega (arith, wanted_at k le, few_needed n c plan found (turns_before (trace n) (t + k) plan.reader))))

    -- what is put by the end of a turn of the writer
    put_is : plan.writer ≡ p → (k : ℕ) → k < count
        → tokens_below used (turns_before (trace n) (t + (k + 1)) plan.writer)
        ≡ tokens_among (numbers_of plan) (first + k + 1)
    put_is same k lt =
        let w = plan.writer in
        let turn : turns_before (trace n) (t + (k + 1)) plan.writer ≡ first + k + 1 =
        ap (turns_before (trace n) (t + (k + 1))) same ∙ own (k + 1) (omega arith) ∙ omega arith in
        ap (tokens_below used) turn
        ∙ sym (tokens_are n c plan found (first + k + 1) (omega (arith, turn, few_turns n (t + (k + 1)) w)))

    inside : (k : ℕ) → k < count → t + (k + 1) ≤ length (trace n)
    inside k lt = omega (arith, within n p t k (front_run n p t count (suc k) (omega arith) run))

    -- where the process writes to the channel, the greatest length is one before or one at the end of a turn
    longest : plan.writer ≡ p
        → greatest_length (net_of (net n)) (sequenced n (t + count)) c
        ≡ fold max (greatest_length (net_of (net n)) (sequenced n t) c)
        (lengths (numbers_of plan) p (take count (drop first sources)) before first count)
    longest same =
        greatest_run n p t count c run
        ∙ ap (fold max (greatest_length (net_of (net n)) (sequenced n t) c))
        (map-range_with_len_same
        (λ k. queue_length (net_of (net n)) (cut_after opening (sequenced n (t + (k + 1)))) c)
        (λ k. tokens_among (numbers_of plan) (first + k + 1)
        - tokens_among (numbers_of plan) (wanted_by (numbers_of plan) p (take (k + 1) (take count (drop first sources))) before))
        0 count
        (λ k from below.
        queue_is (k + 1) (inside k (omega arith)) (omega arith)
        ∙ ap₂ (λ a b. a - b) (put_is same k (omega arith))
        (got_is (k + 1) (omega arith)
        ∙ ap (λ xs. tokens_among (numbers_of plan) (wanted_by (numbers_of plan) p xs before))
        (sym (take-take (k + 1) count (drop first sources) (omega arith))))))

  -- where it doesn't, the queue is never longer
  still : plan.writer ≢ p → (t count : ℕ) → HasRun n p t count
      → greatest_length (net_of (net n)) (sequenced n (t + count)) c
      ≡ greatest_length (net_of (net n)) (sequenced n t) c
  still other t zero run =
      (let now : t + 0 ≡ t = omega arith in ap (λ s. greatest_length (net_of (net n)) (sequenced n s) c) now)
  still other t (suc count) run =
      let fire = run count (omega arith) in
      let next : t + suc count ≡ suc (t + count) = omega arith in
      let turn = turns_other n p t (suc count) plan.writer (λ e. other (sym e)) run in
      let here : t + suc count ≤ length (trace n) = omega (arith, within n p t count run) in
      let before = turns_made n plan (turns_before (trace n) t plan.reader) in
      let after = wanted_by (numbers_of plan) p (take (suc count) (drop (turns_before (trace n) t p) sources)) before in
      let later = queue_is t (suc count) run (suc count) here (omega arith) in
      let more =
      grown used before after
      (wanted_grows (numbers_of plan) p (take (suc count) (drop (turns_before (trace n) t p) sources)) before) in
      let now = queue_counted n c plan found t (omega arith) in
      let entry =
      ap (λ s. greatest_length (net_of (net n)) (sequenced n s) c) next
      ∙ greatest_entry n (t + count) fire.point fire.found c in
      let last = ap (λ s. queue_length (net_of (net n)) (cut_after opening (sequenced n s)) c) next in
      omega (
        arith,
        entry,
        last,
        later,
        more,
        ap (tokens_below used) turn,
        now,
        gets_are n c plan found (turns_before (trace n) t plan.reader),
        now_within (net_of (net n)) (sequenced n t) c,
        still other t count (front_run n p t (suc count) count (omega arith) run),
      )

  -- what is counted of the channel
  channel_run : (t count : ℕ) → HasRun n p t count
      → after_turns (numbers_of plan) p (take count (drop (turns_before (trace n) t p) sources))
      (turns_before (trace n) t p) count (queue_with n t c plan)
      ≡ queue_with n (t + count) c plan
  channel_run t count run =
      let before = greatest_length (net_of (net n)) (sequenced n t) c in
      let those =
      lengths (numbers_of plan) p (take count (drop (turns_before (trace n) t p) sources))
      (turns_made n plan (turns_before (trace n) t plan.reader)) (turns_before (trace n) t p) count in
      counts_are _ _ _ _ (sym (wanted_at t count run count (omega arith)))
      (elim (cases_eq plan.writer p) [
        | inl same ↦
            ap (λ b. cond b (fold max before those) before) (eq-eqb plan.writer p same) ∙ sym (longest t count run same)
        | inr other ↦
            ap (λ b. cond b (fold max before those) before) (ne_eqb plan.writer p other) ∙ sym (still other t count run)
      ])

module _ (n : Nest) (p : ℕ) (lists : List ℕ) (table : List (List (Option Tag)))
    (listed : lists ≡ read_lists n (map numbers_of (plans_of n))) (exact : table ≡ sources_of n) (t count : ℕ)
    (run : HasRun n p t count) where
  plan_is : (c : ℕ) (plan : ChannelPlan) → slice_get (plans_of n) c ≡ Some plan
      → slice_get (map numbers_of (plans_of n)) c ≡ Some (numbers_of plan)
  plan_is c plan found = slice_get-map numbers_of (plans_of n) c ∙ ap (option_map numbers_of) found

  list_is : (c : ℕ) (plan : ChannelPlan) → slice_get (plans_of n) c ≡ Some plan
      → slice_index lists c ≡ read_number n plan.reader plan.read
  list_is c plan found =
      ap (λ xs. slice_index xs c) listed
      ∙ get_or_from_slice_get (read_lists n (map numbers_of (plans_of n))) c (read_number n plan.reader plan.read) 0
      (slice_get-map (λ (x : PlanNumbers). read_number n x.reader x.read) (map numbers_of (plans_of n)) c
      ∙ ap (option_map (λ (x : PlanNumbers). read_number n x.reader x.read)) (plan_is c plan found))

  sources_are : (c : ℕ) (plan : ChannelPlan) → slice_get (plans_of n) c ≡ Some plan
      → sources_for lists table c ≡ sources_at n plan.reader plan.read
  sources_are c plan found =
      ap₂ (λ (xs : List (List (Option Tag))) i. slice_index_or xs i []) exact (list_is c plan found)
      ∙ table_row n plan.reader plan.read (ends n c plan found).read

  place_passed : (c : ℕ) (plan : ChannelPlan) → slice_get (plans_of n) c ≡ Some plan
      → turns_passed (map numbers_of (plans_of n)) lists table p (turns_before (trace n) t p) count c (queue_at n t c)
      ≡ queue_at n (t + count) c
  place_passed c plan found =
      let first = turns_before (trace n) t p in
      let queue_is : (s : ℕ) → queue_at n s c ≡ queue_with n s c plan = λ s.
      ap (λ o. option_map_or (queue_with n s c) o empty_queue) found in
      ap (λ o. option_map_or (λ (x : PlanNumbers).
      after_turns x p (take count (drop first (sources_for lists table c))) first count (queue_at n t c)) o (queue_at n t c))
      (plan_is c plan found)
      ∙ ap (λ ss. after_turns (numbers_of plan) p (take count (drop first ss)) first count (queue_at n t c))
      (sources_are c plan found)
      ∙ ap (after_turns (numbers_of plan) p (take count (drop first (sources_at n plan.reader plan.read))) first count)
      (queue_is t)
      ∙ channel_run n p c plan found t count run
      ∙ sym (queue_is (t + count))

  -- the run takes all counts as many entries on
  pub run_passed : after_run (map numbers_of (plans_of n)) lists table p (turns_before (trace n) t p) count (queues_at n t)
      ≡ queues_at n (t + count)
  run_passed =
      numbered_range
      (turns_passed (map numbers_of (plans_of n)) lists table p (turns_before (trace n) t p) count) (queue_at n t) 0
      (length (plans_of n))
      ∙ map-range_with_len_same _ (queue_at n (t + count)) 0 (length (plans_of n))
      (λ c from below. (let item = slice_get-some (plans_of n) c (omega arith) in place_passed c item.0 item.1))

-- Before the first entry

pub none_passed : (n : Nest) (c : ℕ) → queue_at n 0 c ≡ empty_queue
none_passed n c = go (slice_get (plans_of n) c)
  where
    go : (o : Option ChannelPlan) → option_map_or (queue_with n 0 c) o empty_queue ≡ empty_queue
    go None = refl
    go (Some plan) = refl
