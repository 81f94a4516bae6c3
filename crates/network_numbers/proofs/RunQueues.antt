-- The counts of all channels after a run, channel by channel.
--
-- The loop goes through the channels of the run's process and puts in the place of each what the run makes of its counts. A
-- channel of which the process is at no end keeps its counts (`idle`), so at the end each channel's counts are what the run
-- makes of them (`run_done`; each place is changed once, by PassedQueues). There is a queue for each channel.
use Rattle.std.proofs.Common.{◌≡◌, ◌<◌, ◌+◌, ◌==◌, ◌&&◌, ◌≤◌, ℕ, zero, suc, max, Bool, true, false, cond, Option, Some, None, List}
use Rattle.std.proofs.Common.{◌∷◌, map, length, take, drop, get_or, slice_get, refl, sym, ap, ◌∙◌, inl, inr, arith, length-set}
use Rattle.std.specs.Prelude.{All, slice_index_or, slice_set}
use Rattle.std.specs.List.{filter, fold, range_with_len}
use Rattle.std.specs.Option.{option_map_or}
use Rattle.std.proofs.lemmas.Bool.{cases_Bool, or_parts}
use Rattle.std.proofs.lemmas.List.{ext_get_or}
use Rattle.std.proofs.lemmas.List.Elements.{All-cons, All-nil}
use Rattle.std.proofs.lemmas.List.FromFn.{get_or-map-range_with_len, length-map-range_with_len}
use Rattle.std.proofs.lemmas.Option.{slice_get_read}
use Rattle.network_numbers.specs.declared.queues.QueueCounts.{QueueCounts}
use Rattle.network_numbers.specs.Entries.{after_run, after_turns, wanted_after, lengths, sources_for, turns_passed}
use Rattle.network_numbers.specs.Links.{channels_at, has_end_at}
use Rattle.network_numbers.specs.Queues.{empty_queue}
use Rattle.network_numbers.proofs.PassedQueues.{changed, passed, step}
use Rattle.network_numbers.proofs.TextNumbers.{numbered_range}
use Rattle.plan_numbers.specs.declared.numbers.PlanNumbers.{PlanNumbers}
use Rattle.sanlp.specs.declared.nest.Tag.{Tag}
use Rattle.sanlp.proofs.Lists.{map-range_with_len_same}

-- a channel whose plan is there
pub channel_read : (plans : List PlanNumbers) (lists : List ℕ) (table : List (List (Option Tag))) (p f count c : ℕ)
    (queue : QueueCounts) (plan : PlanNumbers) → c < length plans → plan ≡ get_or plans c plan
    → turns_passed plans lists table p f count c queue
    ≡ after_turns plan p (take count (drop f (sources_for lists table c))) f count queue
channel_read plans lists table p f count c queue plan lt is =
    ap (λ o. option_map_or (λ (x : PlanNumbers).
    after_turns x p (take count (drop f (sources_for lists table c))) f count queue) o queue)
    (slice_get_read plans (length plans) c plan refl lt is)

-- the channels of a process exist
all_below : (keep : ℕ → Bool) (a m many : ℕ) → a + m ≤ many → All (λ c. c < many) (filter keep (range_with_len a m))
all_below keep a zero many le = All-nil (λ c. c < many)
all_below keep a (suc m) many le = go (keep a) (all_below keep (a + 1) m many (omega arith))
  where
    go : (b : Bool) → All (λ c. c < many) (filter keep (range_with_len (a + 1) m))
        → All (λ c. c < many)
        (cond b (a ∷ filter keep (range_with_len (a + 1) m)) (filter keep (range_with_len (a + 1) m)))
    go true later = All-cons (λ c. c < many) a (filter keep (range_with_len (a + 1) m)) (omega arith) later
    go false later = later

pub channels_below : (plans : List PlanNumbers) (p : ℕ) → All (λ c. c < length plans) (channels_at plans p)
channels_below plans p =
    all_below (λ c. option_map_or (has_end_at p) (slice_get plans c) false) 0 (length plans) (length plans) (omega arith)

pub idle : (plan : PlanNumbers) (p : ℕ) (sources : List (Option Tag)) (f count : ℕ) (queue : QueueCounts)
    → has_end_at p plan ≡ false → after_turns plan p sources f count queue ≡ queue
idle plan p sources f count queue none =
    let ends = or_parts (plan.reader == p) (plan.writer == p) none in
    let wanted : cond (plan.reader == p) (wanted_after plan sources queue.wanted) queue.wanted ≡ queue.wanted =
    ap (λ b. cond b (wanted_after plan sources queue.wanted) queue.wanted) ends.0 in
    let greatest : cond (plan.writer == p)
    (fold max queue.greatest (lengths plan p sources queue.wanted f count)) queue.greatest ≡ queue.greatest =
    ap (λ b. cond b (fold max queue.greatest (lengths plan p sources queue.wanted f count)) queue.greatest) ends.1 in
    λ i. record { wanted = wanted i; greatest = greatest i }

places : {X : Type 0} (xs : List X) (d : X) → map (λ c. get_or xs c d) (range_with_len 0 (length xs)) ≡ xs
places xs d =
    let many = length-map-range_with_len (λ c. get_or xs c d) 0 (length xs) in
    ext_get_or d (map (λ c. get_or xs c d) (range_with_len 0 (length xs))) xs many
    (λ k lt. get_or-map-range_with_len (λ c. get_or xs c d) 0 (length xs) k k d (omega (arith, many)) (omega arith))

module _ (plans : List PlanNumbers) (lists : List ℕ) (table : List (List (Option Tag))) (p f count : ℕ) where
  -- the counts of all channels, of which one is passed
  abbrev pub with_channel : List QueueCounts → ℕ → List QueueCounts
  with_channel = step empty_queue (λ c. true) (λ c. true) (turns_passed plans lists table p f count)

  pub with_channel_length : (queues : List QueueCounts) (c : ℕ)
      → length (slice_set queues c (turns_passed plans lists table p f count c (slice_index_or queues c empty_queue)))
      ≡ length queues
  with_channel_length queues c =
      length-set queues c (turns_passed plans lists table p f count c (get_or queues c empty_queue))

  abbrev at_end : ℕ → Bool
  at_end c = option_map_or (has_end_at p) (slice_get plans c) false

  idle_channel : (c : ℕ) (queue : QueueCounts) → option_map_or (has_end_at p) (slice_get plans c) false ≡ false
      → turns_passed plans lists table p f count c queue ≡ queue
  idle_channel c queue none = go (slice_get plans c) none
    where
      go : (o : Option PlanNumbers) → option_map_or (has_end_at p) o false ≡ false
          → option_map_or (λ (x : PlanNumbers).
          after_turns x p (take count (drop f (sources_for lists table c))) f count queue) o queue ≡ queue
      go None h = refl
      go (Some plan) h = idle plan p (take count (drop f (sources_for lists table c))) f count queue h

  -- all channels of the process are passed
  pub run_done : (channels : List ℕ) (before : List QueueCounts) → channels ≡ channels_at plans p
      → length before ≡ length plans
      → fold with_channel before channels ≡ after_run plans lists table p f count before
  run_done channels before linked many =
      let h : ℕ → QueueCounts → QueueCounts = turns_passed plans lists table p f count in
      let was : ℕ → QueueCounts = λ c. get_or before c empty_queue in
      let all : before ≡ map was (range_with_len 0 (length plans)) =
      sym (places before empty_queue) ∙ ap (λ m. map was (range_with_len 0 m)) many in
      ap (fold with_channel before) linked
      ∙ ap (λ qs. fold with_channel qs (channels_at plans p)) all
      ∙ passed empty_queue at_end (λ c. true) h (length plans) was
      ∙ map-range_with_len_same (changed empty_queue at_end (λ c. true) h was) (λ c. h c (was c)) 0 (length plans)
      (λ c from below. elim (cases_Bool (at_end c)) [
        | inl some ↦ ap (λ b. cond (b && true) (h c (was c)) (was c)) some
        | inr none ↦ ap (λ b. cond (b && true) (h c (was c)) (was c)) none ∙ sym (idle_channel c (was c) none)
      ])
      ∙ sym (numbered_range h was 0 (length plans))
      ∙ ap (after_run plans lists table p f count) (sym all)
