-- The events of all scripts of a nest's network.
--
-- Each script is counted by kinds (EventTotals): its Fires are the turns of its process, and channel by channel its Gets
-- and its Puts are the channel's tokens where the process is the channel's reader or its writer, and none else
-- (`traffic_is`). Summed over the processes each channel's tokens come twice. It is a count of what scripts have; whether
-- all of it can come is witness_plan's.
use Rattle.std.proofs.Common.{◌≡◌, ℕ, zero, suc, ◌+◌, ◌*◌, ◌<◌, ◌≤◌, false, cond, Some}
use Rattle.std.proofs.Common.{List, [], ◌∷◌, length, take, slice_get, count_by, refl, sym, ap, ap₂, ◌∙◌}
use Rattle.std.proofs.Common.{subst, inl, inr, arith}
use Rattle.std.specs.Prelude.{◌==◌}
use Rattle.std.specs.List.{range_with_len, sum_by}
use Rattle.std.specs.Option.{option_map_or}
use Rattle.std.proofs.lemmas.Bool.{cases_Bool, cases_eq, eq-eqb, ne_eqb}
use Rattle.std.proofs.lemmas.List.{length-map, take_all}
use Rattle.channel_plan.specs.declared.plans.ChannelPlan.{ChannelPlan}
use Rattle.channel_plan.specs.Plans.{plans_of, sources_at, turn_count}
use Rattle.channel_plan.specs.Tokens.{tokens_below, turns_used, uses_of}
use Rattle.net_core.specs.declared.network.Event.{Event}
use Rattle.net_core.specs.declared.network.Event.TheVariants.{Get, Fire, Put}
use Rattle.net_core.specs.Machine.{Net, net_of}
use Rattle.net_core.specs.Shape.{events_below, is_get, is_put, turns}
use Rattle.net_core.proofs.PutCounts.{count_by-none}
use Rattle.process_derive.specs.Derived.{net}
use Rattle.process_derive.specs.Scripts.{script}
use Rattle.process_derive.proofs.Numbers.{count_channels, count_processes, script_at}
use Rattle.process_derive.proofs.NetworkShape.{fits_nest}
use Rattle.process_derive.proofs.Sums.{sum_added, sum_counted, sum_push, sum_turned}
use Rattle.process_derive.proofs.Tags.{length-sources}
use Rattle.process_derive.proofs.ScriptNames.{is_wired, reader_at, writer_at}
use Rattle.plain_data.proofs.Lists.{slice_get-some}
use Rattle.reorder_slots.specs.Slots.{gets_for}
use Rattle.sanlp.specs.Points.{points_of}
use Rattle.sanlp.specs.Trace.{trace}
use Rattle.sanlp.specs.declared.nest.Nest.{Nest}
use Rattle.sanlp.specs.declared.nest.Point.{Point}
use Rattle.sanlp.proofs.Each.{Each}
use Rattle.witness_plan.specs.Records.{IsOwn}
use Rattle.witness_plan.proofs.InTraceOrder.{turns_before}
use Rattle.witness_plan.proofs.OwnChannels.{wired_own}
use Rattle.witness_plan.proofs.SourcesBefore.{entries_count, wanted_are_tokens}
use Rattle.channel_plan.proofs.PlanEnds.{plans_of-plan_of}
use Rattle.network_numbers.proofs.EventTotals.{IsBelow, kinds_counted, sum_of_one, sum_of_places, tokens_are_got}
use Rattle.network_numbers.proofs.EventTotals.{traffic}
use Rattle.network_numbers.proofs.QueueCounts.{gets_before, puts_before}
use Rattle.std.proofs.lemmas.Bool.{eqb-true}

-- Lists by their places

by_place : {X : Type 0} (P : X → Type 0) (xs : List X) → ((k : ℕ) (x : X) → slice_get xs k ≡ Some x → P x) → Each P xs
by_place P [] each = tt
by_place P (x ∷ xs) each = (each 0 x refl, by_place P xs (λ k y is. each (suc k) y is))

pub same_sums : (f g : ℕ → ℕ) (many : ℕ) → ((k : ℕ) → k < many → f k ≡ g k)
    → sum_by f (range_with_len 0 many) ≡ sum_by g (range_with_len 0 many)
same_sums f g many same =
    omega (
      arith,
      sum_counted f g 0 many (λ k from below. omega (arith, same k (omega arith))),
      sum_counted g f 0 many (λ k from below. omega (arith, same k (omega arith))),
    )

-- Events of others

got_by_reader : (net : Net) (p c : ℕ) (e : Event) → IsOwn net p e → (net.reader c ≡ p → ⊥) → is_get c e ≡ false
got_by_reader net p c (Get d slot) own other =
    elim (cases_Bool (c == d)) [
      | inl same ↦ absurd (other (ap net.reader (eqb-true c d same) ∙ own.1))
      | inr apart ↦ apart
    ]
got_by_reader net p c (Fire refs) own other = refl
got_by_reader net p c (Put d) own other = refl

put_by_writer : (net : Net) (p c : ℕ) (e : Event) → IsOwn net p e → (net.writer c ≡ p → ⊥) → is_put c e ≡ false
put_by_writer net p c (Get d slot) own other = refl
put_by_writer net p c (Fire refs) own other = refl
put_by_writer net p c (Put d) own other =
    elim (cases_Bool (c == d)) [
      | inl same ↦ absurd (other (ap net.writer (eqb-true c d same) ∙ own.1))
      | inr apart ↦ apart
    ]

below : (net : Net) (p : ℕ) (e : Event) → IsOwn net p e → IsBelow net.channels e
below net p (Get d slot) own = own.0
below net p (Fire refs) own = tt
below net p (Put d) own = own.0

all_turns : (n : Nest) (t p : ℕ) → length (trace n) ≤ t → turns_before (trace n) t p ≡ turn_count n p
all_turns n t p le =
    ap (count_by (λ (q : Point). q.statement == p)) (take_all t (trace n) le) ∙ sym (entries_count 0 (trace n) p)

module _ (n : Nest) (c : ℕ) (plan : ChannelPlan) (found : slice_get (plans_of n) c ≡ Some plan) where
  tokens_are : plan.tokens
      ≡ tokens_below (turns_used plan.writer (sources_at n plan.reader plan.read)) (turn_count n plan.writer)
  tokens_are = ap (λ (x : ChannelPlan). x.tokens) (plans_of-plan_of n c plan found)

  puts_are : count_by (is_put c) (script n plan.writer) ≡ plan.tokens
  puts_are = puts_before n c plan found (turn_count n plan.writer) (omega arith) ∙ sym tokens_are

  gets_are : count_by (is_get c) (script n plan.reader) ≡ plan.tokens
  gets_are =
      let sources = sources_at n plan.reader plan.read in
      let used = turns_used plan.writer (sources_at n plan.reader plan.read) in
      let T = length (trace n) in
      let whole : take (turn_count n plan.reader) sources ≡ sources =
      take_all (turn_count n plan.reader) sources (omega (arith, length-sources n plan.reader plan.read)) in
      let every : take (length (turns_used plan.writer (take (turn_count n plan.reader) sources)))
      (uses_of (turns_used plan.writer sources)) ≡ uses_of (turns_used plan.writer sources) =
      ap (λ xs. take (length (turns_used plan.writer xs)) (uses_of (turns_used plan.writer sources))) whole
      ∙ take_all (length (turns_used plan.writer sources)) (uses_of (turns_used plan.writer sources))
      (omega (arith, length-map used (tokens_below used))) in
      let reader : turns_before (trace n) (suc (length (trace n))) plan.reader ≡ turn_count n plan.reader =
      all_turns n (suc (length (trace n))) plan.reader (omega arith) in
      let few : gets_for (take (length (turns_used plan.writer (take (turn_count n plan.reader) sources)))
      (uses_of (turns_used plan.writer sources)))
      ≤ tokens_below (turns_used plan.writer sources) (turn_count n plan.writer) =
      subst (λ m. gets_for (take (length (turns_used plan.writer (take m sources)))
      (uses_of (turns_used plan.writer sources)))
      ≤ tokens_below (turns_used plan.writer sources) (turn_count n plan.writer)) reader
      (subst (λ m. gets_for (take (length (turns_used plan.writer
      (take (turns_before (trace n) (suc (length (trace n))) plan.reader) sources)))
      (uses_of (turns_used plan.writer sources)))
      ≤ tokens_below (turns_used plan.writer sources) m) (all_turns n (length (trace n)) plan.writer (omega arith))
      (wanted_are_tokens n plan.read plan.reader plan.writer (length (trace n)))) in
      omega (
        arith,
        gets_before n c plan found (turn_count n plan.reader) (omega arith),
        ap gets_for every,
        few,
        tokens_are_got used (turn_count n plan.writer),
        tokens_are,
      )

-- Scripts

-- the tokens of channel c
abbrev tokens_at : Nest → ℕ → ℕ
tokens_at n c = option_map_or (λ (plan : ChannelPlan). plan.tokens) (slice_get (plans_of n) c) 0

module _ (n : Nest) where
  abbrev m : Net
  m = net_of (net n)

  traffic_is : (p : ℕ) → p < length n.statements → (c : ℕ) → c < (net_of (net n)).channels
      → traffic ((net_of (net n)).script p) c
      ≡ cond ((net_of (net n)).reader c == p) (tokens_at n c) 0 + cond ((net_of (net n)).writer c == p) (tokens_at n c) 0
  traffic_is p lt c inside =
      let item = slice_get-some (plans_of n) c (omega (arith, count_channels n)) in
      let plan = item.0 in
      let tokens : tokens_at n c ≡ item.0.tokens =
      ap (λ o. option_map_or (λ (plan : ChannelPlan). plan.tokens) o 0) item.1 in
      let own = wired_own (net_of (net n)) (is_wired n) p in
      let gets : count_by (is_get c) ((net_of (net n)).script p)
      ≡ cond ((net_of (net n)).reader c == p) (tokens_at n c) 0 =
      elim (cases_eq ((net_of (net n)).reader c) p) [
        | inl same ↦
            let is : p ≡ item.0.reader = sym same ∙ reader_at n c item.0 item.1 in
            ap (count_by (is_get c)) (script_at n p lt)
            ∙ ap (λ r. count_by (is_get c) (script n r)) is ∙ gets_are n c item.0 item.1 ∙ sym tokens
            ∙ sym (ap (λ b. cond b (tokens_at n c) 0) (eq-eqb ((net_of (net n)).reader c) p same))
        | inr other ↦
            count_by-none (is_get c) ((net_of (net n)).script p)
            (λ k e is. got_by_reader (net_of (net n)) p c e (wired_own (net_of (net n)) (is_wired n) p k e is) other)
            ∙ sym (ap (λ b. cond b (tokens_at n c) 0) (ne_eqb ((net_of (net n)).reader c) p other))
      ] in
      let puts : count_by (is_put c) ((net_of (net n)).script p)
      ≡ cond ((net_of (net n)).writer c == p) (tokens_at n c) 0 =
      elim (cases_eq ((net_of (net n)).writer c) p) [
        | inl same ↦
            let is : p ≡ item.0.writer = sym same ∙ writer_at n c item.0 item.1 in
            ap (count_by (is_put c)) (script_at n p lt)
            ∙ ap (λ r. count_by (is_put c) (script n r)) is ∙ puts_are n c item.0 item.1 ∙ sym tokens
            ∙ sym (ap (λ b. cond b (tokens_at n c) 0) (eq-eqb ((net_of (net n)).writer c) p same))
        | inr other ↦
            count_by-none (is_put c) ((net_of (net n)).script p)
            (λ k e is. put_by_writer (net_of (net n)) p c e (wired_own (net_of (net n)) (is_wired n) p k e is) other)
            ∙ sym (ap (λ b. cond b (tokens_at n c) 0) (ne_eqb ((net_of (net n)).writer c) p other))
      ] in
      ap₂ (λ a b. a + b) gets puts

  script_counted : (p : ℕ) → p < length n.statements
      → length ((net_of (net n)).script p)
      ≡ turns (points_of n) p
      + sum_by (λ c. cond ((net_of (net n)).reader c == p) (tokens_at n c) 0
      + cond ((net_of (net n)).writer c == p) (tokens_at n c) 0) (range_with_len 0 (net_of (net n)).channels)
  script_counted p lt =
      omega (
        arith,
        kinds_counted (net_of (net n)).channels ((net_of (net n)).script p)
            (by_place (IsBelow (net_of (net n)).channels) ((net_of (net n)).script p)
            (λ k e is. below (net_of (net n)) p e (wired_own (net_of (net n)) (is_wired n) p k e is))),
        (fits_nest n).shaped.turns p,
        same_sums (traffic ((net_of (net n)).script p))
            (λ c. cond ((net_of (net n)).reader c == p) (tokens_at n c) 0
            + cond ((net_of (net n)).writer c == p) (tokens_at n c) 0) (net_of (net n)).channels (traffic_is p lt),
      )

  below_is_sum : (many : ℕ) → events_below (net_of (net n)) many
      ≡ sum_by (λ p. length ((net_of (net n)).script p)) (range_with_len 0 many)
  below_is_sum zero = refl
  below_is_sum (suc many) =
      omega (arith, below_is_sum many, sum_push (λ p. length ((net_of (net n)).script p)) many)

  -- each channel's tokens are got by one process and put by one
  channel_counted : (c : ℕ) → c < (net_of (net n)).channels
      → sum_by (λ p. cond ((net_of (net n)).reader c == p) (tokens_at n c) 0
      + cond ((net_of (net n)).writer c == p) (tokens_at n c) 0) (range_with_len 0 (length n.statements))
      ≡ tokens_at n c + tokens_at n c
  channel_counted c lt =
      omega (
        arith,
        sum_added (λ p. cond ((net_of (net n)).reader c == p) (tokens_at n c) 0)
            (λ p. cond ((net_of (net n)).writer c == p) (tokens_at n c) 0) (range_with_len 0 (length n.statements)),
        sum_of_one ((net_of (net n)).reader c) (tokens_at n c) (length n.statements)
            (omega (arith, (is_wired n).readers c lt, count_processes n)),
        sum_of_one ((net_of (net n)).writer c) (tokens_at n c) (length n.statements)
            (omega (arith, (is_wired n).writers c lt, count_processes n)),
      )

  -- all events: the turns, and each token twice
  pub events_counted : events_below (net_of (net n)) (length (net n).processes)
      ≡ sum_by (λ p. turns (points_of n) p) (range_with_len 0 (length n.statements))
      + 2 * sum_by (λ plan. plan.tokens) (plans_of n)
  events_counted =
      let P = length n.statements in
      let share : ℕ → ℕ → ℕ = λ p c. cond ((net_of (net n)).reader c == p) (tokens_at n c) 0
      + cond ((net_of (net n)).writer c == p) (tokens_at n c) 0 in
      let C = (net_of (net n)).channels in
      let channels : (net_of (net n)).channels ≡ length (plans_of n) = count_channels n in
      let scripts =
      same_sums (λ p. length ((net_of (net n)).script p))
      (λ p. turns (points_of n) p + sum_by (share p) (range_with_len 0 (net_of (net n)).channels)) (length n.statements)
      script_counted in
      let split =
      sum_added (λ p. turns (points_of n) p) (λ p. sum_by (share p) (range_with_len 0 (net_of (net n)).channels))
      (range_with_len 0 (length n.statements)) in
      let turned =
      sum_turned share (range_with_len 0 (length n.statements)) (range_with_len 0 (net_of (net n)).channels) in
      let each =
      same_sums (λ c. sum_by (λ p. share p c) (range_with_len 0 (length n.statements)))
      (λ c. tokens_at n c + tokens_at n c) (net_of (net n)).channels channel_counted in
      let doubled = sum_added (tokens_at n) (tokens_at n) (range_with_len 0 (net_of (net n)).channels) in
      let listed : sum_by (tokens_at n) (range_with_len 0 (net_of (net n)).channels)
      ≡ sum_by (λ (plan : ChannelPlan). plan.tokens) (plans_of n) =
      ap (λ k. sum_by (tokens_at n) (range_with_len 0 k)) channels
      ∙ sum_of_places (λ (plan : ChannelPlan). plan.tokens) (plans_of n) in
      omega (
        arith,
        ap (events_below (net_of (net n))) (count_processes n),
        below_is_sum (length n.statements),
        scripts,
        split,
        turned,
        each,
        doubled,
        listed,
      )
