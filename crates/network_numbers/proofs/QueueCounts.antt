-- How many Puts and Gets a channel has had after the first entries of the trace.
--
-- After t entries each process stands behind the events of its turns among them. Its Puts to a channel are then one for
-- each of these turns that is a token (`puts_counted`), since a point has one Put for each channel that its turn is a
-- token of and no other, and its Gets are those that stand before its uses so far (`gets_counted`, from the slots that
-- the first Gets take). So both counts, and the length of the queue, are known by how many turns the channel's two
-- processes have had (`queue_counted`), without the events. Nothing is said of lengths within an entry.
use Rattle.std.proofs.Common.{◌≡◌, ℕ, zero, suc, ◌+◌, ◌-◌, ◌<◌, ◌≤◌, true, false, cond, Some, List, [], ◌∷◌}
use Rattle.std.proofs.Common.{◌++◌, length, map, take, slice_get, count_by, refl, sym, ap, ◌∙◌, inl, inr}
use Rattle.std.proofs.Common.{arith, add-one}
use Rattle.std.specs.Prelude.{slice_index_or, ◌==◌, ◌&&◌}
use Rattle.std.specs.List.{flat_map, range_with_len}
use Rattle.std.proofs.lemmas.Bool.{cases_Bool, eq-eqb, ne_eqb}
use Rattle.std.proofs.lemmas.List.{take_at}
use Rattle.std.proofs.lemmas.List.FromFn.{get_or-map-range_with_len, length-map-range_with_len}
use Rattle.std.proofs.lemmas.Option.{same_Some}
use Rattle.channel_plan.specs.declared.plans.ChannelPlan.{ChannelPlan}
use Rattle.channel_plan.specs.Plans.{plan_of, plans_of, sources_at, turn_count}
use Rattle.channel_plan.specs.Tokens.{is_used, tokens_below, turns_used, uses_of}
use Rattle.channel_plan.proofs.Uses.{tokens_more}
use Rattle.derived_names.proofs.Gets.{got_count, points_got}
use Rattle.net_core.specs.declared.network.Event.{Event}
use Rattle.net_core.specs.declared.network.Event.TheVariants.{Get, Fire, Put}
use Rattle.net_core.specs.Cuts.{cut_after, gets_at, opening, puts_at}
use Rattle.net_core.specs.Machine.{net_of}
use Rattle.net_core.specs.Shape.{is_get, is_put}
use Rattle.net_core.proofs.EventCounts.{count-append, count_cons}
use Rattle.process_derive.specs.Derived.{net}
use Rattle.process_derive.specs.Scripts.{gets_of, point_events, puts_from, ref_of, script, usage}
use Rattle.process_derive.proofs.Numbers.{script_at}
use Rattle.process_derive.proofs.ScriptNames.{IsChannelOf, IsGet, all_channels, all_gets, reader_at, writer_at}
use Rattle.reorder_slots.specs.Slots.{gets_for}
use Rattle.sanlp.specs.Access.{read_count}
use Rattle.sanlp.specs.Trace.{trace}
use Rattle.sanlp.specs.declared.nest.Nest.{Nest}
use Rattle.sanlp.proofs.Each.{Each, each_flat_map, each_of}
use Rattle.sanlp.proofs.Lists.{range_with_len-append}
use Rattle.sanlp.proofs.Members.{at_in, each_in}
use Rattle.std.proofs.lemmas.List.Concat.{flat_map-append}
use Rattle.witness_plan.specs.Sequential.{queue_length}
use Rattle.witness_plan.proofs.InTraceOrder.{stands, turns_before}
use Rattle.witness_plan.proofs.PointEvents.{events_before}
use Rattle.witness_plan.proofs.SequentialRun.{few_turns}
use Rattle.witness_plan.proofs.TraceSteps.{sequenced}
use Rattle.witness_plan.proofs.TokensPut.{events_more}
use Rattle.channel_plan.proofs.PlanEnds.{plans_of-plan_of}

-- Turns

-- the events of the first turns come first in a script
front_is : (n : Nest) (p f : ℕ) → f ≤ turn_count n p
    → take (length (events_before n p f)) (script n p) ≡ events_before n p f
front_is n p f le =
    let later = flat_map (point_events n p) (range_with_len f (turn_count n p - f)) in
    let whole : turn_count n p ≡ f + (turn_count n p - f) = omega arith in
    let front : 0 + f ≡ f = omega arith in
    let split : script n p ≡ events_before n p f ++ flat_map (point_events n p) (range_with_len f (turn_count n p - f)) =
    ap (λ m. flat_map (point_events n p) (range_with_len 0 m)) whole
    ∙ ap (flat_map (point_events n p)) (range_with_len-append 0 f (turn_count n p - f))
    ∙ flat_map-append (point_events n p) (range_with_len 0 f) (range_with_len (0 + f) (turn_count n p - f))
    ∙ ap (λ a. events_before n p f ++ flat_map (point_events n p) (range_with_len a (turn_count n p - f))) front in
    ap (take (length (events_before n p f))) split
    ∙ take_at (events_before n p f) later (length (events_before n p f)) refl

-- Puts

no_puts : (c : ℕ) (gets : List Event) → Each IsGet gets → count_by (is_put c) gets ≡ 0
no_puts c [] h = refl
no_puts c (Get d slot ∷ gets) h = omega (arith, count_cons (is_put c) (Get d slot) gets, no_puts c gets h.1)
no_puts c (Fire refs ∷ gets) h = absurd h.0
no_puts c (Put d ∷ gets) h = absurd h.0

-- later channels have no Put to channel c
none_later : (c b : ℕ) (plans : List ChannelPlan) (w f : ℕ) → c < b → count_by (is_put c) (puts_from b plans w f) ≡ 0
none_later c b [] w f lt = refl
none_later c b (plan ∷ plans) w f lt =
    let later = none_later c (suc b) plans w f (omega arith) in
    let other = ap (λ x. cond {A = ℕ} x 1 0) (ne_eqb c b (λ e. omega arith)) in
    elim (cases_Bool ((plan.writer == w) && slice_index_or plan.is_token f false)) [
      | inl put ↦ rw put (omega (arith, count_cons (is_put c) (Put b) (puts_from (suc b) plans w f), later, other))
      | inr none ↦ rw none later
    ]

-- one Put to the channel in place j, where the turn is a token of it
one_put : (c b j : ℕ) (plans : List ChannelPlan) (plan : ChannelPlan) (w f : ℕ) → slice_get plans j ≡ Some plan
    → b + j ≡ c → plan.writer ≡ w
    → count_by (is_put c) (puts_from b plans w f) ≡ cond (slice_index_or plan.is_token f false) 1 0
one_put c b j [] plan w f is number own = absurd (cc)
one_put c b zero (x ∷ plans) plan w f is number own =
    let same : x ≡ plan = same_Some x plan is in
    let later = none_later c (suc b) plans w f (omega arith) in
    let here = ap (λ y. cond {A = ℕ} y 1 0) (eq-eqb c b (omega arith)) in
    let written : (x.writer == w) ≡ true = eq-eqb x.writer w (ap (λ (y : ChannelPlan). y.writer) same ∙ own) in
    let counted = count_cons (is_put c) (Put b) (puts_from (suc b) plans w f) in
    let of_x : count_by (is_put c) (puts_from b (x ∷ plans) w f) ≡ cond (slice_index_or x.is_token f false) 1 0 =
    elim (cases_Bool (slice_index_or x.is_token f false)) [
      | inl token ↦ rw (written, token) (omega (arith, counted, later, here))
      | inr token ↦ rw (written, token) later
    ] in
    of_x ∙ ap (λ (y : ChannelPlan). cond (slice_index_or y.is_token f false) 1 0) same
one_put c b (suc j) (x ∷ plans) plan w f is number own =
    let later = one_put c (suc b) j plans plan w f is (omega arith) own in
    let other = ap (λ y. cond {A = ℕ} y 1 0) (ne_eqb c b (λ e. omega arith)) in
    elim (cases_Bool ((x.writer == w) && slice_index_or x.is_token f false)) [
      | inl put ↦ rw put (omega (arith, count_cons (is_put c) (Put b) (puts_from (suc b) plans w f), later, other))
      | inr none ↦ rw none later
    ]

module _ (n : Nest) (c : ℕ) (plan : ChannelPlan) (found : slice_get (plans_of n) c ≡ Some plan) where
  abbrev pub used : List ℕ
  used = turns_used plan.writer (sources_at n plan.reader plan.read)

  pub ends : IsChannelOf n plan
  ends = each_in (IsChannelOf n) plan (plans_of n) (all_channels n) (at_in plan (plans_of n) c found)

  -- the marks of a plan tell which turns are used
  pub mark_is : (f : ℕ) → f < turn_count n plan.writer
      → slice_index_or plan.is_token f false ≡ is_used (turns_used plan.writer (sources_at n plan.reader plan.read)) f
  mark_is f lt =
      ap (λ (x : ChannelPlan). slice_index_or x.is_token f false) (plans_of-plan_of n c plan found)
      ∙ get_or-map-range_with_len (is_used used) 0 (turn_count n plan.writer) f f false lt (omega arith)

  point_puts : (f : ℕ) → f < turn_count n plan.writer
      → count_by (is_put c) (point_events n plan.writer f)
      ≡ cond (is_used (turns_used plan.writer (sources_at n plan.reader plan.read)) f) 1 0
  point_puts f lt =
      let w = plan.writer in
      let usages = map (usage n w f) (range_with_len 0 (read_count n w)) in
      let puts = puts_from 0 (plans_of n) w f in
      let front : 0 + c ≡ c = omega arith in
      let gets = each_flat_map IsGet gets_of usages (each_of (λ u. Each IsGet (gets_of u)) usages all_gets) in
      omega (
        arith,
        count-append (is_put c) (flat_map gets_of usages) (Fire (map ref_of usages) ∷ puts),
        count_cons (is_put c) (Fire (map ref_of usages)) puts,
        no_puts c (flat_map gets_of usages) gets,
        one_put c 0 c (plans_of n) plan w f found front refl,
        ap (λ b. cond {A = ℕ} b 1 0) (mark_is f lt),
      )

  pub puts_before : (f : ℕ) → f ≤ turn_count n plan.writer
      → count_by (is_put c) (events_before n plan.writer f)
      ≡ tokens_below (turns_used plan.writer (sources_at n plan.reader plan.read)) f
  puts_before zero le = refl
  puts_before (suc f) le =
      omega (
        arith,
        ap (count_by (is_put c)) (events_more n plan.writer f),
        count-append (is_put c) (events_before n plan.writer f) (point_events n plan.writer f),
        puts_before f (omega arith),
        point_puts f (omega arith),
        ap (tokens_below used) (sym (add-one f)),
        tokens_more used f,
      )

  -- Gets

  pub gets_before : (f : ℕ) → f ≤ turn_count n plan.reader
      → count_by (is_get c) (events_before n plan.reader f)
      ≡ gets_for (take (length (turns_used plan.writer (take f (sources_at n plan.reader plan.read))))
      (uses_of (turns_used plan.writer (sources_at n plan.reader plan.read))))
  gets_before f le =
      let is : slice_get (plans_of n) c ≡ Some (plan_of n plan.reader plan.read plan.writer) =
      found ∙ ap Some (plans_of-plan_of n c plan found) in
      sym (got_count c (events_before n plan.reader f))
      ∙ ap length (points_got n plan.reader plan.read plan.writer c is f le)
      ∙ length-map-range_with_len _ 0 _

  -- After the first entries

  module _ (t : ℕ) (le : t ≤ length (trace n)) where
    pub puts_counted : puts_at (net_of (net n)) (cut_after opening (sequenced n t)) c
        ≡ tokens_below (turns_used plan.writer (sources_at n plan.reader plan.read))
        (turns_before (trace n) t plan.writer)
    puts_counted =
        let w = plan.writer in
        let f = turns_before (trace n) t w in
        let k = cut_after opening (sequenced n t) in
        ap (λ p. count_by (is_put c) (take (cut_after opening (sequenced n t) p) ((net_of (net n)).script p)))
        (writer_at n c plan found)
        ∙ ap (λ xs. count_by (is_put c) (take (cut_after opening (sequenced n t) w) xs)) (script_at n w ends.writer)
        ∙ ap (λ i. count_by (is_put c) (take i (script n w))) (stands (point_events n) (trace n) t w le)
        ∙ ap (count_by (is_put c)) (front_is n w f (few_turns n t w))
        ∙ puts_before f (few_turns n t w)

    pub gets_counted : gets_at (net_of (net n)) (cut_after opening (sequenced n t)) c
        ≡ gets_for (take (length (turns_used plan.writer
        (take (turns_before (trace n) t plan.reader) (sources_at n plan.reader plan.read))))
        (uses_of (turns_used plan.writer (sources_at n plan.reader plan.read))))
    gets_counted =
        let r = plan.reader in
        let f = turns_before (trace n) t r in
        ap (λ p. count_by (is_get c) (take (cut_after opening (sequenced n t) p) ((net_of (net n)).script p)))
        (reader_at n c plan found)
        ∙ ap (λ xs. count_by (is_get c) (take (cut_after opening (sequenced n t) r) xs)) (script_at n r ends.reader)
        ∙ ap (λ i. count_by (is_get c) (take i (script n r))) (stands (point_events n) (trace n) t r le)
        ∙ ap (count_by (is_get c)) (front_is n r f (few_turns n t r))
        ∙ gets_before f (few_turns n t r)

    -- the length of the queue
    pub queue_counted : queue_length (net_of (net n)) (cut_after opening (sequenced n t)) c
        ≡ tokens_below (turns_used plan.writer (sources_at n plan.reader plan.read))
        (turns_before (trace n) t plan.writer)
        - gets_for (take (length (turns_used plan.writer
        (take (turns_before (trace n) t plan.reader) (sources_at n plan.reader plan.read))))
        (uses_of (turns_used plan.writer (sources_at n plan.reader plan.read))))
    queue_counted = omega (arith, puts_counted, gets_counted)
