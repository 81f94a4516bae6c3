-- The sequential schedule is a run of its network, whatever room its channels need, and ends all.
--
-- By induction on the trace: after t entries each process has made the events of its points among them (InTraceOrder).
-- Within entry t only a Get could wait. Its channel's Gets so far, this one included, are no more than its uses up to
-- this entry want (GetCounts), these want no more tokens than the writer's points so far are (SourcesBefore), and all
-- those were put (TokensPut). So the queue isn't empty. Room is no question here: the channels are as wide as all
-- their tokens. The capacities that such a run needs are NeverFull's.
use Rattle.std.proofs.Common.{◌≡◌, ℕ, zero, suc, ◌+◌, ◌-◌, ◌<◌, ◌≤◌, true, cond, Some, List, [], ◌∷◌, ◌++◌, length}
use Rattle.std.proofs.Common.{take, drop, replicate, slice_get, count_by, refl, sym, ap, ◌∙◌, subst, inl, inr, arith}
use Rattle.std.proofs.Common.{length-append, lt-ltb}
use Rattle.std.specs.Prelude.{◌==◌}
use Rattle.std.specs.List.{flat_map, range_with_len}
use Rattle.std.proofs.lemmas.Bool.{cases_eq, cases_lt, eq-eqb, ne_eqb}
use Rattle.std.proofs.lemmas.List.{take_at, take-append-drop, take_all}
use Rattle.std.proofs.lemmas.List.Concat.{flat_map-append}
use Rattle.std.proofs.lemmas.Option.{slice_get_within}
use Rattle.channel_plan.specs.Plans.{plans_of, sources_at, turn_count}
use Rattle.channel_plan.specs.Tokens.{tokens_below, turns_used}
use Rattle.net_core.specs.declared.network.Event.{Event}
use Rattle.net_core.specs.declared.network.Event.TheVariants.{Get, Fire, Put}
use Rattle.net_core.specs.Cuts.{Cut, IsCutRun, advanced, cut_after, enabled_at, gets_at, opening, puts_at}
use Rattle.net_core.specs.Machine.{Net, net_of}
use Rattle.net_core.specs.Shape.{is_get, is_put}
use Rattle.net_core.proofs.EventCounts.{count-append, count_mono, count_next}
use Rattle.net_core.proofs.CutOrder.{advanced_here}
use Rattle.net_core.proofs.Positions.{gets_advanced}
use Rattle.plain_data.proofs.Lists.{slice_get-some}
use Rattle.process_derive.specs.Derived.{net}
use Rattle.process_derive.specs.Scripts.{point_events, script}
use Rattle.process_derive.proofs.Numbers.{count_channels, script_at}
use Rattle.process_derive.proofs.ScriptNames.{is_wired, reader_at, script_past, writer_at}
use Rattle.sanlp.specs.declared.nest.Nest.{Nest}
use Rattle.sanlp.specs.declared.nest.Point.{Point}
use Rattle.sanlp.specs.Laws.{entries_from}
use Rattle.sanlp.specs.Trace.{trace}
use Rattle.sanlp.proofs.Lists.{range_with_len-append}
use Rattle.sanlp.proofs.ReadCounts.{trace-statement}
use Rattle.witness_plan.specs.Schedules.{could_come_at, is_ready}
use Rattle.witness_plan.specs.Sequential.{sequential_schedule}
use Rattle.witness_plan.specs.Records.{IsOwn}
use Rattle.witness_plan.proofs.AlongCuts.{cut_here, cut_there, IsCutRun-append}
use Rattle.witness_plan.proofs.GetCounts.{gets_made}
use Rattle.witness_plan.proofs.InTraceOrder.{stands, turns_before, until, until_more}
use Rattle.witness_plan.proofs.NeverFull.{never_full, ready_comes}
use Rattle.witness_plan.proofs.OwnChannels.{wired_own}
use Rattle.witness_plan.proofs.PointEvents.{events_before}
use Rattle.witness_plan.proofs.SourcesBefore.{entries_count, wanted_are_tokens}
use Rattle.witness_plan.proofs.TokensPut.{events_more, tokens_put}

-- Runs on cuts

-- one process makes many events
run_of_one : (n : Net) (k : Cut) (p m : ℕ) → ((j : ℕ) → j < m → enabled_at n (cut_after k (replicate j p)) p ≡ true)
    → IsCutRun n k (replicate m p)
run_of_one n k p zero on = tt
run_of_one n k p (suc m) on =
    (on 0 (omega arith), run_of_one n (advanced k p) p m (λ j lt. on (suc j) (omega arith)))

-- Scripts

none_of : (t : ℕ) (points : List Point) (s : ℕ) → ((i : ℕ) (q : Point) → slice_get points i ≡ Some q → q.statement < s)
    → entries_from t points s ≡ []
none_of t [] s low = refl
none_of t (q ∷ points) s low =
    let here = low 0 q refl in
    ap (λ b. cond b (t ∷ entries_from (t + 1) points s) (entries_from (t + 1) points s))
    (ne_eqb q.statement s (λ e. omega arith))
    ∙ none_of (t + 1) points s (λ i r is. low (suc i) r is)

-- also a process that isn't there has the script of its points, of which there are none
script_is : (n : Nest) (p : ℕ) → (net_of (net n)).script p ≡ script n p
script_is n p =
    elim (cases_lt p (length n.statements)) [
      | inl lt ↦ script_at n p lt
      | inr le ↦
          let none : turn_count n p ≡ 0 =
          ap length (none_of 0 (trace n) p (λ i q is. (let low = trace-statement n i q is in omega arith))) in
          script_past n p le ∙ ap (λ m. flat_map (point_events n p) (range_with_len 0 m)) (sym none)
    ]

script_front : (n : Nest) (p f : ℕ) → f ≤ turn_count n p
    → script n p ≡ events_before n p f ++ flat_map (point_events n p) (range_with_len f (turn_count n p - f))
script_front n p f le =
    let whole : turn_count n p ≡ f + (turn_count n p - f) = omega arith in
    let front : 0 + f ≡ f = omega arith in
    ap (λ m. flat_map (point_events n p) (range_with_len 0 m)) whole
    ∙ ap (flat_map (point_events n p)) (range_with_len-append 0 f (turn_count n p - f))
    ∙ flat_map-append (point_events n p) (range_with_len 0 f) (range_with_len (0 + f) (turn_count n p - f))
    ∙ ap (λ a. events_before n p f ++ flat_map (point_events n p) (range_with_len a (turn_count n p - f))) front

take_front : (n : Nest) (p f : ℕ) → f ≤ turn_count n p
    → take (length (events_before n p f)) ((net_of (net n)).script p) ≡ events_before n p f
take_front n p f le =
    ap (take (length (events_before n p f))) (script_is n p ∙ script_front n p f le)
    ∙ take_at (events_before n p f) (flat_map (point_events n p) (range_with_len f (turn_count n p - f)))
    (length (events_before n p f)) refl

length_front : (n : Nest) (p f : ℕ) → f ≤ turn_count n p
    → length (events_before n p f) ≤ length ((net_of (net n)).script p)
length_front n p f le =
    omega (
      arith,
      ap length (script_is n p ∙ script_front n p f le),
      length-append (events_before n p f) (flat_map (point_events n p) (range_with_len f (turn_count n p - f))),
    )

pub few_turns : (n : Nest) (t p : ℕ) → turns_before (trace n) t p ≤ turn_count n p
few_turns n t p =
    let points = trace n in
    let is = λ (q : Point). q.statement == p in
    let whole = ap (count_by (λ (q : Point). q.statement == p)) (take-append-drop t points) in
    omega (
      arith,
      whole,
      count-append (λ (q : Point). q.statement == p) (take t points) (drop t points),
      entries_count 0 points p,
    )

all_turns : (n : Nest) (p : ℕ) → turns_before (trace n) (length (trace n)) p ≡ turn_count n p
all_turns n p =
    ap (count_by (λ (q : Point). q.statement == p)) (take_all (length (trace n)) (trace n) (omega arith))
    ∙ sym (entries_count 0 (trace n) p)

-- The schedule so far

module _ (n : Nest) where
  abbrev before : ℕ → List ℕ
  before t = until (point_events n) (trace n) t

  schedule_is : before (length (trace n)) ≡ sequential_schedule n
  unfolding sequential_schedule
  schedule_is = refl

-- One entry of the trace

module _ (n : Nest) (t : ℕ) (q : Point) (here : slice_get (trace n) t ≡ Some q) where
  abbrev m : Net
  m = net_of (net n)

  abbrev p : ℕ
  p = q.statement

  abbrev f : ℕ
  f = turns_before (trace n) t q.statement

  abbrev many : ℕ
  many = length (point_events n q.statement (turns_before (trace n) t q.statement))

  abbrev k : Cut
  k = cut_after opening (before n t)

  next_turn : turns_before (trace n) (suc t) q.statement ≡ suc f
  next_turn =
      let counted = count_next (λ (r : Point). r.statement == q.statement) (trace n) t q here in
      omega (arith, counted, ap (λ b. cond {A = ℕ} b 1 0) (eq-eqb q.statement q.statement refl))

  in_trace : t < length (trace n)
  in_trace = slice_get_within (trace n) t q here

  turn_there : suc f ≤ turn_count n q.statement
  turn_there = omega (arith, few_turns n (suc t) q.statement, next_turn)

  -- where each process stands
  stand : (r : ℕ) → k r ≡ length (events_before n r (turns_before (trace n) t r))
  stand r = stands (point_events n) (trace n) t r (omega (arith, in_trace))

  point_ends : length (events_before n q.statement (suc f)) ≡ k q.statement + many
  point_ends =
      omega (
        arith,
        ap length (events_more n q.statement f),
        length-append (events_before n q.statement f) (point_events n q.statement f),
        stand q.statement,
      )

  module _ (j : ℕ) (lt : j < many) where
    abbrev c : Cut
    c = cut_after k (replicate j q.statement)

    at : c q.statement ≡ k q.statement + j
    at = cut_here k j q.statement

    inside : c q.statement < length (m.script q.statement)
    inside = omega (arith, at, point_ends, length_front n q.statement (suc f) turn_there)

    -- no process has gone back
    no_less : (r : ℕ) → k r ≤ c r
    no_less r =
        elim (cases_eq r q.statement) [
          | inl same ↦ subst (λ s. k s ≤ c s) (sym same) (omega (arith, at))
          | inr other ↦ omega (arith, cut_there k j q.statement r other)
        ]

    -- the token of a Get was put before
    token_there : (d slot : ℕ) → slice_get (m.script q.statement) (c q.statement) ≡ Some (Get d slot)
        → IsOwn m q.statement (Get d slot) → gets_at m c d < puts_at m c d
    token_there d slot is own =
        let plan = slice_get-some (plans_of n) d (omega (arith, own.0, count_channels n)) in
        let w = plan.0.writer in
        let b = turns_before (trace n) t w in
        let reader : plan.0.reader ≡ q.statement = sym (reader_at n d plan.0 plan.1) ∙ own.1 in
        let used = turns_used w (sources_at n plan.0.reader plan.0.read) in
        let wanted : count_by (is_get d)
        (events_before n plan.0.reader (turns_before (trace n) (suc t) plan.0.reader)) ≤ tokens_below used b =
        (
        let made = gets_made n d plan.0 plan.1 (turns_before (trace n) (suc t) plan.0.reader) in
        let few = wanted_are_tokens n plan.0.read plan.0.reader w t in
        omega arith
        ) in
        let wanted_here : count_by (is_get d)
        (events_before n q.statement (turns_before (trace n) (suc t) q.statement)) ≤ tokens_below used b =
        subst (λ r. count_by (is_get d)
        (events_before n r (turns_before (trace n) (suc t) r)) ≤ tokens_below used b) reader wanted in
        let wanted_so_far : count_by (is_get d) (events_before n q.statement (suc f)) ≤ tokens_below used b =
        subst (λ g. count_by (is_get d) (events_before n q.statement g) ≤ tokens_below used b) next_turn wanted_here in
        let put : tokens_below used b ≤ puts_at m k d =
        (
        let puts = tokens_put n d plan.0 plan.1 b (few_turns n t w) in
        let writer = ap (λ r. count_by (is_put d) (take (k r) (m.script r))) (writer_at n d plan.0 plan.1) in
        let front =
        ap (λ i. count_by (is_put d) (take i (m.script w))) (stand w)
        ∙ ap (count_by (is_put d)) (take_front n w b (few_turns n t w)) in
        omega arith
        ) in
        let later : puts_at m k d ≤ puts_at m c d =
        count_mono (is_put d) (m.script (m.writer d)) (k (m.writer d)) (c (m.writer d)) (no_less (m.writer d)) in
        let more =
        gets_advanced m (is_wired n) c q.statement (Get d slot) d is
        ∙ ap (λ b. gets_at m c d + cond b 1 0) (eq-eqb d d refl) in
        let got : gets_at m (advanced c q.statement) d ≤ count_by (is_get d) (events_before n q.statement (suc f)) =
        (
        let reading = ap (λ r. count_by (is_get d) (take (advanced c q.statement r) (m.script r))) own.1 in
        let place =
        ap (λ i. count_by (is_get d) (take i (m.script q.statement)))
        (advanced_here c q.statement q.statement refl ∙ ap suc at) in
        let all = ap (count_by (is_get d)) (take_front n q.statement (suc f) turn_there) in
        let mono =
        count_mono (is_get d) (m.script q.statement) (suc (k q.statement + j))
        (length (events_before n q.statement (suc f))) (omega (arith, point_ends)) in
        omega arith
        ) in
        omega arith

-- The whole schedule

module _ (n : Nest) where
  abbrev derived : Net
  derived = net_of (net n)

  module _ (t : ℕ) (q : Point) (here : slice_get (trace n) t ≡ Some q) (j : ℕ)
      (lt : j < length (point_events n q.statement (turns_before (trace n) t q.statement))) where
    abbrev cut : Cut
    cut = cut_after (cut_after opening (before n t)) (replicate j q.statement)

    could_come : (e : Event) → slice_get (derived.script q.statement) (cut q.statement) ≡ Some e
        → IsOwn derived q.statement e → could_come_at derived cut (Some e) ≡ true
    could_come (Get d slot) is own = lt-ltb _ _ (token_there n t q here j lt d slot is own)
    could_come (Fire refs) is own = refl
    could_come (Put d) is own = refl

    ready : is_ready derived cut q.statement ≡ true
    ready =
        let event = slice_get-some (derived.script q.statement) (cut q.statement) (inside n t q here j lt) in
        let own = wired_own derived (is_wired n) q.statement (cut q.statement) event.0 event.1 in
        ap (could_come_at derived cut) event.1 ∙ could_come event.0 event.1 own

  runs_until : (t : ℕ) → t ≤ length (trace n) → IsCutRun (never_full derived) opening (before n t)
  runs_until zero le = tt
  runs_until (suc t) le =
      let q = slice_get-some (trace n) t (omega arith) in
      let p = q.0.statement in
      let many = length (point_events n p (turns_before (trace n) t p)) in
      subst (IsCutRun (never_full derived) opening) (sym (until_more (point_events n) (trace n) t q.0 q.1))
      (IsCutRun-append (never_full derived) (before n t) (replicate many p) opening (runs_until t (omega arith))
      (run_of_one (never_full derived) (cut_after opening (before n t)) p many
      (λ j lt. ready_comes derived (is_wired n) (cut_after (cut_after opening (before n t)) (replicate j p)) p
      (ready t q.0 q.1 j lt))))

  -- each entry of the schedule is ready in turn
  pub sequential_runs : IsCutRun (never_full (net_of (net n))) opening (sequential_schedule n)
  sequential_runs =
      subst (IsCutRun (never_full derived) opening) (schedule_is n) (runs_until (length (trace n)) (omega arith))

  -- and in the end each process has made all its events
  pub sequential_ends : (p : ℕ) → cut_after opening (sequential_schedule n) p ≡ length ((net_of (net n)).script p)
  sequential_ends p =
      ap (λ s. cut_after opening s p) (sym (schedule_is n))
      ∙ stands (point_events n) (trace n) (length (trace n)) p (omega arith)
      ∙ ap (λ f. length (events_before n p f)) (all_turns n p)
      ∙ ap length (sym (script_is n p))
