-- The tokens of a channel of a nest's network: the turns of its writer that its plan marks, in their order.
--
-- By induction on the points of the writer's script: point f puts the channel exactly where turn f is marked, once,
-- behind its Fire, so the token that it adds is the tag of turn f. The others' Puts and all Gets add nothing. So the
-- token with the number of marks below a turn is that turn's tag (`token_of_turn`), which is how a use names it. No
-- state of the machine occurs.
use Rattle.std.proofs.Common.{◌≡◌, ◌<◌, ◌+◌, ℕ, zero, suc, pred, Bool, true, false, cond, eqb, ◌&&◌, List, [], ◌∷◌}
use Rattle.std.proofs.Common.{◌++◌, map, length, take, get_or, refl, sym, ap, ◌∙◌, inl, inr, arith, append_assoc}
use Rattle.std.proofs.Common.{length-append}
use Rattle.std.specs.Prelude.{Option, Some, slice_get, slice_index_or, count_by}
use Rattle.std.specs.List.{filter, flat_map, range_with_len}
use Rattle.std.specs.Option.{option_map}
use Rattle.std.proofs.lemmas.Bool.{cases_Bool, eq-eqb, ne_eqb}
use Rattle.std.proofs.lemmas.List.{append-nil}
use Rattle.std.proofs.lemmas.List.Concat.{flat_map-cons}
use Rattle.std.proofs.lemmas.List.Sums.{sum_by-append, sum_by-cons}
use Rattle.std.proofs.lemmas.List.FromFn.{get_or-map-range_with_len}
use Rattle.std.proofs.lemmas.Option.{same_Some, slice_get-map}
use Rattle.std.proofs.Math.Seq.{take-append_seam}
use Rattle.sanlp.specs.Access.{read_count}
use Rattle.sanlp.specs.declared.nest.Nest.{Nest}
use Rattle.sanlp.specs.declared.nest.Tag.{Tag}
use Rattle.sanlp.proofs.Each.{Each}
use Rattle.sanlp.proofs.Members.{at_in, each_in}
use Rattle.channel_plan.specs.declared.plans.ChannelPlan.{ChannelPlan}
use Rattle.channel_plan.specs.Plans.{plan_of, plans_of, sources_at, turn_count}
use Rattle.channel_plan.specs.Tokens.{is_used, tokens_among, tokens_below, turns_used}
use Rattle.channel_plan.proofs.Counts.{same_filter_from}
use Rattle.net_core.specs.declared.network.Event.{Event}
use Rattle.net_core.specs.declared.network.Event.TheVariants.{Get, Fire, Put}
use Rattle.net_core.specs.declared.refs.Ref.{Ref}
use Rattle.net_core.specs.Machine.{Net, net_of}
use Rattle.net_core.specs.Names.{tag, tokens, tokens_before, with_token}
use Rattle.net_core.specs.Shape.{fires, is_fire}
use Rattle.plain_data.proofs.Lists.{slice_get-append_cons}
use Rattle.process_derive.specs.Derived.{net}
use Rattle.process_derive.specs.Scripts.{Usage, gets_of, point_events, puts_from, ref_of, script, usage}
use Rattle.process_derive.proofs.Numbers.{script_at}
use Rattle.process_derive.proofs.ScriptNames.{IsChannelOf, IsGet, all_channels, writer_at}
use Rattle.process_derive.proofs.NetworkShape.{point_has_gets}

-- The tokens in a list of events

-- the tokens of channel c that process w puts by these events, before which it has made so many fires
abbrev tokens_in : ℕ → ℕ → ℕ → List Event → List Tag
tokens_in c w done [] = []
tokens_in c w done (Get d slot ∷ events) = tokens_in c w done events
tokens_in c w done (Fire refs ∷ events) = tokens_in c w (suc done) events
tokens_in c w done (Put d ∷ events) =
    cond (eqb c d) (tag w (pred done) ∷ tokens_in c w done events) (tokens_in c w done events)

-- one event more
one_event : (net : Net) (c k done : ℕ) (e : Event) (rest : List Event) (before : List Tag)
    → fires net (net.writer c) k ≡ done
    → before ++ tokens_in c (net.writer c) done (e ∷ rest)
    ≡ with_token net c k (Some e) before ++ tokens_in c (net.writer c) (done + cond (is_fire e) 1 0) rest
one_event net c k done (Get d slot) rest before is =
    let same : done ≡ done + 0 = omega arith in
    ap (λ m. before ++ tokens_in c (net.writer c) m rest) same
one_event net c k done (Fire refs) rest before is =
    let more : suc done ≡ done + 1 = omega arith in
    ap (λ m. before ++ tokens_in c (net.writer c) m rest) more
one_event net c k done (Put d) rest before is =
    let w : ℕ = net.writer c in
    let same : done ≡ done + 0 = omega arith in
    elim (cases_Bool (eqb c d)) [
      | inl here ↦ rw here (
          ap (λ m. before ++ tag w (pred m) ∷ tokens_in c w done rest) (sym is)
          ∙ sym (append_assoc before (tag w (pred (fires net w k)) ∷ []) (tokens_in c w done rest))
          ∙ ap (λ m. (before ++ tag w (pred (fires net w k)) ∷ []) ++ tokens_in c w m rest) same)
      | inr there ↦ rw there (ap (λ m. before ++ tokens_in c w m rest) same)
    ]

tokens_from : (net : Net) (c : ℕ) (front rest : List Event) → net.script (net.writer c) ≡ front ++ rest
    → tokens_before net c (length front) ++ tokens_in c (net.writer c) (count_by is_fire front) rest ≡ tokens net c
tokens_from net c front [] whole =
    append-nil (tokens_before net c (length front))
    ∙ ap (λ es. tokens_before net c (length es)) (sym (append-nil front) ∙ sym whole)
tokens_from net c front (e ∷ rest) whole =
    let w : ℕ = net.writer c in
    let longer : length (front ++ e ∷ []) ≡ suc (length front) = length-append front (e ∷ []) ∙ omega arith in
    let there : slice_get (net.script w) (length front) ≡ Some e =
    ap (λ es. slice_get es (length front)) whole ∙ slice_get-append_cons front e rest in
    let done : fires net w (length front) ≡ count_by is_fire front =
    ap (λ es. count_by is_fire (take (length front) es)) whole ∙ ap (count_by is_fire) (take-append_seam front (e ∷ rest)) in
    let counted : count_by is_fire (front ++ e ∷ []) ≡ count_by is_fire front + cond (is_fire e) 1 0 =
    sum_by-append (λ e. cond (is_fire e) 1 0) front (e ∷ [])
    ∙ ap (λ m. count_by is_fire front + m) (sum_by-cons (λ e. cond (is_fire e) 1 0) e [] ∙ omega arith) in
    one_event net c (length front) (count_by is_fire front) e rest (tokens_before net c (length front)) done
    ∙ ap (λ o. with_token net c (length front) o (tokens_before net c (length front))
    ++ tokens_in c w (count_by is_fire front + cond (is_fire e) 1 0) rest) (sym there)
    ∙ (λ i. tokens_before net c (sym longer i) ++ tokens_in c w (sym counted i) rest)
    ∙ tokens_from net c (front ++ e ∷ []) rest (whole ∙ sym (append_assoc front (e ∷ []) rest))

-- The tokens of one point

none_got : (c w done : ℕ) (gets rest : List Event) → Each IsGet gets
    → tokens_in c w done (gets ++ rest) ≡ tokens_in c w done rest
none_got c w done [] rest h = refl
none_got c w done (Get d slot ∷ gets) rest h = none_got c w done gets rest h.1
none_got c w done (x ∷ gets) rest h = absurd h.0

-- no later channel's Put is one of channel c
none_put : (c d w done f : ℕ) (plans : List ChannelPlan) (rest : List Event) → c < d
    → tokens_in c w done (puts_from d plans w f ++ rest) ≡ tokens_in c w done rest
none_put c d w done f [] rest lt = refl
none_put c d w done f (plan ∷ plans) rest lt =
    let later : tokens_in c w done (puts_from (suc d) plans w f ++ rest) ≡ tokens_in c w done rest =
    none_put c (suc d) w done f plans rest (omega arith) in
    let other : eqb c d ≡ false = ne_eqb c d (λ e. omega arith) in
    elim (cases_Bool (eqb plan.writer w && get_or plan.is_token f false)) [
      | inl put ↦ rw (put, other) later
      | inr none ↦ rw none later
    ]

one_put : (c d j w done f : ℕ) (plans : List ChannelPlan) (plan : ChannelPlan) (rest : List Event)
    → slice_get plans j ≡ Some plan → d + j ≡ c → plan.writer ≡ w
    → tokens_in c w done (puts_from d plans w f ++ rest)
    ≡ cond (get_or plan.is_token f false) (tag w (pred done) ∷ tokens_in c w done rest) (tokens_in c w done rest)
one_put c d j w done f [] plan rest e number own = absurd (cc)
one_put c d zero w done f (first ∷ plans) plan rest e number own =
    let same : first ≡ plan = same_Some first plan e in
    let later : tokens_in c w done (puts_from (suc d) plans w f ++ rest) ≡ tokens_in c w done rest =
    none_put c (suc d) w done f plans rest (omega arith) in
    let written : eqb first.writer w ≡ true = eq-eqb first.writer w (ap (λ (q : ChannelPlan). q.writer) same ∙ own) in
    let here : eqb c d ≡ true = eq-eqb c d (omega arith) in
    ap (λ es. tokens_in c w done (es ++ rest))
    (ap (λ b. cond (b && get_or first.is_token f false) (Put d ∷ puts_from (suc d) plans w f)
    (puts_from (suc d) plans w f)) written)
    ∙ put_or_not (get_or first.is_token f false) here later
    ∙ ap (λ (q : ChannelPlan).
    cond (get_or q.is_token f false) (tag w (pred done) ∷ tokens_in c w done rest)
    (tokens_in c w done rest)) same where
      put_or_not : (b : Bool) → eqb c d ≡ true
          → tokens_in c w done (puts_from (suc d) plans w f ++ rest) ≡ tokens_in c w done rest
          → tokens_in c w done (cond b (Put d ∷ puts_from (suc d) plans w f) (puts_from (suc d) plans w f) ++ rest)
          ≡ cond b (tag w (pred done) ∷ tokens_in c w done rest) (tokens_in c w done rest)
      put_or_not true here later = rw here (ap (λ ts. tag w (pred done) ∷ ts) later)
      put_or_not false here later = later
one_put c d (suc j) w done f (first ∷ plans) plan rest e number own =
    let later = one_put c (suc d) j w done f plans plan rest e (omega arith) own in
    let other : eqb c d ≡ false = ne_eqb c d (λ same. omega arith) in
    elim (cases_Bool (eqb first.writer w && get_or first.is_token f false)) [
      | inl put ↦ rw (put, other) later
      | inr none ↦ rw none later
    ]

-- The tokens of a script

abbrev marked : ChannelPlan → ℕ → Bool
marked plan f = slice_index_or plan.is_token f false

points_put : (n : Nest) (c w a m : ℕ) (plan : ChannelPlan) → slice_get (plans_of n) c ≡ Some plan → plan.writer ≡ w
    → tokens_in c w a (flat_map (point_events n w) (range_with_len a m))
    ≡ map (tag w) (filter (marked plan) (range_with_len a m))
points_put n c w a zero plan e own = refl
points_put n c w a (suc m) plan e own =
    let usages : List (Option Usage) = map (usage n w a) (range_with_len 0 (read_count n w)) in
    let gets : List Event = flat_map gets_of usages in
    let refs : List Ref = map ref_of usages in
    let puts : List Event = puts_from 0 (plans_of n) w a in
    let later : List Event = flat_map (point_events n w) (range_with_len (a + 1) m) in
    let next : suc a ≡ a + 1 = omega arith in
    let number : 0 + c ≡ c = omega arith in
    let rest : tokens_in c w (suc a) later ≡ map (tag w) (filter (marked plan) (range_with_len (a + 1) m)) =
    ap (λ k. tokens_in c w k later) next ∙ points_put n c w (a + 1) m plan e own in
    ap (tokens_in c w a)
    (flat_map-cons (point_events n w) a (range_with_len (a + 1) m) ∙ append_assoc gets (Fire refs ∷ puts) later)
    ∙ none_got c w a gets (Fire refs ∷ (puts ++ later)) (point_has_gets n w a)
    ∙ one_put c 0 c w (suc a) a (plans_of n) plan later e number own
    ∙ ap (λ ts. cond (marked plan a) (tag w a ∷ ts) ts) rest
    ∙ kept (marked plan a) where
      kept : (b : Bool)
          → cond b (tag w a ∷ map (tag w) (filter (marked plan) (range_with_len (a + 1) m)))
          (map (tag w) (filter (marked plan) (range_with_len (a + 1) m)))
          ≡ map (tag w)
          (cond b (a ∷ filter (marked plan) (range_with_len (a + 1) m))
          (filter (marked plan) (range_with_len (a + 1) m)))
      kept true = refl
      kept false = refl

-- the tokens of a channel are the turns of its writer that its plan marks, in order
pub tokens_are : (n : Nest) (c : ℕ) (plan : ChannelPlan) → slice_get (plans_of n) c ≡ Some plan
    → tokens (net_of (net n)) c
    ≡ map (tag plan.writer)
    (filter (λ f. slice_index_or plan.is_token f false) (range_with_len 0 (turn_count n plan.writer)))
tokens_are n c plan e =
    let w : ℕ = plan.writer in
    let writer : (net_of (net n)).writer c ≡ w = writer_at n c plan e in
    let there : w < length n.statements =
    (each_in (IsChannelOf n) plan (plans_of n) (all_channels n) (at_in plan (plans_of n) c e)).writer in
    let events : (net_of (net n)).script ((net_of (net n)).writer c) ≡ script n w =
    ap (net_of (net n)).script writer ∙ script_at n w there in
    sym (tokens_from (net_of (net n)) c [] (script n w) events)
    ∙ ap (λ v. tokens_in c v 0 (script n w)) writer
    ∙ points_put n c w 0 (turn_count n w) plan e refl

-- The number of a token

found_at : (test : ℕ → Bool) (a m j : ℕ) → j < m → test (a + j) ≡ true
    → slice_get (filter test (range_with_len a m)) (count_by test (range_with_len a j)) ≡ Some (a + j)
found_at test a zero j lt passes = absurd (omega arith)
found_at test a (suc m) zero lt passes =
    let first : a ≡ a + 0 = omega arith in
    let here : test a ≡ true = ap test first ∙ passes in
    rw here (ap Some first)
found_at test a (suc m) (suc j) lt passes =
    let later : a + suc j ≡ a + 1 + j = omega arith in
    let rest : slice_get (filter test (range_with_len (a + 1) m)) (count_by test (range_with_len (a + 1) j))
    ≡ Some (a + suc j) =
    found_at test (a + 1) m j (omega arith) (ap test (sym later) ∙ passes) ∙ ap Some (sym later) in
    ap (slice_get (filter test (range_with_len a (suc m))))
    (sum_by-cons (λ k. cond (test k) 1 0) a (range_with_len (a + 1) j))
    ∙ shifted (test a) ∙ rest where
      shifted : (b : Bool)
          → slice_get (cond b (a ∷ filter test (range_with_len (a + 1) m)) (filter test (range_with_len (a + 1) m)))
          (cond b 1 0 + count_by test (range_with_len (a + 1) j))
          ≡ slice_get (filter test (range_with_len (a + 1) m)) (count_by test (range_with_len (a + 1) j))
      shifted true =
          let more : 1 + count_by test (range_with_len (a + 1) j) ≡ suc (count_by test (range_with_len (a + 1) j)) =
          omega arith in
          ap (slice_get (a ∷ filter test (range_with_len (a + 1) m))) more
      shifted false =
          let same : 0 + count_by test (range_with_len (a + 1) j) ≡ count_by test (range_with_len (a + 1) j) =
          omega arith in
          ap (slice_get (filter test (range_with_len (a + 1) m))) same

-- a turn that is used is the token of its number
pub token_of_turn : (n : Nest) (p k w c turn : ℕ) → slice_get (plans_of n) c ≡ Some (plan_of n p k w)
    → turn < turn_count n w → is_used (turns_used w (sources_at n p k)) turn ≡ true
    → slice_get (tokens (net_of (net n)) c) (tokens_below (turns_used w (sources_at n p k)) turn) ≡ Some (tag w turn)
token_of_turn n p k w c turn e lt is =
    let used : List ℕ = turns_used w (sources_at n p k) in
    let turns : ℕ = turn_count n w in
    let front : 0 + turn ≡ turn = omega arith in
    let marks : filter (λ f. slice_index_or (tokens_among turns used) f false) (range_with_len 0 turns)
    ≡ filter (is_used used) (range_with_len 0 turns) =
    same_filter_from (λ f. slice_index_or (tokens_among turns used) f false) (is_used used) 0 turns
    (λ f from below. get_or-map-range_with_len (is_used used) 0 turns f f false (omega arith) (omega arith)) in
    let all : tokens (net_of (net n)) c ≡ map (tag w) (filter (is_used used) (range_with_len 0 turns)) =
    tokens_are n c (plan_of n p k w) e ∙ ap (map (tag w)) marks in
    let token : slice_get (filter (is_used used) (range_with_len 0 turns)) (tokens_below used turn) ≡ Some turn =
    found_at (is_used used) 0 turns turn lt (ap (is_used used) front ∙ is) ∙ ap Some front in
    ap (λ ts. slice_get ts (tokens_below used turn)) all
    ∙ slice_get-map (tag w) (filter (is_used used) (range_with_len 0 turns)) (tokens_below used turn)
    ∙ ap (option_map (tag w)) token
