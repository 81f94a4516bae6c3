-- What the fires so far read was written before, so the writers have made those points.
--
-- At entry t of the trace, take a reader's fires up to that entry and one writer: each turn that they name is of an
-- entry before its reader's, so it is among the writer's turns before t (`source_turn`). The Gets that these uses want
-- are one more than the greatest number of such a token, and so no more than the tokens among those turns
-- (`wanted_are_tokens`). It is the one place where "a last writer is earlier" is used for a schedule, and it says
-- nothing of when a Put or a Get really comes.
use Rattle.std.proofs.Common.{◌≡◌, ℕ, zero, suc, ◌+◌, ◌-◌, ◌<◌, ◌≤◌, Bool, true, false, cond, Option, Some, None, List}
use Rattle.std.proofs.Common.{[], ◌∷◌, ◌++◌, length, map, take, drop, slice_get, get_or, count_by, refl, sym, ap, ◌∙◌}
use Rattle.std.proofs.Common.{subst, inl, inr, arith}
use Rattle.std.specs.Prelude.{All, ◌==◌, ◌||◌}
use Rattle.std.specs.List.{cons_option, list_any}
use Rattle.std.specs.Option.{option_and_then}
use Rattle.std.proofs.lemmas.Bool.{cases_Bool, eq-eqb, eqb-true}
use Rattle.std.proofs.lemmas.List.{take_at, take-append-drop, take-map}
use Rattle.std.proofs.lemmas.List.Elements.{All-cons, All-head, All-nil, All-tail, All-take, All-weaker}
use Rattle.std.proofs.lemmas.Option.{slice_get-get_or}
use Rattle.channel_plan.specs.Plans.{sources_at}
use Rattle.channel_plan.specs.Tokens.{is_used, tokens_below, turn_of, turns_used, uses_of}
use Rattle.channel_plan.proofs.Uses.{tokens_more, tokens_below-more}
use Rattle.net_core.proofs.EventCounts.{count_cons, count_mono, count_next}
use Rattle.plain_data.proofs.Options.{option_map-some, option_and_then-some}
use Rattle.reorder_slots.specs.Slots.{gets_for}
use Rattle.sanlp.specs.declared.nest.Nest.{Nest}
use Rattle.sanlp.specs.declared.nest.Point.{Point}
use Rattle.sanlp.specs.declared.nest.Tag.{Tag}
use Rattle.sanlp.specs.Cells.{Cell}
use Rattle.sanlp.specs.Laws.{entries_from, entries_of}
use Rattle.sanlp.specs.Tags.{tag_at}
use Rattle.sanlp.specs.Trace.{trace}
use Rattle.sanlp.specs.Writers.{cell_read, greatest_below, last_before, writes_at}
use Rattle.source_tree.specs.Sources.{source_at}
use Rattle.witness_plan.proofs.GetCounts.{turns_first}
use Rattle.witness_plan.proofs.InTraceOrder.{turns_before}

-- Sources

greatest_is_below : (passes : ℕ → Bool) (t u : ℕ) → greatest_below passes t ≡ Some u → u < t
greatest_is_below passes zero u h = cc
greatest_is_below passes (suc t) u h =
    elim (cases_Bool (passes t)) [
      | inl here ↦
          let h' : cond {A = Option ℕ} true (Some t) (greatest_below passes t) ≡ Some u = rw here at h in
          let same : t ≡ u = cc in
          omega arith
      | inr other ↦
          let h' : cond {A = Option ℕ} false (Some t) (greatest_below passes t) ≡ Some u = rw other at h in
          let less = greatest_is_below passes t u h' in
          omega arith
    ]

last_is_before : (n : Nest) (points : List Point) (t : ℕ) (cell : Cell) (u : ℕ) → last_before n points t cell ≡ Some u
    → u < t
unfolding last_before
last_is_before n points t cell u h = greatest_is_below (writes_at n points cell) t u h

-- the turn of a source is among those before the entry that reads
source_turn : (n : Nest) (points : List Point) (k e : ℕ) (tag : Tag) → source_at n points k e ≡ Some tag
    → tag.turn < turns_before points e tag.process
source_turn n points k e tag h =
    let outer =
    option_and_then-some (tag_at points) (option_and_then (last_before n points e) (cell_read n points e k)) tag h in
    let inner = option_and_then-some (last_before n points e) (cell_read n points e k) outer.0 outer.1 in
    let u = outer.0 in
    let before = last_is_before n points e inner.0 u inner.2 in
    let is = option_map-some _ (slice_get points u) tag outer.2 in
    let made = sym is.2 in
    let q = is.0 in
    let next : turns_before points (suc u) q.statement
    ≡ turns_before points u q.statement + cond (q.statement == q.statement) 1 0 =
    count_next (λ (r : Point). r.statement == q.statement) points u q is.1 in
    let one = ap (λ b. cond {A = ℕ} b 1 0) (eq-eqb q.statement q.statement refl) in
    let later = count_mono (λ (r : Point). r.statement == q.statement) points (suc u) e before in
    let process : tag.process ≡ q.statement = ap (λ (x : Tag). x.process) made in
    let turn : tag.turn ≡ turns_before points u q.statement = ap (λ (x : Tag). x.turn) made in
    let bound : tag.turn < turns_before points e q.statement = omega arith in
    subst (λ s. tag.turn < turns_before points e s) (sym process) bound

-- Entries

entries_append : (t : ℕ) (xs ys : List Point) (s : ℕ)
    → entries_from t (xs ++ ys) s ≡ entries_from t xs s ++ entries_from (t + length xs) ys s
entries_append t [] ys s = let e : t ≡ t + 0 = omega arith in ap (λ k. entries_from k ys s) e
entries_append t (x ∷ xs) ys s =
    let later =
    entries_append (t + 1) xs ys s
    ∙ (let e : t + 1 + length xs
    ≡ t + suc (length xs) = omega arith in ap (λ k. entries_from (t + 1) xs s ++ entries_from k ys s) e) in
    elim (cases_Bool (x.statement == s)) [ inl here ↦ rw here (ap (λ es. t ∷ es) later) | inr other ↦ rw other later ]

with_entry : (b : Bool) (t : ℕ) (es : List ℕ) → length (cond b (t ∷ es) es) ≡ cond b 1 0 + length es
with_entry true t es = omega arith
with_entry false t es = omega arith

pub entries_count : (t : ℕ) (xs : List Point) (s : ℕ)
    → length (entries_from t xs s) ≡ count_by (λ q. q.statement == s) xs
entries_count t [] s = refl
entries_count t (x ∷ xs) s =
    omega (
      arith,
      count_cons (λ (q : Point). q.statement == s) x xs,
      entries_count (t + 1) xs s,
      with_entry (x.statement == s) t (entries_from (t + 1) xs s),
    )

entries_below : (t m : ℕ) (xs : List Point) (s : ℕ) → t + length xs ≤ m → All (λ e. e < m) (entries_from t xs s)
entries_below t m [] s le = All-nil (λ e. e < m)
entries_below t m (x ∷ xs) s le =
    let later = entries_below (t + 1) m xs s (omega arith) in
    elim (cases_Bool (x.statement == s)) [
      | inl here ↦ rw here (All-cons (λ e. e < m) t (entries_from (t + 1) xs s) (omega arith) later)
      | inr other ↦ rw other later
    ]

-- the first entries of a process are those among the first points
entries_first : (points : List Point) (t s : ℕ)
    → take (turns_before points t s) (entries_of points s) ≡ entries_of (take t points) s
entries_first points t s =
    ap (λ xs. take (turns_before points t s) (entries_of xs s)) (sym (take-append-drop t points))
    ∙ ap (take (turns_before points t s)) (entries_append 0 (take t points) (drop t points) s)
    ∙ take_at (entries_of (take t points) s) (entries_from (0 + length (take t points)) (drop t points) s)
    (turns_before points t s) (entries_count 0 (take t points) s)

-- Turns that are named

-- an entry whose source, if it is a turn of w, is an early one
abbrev HasLowSource : (ℕ → Option Tag) → ℕ → ℕ → ℕ → Type 0
HasLowSource source w most e = (tag : Tag) → source e ≡ Some tag → tag.process ≡ w → tag.turn < most

low_one : (w most : ℕ) (turns : List ℕ) (o : Option Tag)
    → ((tag : Tag) → o ≡ Some tag → tag.process ≡ w → tag.turn < most) → All (λ turn. turn < most) turns
    → All (λ turn. turn < most) (cons_option (turn_of w o) turns)
low_one w most turns None low later = later
low_one w most turns (Some tag) low later = go (tag.process == w) refl
  where
    go : (b : Bool) → (tag.process == w) ≡ b
        → All (λ turn. turn < most) (cons_option (cond b (Some tag.turn) None) turns)
    go true same = All-cons (λ turn. turn < most) tag.turn turns (low tag refl (eqb-true tag.process w same)) later
    go false other = later

turns_low : (source : ℕ → Option Tag) (w most : ℕ) (es : List ℕ) → All (HasLowSource source w most) es
    → All (λ turn. turn < most) (turns_used w (map source es))
turns_low source w most [] all = All-nil (λ turn. turn < most)
turns_low source w most (e ∷ es) all =
    low_one w most (turns_used w (map source es)) (source e) (All-head (HasLowSource source w most) e es all)
    (turns_low source w most es (All-tail (HasLowSource source w most) e es all))

-- the sources of the first fires of a process, up to that of entry t
fires_low : (n : Nest) (k p w t : ℕ)
    → All (λ turn. turn < turns_before (trace n) t w)
    (turns_used w (take (turns_before (trace n) (suc t) p) (sources_at n p k)))
fires_low n k p w t =
    let points = trace n in
    let es = entries_of (take (suc t) points) p in
    let first : take (turns_before points (suc t) p) (sources_at n p k) ≡ map (source_at n points k) es =
    take-map (source_at n points k) (turns_before points (suc t) p) (entries_of points p)
    ∙ ap (map (source_at n points k)) (entries_first points (suc t) p) in
    subst (λ sources. All (λ turn. turn < turns_before points t w) (turns_used w sources)) (sym first)
    (turns_low (source_at n points k) w (turns_before points t w) es
    (All-weaker (λ e. e < suc t) (HasLowSource (source_at n points k) w (turns_before points t w))
    (λ e lt tag is same. (
    let bound : tag.turn < turns_before points e w =
    subst (λ s. tag.turn < turns_before points e s) same (source_turn n points k e tag is) in
    let mono = count_mono (λ (q : Point). q.statement == w) points e t (omega arith) in
    omega arith
    ))
    es (entries_below 0 (suc t) (take (suc t) points) p (omega (arith, short (suc t) points)))))
  where
    short : (m : ℕ) (xs : List Point) → length (take m xs) ≤ m
    short zero xs = omega arith
    short (suc m) [] = omega arith
    short (suc m) (x ∷ xs) = omega (arith, short m xs)

-- Tokens that are wanted

-- each turn that is named is used
use_of : (turn : ℕ) (used : List ℕ) (k : ℕ) → slice_get used k ≡ Some turn → is_used used turn ≡ true
use_of turn [] k is = cc
use_of turn (x ∷ used) zero is =
    let same : x ≡ turn = cc in
    ap (λ b. b || list_any (λ other. other == turn) used) (eq-eqb x turn same)
use_of turn (x ∷ used) (suc k) is =
    ap (λ b. (x == turn) || b) (use_of turn used k is) ∙ or_true (x == turn)
  where
    or_true : (b : Bool) → (b || true) ≡ true
    or_true true = refl
    or_true false = refl

-- a token below the turns so far is one of their tokens
pub token_below : (used : List ℕ) (turn most : ℕ) → turn < most → is_used used turn ≡ true
    → tokens_below used turn + 1 ≤ tokens_below used most
token_below used turn most lt named =
    let whole : turn + 1 + (most - (turn + 1)) ≡ most = omega arith in
    omega (
      arith,
      tokens_more used turn,
      ap (λ b. cond {A = ℕ} b 1 0) named,
      tokens_below-more used (turn + 1) (most - (turn + 1)),
      ap (tokens_below used) whole,
    )

gets_low : (used : List ℕ) (most : ℕ) (turns : List ℕ) → All (λ turn. turn < most) turns
    → All (λ turn. is_used used turn ≡ true) turns
    → gets_for (map (tokens_below used) turns) ≤ tokens_below used most
gets_low used most [] low named = omega arith
gets_low used most (turn ∷ turns) low named =
    let this =
    token_below used turn most (All-head (λ turn. turn < most) turn turns low)
    (All-head (λ turn. is_used used turn ≡ true) turn turns named) in
    let later =
    gets_low used most turns (All-tail (λ turn. turn < most) turn turns low)
    (All-tail (λ turn. is_used used turn ≡ true) turn turns named) in
    omega arith

-- at entry t of the reader, its uses so far want no more tokens than the writer's points so far are
pub wanted_are_tokens : (n : Nest) (k p w t : ℕ)
    → gets_for (take (length (turns_used w (take (turns_before (trace n) (suc t) p) (sources_at n p k))))
    (uses_of (turns_used w (sources_at n p k))))
    ≤ tokens_below (turns_used w (sources_at n p k)) (turns_before (trace n) t w)
wanted_are_tokens n k p w t =
    let sources = sources_at n p k in
    let used = turns_used w sources in
    let f = turns_before (trace n) (suc t) p in
    let turns = turns_used w (take f sources) in
    let first : take (length turns) used ≡ turns = turns_first w sources f in
    let wanted : take (length turns) (uses_of used) ≡ map (tokens_below used) turns =
    take-map (tokens_below used) (length turns) used ∙ ap (map (tokens_below used)) first in
    let every : All (λ turn. is_used used turn ≡ true) used =
    λ i d lt. use_of (get_or used i d) used i (slice_get-get_or used i d lt) in
    let named : All (λ turn. is_used used turn ≡ true) turns =
    subst (All (λ turn. is_used used turn ≡ true)) first
    (All-take (λ turn. is_used used turn ≡ true) (length turns) used every) in
    subst (λ ws. gets_for ws ≤ tokens_below used (turns_before (trace n) t w)) (sym wanted)
    (gets_low used (turns_before (trace n) t w) turns (fires_low n k p w t) named)
