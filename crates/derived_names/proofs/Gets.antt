-- The slots of the Gets of a channel, in order: the m-th Get of a channel is into the slot that its plan has for Get
-- m.
--
-- By induction on the reader's points: before point f the channel's Gets are as many as its uses so far want
-- (`gets_made`), and they are into the slots of these numbers. One point adds the Gets from there to what its own use
-- wants, at the one read that the channel is for, and none where its source is of another process. So at a fire all
-- Gets of its token are made and no more than that. It is about scripts alone; that a Get finds a token in the queue
-- is witness_plan's.
use Rattle.std.proofs.Common.{◌≡◌, ℕ, zero, suc, ◌+◌, ◌-◌, ◌<◌, ◌≤◌, Bool, true, false, cond, Option, Some, None, List}
use Rattle.std.proofs.Common.{[], ◌∷◌, ◌++◌, length, map, take, slice_get, count_by, refl, sym, ap, ◌∙◌, inl, inr}
use Rattle.std.proofs.Common.{arith, add-one, append_assoc}
use Rattle.std.specs.Prelude.{slice_index, slice_index_or, ◌==◌, ◌&&◌}
use Rattle.std.specs.List.{cons_option, flat_map, range_with_len}
use Rattle.std.proofs.lemmas.Bool.{cases_Bool, cases_eq, eq-eqb, ne_eqb}
use Rattle.std.proofs.lemmas.List.{append-nil, length-map, map-append}
use Rattle.std.proofs.lemmas.List.Concat.{flat_map-cons}
use Rattle.std.proofs.lemmas.List.Folds.{flat_map-map}
use Rattle.std.proofs.lemmas.List.FromFn.{length-map-range_with_len}
use Rattle.std.proofs.lemmas.Option.{same_Some, slice_get_within}
use Rattle.channel_plan.specs.declared.plans.ChannelPlan.{ChannelPlan}
use Rattle.channel_plan.specs.Plans.{plan_of, plans_of, slot_plan, sources_at, turn_count}
use Rattle.channel_plan.specs.Tokens.{tokens_below, turn_of, turns_used, uses_of}
use Rattle.channel_plan.proofs.OneSlot.{turn_of-own, turn_of-foreign}
use Rattle.net_core.specs.declared.network.Event.{Event}
use Rattle.net_core.specs.declared.network.Event.TheVariants.{Get, Fire, Put}
use Rattle.net_core.specs.declared.refs.Ref.{Ref}
use Rattle.net_core.specs.Machine.{net_of}
use Rattle.net_core.specs.Shape.{is_get}
use Rattle.net_core.proofs.EventCounts.{count_cons}
use Rattle.process_derive.specs.Derived.{net}
use Rattle.process_derive.specs.Scripts.{Usage, gets_for_uses, gets_of, point_events, puts_from, ref_of, slot_base}
use Rattle.process_derive.specs.Scripts.{usage}
use Rattle.process_derive.proofs.Counts.{before_more}
use Rattle.process_derive.proofs.Numbers.{before_within, gets_here, script_at}
use Rattle.process_derive.proofs.Tags.{length-sources}
use Rattle.process_derive.proofs.ScriptNames.{IsChannelOf, all_channels}
use Rattle.reorder_slots.specs.Slots.{gets_for, slots_of_gets}
use Rattle.reorder_slots.proofs.Gets.{more_gets}
use Rattle.sanlp.specs.Access.{read_count}
use Rattle.sanlp.specs.declared.nest.Nest.{Nest}
use Rattle.sanlp.specs.declared.nest.Tag.{Tag}
use Rattle.sanlp.proofs.Lists.{flat_map-range_with_len_more, range_with_len-append, slice_get-map-range_with_len}
use Rattle.sanlp.proofs.Members.{at_in, each_in}
use Rattle.derived_names.proofs.Lists.{one_joined}
use Rattle.derived_names.proofs.UsesOfFires.{no_use, source_same, turns_read, use_here, use_is, used_where}
use Rattle.plain_data.proofs.Lists.{slice_get-some}

-- Slots that are got

abbrev pub slots_got : ℕ → List Event → List ℕ
slots_got c [] = []
slots_got c (Get channel slot ∷ es) = cond (c == channel) (slot ∷ slots_got c es) (slots_got c es)
slots_got c (Fire refs ∷ es) = slots_got c es
slots_got c (Put channel ∷ es) = slots_got c es

pub got-append : (c : ℕ) (xs ys : List Event) → slots_got c (xs ++ ys) ≡ slots_got c xs ++ slots_got c ys
got-append c [] ys = refl
got-append c (Get channel slot ∷ xs) ys =
    let later = got-append c xs ys in
    elim (cases_Bool (c == channel)) [ inl this ↦ rw this (ap (λ zs. slot ∷ zs) later) | inr other ↦ rw other later ]
got-append c (x ∷ xs) ys = got-append c xs ys

-- as many as the Gets
pub got_count : (c : ℕ) (es : List Event) → length (slots_got c es) ≡ count_by (is_get c) es
got_count c [] = refl
got_count c (Get channel slot ∷ es) =
    let counted = count_cons (is_get c) (Get channel slot) es in
    let later = got_count c es in
    elim (cases_Bool (c == channel)) [
      | inl this ↦
          let one = ap (λ b. cond {A = ℕ} b 1 0) this in
          let first = ap (λ b. length (cond b (slot ∷ slots_got c es) (slots_got c es))) this in
          omega (arith, counted, one, first, later)
      | inr other ↦
          let none = ap (λ b. cond {A = ℕ} b 1 0) other in
          let rest = ap (λ b. length (cond b (slot ∷ slots_got c es) (slots_got c es))) other in
          omega (arith, counted, none, rest, later)
    ]
got_count c (x ∷ es) = omega (arith, count_cons (is_get c) x es, got_count c es)

-- and each in its place
pub got_at : (c : ℕ) (es : List Event) (k slot : ℕ) → slice_get es k ≡ Some (Get c slot)
    → slice_get (slots_got c es) (count_by (is_get c) (take k es)) ≡ Some slot
got_at c [] k slot e = cc
got_at c (x ∷ es) zero slot e =
    let here : x ≡ Get c slot = same_Some x (Get c slot) e in
    ap (λ y. slice_get (slots_got c (y ∷ es)) 0) here
    ∙ ap (λ b. slice_get (cond b (slot ∷ slots_got c es) (slots_got c es)) 0) (eq-eqb c c refl)
got_at c (Get channel x ∷ es) (suc k) slot e =
    let later = got_at c es k slot e in
    let counted = count_cons (is_get c) (Get channel x) (take k es) in
    elim (cases_Bool (c == channel)) [
      | inl this ↦
          let more : count_by (is_get c) (Get channel x ∷ take k es) ≡ suc (count_by (is_get c) (take k es)) =
          omega (arith, counted, ap (λ b. cond {A = ℕ} b 1 0) this) in
          ap (slice_get (slots_got c (Get channel x ∷ es))) more
          ∙ ap (λ b. slice_get (cond b (x ∷ slots_got c es) (slots_got c es))
          (suc (count_by (is_get c) (take k es)))) this ∙ later
      | inr other ↦
          let same : count_by (is_get c) (Get channel x ∷ take k es) ≡ count_by (is_get c) (take k es) =
          omega (arith, counted, ap (λ b. cond {A = ℕ} b 1 0) other) in
          ap (slice_get (slots_got c (Get channel x ∷ es))) same
          ∙ ap (λ b. slice_get (cond b (x ∷ slots_got c es) (slots_got c es)) (count_by (is_get c) (take k es))) other
          ∙ later
    ]
got_at c (x ∷ es) (suc k) slot e =
    let same : count_by (is_get c) (x ∷ take k es) ≡ count_by (is_get c) (take k es) =
    omega (arith, count_cons (is_get c) x (take k es)) in
    ap (slice_get (slots_got c es)) same ∙ got_at c es k slot e

-- The slots of a point

got_mapped : (c d : ℕ) (slot : ℕ → ℕ) (ms : List ℕ)
    → slots_got c (map (λ m. Get d (slot m)) ms) ≡ cond (c == d) (map slot ms) []
got_mapped c d slot [] = go (c == d)
  where
    go : (b : Bool) → [] ≡ cond {A = List ℕ} b [] []
    go true = refl
    go false = refl
got_mapped c d slot (m ∷ ms) =
    let later = got_mapped c d slot ms in
    elim (cases_Bool (c == d)) [
      | inl this ↦ rw this (ap (λ xs. slot m ∷ xs) (later ∙ ap (λ b. cond b (map slot ms) []) this))
      | inr other ↦ rw other (later ∙ ap (λ b. cond b (map slot ms) []) other)
    ]

got_other : (c : ℕ) (u : Usage) → (c ≡ u.channel → ⊥) → slots_got c (gets_of (Some u)) ≡ []
got_other c u ne =
    let done = gets_for_uses u.slots u.number in
    let ms = range_with_len done (gets_for_uses u.slots (suc u.number) - done) in
    let slot : ℕ → ℕ = λ m. u.base + slice_index u.slots.slot_of_get m in
    got_mapped c u.channel slot ms ∙ ap (λ b. cond b (map slot ms) []) (ne_eqb c u.channel ne)

got_behind : (c b : ℕ) (plans : List ChannelPlan) (p f : ℕ) → slots_got c (puts_from b plans p f) ≡ []
got_behind c b [] p f = refl
got_behind c b (plan ∷ plans) p f =
    elim (cases_Bool ((plan.writer == p) && slice_index_or plan.is_token f false)) [
      | inl put ↦ rw put (got_behind c (suc b) plans p f)
      | inr none ↦ rw none (got_behind c (suc b) plans p f)
    ]

got_joined : (c : ℕ) (f : ℕ → List Event) (xs : List ℕ)
    → slots_got c (flat_map f xs) ≡ flat_map (λ x. slots_got c (f x)) xs
got_joined c f [] = refl
got_joined c f (x ∷ xs) =
    ap (slots_got c) (flat_map-cons f x xs) ∙ got-append c (f x) (flat_map f xs)
    ∙ ap (λ ys. slots_got c (f x) ++ ys) (got_joined c f xs)
    ∙ sym (flat_map-cons (λ x. slots_got c (f x)) x xs)

-- the Gets of a point, and its events up to its fire
abbrev pub point_gets : Nest → ℕ → ℕ → List Event
point_gets n p f = flat_map gets_of (map (usage n p f) (range_with_len 0 (read_count n p)))

abbrev pub point_refs : Nest → ℕ → ℕ → List Ref
point_refs n p f = map ref_of (map (usage n p f) (range_with_len 0 (read_count n p)))

abbrev pub events_before : Nest → ℕ → ℕ → List Event
events_before n p f = flat_map (point_events n p) (range_with_len 0 f)

abbrev pub before_fire : Nest → ℕ → ℕ → List Event
before_fire n p f = events_before n p f ++ point_gets n p f

pub events_more : (n : Nest) (p f : ℕ) → events_before n p (suc f) ≡ events_before n p f ++ point_events n p f
events_more n p f =
    ap (events_before n p) (sym (add-one f)) ∙ flat_map-range_with_len_more (point_events n p) 0 f f (omega arith)

pub events_split : (n : Nest) (p f : ℕ)
    → events_before n p (suc f) ≡ before_fire n p f ++ (Fire (point_refs n p f) ∷ puts_from 0 (plans_of n) p f)
events_split n p f =
    events_more n p f
    ∙ sym (append_assoc (events_before n p f) (point_gets n p f)
    (Fire (point_refs n p f) ∷ puts_from 0 (plans_of n) p f))

-- The channel from process w to read k of process p
module _ (n : Nest) (p k w c : ℕ) (found : slice_get (plans_of n) c ≡ Some (plan_of n p k w)) where
  -- the tokens that are used, in order
  abbrev pub used : List ℕ
  used = uses_of (turns_read n p k w)

  -- how many uses the first fires make
  abbrev pub uses_made : ℕ → ℕ
  uses_made f = length (turns_used w (take f (sources_at n p k)))

  -- how many Gets stand before the fires after them
  abbrev pub gets_made : ℕ → ℕ
  gets_made f = gets_for (take (uses_made f) used)

  -- the slot of a Get
  abbrev pub place : ℕ → ℕ
  place m = slot_base (plans_of n) p c + slice_index (slots_of_gets used) m

  pub exists : IsChannelOf n (plan_of n p k w)
  exists =
      each_in (IsChannelOf n) (plan_of n p k w) (plans_of n) (all_channels n)
      (at_in (plan_of n p k w) (plans_of n) c found)

  -- How many uses and Gets

  uses_same : (f : ℕ) (source : Option Tag) → slice_get (sources_at n p k) f ≡ Some source
      → cons_option (turn_of w source) [] ≡ [] → uses_made (suc f) ≡ uses_made f
  uses_same f source e none =
      let next : f + 1 ≡ suc f = omega arith in
      omega (arith, ap uses_made next, before_more (sources_at n p k) f w source e, ap length none)

  pub uses_next : (f : ℕ) (t : Tag) → slice_get (sources_at n p k) f ≡ Some (Some t) → t.process ≡ w
      → uses_made (suc f) ≡ suc (uses_made f)
  uses_next f t e same =
      let next : f + 1 ≡ suc f = omega arith in
      omega (arith, ap uses_made next, before_more (sources_at n p k) f w (Some t) e, ap length (turn_of-own w t same))

  pub few_uses : (f : ℕ) → uses_made f ≤ length used
  few_uses f =
      omega (
        arith,
        before_within (sources_at n p k) f w,
        length-map (turns_read n p k w) (tokens_below (turns_read n p k w)),
      )

  pub source_at_fire : (f : ℕ) → f < turn_count n p
      → (source : Option Tag) × (slice_get (sources_at n p k) f ≡ Some source)
  source_at_fire f lt = slice_get-some (sources_at n p k) f (omega (arith, length-sources n p k))

  gets_grow : (f : ℕ) → f < turn_count n p → gets_made f ≤ gets_made (suc f)
  gets_grow f lt =
      let source = source_at_fire f lt in
      let next : f + 1 ≡ suc f = omega arith in
      more_gets used (uses_made f) (uses_made (suc f))
      (omega (arith, ap uses_made next, before_more (sources_at n p k) f w source.0 source.1))

  -- The slots of the Gets

  gets_so_far : (q : ℕ) → q ≤ length used → gets_for_uses (slot_plan used) q ≡ gets_for (take q used)
  gets_so_far zero le = refl
  gets_so_far (suc q) le =
      let next : q + 1 ≡ suc q = omega arith in gets_here used q (omega arith) ∙ ap (λ i. gets_for (take i used)) next

  none_got : (f : ℕ) → uses_made (suc f) ≡ uses_made f
      → [] ≡ map place (range_with_len (gets_made f) (gets_made (suc f) - gets_made f))
  none_got f same =
      let none : gets_made (suc f) - gets_made f ≡ 0 = omega (arith, ap (λ q. gets_for (take q used)) same) in
      sym (ap (λ m. map place (range_with_len (gets_made f) m)) none)

  other_source : (f : ℕ) (t : Tag) → slice_get (sources_at n p k) f ≡ Some (Some t) → (t.process ≡ w → ⊥)
      → (o : Option Usage) → usage n p f k ≡ o → slots_got c (gets_of o) ≡ []
  other_source f t e ne None is = refl
  other_source f t e ne (Some u) is =
      let of = use_is n p k f u is in
      let source = source_same n p k f u of t e in
      got_other c u
      (λ same. ne (ap (λ (x : Tag). x.process) (sym source) ∙ (used_where n p k w c f k u found of (sym same)).1))

  source_got : (f : ℕ) (source : Option Tag) → slice_get (sources_at n p k) f ≡ Some source
      → slots_got c (gets_of (usage n p f k))
      ≡ map place (range_with_len (gets_made f) (gets_made (suc f) - gets_made f))
  source_got f None e = ap (λ o. slots_got c (gets_of o)) (no_use n p k f e) ∙ none_got f (uses_same f None e refl)
  source_got f (Some t) e =
      elim (cases_eq t.process w) [
        | inl same ↦
            let q : ℕ = uses_made f in
            let next : uses_made (suc f) ≡ suc q = uses_next f t e same in
            let done : gets_for_uses (slot_plan used) q ≡ gets_made f = gets_so_far q (few_uses f) in
            let needed : gets_for_uses (slot_plan used) (suc q) ≡ gets_made (suc f) =
            gets_so_far (suc q) (omega (arith, few_uses (suc f))) ∙ ap (λ i. gets_for (take i used)) (sym next) in
            let from : ℕ = gets_for_uses (slot_plan used) q in
            ap (λ o. slots_got c (gets_of o)) (use_here n p k w c f t found e same)
            ∙ got_mapped c c place (range_with_len from (gets_for_uses (slot_plan used) (suc q) - from))
            ∙ ap (λ b. cond b (map place (range_with_len from (gets_for_uses (slot_plan used) (suc q) - from))) [])
            (eq-eqb c c refl)
            ∙ (λ i. map place (range_with_len (done i) (needed i - done i)))
        | inr other ↦ other_source f t e other (usage n p f k) refl
            ∙ none_got f (uses_same f (Some t) e (turn_of-foreign w t other))
      ]

  other_read : (f j : ℕ) → (j ≡ k → ⊥) → (o : Option Usage) → usage n p f j ≡ o → slots_got c (gets_of o) ≡ []
  other_read f j ne None is = refl
  other_read f j ne (Some u) is =
      got_other c u (λ same. ne (used_where n p k w c f j u found (use_is n p j f u is) (sym same)).0)

  point_got : (f : ℕ) → f < turn_count n p
      → slots_got c (point_events n p f) ≡ map place (range_with_len (gets_made f) (gets_made (suc f) - gets_made f))
  point_got f lt =
      let numbers = range_with_len 0 (read_count n p) in
      let source = source_at_fire f lt in
      let there = exists.read in
      got-append c (point_gets n p f) (Fire (point_refs n p f) ∷ puts_from 0 (plans_of n) p f)
      ∙ ap (λ xs. slots_got c (point_gets n p f) ++ xs) (got_behind c 0 (plans_of n) p f)
      ∙ append-nil (slots_got c (point_gets n p f))
      ∙ ap (slots_got c) (flat_map-map gets_of (usage n p f) numbers)
      ∙ got_joined c (λ j. gets_of (usage n p f j)) numbers
      ∙ one_joined (λ j. slots_got c (gets_of (usage n p f j))) k (λ j ne. other_read f j ne (usage n p f j) refl) 0
      (read_count n p) (omega arith) (omega arith)
      ∙ source_got f source.0 source.1

  -- the Gets of the first points take the slots of the first Gets
  pub points_got : (f : ℕ) → f ≤ turn_count n p
      → slots_got c (events_before n p f) ≡ map place (range_with_len 0 (gets_made f))
  points_got zero le = refl
  points_got (suc f) le =
      let before = points_got f (omega arith) in
      let here = point_got f (omega arith) in
      let front : 0 + gets_made f ≡ gets_made f = omega arith in
      let whole : gets_made f + (gets_made (suc f) - gets_made f) ≡ gets_made (suc f) =
      omega (arith, gets_grow f (omega arith)) in
      ap (slots_got c) (events_more n p f)
      ∙ got-append c (events_before n p f) (point_events n p f)
      ∙ (λ i. before i ++ here i)
      ∙ ap (λ a. map place (range_with_len 0 (gets_made f))
      ++ map place (range_with_len a (gets_made (suc f) - gets_made f))) (sym front)
      ∙ sym (map-append place (range_with_len 0 (gets_made f))
      (range_with_len (0 + gets_made f) (gets_made (suc f) - gets_made f)))
      ∙ ap (map place) (sym (range_with_len-append 0 (gets_made f) (gets_made (suc f) - gets_made f)))
      ∙ ap (λ m. map place (range_with_len 0 m)) whole

  -- and so do those up to a fire
  pub fire_got : (f : ℕ) → f < turn_count n p
      → slots_got c (before_fire n p f) ≡ map place (range_with_len 0 (gets_made (suc f)))
  fire_got f lt =
      sym (ap (slots_got c) (events_split n p f)
      ∙ got-append c (before_fire n p f) (Fire (point_refs n p f) ∷ puts_from 0 (plans_of n) p f)
      ∙ ap (λ xs. slots_got c (before_fire n p f) ++ xs) (got_behind c 0 (plans_of n) p f)
      ∙ append-nil (slots_got c (before_fire n p f)))
      ∙ points_got (suc f) (omega arith)

  pub fire_count : (f : ℕ) → f < turn_count n p → count_by (is_get c) (before_fire n p f) ≡ gets_made (suc f)
  fire_count f lt =
      sym (got_count c (before_fire n p f)) ∙ ap length (fire_got f lt)
      ∙ length-map-range_with_len place 0 (gets_made (suc f))

  -- each Get of the channel is into the slot of its number
  pub slot_is : (i slot : ℕ) → slice_get ((net_of (net n)).script p) i ≡ Some (Get c slot)
      → (count_by (is_get c) (take i ((net_of (net n)).script p)) < gets_made (turn_count n p))
      × (slot ≡ place (count_by (is_get c) (take i ((net_of (net n)).script p))))
  slot_is i slot e =
      let events = (net_of (net n)).script p in
      let m : ℕ = count_by (is_get c) (take i events) in
      let all : slots_got c events ≡ map place (range_with_len 0 (gets_made (turn_count n p))) =
      ap (slots_got c) (script_at n p exists.reader) ∙ points_got (turn_count n p) (omega arith) in
      let at : slice_get (map place (range_with_len 0 (gets_made (turn_count n p)))) m ≡ Some slot =
      ap (λ xs. slice_get xs m) (sym all) ∙ got_at c events i slot e in
      let within : m < gets_made (turn_count n p) =
      omega (
        arith,
        slice_get_within (map place (range_with_len 0 (gets_made (turn_count n p)))) m slot at,
        length-map-range_with_len place 0 (gets_made (turn_count n p)),
      ) in
      let front : 0 + m ≡ m = omega arith in
      let here : slice_get (map place (range_with_len 0 (gets_made (turn_count n p)))) m ≡ Some (place m) =
      slice_get-map-range_with_len place 0 (gets_made (turn_count n p)) m m within front in
      (within, same_Some slot (place m) (sym at ∙ here))
