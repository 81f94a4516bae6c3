-- A reader has made no more Gets of a channel than its uses so far want.
--
-- By induction on the reader's points. A point has Gets of the channel at the channel's own read alone,
-- and there only if its source is of the channel's writer (`read_this`). Then there is one use more,
-- and the point has the Gets that it wants beyond those that the uses before it want; else the point
-- has none, and what is wanted doesn't become less (`wanted_more`). It is an upper bound, and from
-- scripts alone: whether the tokens were put, and what is in a queue, doesn't come in.
use Rattle.std.proofs.Common.{◌≡◌, ℕ, zero, suc, ◌+◌, ◌-◌, ◌<◌, ◌≤◌, Bool, true, false, cond, Option, Some, None, List}
use Rattle.std.proofs.Common.{[], ◌∷◌, length, map, take, drop, slice_get, count_by, refl, sym, ap, ◌∙◌, inl, inr}
use Rattle.std.proofs.Common.{arith, add-one}
use Rattle.std.specs.Prelude.{slice_index, slice_index_or, ◌==◌, ◌&&◌}
use Rattle.std.specs.List.{cons_option, flat_map, range_with_len}
use Rattle.std.proofs.lemmas.Bool.{cases_Bool, cases_eq, eq-eqb, ne_eqb}
use Rattle.std.proofs.lemmas.List.{length-map, take_at, take-append-drop}
use Rattle.std.proofs.lemmas.List.Elements.{filter_map-append}
use Rattle.std.proofs.lemmas.List.Folds.{flat_map-map}
use Rattle.std.proofs.lemmas.List.FromFn.{length-range_with_len}
use Rattle.std.proofs.lemmas.Option.{same_Some}
use Rattle.channel_plan.specs.declared.plans.ChannelPlan.{ChannelPlan}
use Rattle.channel_plan.specs.Plans.{plans_of, slot_plan, sources_at}
use Rattle.channel_plan.specs.Tokens.{tokens_below, turn_of, turns_used, uses_of}
use Rattle.channel_plan.proofs.PlanEnds.{plans_of-plan_of}
use Rattle.channel_plan.proofs.OneSlot.{turn_of-own}
use Rattle.net_core.specs.declared.network.Event.{Event}
use Rattle.net_core.specs.declared.network.Event.TheVariants.{Get, Fire, Put}
use Rattle.net_core.specs.Shape.{is_get}
use Rattle.net_core.proofs.EventCounts.{count-append, count_cons}
use Rattle.process_derive.specs.Scripts.{Usage, gets_for_uses, gets_of, point_events, puts_from, ref_of, usage}
use Rattle.process_derive.proofs.Counts.{before_more}
use Rattle.process_derive.proofs.Numbers.{before_within, gets_here}
use Rattle.reorder_slots.specs.Slots.{gets_for}
use Rattle.reorder_slots.proofs.Gets.{more_gets}
use Rattle.sanlp.specs.Access.{read_count}
use Rattle.sanlp.specs.declared.nest.Nest.{Nest}
use Rattle.sanlp.specs.declared.nest.Tag.{Tag}
use Rattle.witness_plan.proofs.PointEvents.{events_before}
use Rattle.witness_plan.proofs.TokensPut.{events_more}
use Rattle.witness_plan.proofs.Usages.{use_is}

-- Gets for uses

next_gets : (uses : List ℕ) (q : ℕ) → q < length uses
    → gets_for_uses (slot_plan uses) (suc q) ≡ gets_for (take (suc q) uses)
next_gets uses q lt = gets_here uses q lt ∙ ap (λ i. gets_for (take i uses)) (add-one q)

pub gets_so_far : (uses : List ℕ) (q : ℕ) → q ≤ length uses → gets_for_uses (slot_plan uses) q ≡ gets_for (take q uses)
gets_so_far uses zero le = refl
gets_so_far uses (suc q) le = next_gets uses q (omega arith)

-- Counts of Gets

no_gets : (b : Bool) → cond {A = ℕ} b 0 0 ≡ 0
no_gets true = refl
no_gets false = refl

gets_counted : (c d : ℕ) (slot : ℕ → ℕ) (ms : List ℕ)
    → count_by (is_get c) (map (λ m. Get d (slot m)) ms) ≡ cond (c == d) (length ms) 0
gets_counted c d slot [] = sym (no_gets (c == d))
gets_counted c d slot (m ∷ ms) =
    let counted = count_cons (is_get c) (Get d (slot m)) (map (λ m. Get d (slot m)) ms) in
    let before = gets_counted c d slot ms in
    elim (cases_Bool (c == d)) [
      | inl same ↦ rw same
          (omega (arith, counted, before ∙ ap (λ b. cond b (length ms) 0) same, ap (λ b. cond {A = ℕ} b 1 0) same))
      | inr other ↦ rw other
          (omega (arith, counted, before ∙ ap (λ b. cond b (length ms) 0) other, ap (λ b. cond {A = ℕ} b 1 0) other))
    ]

-- the Gets of one use: none of other channels
gets_of_other : (c : ℕ) (u : Usage) → (c ≡ u.channel → ⊥) → count_by (is_get c) (gets_of (Some u)) ≡ 0
gets_of_other c u other =
    let done = gets_for_uses u.slots u.number in
    let ms = range_with_len done (gets_for_uses u.slots (suc u.number) - done) in
    gets_counted c u.channel (λ m. u.base + slice_index u.slots.slot_of_get m) ms
    ∙ ap (λ b. cond b (length ms) 0) (ne_eqb c u.channel other)

gets_of_this : (c : ℕ) (u : Usage) → c ≡ u.channel
    → count_by (is_get c) (gets_of (Some u)) ≡ gets_for_uses u.slots (suc u.number) - gets_for_uses u.slots u.number
gets_of_this c u same =
    let done = gets_for_uses u.slots u.number in
    let ms = range_with_len done (gets_for_uses u.slots (suc u.number) - done) in
    gets_counted c u.channel (λ m. u.base + slice_index u.slots.slot_of_get m) ms
    ∙ ap (λ b. cond b (length ms) 0) (eq-eqb c u.channel same)
    ∙ length-range_with_len done (gets_for_uses u.slots (suc u.number) - done)

no_get_behind : (c b : ℕ) (plans : List ChannelPlan) (p f : ℕ) → count_by (is_get c) (puts_from b plans p f) ≡ 0
no_get_behind c b [] p f = refl
no_get_behind c b (plan ∷ plans) p f =
    elim (cases_Bool ((plan.writer == p) && slice_index_or plan.is_token f false)) [
      | inl put ↦ rw put
          (omega (
            arith,
            count_cons (is_get c) (Put b) (puts_from (suc b) plans p f),
            no_get_behind c (suc b) plans p f,
          ))
      | inr none ↦ rw none (no_get_behind c (suc b) plans p f)
    ]

-- where one read alone has Gets of the channel
none_past : (gets : ℕ → List Event) (c k : ℕ) → ((j : ℕ) → (j ≡ k → ⊥) → count_by (is_get c) (gets j) ≡ 0) → (a m : ℕ)
    → k < a → count_by (is_get c) (flat_map gets (range_with_len a m)) ≡ 0
none_past gets c k other a zero lt = refl
none_past gets c k other a (suc m) lt =
    omega (
      arith,
      count-append (is_get c) (gets a) (flat_map gets (range_with_len (a + 1) m)),
      other a (λ e. omega arith),
      none_past gets c k other (a + 1) m (omega arith),
    )

one_read : (gets : ℕ → List Event) (c k most : ℕ) → ((j : ℕ) → (j ≡ k → ⊥) → count_by (is_get c) (gets j) ≡ 0)
    → count_by (is_get c) (gets k) ≤ most
    → (a m : ℕ) → count_by (is_get c) (flat_map gets (range_with_len a m)) ≤ most
one_read gets c k most other this a zero = omega arith
one_read gets c k most other this a (suc m) =
    let counted = count-append (is_get c) (gets a) (flat_map gets (range_with_len (a + 1) m)) in
    let later = one_read gets c k most other this (a + 1) m in
    elim (cases_eq a k) [
      | inl same ↦ omega (
        arith,
        counted,
        none_past gets c k other (a + 1) m (omega arith),
        ap (λ j. count_by (is_get c) (gets j)) same,
      )
      | inr ne ↦ omega (arith, counted, other a ne)
    ]

-- Uses so far

-- the turns named by the first fires come first
pub turns_first : (w : ℕ) (sources : List (Option Tag)) (g : ℕ)
    → take (length (turns_used w (take g sources))) (turns_used w sources) ≡ turns_used w (take g sources)
turns_first w sources g =
    let first = turns_used w (take g sources) in
    ap (take (length first))
    (ap (turns_used w) (sym (take-append-drop g sources))
    ∙ filter_map-append (turn_of w) (take g sources) (drop g sources))
    ∙ take_at first (turns_used w (drop g sources)) (length first) refl

turns_mono : (w : ℕ) (sources : List (Option Tag)) (g : ℕ)
    → length (turns_used w (take g sources)) ≤ length (turns_used w (take (suc g) sources))
turns_mono w [] zero = omega arith
turns_mono w [] (suc g) = omega arith
turns_mono w (x ∷ sources) zero = omega arith
turns_mono w (x ∷ sources) (suc g) = go (turn_of w x) (turns_mono w sources g)
  where
    go : (o : Option ℕ) → length (turns_used w (take g sources)) ≤ length (turns_used w (take (suc g) sources))
        → length (cons_option o (turns_used w (take g sources))) ≤ length
        (cons_option o (turns_used w (take (suc g) sources)))
    go None le = le
    go (Some t) le = omega arith

-- The Gets of a channel

module _ (n : Nest) (c : ℕ) (plan : ChannelPlan) (found : slice_get (plans_of n) c ≡ Some plan) where
  abbrev sources : List (Option Tag)
  sources = sources_at n plan.reader plan.read

  abbrev pub uses : List ℕ
  uses = uses_of (turns_used plan.writer (sources_at n plan.reader plan.read))

  -- how many uses the first fires make
  abbrev pub uses_made : ℕ → ℕ
  uses_made g = length (turns_used plan.writer (take g (sources_at n plan.reader plan.read)))

  few_uses : (g : ℕ) → uses_made g ≤ length uses
  few_uses g =
      omega (
        arith,
        before_within sources g plan.writer,
        length-map (turns_used plan.writer sources) (tokens_below (turns_used plan.writer sources)),
      )

  next_use : (g : ℕ) (t : Tag) → slice_get sources g ≡ Some (Some t) → t.process ≡ plan.writer
      → uses_made (suc g) ≡ suc (uses_made g)
  next_use g t is same =
      omega (
        arith,
        ap uses_made (add-one g),
        before_more sources g plan.writer (Some t) is,
        ap length (turn_of-own plan.writer t same),
      )

  wanted_more : (g : ℕ) → gets_for (take (uses_made g) uses) ≤ gets_for (take (uses_made (suc g)) uses)
  wanted_more g = more_gets uses (uses_made g) (uses_made (suc g)) (turns_mono plan.writer sources g)

  slots_are : plan.slots ≡ slot_plan uses
  slots_are = ap (λ (x : ChannelPlan). x.slots) (plans_of-plan_of n c plan found)

  -- at another read there is no Get of the channel
  read_other : (g j : ℕ) → (j ≡ plan.read → ⊥) → (o : Option Usage) → usage n plan.reader g j ≡ o
      → count_by (is_get c) (gets_of o) ≡ 0
  read_other g j ne None is = refl
  read_other g j ne (Some u) is =
      let of = use_is n plan.reader g j u is in
      gets_of_other c u
      (λ same. ne (sym of.read
      ∙ ap (λ (x : ChannelPlan). x.read)
      (same_Some of.plan plan (sym of.is ∙ ap (slice_get (plans_of n)) (sym same) ∙ found))))

  read_this : (g : ℕ) → (o : Option Usage) → usage n plan.reader g plan.read ≡ o
      → count_by (is_get c) (gets_of o) ≤ gets_for (take (uses_made (suc g)) uses) - gets_for (take (uses_made g) uses)
  read_this g None is = omega arith
  read_this g (Some u) is =
      let of = use_is n plan.reader g plan.read u is in
      elim (cases_eq c u.channel) [
        | inl same ↦
            let this : of.plan ≡ plan =
            same_Some of.plan plan (sym of.is ∙ ap (slice_get (plans_of n)) (sym same) ∙ found) in
            let writer : of.source.process ≡ plan.writer = sym of.writer ∙ ap (λ (x : ChannelPlan). x.writer) this in
            let slots : u.slots ≡ slot_plan uses = of.slots ∙ ap (λ (x : ChannelPlan). x.slots) this ∙ slots_are in
            let number : u.number ≡ uses_made g = of.number ∙ ap (λ w. length (turns_used w (take g sources))) writer in
            let next : uses_made (suc g) ≡ suc (uses_made g) = next_use g of.source of.at writer in
            let few : uses_made g < length uses = omega (arith, few_uses (suc g)) in
            let new =
            ap (λ s. gets_for_uses s (suc u.number)) slots ∙ ap (λ q. gets_for_uses (slot_plan uses) (suc q)) number
            ∙ next_gets uses (uses_made g) few ∙ ap (λ q. gets_for (take q uses)) (sym next) in
            let done =
            ap (λ s. gets_for_uses s u.number) slots ∙ ap (gets_for_uses (slot_plan uses)) number
            ∙ gets_so_far uses (uses_made g) (few_uses g) in
            omega (arith, gets_of_this c u same, new, done)
        | inr other ↦ omega (arith, gets_of_other c u other)
      ]

  point_gets : (g : ℕ)
      → count_by (is_get c) (point_events n plan.reader g) + gets_for (take (uses_made g) uses) ≤ gets_for
      (take (uses_made (suc g)) uses)
  point_gets g =
      let p = plan.reader in
      let numbers = range_with_len 0 (read_count n p) in
      let usages = map (usage n p g) numbers in
      let puts = puts_from 0 (plans_of n) p g in
      let reads = ap (count_by (is_get c)) (flat_map-map gets_of (usage n p g) numbers) in
      let few =
      one_read (λ j. gets_of (usage n p g j)) c plan.read
      (gets_for (take (uses_made (suc g)) uses) - gets_for (take (uses_made g) uses))
      (λ j ne. read_other g j ne (usage n p g j) refl) (read_this g (usage n p g plan.read) refl) 0 (read_count n p) in
      omega (
        arith,
        count-append (is_get c) (flat_map gets_of usages) (Fire (map ref_of usages) ∷ puts),
        count_cons (is_get c) (Fire (map ref_of usages)) puts,
        no_get_behind c 0 (plans_of n) p g,
        reads,
        few,
        wanted_more g,
      )

  -- so many points have no more Gets than their uses want
  pub gets_made : (g : ℕ) → count_by (is_get c) (events_before n plan.reader g) ≤ gets_for (take (uses_made g) uses)
  gets_made zero = omega arith
  gets_made (suc g) =
      omega (
        arith,
        ap (count_by (is_get c)) (events_more n plan.reader g),
        count-append (is_get c) (events_before n plan.reader g) (point_events n plan.reader g),
        gets_made g,
        point_gets g,
      )
