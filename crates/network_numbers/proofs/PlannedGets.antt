-- The Gets of a channel that its reader's first turns want, by the turns of the writer that they want.
--
-- Behind a turn that is used one more turn is a token, and no turn has fewer tokens before it than one before that. So the
-- Gets that some uses need are the tokens among the turns that they need (`tokens_needed`, by induction along the turns that are
-- used), and those of the first fires are the first uses (`gets_are`). No more turns are wanted than there are (`few_needed`).
use Rattle.std.proofs.Common.{◌≡◌, ◌<◌, ◌≤◌, ◌+◌, ◌-◌, ℕ, zero, suc, max, cond, Some, List, [], ◌∷◌, length, map, take}
use Rattle.std.proofs.Common.{get_or, slice_get, refl, ap, ◌∙◌, inl, inr, arith}
use Rattle.std.specs.List.{All}
use Rattle.std.proofs.lemmas.Bool.{cases_lt}
use Rattle.std.proofs.lemmas.List.Elements.{All-head, All-tail}
use Rattle.std.proofs.lemmas.List.FromFn.{get_or-map-range_with_len}
use Rattle.channel_plan.specs.declared.plans.ChannelPlan.{ChannelPlan}
use Rattle.channel_plan.specs.Plans.{plans_of, sources_at, turn_count}
use Rattle.channel_plan.specs.Tokens.{tokens_below, turns_used, uses_of}
use Rattle.channel_plan.proofs.Channels.{turns_within}
use Rattle.channel_plan.proofs.Nests.{sources_among, turns_of_all}
use Rattle.channel_plan.proofs.PlanEnds.{plans_of-plan_of}
use Rattle.channel_plan.proofs.Uses.{below_turn, tokens_more, tokens_below-more}
use Rattle.network_numbers.specs.Entries.{tokens_among}
use Rattle.network_numbers.proofs.QueueCounts.{ends}
use Rattle.network_numbers.proofs.WantedTurns.{front_needed, needed, turns_for}
use Rattle.plan_numbers.specs.Numbers.{numbers_of, tokens_before}
use Rattle.plan_numbers.proofs.Channels.{tokens_told}
use Rattle.plan_numbers.proofs.Classes.{AreUsed, all_used}
use Rattle.reorder_slots.specs.Slots.{gets_for}
use Rattle.sanlp.specs.declared.nest.Nest.{Nest}
use Rattle.witness_plan.proofs.GetCounts.{turns_first}

-- the Gets of a channel that its reader's first so many turns want
abbrev pub gets_made : Nest → ChannelPlan → ℕ → ℕ
gets_made n plan f =
    gets_for (take (length (turns_used plan.writer (take f (sources_at n plan.reader plan.read))))
    (uses_of (turns_used plan.writer (sources_at n plan.reader plan.read))))

-- the turns of its writer that they want
abbrev pub turns_made : Nest → ChannelPlan → ℕ → ℕ
turns_made n plan f = needed plan.writer (take f (sources_at n plan.reader plan.read))

-- Tokens among turns

pub grown : (used : List ℕ) (a b : ℕ) → a ≤ b → tokens_below used a ≤ tokens_below used b
grown used a b le =
    let rest : a + (b - a) ≡ b = omega arith in
    omega (arith, tokens_below-more used a (b - a), ap (tokens_below used) rest)

greater : (used : List ℕ) (a b : ℕ) → tokens_below used (max a b) ≡ max (tokens_below used a) (tokens_below used b)
greater used a b =
    elim (cases_lt a b) [
      | inl below ↦
          let most : max a b ≡ b = omega arith in
          omega (arith, ap (tokens_below used) most, grown used a b (omega arith))
      | inr above ↦
          let most : max a b ≡ a = omega arith in
          omega (arith, ap (tokens_below used) most, grown used b a above)
    ]

tokens_needed : (used turns : List ℕ) → AreUsed used turns
    → gets_for (map (tokens_below used) turns) ≡ tokens_below used (turns_for turns)
tokens_needed used [] each = omega (arith, below_turn used 0)
tokens_needed used (turn ∷ turns) each =
    omega (
      arith,
      greater used (turn + 1) (turns_for turns),
      tokens_more used turn,
      ap (λ b. cond {A = ℕ} b 1 0) each.0,
      tokens_needed used turns each.1,
    )

used_front : (used : List ℕ) (k : ℕ) (turns : List ℕ) → AreUsed used turns → AreUsed used (take k turns)
used_front used zero turns each = tt
used_front used (suc k) [] each = tt
used_front used (suc k) (turn ∷ turns) each = (each.0, used_front used k turns each.1)

take_map : (f : ℕ → ℕ) (k : ℕ) (xs : List ℕ) → take k (map f xs) ≡ map f (take k xs)
take_map f zero xs = refl
take_map f (suc k) [] = refl
take_map f (suc k) (x ∷ xs) = ap (λ ys. f x ∷ ys) (take_map f k xs)

all_needed : (turns : List ℕ) (count : ℕ) → All (λ turn. turn < count) turns → turns_for turns ≤ count
all_needed [] count all = omega arith
all_needed (turn ∷ turns) count all =
    omega (
      arith,
      All-head (λ turn. turn < count) turn turns all,
      all_needed turns count (All-tail (λ turn. turn < count) turn turns all),
    )

module _ (n : Nest) (c : ℕ) (plan : ChannelPlan) (found : slice_get (plans_of n) c ≡ Some plan) where
  abbrev used : List ℕ
  used = turns_used plan.writer (sources_at n plan.reader plan.read)

  pub tokens_are : (turns : ℕ) → turns ≤ turn_count n plan.writer
      → tokens_among (numbers_of plan) turns
      ≡ tokens_below (turns_used plan.writer (sources_at n plan.reader plan.read)) turns
  tokens_are turns le =
      let count = turn_count n plan.writer in
      ap (λ (x : ChannelPlan). get_or (tokens_before x.is_token) turns 0) (plans_of-plan_of n c plan found)
      ∙ ap (λ xs. get_or xs turns 0) (tokens_told count used)
      ∙ get_or-map-range_with_len (tokens_below used) 0 (count + 1) turns turns 0 (omega arith) (omega arith)

  pub gets_are : (f : ℕ) → gets_made n plan f
      ≡ tokens_below (turns_used plan.writer (sources_at n plan.reader plan.read)) (turns_made n plan f)
  gets_are f =
      let sources = sources_at n plan.reader plan.read in
      let count = length (turns_used plan.writer (take f sources)) in
      ap gets_for (take_map (tokens_below used) count used)
      ∙ tokens_needed used (take count used) (used_front used count used (all_used used))
      ∙ ap (λ turns. tokens_below used (turns_for turns)) (turns_first plan.writer sources f)

  pub few_needed : (f : ℕ) → turns_made n plan f ≤ turn_count n plan.writer
  few_needed f =
      let w = plan.writer in
      let sources = sources_at n plan.reader plan.read in
      let many : get_or (turns_of_all n) w 0 ≡ turn_count n w =
      get_or-map-range_with_len (turn_count n) 0 (length n.statements) w w 0 (ends n c plan found).writer (omega arith) in
      omega (
        arith,
        many,
        front_needed w f sources,
        all_needed used (get_or (turns_of_all n) w 0)
            (turns_within (turns_of_all n) w sources (sources_among n plan.reader plan.read)),
      )
