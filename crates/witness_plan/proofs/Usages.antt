-- The uses of channels: each use of a fire is of a channel of the nest, which goes to that fire's process and read.
--
-- A use is found by a search through all channels for one from the process of the fire's source to its
-- read. What the search finds has these ends and stands at the place of its number (`channel_found`, by
-- induction along the channels). Each channel of a nest is the plan of its own ends, since all are made so
-- (`plans_of-plan_of`). So a use tells its source, its channel and plan of slots, and its number (`use_is`). That a
-- source's channel is always found isn't shown here, nor that there is no other with the same ends.
use Rattle.std.proofs.Common.{◌≡◌, ℕ, suc, ◌+◌, true, false, cond, Option, Some, List, [], ◌∷◌, length, take}
use Rattle.std.proofs.Common.{slice_get, sym, ap, ◌∙◌, inl, inr, arith}
use Rattle.std.specs.Prelude.{◌==◌}
use Rattle.std.proofs.lemmas.Bool.{and_parts, cases_Bool, eqb-true}
use Rattle.channel_plan.specs.declared.plans.ChannelPlan.{ChannelPlan}
use Rattle.channel_plan.specs.Plans.{plans_of, sources_at}
use Rattle.channel_plan.specs.Tokens.{turns_used}
use Rattle.plain_data.proofs.Options.{option_map-some, option_and_then-some}
use Rattle.process_derive.specs.Scripts.{Usage, channel_from, goes_between, usage}
use Rattle.sanlp.specs.declared.nest.Nest.{Nest}
use Rattle.sanlp.specs.declared.nest.Tag.{Tag}

-- Lists

-- Channels

-- the plan found is one of these, and goes between the processes
record IsFound (c : ℕ) (plans : List ChannelPlan) (w p k : ℕ) (found : ℕ × ChannelPlan) : Type 0 where
  pub place : ℕ
  pub number : found.0 ≡ c + place
  pub is : slice_get plans place ≡ Some found.1
  pub between : goes_between w p k found.1 ≡ true

channel_found : (c : ℕ) (plans : List ChannelPlan) (w p k : ℕ) (found : ℕ × ChannelPlan)
    → channel_from c plans w p k ≡ Some found → IsFound c plans w p k found
channel_found c [] w p k found h = cc
channel_found c (plan ∷ plans) w p k found h =
    elim (cases_Bool (goes_between w p k plan)) [
      | inl this ↦
          let h' : cond {A = Option (ℕ × ChannelPlan)} true (Some (c, plan)) (channel_from (suc c) plans w p k)
          ≡ Some found = rw this at h in
          let same : (c, plan) ≡ found = cc in
          record {
            place = 0;
            number = ap (λ (x : ℕ × ChannelPlan). x.0) (sym same) ∙ omega arith;
            is = ap (λ (x : ℕ × ChannelPlan). Some x.1) same;
            between = ap (λ (x : ℕ × ChannelPlan). goes_between w p k x.1) (sym same) ∙ this;
          }
      | inr other ↦
          let h' : cond {A = Option (ℕ × ChannelPlan)} false (Some (c, plan)) (channel_from (suc c) plans w p k)
          ≡ Some found = rw other at h in
          let later = channel_found (suc c) plans w p k found h' in
          record {
            place = suc later.place;
            number = later.number ∙ omega arith;
            is = later.is;
            between =
                later.between;
          }
    ]

-- Uses

-- a fire's use at a read: its source, its channel, and its number
pub record IsUse (n : Nest) (p f k : ℕ) (u : Usage) : Type 0 where
  pub source : Tag
  pub at : slice_get (sources_at n p k) f ≡ Some (Some source)
  pub plan : ChannelPlan
  pub is : slice_get (plans_of n) u.channel ≡ Some plan
  pub read : plan.read ≡ k
  pub writer : plan.writer ≡ source.process
  pub slots : u.slots ≡ plan.slots
  pub number : u.number ≡ length (turns_used source.process (take f (sources_at n p k)))

pub use_is : (n : Nest) (p f k : ℕ) (u : Usage) → usage n p f k ≡ Some u → IsUse n p f k u
use_is n p f k u h =
    let plans = plans_of n in
    let sources = sources_at n p k in
    let outer = option_and_then-some _ (slice_get sources f) u h in
    let inner = option_and_then-some _ outer.0 u outer.2 in
    let w = inner.0.process in
    let found = option_map-some _ (channel_from 0 plans w p k) u inner.2 in
    let made = sym found.2 in
    let is = channel_found 0 plans w p k found.0 found.1 in
    let channel : u.channel ≡ is.place = ap (λ (x : Usage). x.channel) made ∙ is.number ∙ omega arith in
    let between = and_parts _ (found.0.1.read == k) is.between in
    let ends = and_parts (found.0.1.writer == w) (found.0.1.reader == p) between.0 in
    record {
      source = inner.0;
      at = outer.1 ∙ ap Some inner.1;
      plan = found.0.1;
      is = ap (slice_get plans) channel ∙ is.is;
      read = eqb-true found.0.1.read k between.1;
      writer = eqb-true found.0.1.writer w ends.0;
      slots = ap (λ (x : Usage). x.slots) made;
      number = ap (λ (x : Usage). x.number) made;
    }
