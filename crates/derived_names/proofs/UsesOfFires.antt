-- What a fire uses at a read: the channel from the process of its source.
--
-- At most one channel goes from a process to a read, and it is found by these ends (UsesOfReads). So a fire
-- whose source is of process w uses just that channel, with its plan of slots, and the use is numbered by how
-- often the fires before used a turn of w (`use_here`). Each use is of this form (`use_is`), and a fire without
-- a source has none. So all uses of a channel are at its own read and of turns of its own writer (`used_where`).
use Rattle.std.proofs.Common.{◌≡◌, ℕ, Some, None, List, length, take, slice_get, sym, ap, ◌∙◌}
use Rattle.std.specs.Option.{option_and_then, option_map}
use Rattle.std.proofs.lemmas.Option.{same_Some}
use Rattle.channel_plan.specs.declared.plans.ChannelPlan.{ChannelPlan}
use Rattle.channel_plan.specs.Plans.{plan_of, plans_of, slot_plan, sources_at}
use Rattle.channel_plan.specs.Tokens.{turns_used, uses_of}
use Rattle.process_derive.specs.Scripts.{Usage, channel_from, slot_base, usage, usage_from}
use Rattle.sanlp.specs.declared.nest.Nest.{Nest}
use Rattle.sanlp.specs.declared.nest.Tag.{Tag}
use Rattle.derived_names.proofs.UsesOfReads.{found_between, found_by_ends}
use Rattle.plain_data.proofs.Options.{option_map-some, option_and_then-some}

-- the turns of process w that read k of process p reads
abbrev pub turns_read : Nest → ℕ → ℕ → ℕ → List ℕ
turns_read n p k w = turns_used w (sources_at n p k)

-- the use of channel c, from process w to read k of process p, by fire f
abbrev pub use_by : Nest → ℕ → ℕ → ℕ → ℕ → ℕ → Usage
use_by n p k w c f = record {
  channel = c;
  base = slot_base (plans_of n) p c;
  slots = slot_plan (uses_of (turns_read n p k w));
  number = length (turns_used w (take f (sources_at n p k)));
}

-- a use is of the channel from the process of the fire's source
pub record IsUse (n : Nest) (p k f : ℕ) (u : Usage) : Type 0 where
  pub source : Tag
  pub at : slice_get (sources_at n p k) f ≡ Some (Some source)
  pub there : slice_get (plans_of n) u.channel ≡ Some (plan_of n p k source.process)
  pub same : u ≡ use_by n p k source.process u.channel f

pub use_is : (n : Nest) (p k f : ℕ) (u : Usage) → usage n p f k ≡ Some u → IsUse n p k f u
use_is n p k f u h =
    let sources = sources_at n p k in
    let outer = option_and_then-some _ (slice_get sources f) u h in
    let inner = option_and_then-some _ outer.0 u outer.2 in
    let w = inner.0.process in
    let found = option_map-some _ (channel_from 0 (plans_of n) w p k) u inner.2 in
    let made = sym found.2 in
    let is = found_between n w p k found.0 found.1 in
    let channel : u.channel ≡ found.0.0 = ap (λ (x : Usage). x.channel) made in
    let make : ℕ → ChannelPlan → Usage =
    λ c plan. record {
      channel = c;
      base = slot_base (plans_of n) p c;
      slots = plan.slots;
      number =
          length (turns_used w (take f sources));
    } in
    record {
      source = inner.0;
      at = outer.1 ∙ ap Some inner.1;
      there = ap (slice_get (plans_of n)) channel ∙ is.there;
      same = made ∙ ap (make found.0.0) is.plan_is ∙ ap (λ c. make c (plan_of n p k w)) (sym channel);
    }

-- a fire uses the channel from the process of its source
pub use_here : (n : Nest) (p k w c f : ℕ) (t : Tag) → slice_get (plans_of n) c ≡ Some (plan_of n p k w)
    → slice_get (sources_at n p k) f ≡ Some (Some t) → t.process ≡ w
    → usage n p f k ≡ Some (use_by n p k w c f)
use_here n p k w c f t there e same =
    let plans = plans_of n in
    let sources = sources_at n p k in
    ap (option_and_then (λ source. option_and_then (λ (t : Tag). usage_from plans sources p k f t.process) source)) e
    ∙ ap (usage_from plans sources p k f) same
    ∙ ap (option_map
    (λ (found : ℕ × ChannelPlan).
    record {
      channel = found.0;
      base = slot_base plans p found.0;
      slots = found.1.slots;
      number =
          length (turns_used w (take f sources));
    }))
    (found_by_ends n c (plan_of n p k w) there)

-- a fire whose read has no source uses none
pub no_use : (n : Nest) (p k f : ℕ) → slice_get (sources_at n p k) f ≡ Some None → usage n p f k ≡ None
no_use n p k f e =
    ap (option_and_then
    (λ source. option_and_then (λ (t : Tag). usage_from (plans_of n) (sources_at n p k) p k f t.process) source)) e

-- of channel c, from process w to read k of process p, all uses are at read k, and of turns of process w
pub used_where : (n : Nest) (p k w c f j : ℕ) (u : Usage) → slice_get (plans_of n) c ≡ Some (plan_of n p k w)
    → (is : IsUse n p j f u) → u.channel ≡ c
    → (j ≡ k) × (is.source.process ≡ w)
used_where n p k w c f j u there is same =
    let plan : plan_of n p j is.source.process ≡ plan_of n p k w =
    same_Some (plan_of n p j is.source.process) (plan_of n p k w)
    (sym is.there ∙ ap (slice_get (plans_of n)) same ∙ there) in
    (ap (λ (x : ChannelPlan). x.read) plan, ap (λ (x : ChannelPlan). x.writer) plan)

pub source_same : (n : Nest) (p k f : ℕ) (u : Usage) (is : IsUse n p k f u) (t : Tag)
    → slice_get (sources_at n p k) f ≡ Some (Some t) → is.source ≡ t
source_same n p k f u is t e = same_Some is.source t (same_Some (Some is.source) (Some t) (sym is.at ∙ e))
