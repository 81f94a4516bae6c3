-- The classes of the channels of a nest's network.
use Rattle.std.proofs.Common.{◌≡◌, ℕ, zero, suc, List, [], ◌∷◌, refl, ap, ◌∙◌}
use Rattle.std.specs.Prelude.{Some, slice_get}
use Rattle.std.specs.Option.{option_map}
use Rattle.sanlp.specs.declared.nest.Nest.{Nest}
use Rattle.channel_plan.specs.declared.plans.ChannelPlan.{ChannelPlan}
use Rattle.channel_plan.specs.Plans.{plans_of}
use Rattle.net_core.specs.declared.network.Channel.{Channel}
use Rattle.process_derive.specs.Derived.{net}
use Rattle.process_derive.proofs.ScriptNames.{channel_at}
use Rattle.witness_plan.specs.Sequential.{channels_with, with_capacities}

-- a channel has the class of its plan
pub class_planned : (n : Nest) (c : ℕ) (plan : ChannelPlan) → slice_get (plans_of n) c ≡ Some plan
    → option_map (λ (channel : Channel). channel.class) (slice_get (net n).channels c) ≡ Some plan.class
class_planned n c plan there = ap (option_map (λ (channel : Channel). channel.class)) (channel_at n c plan there)

-- other capacities leave the classes
class_kept : (channels : List Channel) (capacities : List ℕ) (c : ℕ)
    → option_map (λ (channel : Channel). channel.class) (slice_get (channels_with channels capacities) c)
    ≡ option_map (λ (channel : Channel). channel.class) (slice_get channels c)
class_kept [] capacities c = refl
class_kept (x ∷ channels) [] zero = refl
class_kept (x ∷ channels) [] (suc c) = class_kept channels [] c
class_kept (x ∷ channels) (y ∷ capacities) zero = refl
class_kept (x ∷ channels) (y ∷ capacities) (suc c) = class_kept channels capacities c

pub class_at_capacities : (n : Nest) (capacities : List ℕ) (c : ℕ) (plan : ChannelPlan)
    → slice_get (plans_of n) c ≡ Some plan
    → option_map (λ (channel : Channel). channel.class) (slice_get (with_capacities (net n) capacities).channels c)
    ≡ Some plan.class
class_at_capacities n capacities c plan there = class_kept (net n).channels capacities c ∙ class_planned n c plan there
