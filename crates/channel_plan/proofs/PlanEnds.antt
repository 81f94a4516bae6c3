-- Each channel of a nest is that of its reader, read and writer.
use Rattle.std.proofs.Common.{◌≡◌, ℕ, Some, List, length, slice_get, refl}
use Rattle.std.specs.List.{All, flat_map, range_with_len}
use Rattle.std.proofs.lemmas.List.Elements.{All-map}
use Rattle.plain_data.proofs.Lists.{All-each, All-flat_map, All-slice_get}
use Rattle.sanlp.specs.Access.{read_count}
use Rattle.sanlp.specs.declared.nest.Nest.{Nest}
use Rattle.sanlp.proofs.Each.{Each, each_flat_map, each_map, each_of}
use Rattle.channel_plan.specs.Plans.{plan_of, plans_at, plans_of, sources_at}
use Rattle.channel_plan.specs.Tokens.{writers_of}
use Rattle.channel_plan.specs.declared.plans.ChannelPlan.{ChannelPlan}

abbrev IsPlan : Nest → ChannelPlan → Type 0
IsPlan n plan = plan ≡ plan_of n plan.reader plan.read plan.writer

pub plans_of-plan_of : (n : Nest) (c : ℕ) (plan : ChannelPlan) → slice_get (plans_of n) c ≡ Some plan
    → plan ≡ plan_of n plan.reader plan.read plan.writer
unfolding plans_of
plans_of-plan_of n c plan is = All-slice_get (IsPlan n) (plans_of n) c plan every is
  where
    every : All (IsPlan n) (plans_of n)
    every =
        All-flat_map (IsPlan n) (λ p. flat_map (plans_at n p) (range_with_len 0 (read_count n p)))
        (λ p. All-flat_map (IsPlan n) (plans_at n p)
        (λ k. All-map (IsPlan n) (plan_of n p k) (writers_of (length n.statements) (sources_at n p k))
        (All-each (λ w. IsPlan n (plan_of n p k w)) (λ w. refl) (writers_of (length n.statements) (sources_at n p k))))
        (range_with_len 0 (read_count n p)))
        (range_with_len 0 (length n.statements))

pub plans_at-reader : (n : Nest) (q : ℕ)
    → Each (λ plan. plan.reader ≡ q) (flat_map (plans_at n q) (range_with_len 0 (read_count n q)))
plans_at-reader n q =
    let writers : ℕ → List ℕ = λ k. writers_of (length n.statements) (sources_at n q k) in
    let own : (k : ℕ) → Each (λ plan. plan.reader ≡ q) (plans_at n q k) = λ k.
    each_map (λ plan. plan.reader ≡ q) (plan_of n q k) (writers k) (each_of (λ w. q ≡ q) (writers k) (λ w. refl)) in
    each_flat_map (λ plan. plan.reader ≡ q) (plans_at n q) (range_with_len 0 (read_count n q))
    (each_of (λ k. Each (λ plan. plan.reader ≡ q) (plans_at n q k)) (range_with_len 0 (read_count n q)) own)
