-- What holds of every channel of a nest, and which channels there are.
--
-- The channels are listed by reader, read and writer, and a writer is listed where some source of the read is one of its
-- turns. So what these three numbers give of the channel between them holds of every channel (`each_plan`), and the other
-- way there is the channel of any three such numbers (`plan_there`). Both go down the levels of the list. That no two
-- channels have the same three numbers isn't said.
use Rattle.std.proofs.Common.{◌≡◌, ◌<◌, ℕ, Bool, true, List, [], ◌∷◌, length, inl, inr, arith}
use Rattle.std.specs.List.{filter, flat_map, list_any, range_with_len}
use Rattle.std.proofs.lemmas.Bool.{cases_Bool}
use Rattle.sanlp.specs.Access.{read_count}
use Rattle.sanlp.specs.declared.nest.Nest.{Nest}
use Rattle.sanlp.proofs.Each.{Each, each_flat_map, each_map, each_range_with_len}
use Rattle.sanlp.proofs.Members.{In, in_filter, in_flat_map, in_map, in_range_with_len}
use Rattle.channel_plan.specs.declared.plans.ChannelPlan.{ChannelPlan}
use Rattle.channel_plan.specs.Plans.{plan_of, plans_at, plans_of, sources_at}
use Rattle.channel_plan.specs.Tokens.{is_from, writers_of}

each_passing : {X : Type 0} (P : X → Type 0) (test : X → Bool) (xs : List X) → Each (λ x. test x ≡ true → P x) xs
    → Each P (filter test xs)
each_passing P test [] h = tt
each_passing P test (x ∷ xs) h =
    elim (cases_Bool (test x)) [
      | inl kept ↦ let first : P x = h.0 kept in rw kept ((first, each_passing P test xs h.1))
      | inr left ↦ rw left (each_passing P test xs h.1)
    ]

pub each_plan : (n : Nest) (P : ChannelPlan → Type 0)
    → ((p k w : ℕ) → p < length n.statements → k < read_count n p → w < length n.statements
    → list_any (is_from w) (sources_at n p k) ≡ true → P (plan_of n p k w))
    → Each P (plans_of n)
unfolding plans_of
each_plan n P of_plan =
    each_flat_map P (λ p. flat_map (plans_at n p) (range_with_len 0 (read_count n p)))
    (range_with_len 0 (length n.statements))
    (each_range_with_len (λ p. Each P (flat_map (plans_at n p) (range_with_len 0 (read_count n p)))) 0
    (length n.statements)
    (λ p from below. each_flat_map P (plans_at n p) (range_with_len 0 (read_count n p))
    (each_range_with_len (λ k. Each P (plans_at n p k)) 0 (read_count n p)
    (λ k at under. each_map P (plan_of n p k) (writers_of (length n.statements) (sources_at n p k))
    (each_passing (λ w. P (plan_of n p k w)) (λ w. list_any (is_from w) (sources_at n p k))
    (range_with_len 0 (length n.statements))
    (each_range_with_len (λ w. list_any (is_from w) (sources_at n p k) ≡ true → P (plan_of n p k w)) 0
    (length n.statements)
    (λ w since lt passes. of_plan p k w (omega arith) (omega arith) (omega arith) passes)))))))

pub plan_there : (n : Nest) (p k w : ℕ) → p < length n.statements → k < read_count n p → w < length n.statements
    → list_any (is_from w) (sources_at n p k) ≡ true → In (plan_of n p k w) (plans_of n)
unfolding plans_of
plan_there n p k w process read writer from =
    in_flat_map (λ p. flat_map (plans_at n p) (range_with_len 0 (read_count n p))) p (plan_of n p k w)
    (range_with_len 0 (length n.statements))
    (in_range_with_len 0 (length n.statements) p (omega arith) (omega arith))
    (in_flat_map (plans_at n p) k (plan_of n p k w) (range_with_len 0 (read_count n p))
    (in_range_with_len 0 (read_count n p) k (omega arith) (omega arith))
    (in_map (plan_of n p k) (writers_of (length n.statements) (sources_at n p k)) w
    (in_filter (λ w. list_any (is_from w) (sources_at n p k)) (range_with_len 0 (length n.statements)) w
    (in_range_with_len 0 (length n.statements) w (omega arith) (omega arith)) from)))
