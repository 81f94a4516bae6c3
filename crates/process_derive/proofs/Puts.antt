-- The Puts of all scripts: one for each token of each channel, and each token has a use.
--
-- The Puts are counted channel by channel instead of point by point, since the two sums may change places
-- (`process_by_channel`). Only its writer puts to a channel, at most once at each turn, and only where the turn
-- is a token; tokens are no more than uses, and each fire has at most one use at a read. So the channels of one
-- read have no more Puts together than its reader has turns (`read_puts`). With at most eight reads, and no more
-- turns of all processes than entries, that bounds the sum. It is an upper bound, and not how many there are.
use Rattle.std.proofs.Common.{◌≡◌, ◌≢◌, ◌<◌, ◌≤◌, ◌+◌, ◌*◌, ◌&&◌, ℕ, suc, Bool, false, eqb, List, [], ◌∷◌, length, refl}
use Rattle.std.proofs.Common.{sym, ap, ◌∙◌, subst, inl, inr, arith, le_of_eq}
use Rattle.std.specs.Prelude.{slice_index_or}
use Rattle.std.specs.List.{flat_map, list_any, range_with_len, sum_by}
use Rattle.std.proofs.lemmas.Bool.{cases_Bool, eq-eqb, ne_eqb}
use Rattle.std.proofs.lemmas.List.FromFn.{get_or-map-range_with_len, length-range_with_len}
use Rattle.std.proofs.lemmas.List.Sums.{sum_by-cons, sum_by-le-sum_by}
use Rattle.sanlp.specs.Access.{read_count}
use Rattle.sanlp.specs.declared.nest.Nest.{Nest}
use Rattle.sanlp.specs.Trace.{trace}
use Rattle.sanlp.proofs.NestFacts.{few_read_count}
use Rattle.channel_plan.specs.declared.plans.ChannelPlan.{ChannelPlan}
use Rattle.channel_plan.specs.Plans.{plan_of, plans_at, plans_of, sources_at, turn_count}
use Rattle.channel_plan.specs.Tokens.{is_from, is_used, tokens_among, writers_of}
use Rattle.process_derive.specs.Scripts.{puts_from}
use Rattle.process_derive.proofs.Shares.{all_turns, few_tokens, used, uses_shared}
use Rattle.process_derive.proofs.Sums.{one_if, sum_counted, sum_filter, sum_joined, sum_map, sum_none}
use Rattle.process_derive.proofs.Sums.{sum_risen, sum_same, sum_scaled, sum_turned, sum_within}

-- the Puts of point f of process p, and of all its points
abbrev pub point_puts : Nest → ℕ → ℕ → ℕ
point_puts n p f = length (puts_from 0 (plans_of n) p f)

abbrev pub process_puts : Nest → ℕ → ℕ
process_puts n p = sum_by (point_puts n p) (range_with_len 0 (turn_count n p))

-- Channel by channel

abbrev put_to : ℕ → ℕ → ChannelPlan → ℕ
put_to p f plan = one_if ((eqb plan.writer p) && slice_index_or plan.is_token f false)

by_channel : (c : ℕ) (plans : List ChannelPlan) (p f : ℕ) → length (puts_from c plans p f) ≡ sum_by (put_to p f) plans
by_channel c [] p f = refl
by_channel c (plan ∷ plans) p f =
    let rest = by_channel (suc c) plans p f in
    subst (λ k. length (puts_from c (plan ∷ plans) p f) ≡ k) (sym (sum_by-cons (put_to p f) plan plans))
    (elim (cases_Bool (eqb plan.writer p)) [
      | inl own ↦ elim (cases_Bool (slice_index_or plan.is_token f false)) [
        | inl token ↦ rw (own, token) (omega (arith, rest))
        | inr token ↦ rw (own, token) (omega (arith, rest))
      ]
      | inr own ↦ rw own (omega (arith, rest))
    ])

-- the Puts of process p to a channel
abbrev puts_to_channel : Nest → ChannelPlan → ℕ → ℕ
puts_to_channel n plan p = sum_by (λ f. put_to p f plan) (range_with_len 0 (turn_count n p))

process_by_channel : (n : Nest) (p : ℕ) → process_puts n p ≡ sum_by (λ plan. puts_to_channel n plan p) (plans_of n)
process_by_channel n p =
    let fires : List ℕ = range_with_len 0 (turn_count n p) in
    sum_same (point_puts n p) (λ f. sum_by (put_to p f) (plans_of n)) fires (by_channel 0 (plans_of n) p)
    ∙ sum_turned (put_to p) fires (plans_of n)

-- One channel

token_put : (n : Nest) (p k w f : ℕ) → f < turn_count n w
    → put_to w f (plan_of n p k w) ≤ one_if (is_used (used n p k w) f)
token_put n p k w f lt =
    let marks : List Bool = tokens_among (turn_count n w) (used n p k w) in
    let here = get_or-map-range_with_len (is_used (used n p k w)) 0 (turn_count n w) f f false lt (omega arith) in
    let same : put_to w f (plan_of n p k w) ≡ one_if (is_used (used n p k w) f) =
    ap (λ b. one_if (b && slice_index_or marks f false)) (eq-eqb w w refl) ∙ ap one_if here in
    le_of_eq same

channel_puts : (n : Nest) (p k w m : ℕ)
    → sum_by (puts_to_channel n (plan_of n p k w)) (range_with_len 0 m) ≤ length (used n p k w)
channel_puts n p k w m =
    let puts : ℕ → ℕ = puts_to_channel n (plan_of n p k w) in
    let turns : ℕ = turn_count n w in
    let own : puts w ≤ 0 + length (used n p k w) =
    omega (
      arith,
      sum_counted (λ f. put_to w f (plan_of n p k w)) (λ f. one_if (is_used (used n p k w) f)) 0 turns
          (λ f from below. token_put n p k w f (omega arith)),
      few_tokens (used n p k w) turns,
    ) in
    let other : (q : ℕ) → q ≢ w → puts q ≡ 0 = λ q ne.
    (let fires : List ℕ = range_with_len 0 (turn_count n q) in
    sum_same (λ f. put_to q f (plan_of n p k w)) (λ f. 0) fires (λ f. rw (ne_eqb w q (λ e. ne (sym e))) refl)
    ∙ sum_none fires) in
    omega (arith, sum_risen (λ q. 0) puts w (length (used n p k w)) own other 0 m, sum_none (range_with_len 0 m))

-- All channels

read_puts : (n : Nest) (p k m : ℕ)
    → sum_by (λ plan. sum_by (puts_to_channel n plan) (range_with_len 0 m)) (plans_at n p k) ≤ turn_count n p
read_puts n p k m =
    let ws : List ℕ = writers_of (length n.statements) (sources_at n p k) in
    let puts : ChannelPlan → ℕ = λ plan. sum_by (puts_to_channel n plan) (range_with_len 0 m) in
    let uses : ℕ → ℕ = λ w. length (used n p k w) in
    omega (
      arith,
      sum_map puts (plan_of n p k) ws,
      sum_by-le-sum_by (λ w. puts (plan_of n p k w)) uses ws (λ w. channel_puts n p k w m),
      sum_filter uses (λ w. list_any (is_from w) (sources_at n p k)) (range_with_len 0 (length n.statements)),
      uses_shared n p k (length n.statements),
    )

plans_few : (n : Nest) (puts : ChannelPlan → ℕ) → ((p k : ℕ) → sum_by puts (plans_at n p k) ≤ turn_count n p)
    → sum_by puts (plans_of n) ≤ 8 * length (trace n)
unfolding plans_of
plans_few n puts few =
    let reads : ℕ → List ℕ = λ p. range_with_len 0 (read_count n p) in
    let processes : List ℕ = range_with_len 0 (length n.statements) in
    let plans : ℕ → List ChannelPlan = λ p. flat_map (plans_at n p) (reads p) in
    let of_process : (p : ℕ) → sum_by puts (plans p) ≤ 8 * turn_count n p = λ p.
    subst (λ m. m ≤ 8 * turn_count n p) (sym (sum_joined puts (plans_at n p) (reads p)))
    (sum_within (λ k. sum_by puts (plans_at n p k)) (turn_count n p) 8 (reads p) (few p)
    (omega (arith, length-range_with_len 0 (read_count n p), few_read_count n p))) in
    subst (λ m. m ≤ 8 * length (trace n)) (sym (sum_joined puts plans processes))
    (omega (
      arith,
      sum_scaled 8 (λ p. sum_by puts (plans p)) (turn_count n) processes of_process,
      all_turns n (length n.statements),
    ))

-- the Puts of all processes
pub all_puts : (n : Nest) (m : ℕ) → sum_by (process_puts n) (range_with_len 0 m) ≤ 8 * length (trace n)
all_puts n m =
    let processes : List ℕ = range_with_len 0 m in
    let puts : ChannelPlan → ℕ = λ plan. sum_by (puts_to_channel n plan) processes in
    let turned : sum_by (process_puts n) processes ≡ sum_by puts (plans_of n) =
    sum_same (process_puts n) (λ p. sum_by (λ plan. puts_to_channel n plan p) (plans_of n)) processes
    (process_by_channel n)
    ∙ sum_turned (λ p plan. puts_to_channel n plan p) processes (plans_of n) in
    subst (λ k. k ≤ 8 * length (trace n)) (sym turned) (plans_few n puts (λ p k. read_puts n p k m))
