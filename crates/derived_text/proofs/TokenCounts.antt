-- The Puts of a channel of a nest's network are as many as the tokens of its plan.
use Rattle.std.proofs.Common.{◌≡◌, ℕ, false, List, length, sym, ap, ◌∙◌, arith}
use Rattle.std.specs.Prelude.{Some, slice_get, slice_index_or, count_by}
use Rattle.std.specs.List.{filter, range_with_len}
use Rattle.std.proofs.lemmas.List.{length-map}
use Rattle.std.proofs.lemmas.List.Sums.{length-filter}
use Rattle.std.proofs.lemmas.List.FromFn.{get_or-map-range_with_len}
use Rattle.std.proofs.Math.Seq.{take-length}
use Rattle.sanlp.specs.declared.nest.Nest.{Nest}
use Rattle.channel_plan.specs.declared.plans.ChannelPlan.{ChannelPlan}
use Rattle.channel_plan.specs.Plans.{plan_of, plans_of, sources_at, turn_count}
use Rattle.channel_plan.specs.Tokens.{is_used, tokens_among, tokens_below, turns_used}
use Rattle.channel_plan.proofs.Counts.{same_filter_from}
use Rattle.channel_plan.proofs.PlanEnds.{plans_of-plan_of}
use Rattle.net_core.specs.declared.network.Event.{Event}
use Rattle.net_core.specs.Machine.{Net, net_of}
use Rattle.net_core.specs.Names.{tag, tokens}
use Rattle.net_core.specs.Shape.{is_put, put_count}
use Rattle.net_core.proofs.PlaceValues.{tokens_length}
use Rattle.process_derive.specs.Derived.{net}
use Rattle.derived_names.proofs.Tokens.{tokens_are}

-- a channel has as many Puts as tokens
puts_are_tokens : (n : Net) (c : ℕ) → put_count n c ≡ length (tokens n c)
puts_are_tokens n c =
    let script : List Event = n.script (n.writer c) in
    ap (count_by (is_put c)) (sym (take-length script)) ∙ sym (tokens_length n c (length script))

planned : (n : Nest) (p k w c : ℕ) → slice_get (plans_of n) c ≡ Some (plan_of n p k w)
    → put_count (net_of (net n)) c ≡ tokens_below (turns_used w (sources_at n p k)) (turn_count n w)
planned n p k w c e =
    let used : List ℕ = turns_used w (sources_at n p k) in
    let turns : ℕ = turn_count n w in
    let marked : List ℕ = filter (λ f. slice_index_or (tokens_among turns used) f false) (range_with_len 0 turns) in
    let marks : marked ≡ filter (is_used used) (range_with_len 0 turns) =
    same_filter_from (λ f. slice_index_or (tokens_among turns used) f false) (is_used used) 0 turns
    (λ f from below. get_or-map-range_with_len (is_used used) 0 turns f f false (omega arith) (omega arith)) in
    puts_are_tokens (net_of (net n)) c
    ∙ ap length (tokens_are n c (plan_of n p k w) e)
    ∙ length-map marked (tag w)
    ∙ ap length marks
    ∙ length-filter (is_used used) (range_with_len 0 turns)

-- a channel has as many Puts as its plan says
pub puts_planned : (n : Nest) (c : ℕ) (plan : ChannelPlan) → slice_get (plans_of n) c ≡ Some plan
    → put_count (net_of (net n)) c ≡ plan.tokens
puts_planned n c plan e =
    let is : plan ≡ plan_of n plan.reader plan.read plan.writer = plans_of-plan_of n c plan e in
    planned n plan.reader plan.read plan.writer c (e ∙ ap Some is) ∙ ap (λ (q : ChannelPlan). q.tokens) (sym is)
