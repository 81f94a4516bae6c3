-- A writer has put the tokens of a channel that its points so far are.
--
-- By induction on the writer's points. The number of tokens below a turn rises by 1 exactly where that
-- turn is used, and there the point has a Put to the channel behind its Fire (`put_there`). So there
-- are never fewer Puts than tokens. It is a lower bound, which is all that a waiting Get asks for; that
-- a point has no second Put to the channel isn't shown here.
use Rattle.std.proofs.Common.{◌≡◌, ℕ, zero, suc, ◌+◌, ◌<◌, ◌≤◌, true, false, cond, Some, List, [], ◌∷◌, ◌++◌, map}
use Rattle.std.proofs.Common.{slice_get, get_or, count_by, refl, sym, ap, ◌∙◌, subst, inl, inr, arith, add-one}
use Rattle.std.specs.Prelude.{slice_index_or, ◌==◌, ◌&&◌}
use Rattle.std.specs.List.{flat_map, range_with_len}
use Rattle.std.proofs.lemmas.Bool.{and_from, cases_Bool, eq-eqb}
use Rattle.std.proofs.lemmas.List.FromFn.{get_or-map-range_with_len}
use Rattle.channel_plan.specs.declared.plans.ChannelPlan.{ChannelPlan}
use Rattle.channel_plan.specs.Plans.{plans_of, sources_at, turn_count}
use Rattle.channel_plan.specs.Tokens.{is_used, tokens_below, turns_used}
use Rattle.channel_plan.proofs.Uses.{tokens_more}
use Rattle.channel_plan.proofs.PlanEnds.{plans_of-plan_of}
use Rattle.net_core.specs.declared.network.Event.TheVariants.{Fire, Put}
use Rattle.net_core.specs.Shape.{is_put}
use Rattle.net_core.proofs.EventCounts.{count-append, count_cons}
use Rattle.process_derive.specs.Scripts.{gets_of, point_events, puts_from, ref_of, usage}
use Rattle.sanlp.specs.Access.{read_count}
use Rattle.sanlp.specs.declared.nest.Nest.{Nest}
use Rattle.sanlp.proofs.Lists.{flat_map-range_with_len_more}
use Rattle.witness_plan.proofs.PointEvents.{events_before}

pub events_more : (n : Nest) (p g : ℕ) → events_before n p (suc g) ≡ events_before n p g ++ point_events n p g
events_more n p g =
    ap (events_before n p) (sym (add-one g)) ∙ flat_map-range_with_len_more (point_events n p) 0 g g (omega arith)

-- a channel of which the point is a token has a Put
put_there : (c : ℕ) (plans : List ChannelPlan) (j : ℕ) (plan : ChannelPlan) (w g : ℕ) → slice_get plans j ≡ Some plan
    → ((plan.writer == w) && slice_index_or plan.is_token g false) ≡ true
    → 1 ≤ count_by (is_put (c + j)) (puts_from c plans w g)
put_there c [] j plan w g is token = cc
put_there c (x ∷ plans) zero plan w g is token =
    let same : x ≡ plan = cc in
    let this : ((x.writer == w) && slice_index_or x.is_token g false) ≡ true =
    ap (λ (y : ChannelPlan). (y.writer == w) && slice_index_or y.is_token g false) same ∙ token in
    let here : cond {A = ℕ} (c + 0 == c) 1 0 ≡ 1 = ap (λ b. cond {A = ℕ} b 1 0) (eq-eqb (c + 0) c (omega arith)) in
    rw this (omega (arith, count_cons (is_put (c + 0)) (Put c) (puts_from (suc c) plans w g), here))
put_there c (x ∷ plans) (suc j) plan w g is token =
    let next : suc c + j ≡ c + suc j = omega arith in
    let later : 1 ≤ count_by (is_put (c + suc j)) (puts_from (suc c) plans w g) =
    subst (λ d. 1 ≤ count_by (is_put d) (puts_from (suc c) plans w g)) next
    (put_there (suc c) plans j plan w g is token) in
    elim (cases_Bool ((x.writer == w) && slice_index_or x.is_token g false)) [
      | inl put ↦ rw put (omega (arith, count_cons (is_put (c + suc j)) (Put c) (puts_from (suc c) plans w g)))
      | inr none ↦ rw none later
    ]

module _ (n : Nest) (c : ℕ) (plan : ChannelPlan) (found : slice_get (plans_of n) c ≡ Some plan) where
  -- the turns of the writer that the reader names
  abbrev pub used : List ℕ
  used = turns_used plan.writer (sources_at n plan.reader plan.read)

  token_put : (g : ℕ) → g < turn_count n plan.writer → is_used used g ≡ true
      → 1 ≤ count_by (is_put c) (point_events n plan.writer g)
  token_put g lt token =
      let w = plan.writer in
      let usages = map (usage n w g) (range_with_len 0 (read_count n w)) in
      let puts = puts_from 0 (plans_of n) w g in
      let here : get_or plan.is_token g false ≡ true =
      ap (λ (x : ChannelPlan). get_or x.is_token g false) (plans_of-plan_of n c plan found)
      ∙ get_or-map-range_with_len (is_used used) 0 (turn_count n w) g g false lt (omega arith) ∙ token in
      let front : 0 + c ≡ c = omega arith in
      let one : 1 ≤ count_by (is_put c) puts =
      subst (λ d. 1 ≤ count_by (is_put d) puts) front
      (put_there 0 (plans_of n) c plan w g found
      (and_from (w == w) (get_or plan.is_token g false) (eq-eqb w w refl) here)) in
      omega (
        arith,
        count-append (is_put c) (flat_map gets_of usages) (Fire (map ref_of usages) ∷ puts),
        count_cons (is_put c) (Fire (map ref_of usages)) puts,
        one,
      )

  -- the points so far have put their tokens
  pub tokens_put : (g : ℕ) → g ≤ turn_count n plan.writer
      → tokens_below used g ≤ count_by (is_put c) (events_before n plan.writer g)
  tokens_put zero le = omega arith
  tokens_put (suc g) le =
      let before = tokens_put g (omega arith) in
      let counted = ap (tokens_below used) (sym (add-one g)) ∙ tokens_more used g in
      let more =
      ap (count_by (is_put c)) (events_more n plan.writer g)
      ∙ count-append (is_put c) (events_before n plan.writer g) (point_events n plan.writer g) in
      elim (cases_Bool (is_used used g)) [
        | inl token ↦ omega (arith, counted, ap (λ b. cond {A = ℕ} b 1 0) token, token_put g (omega arith) token)
        | inr other ↦ omega (arith, counted, ap (λ b. cond {A = ℕ} b 1 0) other)
      ]
