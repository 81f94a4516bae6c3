-- The greatest lengths after one entry of the trace more.
--
-- An entry adds the events of one point: Gets, a Fire and Puts, which stand next in the script of its process, since by
-- then that process has made the events of its earlier points (witness_plan's InTraceOrder). So by PointLengths the
-- greatest length of a queue after the entry is that before it or the queue's length at the end of the entry.
use Rattle.std.proofs.Common.{◌≡◌, ℕ, suc, ◌+◌, ◌-◌, max, false, Option, Some, List, [], ◌∷◌, ◌++◌, length, map, replicate}
use Rattle.std.proofs.Common.{slice_get, refl, sym, ◌∙◌, subst, inl, inr, arith}
use Rattle.std.specs.Prelude.{slice_index_or, ◌==◌, ◌&&◌}
use Rattle.std.specs.List.{flat_map, range_with_len}
use Rattle.std.proofs.lemmas.Bool.{cases_Bool}
use Rattle.std.proofs.lemmas.Option.{slice_get_within}
use Rattle.channel_plan.specs.declared.plans.ChannelPlan.{ChannelPlan}
use Rattle.channel_plan.specs.Plans.{plans_of, turn_count}
use Rattle.net_core.specs.declared.network.Event.{Event}
use Rattle.net_core.specs.declared.network.Event.TheVariants.{Get, Fire, Put}
use Rattle.net_core.specs.Cuts.{cut_after, opening}
use Rattle.net_core.specs.Machine.{net_of}
use Rattle.net_core.specs.Shape.{is_get, is_put}
use Rattle.process_derive.specs.Derived.{net}
use Rattle.process_derive.specs.Scripts.{Usage, gets_of, point_events, puts_from, ref_of, usage}
use Rattle.process_derive.proofs.Numbers.{script_at}
use Rattle.process_derive.proofs.ScriptNames.{IsGet, all_gets, is_wired}
use Rattle.sanlp.specs.Access.{read_count}
use Rattle.sanlp.specs.Trace.{trace}
use Rattle.sanlp.specs.declared.nest.Nest.{Nest}
use Rattle.sanlp.specs.declared.nest.Point.{Point}
use Rattle.sanlp.proofs.Each.{Each, each_flat_map, each_of}
use Rattle.sanlp.proofs.ReadCounts.{trace-statement}
use Rattle.witness_plan.specs.Sequential.{greatest_length, queue_length}
use Rattle.witness_plan.proofs.InTraceOrder.{stands, turns_before, until_more}
use Rattle.witness_plan.proofs.PointEvents.{events_before, script_splits}
use Rattle.witness_plan.proofs.TraceSteps.{sequenced, turn_exists}
use Rattle.network_numbers.proofs.PointLengths.{AreNext, are_next, greatest_point}

-- Gets are no Puts, and behind the Gets there are no Gets
get_no_put : (c : ℕ) (e : Event) → IsGet e → is_put c e ≡ false
get_no_put c (Get d slot) h = refl
get_no_put c (Fire refs) h = absurd h
get_no_put c (Put d) h = absurd h

none_put : (c : ℕ) (es : List Event) → Each IsGet es → Each (λ e. is_put c e ≡ false) es
none_put c [] h = tt
none_put c (e ∷ es) h = (get_no_put c e h.0, none_put c es h.1)

point_gets : (c : ℕ) (usages : List (Option Usage)) → Each (λ e. is_put c e ≡ false) (flat_map gets_of usages)
point_gets c usages =
    none_put c (flat_map gets_of usages)
    (each_flat_map IsGet gets_of usages (each_of (λ u. Each IsGet (gets_of u)) usages all_gets))

none_got : (c b : ℕ) (plans : List ChannelPlan) (p f : ℕ) → Each (λ e. is_get c e ≡ false) (puts_from b plans p f)
none_got c b [] p f = tt
none_got c b (plan ∷ plans) p f =
    elim (cases_Bool ((plan.writer == p) && slice_index_or plan.is_token f false)) [
      | inl put ↦ rw put ((refl, none_got c (suc b) plans p f))
      | inr none ↦ rw none (none_got c (suc b) plans p f)
    ]

module _ (n : Nest) (t : ℕ) (q : Point) (here : slice_get (trace n) t ≡ Some q) where
  -- the events of the entry's point stand next in its process's script
  stand_next : AreNext ((net_of (net n)).script q.statement) (cut_after opening (sequenced n t) q.statement)
      (point_events n q.statement (turns_before (trace n) t q.statement))
  stand_next =
      let p = q.statement in
      let f = turns_before (trace n) t q.statement in
      let place : cut_after opening (sequenced n t) p ≡ length (events_before n p f) =
      stands (point_events n) (trace n) t p (omega (arith, slice_get_within (trace n) t q here)) in
      let later = flat_map (point_events n p) (range_with_len (f + 1) (turn_count n p - f - 1)) in
      subst (λ k. AreNext ((net_of (net n)).script p) k (point_events n p f)) (sym place)
      (are_next ((net_of (net n)).script p) (events_before n p f) (point_events n p f) later
      (script_at n p (trace-statement n t q here) ∙ script_splits n p f (turn_exists n t q here)))

  pub greatest_entry : (c : ℕ) → greatest_length (net_of (net n)) (sequenced n (suc t)) c
      ≡ max (greatest_length (net_of (net n)) (sequenced n t) c)
      (queue_length (net_of (net n)) (cut_after opening (sequenced n (suc t))) c)
  greatest_entry c =
      let p = q.statement in
      let f = turns_before (trace n) t q.statement in
      let usages = map (usage n p f) (range_with_len 0 (read_count n p)) in
      let rest = Fire (map ref_of usages) ∷ puts_from 0 (plans_of n) p f in
      let more : sequenced n (suc t) ≡ sequenced n t ++ replicate (length (point_events n p f)) p =
      until_more (point_events n) (trace n) t q here in
      let point =
      greatest_point (net_of (net n)) (is_wired n) p c (sequenced n t)
      (flat_map gets_of usages) rest stand_next (point_gets c usages) ((refl, none_got c 0 (plans_of n) p f)) in
      subst (λ s. greatest_length (net_of (net n)) s c
      ≡ max (greatest_length (net_of (net n)) (sequenced n t) c) (queue_length (net_of (net n)) (cut_after opening s) c))
      (sym more) point
