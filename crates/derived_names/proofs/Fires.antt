-- The fires of a script: one for each point.
--
-- Of the events of a point neither the Gets in front nor the Puts behind are Fires, so each point has one, and before
-- that of point f there are f Fires (`fired_before`). By induction on the points, a Fire of the script is that of some
-- point f: it has the references of that point, and stands behind the events of the points before and f's own Gets
-- (`fire_among`). So its turn is the number of its point. It is about scripts alone: no state of the machine occurs.
use Rattle.std.proofs.Common.{◌≡◌, ℕ, zero, suc, ◌+◌, ◌-◌, ◌<◌, false, Some, List, [], ◌∷◌, ◌++◌, length, map}
use Rattle.std.proofs.Common.{slice_get, count_by, refl, sym, ap, ◌∙◌, inl, inr, arith}
use Rattle.std.specs.Prelude.{slice_index_or, ◌==◌, ◌&&◌}
use Rattle.std.specs.List.{range_with_len}
use Rattle.std.proofs.lemmas.Bool.{cases_Bool, cases_lt}
use Rattle.std.proofs.lemmas.List.{length-append}
use Rattle.channel_plan.specs.declared.plans.ChannelPlan.{ChannelPlan}
use Rattle.channel_plan.specs.Plans.{plans_of, turn_count}
use Rattle.net_core.specs.declared.network.Event.{Event}
use Rattle.net_core.specs.declared.network.Event.TheVariants.{Get, Fire}
use Rattle.net_core.specs.declared.refs.Ref.{Ref}
use Rattle.net_core.specs.Machine.{net_of}
use Rattle.net_core.specs.Shape.{fires, is_fire}
use Rattle.net_core.proofs.EventCounts.{count-append, count_cons}
use Rattle.process_derive.specs.Derived.{net}
use Rattle.process_derive.specs.Scripts.{gets_of, point_events, puts_from, usage}
use Rattle.process_derive.proofs.Numbers.{script_at}
use Rattle.process_derive.proofs.ScriptNames.{IsGet, all_gets, event_is}
use Rattle.sanlp.specs.Access.{read_count}
use Rattle.sanlp.specs.declared.nest.Nest.{Nest}
use Rattle.sanlp.proofs.Each.{Each, each_flat_map, each_map, each_of, each_then}
use Rattle.sanlp.proofs.Members.{at_in, each_in}
use Rattle.derived_names.proofs.SlotTokens.{take_before}
use Rattle.derived_names.proofs.Gets.{before_fire, events_before, events_more, events_split, point_gets, point_refs}
use Rattle.plain_data.proofs.Lists.{slice_get-append_left, slice_get-append_right}

abbrev pub IsNoFire : Event → Type 0
IsNoFire (Fire refs) = ⊥
IsNoFire _ = Unit {0}

get_is_none : (e : Event) → IsGet e → IsNoFire e
get_is_none (Get c slot) h = tt
get_is_none _ h = absurd h

pub no_fire_first : (n : Nest) (p f : ℕ) → Each IsNoFire (point_gets n p f)
no_fire_first n p f =
    let reads : List ℕ = range_with_len 0 (read_count n p) in
    each_flat_map IsNoFire gets_of (map (usage n p f) reads)
    (each_map (λ u. Each IsNoFire (gets_of u)) (usage n p f) reads
    (each_of (λ k. Each IsNoFire (gets_of (usage n p f k))) reads
    (λ k. each_then IsGet IsNoFire (gets_of (usage n p f k)) get_is_none (all_gets (usage n p f k)))))

pub no_fire_behind : (c : ℕ) (plans : List ChannelPlan) (p f : ℕ) → Each IsNoFire (puts_from c plans p f)
no_fire_behind c [] p f = tt
no_fire_behind c (plan ∷ plans) p f =
    elim (cases_Bool ((plan.writer == p) && slice_index_or plan.is_token f false)) [
      | inl put ↦ rw put ((tt, no_fire_behind (suc c) plans p f))
      | inr none ↦ rw none (no_fire_behind (suc c) plans p f)
    ]

-- How many

none_fired : (es : List Event) → Each IsNoFire es → count_by is_fire es ≡ 0
none_fired [] h = refl
none_fired (Fire refs ∷ es) h = absurd h.0
none_fired (x ∷ es) h = omega (arith, count_cons is_fire x es, none_fired es h.1)

fired_by : (n : Nest) (p f : ℕ) → count_by is_fire (events_before n p f) ≡ f
fired_by n p zero = refl
fired_by n p (suc f) =
    let puts = puts_from 0 (plans_of n) p f in
    omega (
      arith,
      ap (count_by is_fire) (events_split n p f),
      count-append is_fire (before_fire n p f) (Fire (point_refs n p f) ∷ puts),
      count-append is_fire (events_before n p f) (point_gets n p f),
      fired_by n p f,
      none_fired (point_gets n p f) (no_fire_first n p f),
      count_cons is_fire (Fire (point_refs n p f)) puts,
      none_fired puts (no_fire_behind 0 (plans_of n) p f),
    )

fired_before : (n : Nest) (p f : ℕ) → count_by is_fire (before_fire n p f) ≡ f
fired_before n p f =
    omega (
      arith,
      count-append is_fire (events_before n p f) (point_gets n p f),
      fired_by n p f,
      none_fired (point_gets n p f) (no_fire_first n p f),
    )

-- Where

only_fire : (gets puts : List Event) (rs refs : List Ref) (i : ℕ) → Each IsNoFire gets → Each IsNoFire puts
    → slice_get (gets ++ Fire rs ∷ puts) i ≡ Some (Fire refs)
    → (i ≡ length gets) × (refs ≡ rs)
only_fire [] puts rs refs zero h g e = (refl, cc)
only_fire [] puts rs refs (suc i) h g e = absurd (each_in IsNoFire (Fire refs) puts g (at_in (Fire refs) puts i e))
only_fire (x ∷ gets) puts rs refs zero h g e =
    absurd (each_in IsNoFire (Fire refs) (x ∷ gets) h (at_in (Fire refs) (x ∷ gets) 0 e))
only_fire (x ∷ gets) puts rs refs (suc i) h g e =
    let rest = only_fire gets puts rs refs i h.1 g e in (ap suc rest.0, rest.1)

fire_among : (n : Nest) (p m k : ℕ) (refs : List Ref) → slice_get (events_before n p m) k ≡ Some (Fire refs)
    → (f : ℕ) × (f < m) × (k ≡ length (before_fire n p f)) × (refs ≡ point_refs n p f)
fire_among n p zero k refs e = absurd (cc)
fire_among n p (suc m) k refs e =
    let before : List Event = events_before n p m in
    let split : slice_get (before ++ point_events n p m) k ≡ Some (Fire refs) =
    ap (λ es. slice_get es k) (sym (events_more n p m)) ∙ e in
    elim (cases_lt k (length before)) [
      | inl lt ↦
          let rest = fire_among n p m k refs (sym (slice_get-append_left before (point_events n p m) k lt) ∙ split) in
          (rest.0, omega (arith, rest.1), rest.2, rest.3)
      | inr le ↦
          let there : length before + (k - length before) ≡ k = omega arith in
          let here : slice_get (point_events n p m) (k - length before) ≡ Some (Fire refs) =
          sym (slice_get-append_right before (point_events n p m) (k - length before))
          ∙ ap (slice_get (before ++ point_events n p m)) there ∙ split in
          let is =
          only_fire (point_gets n p m) (puts_from 0 (plans_of n) p m) (point_refs n p m) refs (k - length before)
          (no_fire_first n p m) (no_fire_behind 0 (plans_of n) p m) here in
          (m, omega arith, omega (arith, is.0, length-append before (point_gets n p m)), is.1)
    ]

-- The event at place k of p's script is the fire of point f, behind the events of the points before it and its own
-- Gets.
pub record IsFireOf (n : Nest) (p k : ℕ) (refs : List Ref) : Type 0 where
  pub process : p < length n.statements
  pub point : ℕ
  pub fire : point < turn_count n p
  pub place : k ≡ length (before_fire n p point)
  pub references : refs ≡ point_refs n p point
  pub turn : fires (net_of (net n)) p k ≡ point

pub fire_is : (n : Nest) (p k : ℕ) (refs : List Ref) → slice_get ((net_of (net n)).script p) k ≡ Some (Fire refs)
    → IsFireOf n p k refs
fire_is n p k refs e =
    let process = (event_is n p k (Fire refs) e).0 in
    let is = fire_among n p (turn_count n p) k refs (ap (λ es. slice_get es k) (sym (script_at n p process)) ∙ e) in
    record {
      process = process;
      point = is.0;
      fire = is.1;
      place = is.2;
      references = is.3;
      turn = ap (fires (net_of (net n)) p) is.2 ∙ ap (count_by is_fire) (take_before n p is.0 process is.1)
          ∙ fired_before n p is.0;
    }
