-- The uses of a channel in the reader's script are those that its plan counts, so each channel has the class of its
-- uses.
--
-- The plan's uses are counted from the sources, fire by fire; those of the network are read off the references and the
-- Gets that they name. By induction on the reader's points both lists grow alike: a fire adds what its reference at
-- the channel's read names, which is the token of its use (SlotTokens), and its references at other reads, or to
-- other writers, add nothing.
use Rattle.std.proofs.Common.{◌≡◌, ℕ, zero, suc, ◌+◌, ◌<◌, ◌≤◌, cond, Option, Some, None, List, [], ◌∷◌, ◌++◌, length}
use Rattle.std.proofs.Common.{map, take, drop, slice_get, get_or, refl, sym, ap, ◌∙◌, inl, inr, arith, add-one}
use Rattle.std.proofs.Common.{append_assoc}
use Rattle.std.specs.Prelude.{slice_index}
use Rattle.std.specs.List.{flat_map, range_with_len}
use Rattle.std.specs.Option.{option_map_or}
use Rattle.std.proofs.lemmas.Bool.{cases_eq, eq-eqb, ne_eqb}
use Rattle.std.proofs.lemmas.List.{drop_at, length-append, length-map}
use Rattle.std.proofs.lemmas.List.Folds.{flat_map-map}
use Rattle.std.proofs.lemmas.Option.{slice_get_within}
use Rattle.channel_class.specs.Classes.{class_of}
use Rattle.channel_plan.specs.declared.plans.ChannelPlan.{ChannelPlan}
use Rattle.channel_plan.specs.Plans.{plan_of, plans_of, sources_at, turn_count}
use Rattle.channel_plan.specs.Tokens.{tokens_below, turns_used, uses_of}
use Rattle.channel_plan.proofs.PlanEnds.{plans_of-plan_of}
use Rattle.net_core.specs.declared.network.Channel.{Channel}
use Rattle.net_core.specs.declared.network.Event.{Event}
use Rattle.net_core.specs.declared.network.Event.TheVariants.{Fire}
use Rattle.net_core.specs.Machine.{net_of}
use Rattle.net_core.specs.Names.{latest_gets}
use Rattle.net_core.specs.Uses.{use_in, use_of, uses, uses_before}
use Rattle.process_derive.specs.Derived.{channel_of, net}
use Rattle.process_derive.specs.Scripts.{Usage, puts_from, ref_of, usage}
use Rattle.process_derive.proofs.Numbers.{script_at}
use Rattle.process_derive.proofs.ScriptNames.{channel_at, reader_at}
use Rattle.sanlp.specs.Access.{read_count}
use Rattle.sanlp.specs.declared.nest.Nest.{Nest}
use Rattle.sanlp.specs.declared.nest.Tag.{Tag}
use Rattle.sanlp.proofs.Lists.{flat_map-range_with_len_more}
use Rattle.derived_names.proofs.Fires.{no_fire_behind, no_fire_first}
use Rattle.derived_names.proofs.SlotTokens.{finds_token, points_after, script_splits}
use Rattle.derived_names.proofs.Gets.{before_fire, events_before, events_split, exists, point_gets, point_refs}
use Rattle.derived_names.proofs.Gets.{source_at_fire}
use Rattle.derived_names.proofs.Lists.{one_joined}
use Rattle.derived_names.proofs.Names.{token_is}
use Rattle.derived_names.proofs.UsesOfFires.{no_use, source_same, turns_read, use_here, use_is, used_where}
use Rattle.derived_names.proofs.UsesAlong.{fire_adds, passed}
use Rattle.derived_names.proofs.UsesOfReads.{named_by_all, named_by_fire, token_named}
use Rattle.plain_data.proofs.Lists.{slice_get-some, drop_parts}

-- Uses of fires

-- a use of another channel is none of channel c
none_of : (n : Nest) (p k f c : ℕ) (u : Usage) → f < turn_count n p → usage n p f k ≡ Some u → (u.channel ≡ c → ⊥)
    → use_of c (latest_gets (net_of (net n)) p (length (before_fire n p f))) (ref_of (Some u)) ≡ []
none_of n p k f c u fire h ne =
    let slots = latest_gets (net_of (net n)) p (length (before_fire n p f)) in
    let is = use_is n p k f u h in
    let token : ℕ =
    get_or (uses_of (turns_read n p k is.source.process))
    (length (turns_used is.source.process (take f (sources_at n p k)))) 0 in
    ap (λ (v : Usage). use_in c (slice_get slots (v.base + slice_index v.slots.slot_of_use v.number))) is.same
    ∙ ap (use_in c) (finds_token n p k is.source.process u.channel is.there f fire is.source is.at refl)
    ∙ ap (λ b. cond b (token ∷ []) []) (ne_eqb u.channel c ne)

module _ (n : Nest) (p k w c : ℕ) (found : slice_get (plans_of n) c ≡ Some (plan_of n p k w)) where
  other_read : (f j : ℕ) → f < turn_count n p → (j ≡ k → ⊥) → (o : Option Usage) → usage n p f j ≡ o
      → use_of c (latest_gets (net_of (net n)) p (length (before_fire n p f))) (ref_of o) ≡ []
  other_read f j fire ne None h = refl
  other_read f j fire ne (Some u) h =
      none_of n p j f c u fire h (λ same. ne (used_where n p k w c f j u found (use_is n p j f u h) same).0)

  other_source : (f : ℕ) (t : Tag) → f < turn_count n p → slice_get (sources_at n p k) f ≡ Some (Some t)
      → (t.process ≡ w → ⊥) → (o : Option Usage) → usage n p f k ≡ o
      → use_of c (latest_gets (net_of (net n)) p (length (before_fire n p f))) (ref_of o) ≡ []
  other_source f t fire e ne None h = refl
  other_source f t fire e ne (Some u) h =
      let is = use_is n p k f u h in
      none_of n p k f c u fire h
      (λ same. ne (ap (λ (x : Tag). x.process) (sym (source_same n p k f u is t e))
      ∙ (used_where n p k w c f k u found is same).1))

  this_read : (f : ℕ) → f < turn_count n p → (source : Option Tag) → slice_get (sources_at n p k) f ≡ Some source
      → use_of c (latest_gets (net_of (net n)) p (length (before_fire n p f))) (ref_of (usage n p f k))
      ≡ token_named (turns_read n p k w) w source
  this_read f fire None e =
      ap (λ (o : Option Usage). use_of c (latest_gets (net_of (net n)) p (length (before_fire n p f))) (ref_of o))
      (no_use n p k f e)
  this_read f fire (Some t) e =
      let slots = latest_gets (net_of (net n)) p (length (before_fire n p f)) in
      let used : List ℕ = turns_read n p k w in
      let number : ℕ = length (turns_used w (take f (sources_at n p k))) in
      elim (cases_eq t.process w) [
        | inl own ↦
            ap (λ (o : Option Usage). use_of c slots (ref_of o)) (use_here n p k w c f t found e own)
            ∙ ap (use_in c) (finds_token n p k w c found f fire t e own)
            ∙ ap (λ b. cond b (get_or (uses_of used) number 0 ∷ []) []) (eq-eqb c c refl)
            ∙ ap (λ m. m ∷ []) (token_is n p k w f t e own)
            ∙ sym (ap (λ b. cond b (tokens_below used t.turn ∷ []) []) (eq-eqb t.process w own))
        | inr other ↦
            other_source f t fire e other (usage n p f k) refl
            ∙ sym (ap (λ b. cond b (tokens_below used t.turn ∷ []) []) (ne_eqb t.process w other))
      ]

  fire_uses : (f : ℕ) → f < turn_count n p
      → flat_map (use_of c (latest_gets (net_of (net n)) p (length (before_fire n p f)))) (point_refs n p f)
      ≡ named_by_fire (turns_read n p k w) w (sources_at n p k) f
  fire_uses f fire =
      let slots = latest_gets (net_of (net n)) p (length (before_fire n p f)) in
      let numbers : List ℕ = range_with_len 0 (read_count n p) in
      let source = source_at_fire n p k w c found f fire in
      let read = (exists n p k w c found).read in
      flat_map-map (use_of c slots) ref_of (map (usage n p f) numbers)
      ∙ flat_map-map (λ u. use_of c slots (ref_of u)) (usage n p f) numbers
      ∙ one_joined (λ j. use_of c slots (ref_of (usage n p f j))) k
      (λ j ne. other_read f j fire ne (usage n p f j) refl) 0 (read_count n p) (omega arith) (omega arith)
      ∙ this_read f fire source.0 source.1
      ∙ sym (ap (λ o. option_map_or (token_named (turns_read n p k w) w) o []) source.1)

  -- Uses of points

  points_use : (f : ℕ) → f ≤ turn_count n p
      → uses_before (net_of (net n)) c p (length (events_before n p f))
      ≡ flat_map (named_by_fire (turns_read n p k w) w (sources_at n p k)) (range_with_len 0 f)
  points_use zero le = refl
  points_use (suc f) le =
      let network = net_of (net n) in
      let events = network.script p in
      let fire : f < turn_count n p = omega arith in
      let before : List Event = events_before n p f in
      let gets : List Event = point_gets n p f in
      let puts : List Event = puts_from 0 (plans_of n) p f in
      let behind : List Event = puts ++ points_after n p f in
      let name = named_by_fire (turns_read n p k w) w (sources_at n p k) in
      let at : ℕ = length (before_fire n p f) in
      let whole : events ≡ before_fire n p f ++ (Fire (point_refs n p f) ∷ behind) =
      script_at n p (exists n p k w c found).reader ∙ script_splits n p f fire in
      let first : drop (length before) events ≡ gets ++ (Fire (point_refs n p f) ∷ behind) =
      ap (drop (length before)) (whole ∙ append_assoc before gets (Fire (point_refs n p f) ∷ behind))
      ∙ drop_at before (gets ++ (Fire (point_refs n p f) ∷ behind)) (length before) refl in
      let then : drop at events ≡ Fire (point_refs n p f) ∷ behind =
      ap (drop at) whole ∙ drop_at (before_fire n p f) (Fire (point_refs n p f) ∷ behind) at refl in
      let last : length (events_before n p (suc f)) ≡ suc at + length puts =
      ap length (events_split n p f) ∙ length-append (before_fire n p f) (Fire (point_refs n p f) ∷ puts)
      ∙ omega arith in
      ap (uses_before network c p) last
      ∙ passed network c p (suc at) puts (points_after n p f)
      (drop_parts events at (Fire (point_refs n p f)) behind then).1 (no_fire_behind 0 (plans_of n) p f)
      ∙ fire_adds network c p at (point_refs n p f) behind then
      ∙ ap (λ us. uses_before network c p at ++ us) (fire_uses f fire)
      ∙ ap (λ us. us ++ name f)
      (ap (uses_before network c p) (length-append before gets)
      ∙ passed network c p (length before) gets (Fire (point_refs n p f) ∷ behind) first (no_fire_first n p f))
      ∙ ap (λ us. us ++ name f) (points_use f (omega arith))
      ∙ sym (ap (λ k. flat_map name (range_with_len 0 k)) (sym (add-one f))
      ∙ flat_map-range_with_len_more name 0 f f (omega arith))

  reader_is : (net_of (net n)).reader c ≡ p
  reader_is = reader_at n c (plan_of n p k w) found

  uses_are : uses (net_of (net n)) c ≡ uses_of (turns_read n p k w)
  uses_are =
      let network = net_of (net n) in
      ap (λ r. uses_before network c r (length (network.script r))) reader_is
      ∙ ap (λ es. uses_before network c p (length es)) (script_at n p (exists n p k w c found).reader)
      ∙ points_use (turn_count n p) (omega arith)
      ∙ named_by_all n p k w

pub has_classes_of_uses : (n : Nest) (c : ℕ) (channel : Channel) → slice_get (net n).channels c ≡ Some channel
    → channel.class ≡ class_of (uses (net_of (net n)) c)
unfolding net
has_classes_of_uses n c channel e =
    let within : c < length (plans_of n) =
    omega (arith, slice_get_within (map channel_of (plans_of n)) c channel e, length-map (plans_of n) channel_of) in
    let plan = slice_get-some (plans_of n) c within in
    let is = plans_of-plan_of n c plan.0 plan.1 in
    let found : slice_get (plans_of n) c ≡ Some (plan_of n plan.0.reader plan.0.read plan.0.writer) =
    plan.1 ∙ ap Some is in
    let same : Some channel ≡ Some (channel_of plan.0) = sym e ∙ channel_at n c plan.0 plan.1 in
    let here : channel ≡ channel_of plan.0 = cc in
    ap (λ (x : Channel). x.class) here
    ∙ ap (λ (x : ChannelPlan). x.class) is
    ∙ ap class_of (sym (uses_are n plan.0.reader plan.0.read plan.0.writer c found))
