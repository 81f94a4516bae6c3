-- Every name in the scripts of a nest's network is that of something that is there, by its own reader or writer.
--
-- What holds of every event is gathered upward: of a use, of the events of a point, of a script (`IsEventOf`). A use's
-- channel is found among the plans by its ends, so its reader is the process; its slots lie behind those of the
-- reader's channels before it and within the channel's hold, so they are the reader's. In each point the Gets and the
-- Fire come before the Puts, so no Put stands before the first fire. It is no matter of order or of values, and no
-- schedule is needed.
use Rattle.std.proofs.Common.{◌≡◌, ◌<◌, ◌≤◌, ◌+◌, ◌-◌, ◌^◌, ℕ, zero, suc, false, cond, eqb, List, [], ◌∷◌, ◌++◌}
use Rattle.std.proofs.Common.{map, length, take, refl, sym, ap, ◌∙◌, subst, inl, inr, arith, eqb-true, append_assoc}
use Rattle.std.specs.Prelude.{All, Option, Some, None, slice_get, slice_index, slice_index_or, count_by}
use Rattle.std.specs.List.{find, flat_map, range_with_len}
use Rattle.std.specs.Option.{option_and_then, option_map, option_map_or}
use Rattle.std.proofs.lemmas.Bool.{cases_Bool, cases_lt, eq-eqb}
use Rattle.std.proofs.lemmas.List.{length-map}
use Rattle.std.proofs.lemmas.List.Concat.{flat_map-cons}
use Rattle.std.proofs.lemmas.List.Sums.{sum_by-cons}
use Rattle.std.proofs.lemmas.List.FromFn.{length-map-range_with_len}
use Rattle.std.proofs.lemmas.Option.{slice_get-map, slice_get_past, slice_get_within}
use Rattle.sanlp.specs.Access.{read_count}
use Rattle.sanlp.specs.declared.nest.Nest.{Nest}
use Rattle.sanlp.specs.declared.nest.Tag.{Tag}
use Rattle.sanlp.specs.Size.{SizeIsOk}
use Rattle.sanlp.proofs.Each.{Each, all_from_each, each_append, each_flat_map, each_map, each_of}
use Rattle.sanlp.proofs.Each.{each_range_with_len}
use Rattle.sanlp.proofs.Members.{at_in, each_in}
use Rattle.sanlp.proofs.Lists.{slice_get-map-range_with_len}
use Rattle.reorder_slots.specs.declared.slots.SlotPlan.{SlotPlan}
use Rattle.reorder_slots.specs.Slots.{gets_for}
use Rattle.channel_plan.specs.declared.plans.ChannelPlan.{ChannelPlan}
use Rattle.channel_plan.specs.Plans.{plans_of, slot_plan, sources_at, turn_count}
use Rattle.channel_plan.specs.Tokens.{tokens_below, uses_of}
use Rattle.channel_plan.proofs.OneSlot.{turn_of-own}
use Rattle.net_core.specs.declared.network.Channel.{Channel}
use Rattle.net_core.specs.declared.network.Event.{Event}
use Rattle.net_core.specs.declared.network.Event.TheVariants.{Get, Fire, Put}
use Rattle.net_core.specs.declared.network.Process.{Process}
use Rattle.net_core.specs.declared.refs.Ref.{Ref}
use Rattle.net_core.specs.Machine.{net_of}
use Rattle.net_core.specs.Shape.{IsWired, IsWithin, is_fire}
use Rattle.net_core.proofs.Ready.{script_short}
use Rattle.plain_data.proofs.Lists.{slice_get-some, slice_get-append_cons}
use Rattle.process_derive.specs.declared.incoming.Incoming.{Incoming}
use Rattle.process_derive.specs.Derived.{channel_of, net, process_of}
use Rattle.process_derive.specs.Scripts.{Usage, channel_from, gets_for_uses, gets_of, point_events, puts_from, ref_of}
use Rattle.process_derive.specs.Scripts.{script, slot_base, slots_of, usage, usage_from}
use Rattle.process_derive.specs.Uses.{uses_before}
use Rattle.process_derive.specs.Incoming.{comes_from, incoming_from}
use Rattle.process_derive.proofs.Channels.{AreSame, longer}
use Rattle.process_derive.proofs.Counts.{before_more}
use Rattle.process_derive.proofs.EachPlan.{each_plan}
use Rattle.process_derive.proofs.Numbers.{HasSlots, all_planned, before_within, count_channels, count_processes}
use Rattle.process_derive.proofs.Numbers.{found_slots, gets_here, numbers_fit, script_at}
use Rattle.process_derive.proofs.Scripts.{channel_same}
use Rattle.process_derive.proofs.Shares.{used}
use Rattle.process_derive.proofs.Slots.{gets_inside, uses_inside}
use Rattle.process_derive.proofs.Sums.{sum_at}

-- What an event may name

abbrev HasPlan : Nest → ℕ → (ChannelPlan → Type 0) → Type 0
HasPlan n c Q = (plan : ChannelPlan) × (slice_get (plans_of n) c ≡ Some plan) × Q plan

abbrev pub IsEventOf : Nest → ℕ → Event → Type 0
IsEventOf n p (Get c slot) = HasPlan n c (λ plan. plan.reader ≡ p) × (slot < slots_of (plans_of n) p)
IsEventOf n p (Fire refs) = Each (IsWithin (slots_of (plans_of n) p)) refs × (length refs ≡ read_count n p)
IsEventOf n p (Put c) = HasPlan n c (λ plan. plan.writer ≡ p)

-- a use of a channel of the process, with the number of a use that the channel has
record IsUsageOf (n : Nest) (p : ℕ) (u : Usage) : Type 0 where
  plan : ChannelPlan
  there : slice_get (plans_of n) u.channel ≡ Some plan
  reader : plan.reader ≡ p
  base : u.base ≡ slot_base (plans_of n) p u.channel
  same : u.slots ≡ plan.slots
  uses : List ℕ
  planned : u.slots ≡ slot_plan uses
  within : u.number < length uses

abbrev MayUse : Nest → ℕ → Option Usage → Type 0
MayUse n p None = Unit {0}
MayUse n p (Some u) = IsUsageOf n p u

found_there : (n : Nest) (p k w q : ℕ) (o : Option (ℕ × ChannelPlan)) → channel_from 0 (plans_of n) w p k ≡ o
    → HasSlots n p k w o → q < length (uses_of (used n p k w))
    → MayUse n p
    (option_map (λ (found : ℕ × ChannelPlan).
    record { channel = found.0; base = slot_base (plans_of n) p found.0; slots = found.1.slots; number = q }) o)
found_there n p k w q None e h within = tt
found_there n p k w q (Some found) e h within =
    let same : AreSame (plans_of n) p (find (comes_from w k) (incoming_from 0 0 (plans_of n) p)) (Some found) =
    subst (AreSame (plans_of n) p (find (comes_from w k) (incoming_from 0 0 (plans_of n) p))) e
    (channel_same (plans_of n) p w k) in
    let is = is_there n p (find (comes_from w k) (incoming_from 0 0 (plans_of n) p)) found same in
    record {
      plan = found.1;
      there = is.0;
      reader = is.1;
      base = refl;
      same = refl;
      uses = uses_of (used n p k w);
      planned = h;
      within = within;
    } where
      is_there : (n : Nest) (p : ℕ) (i : Option Incoming) (found : ℕ × ChannelPlan)
          → AreSame (plans_of n) p i (Some found)
          → (slice_get (plans_of n) found.0 ≡ Some found.1) × (found.1.reader ≡ p)
      is_there n p None found h = absurd h
      is_there n p (Some i) found h = (h.there, h.reader)

usage_there : (n : Nest) (p f k : ℕ) (o : Option (Option Tag)) → slice_get (sources_at n p k) f ≡ o
    → MayUse n p
    (option_and_then
    (λ source. option_and_then
    (λ (t : Tag). usage_from (plans_of n) (sources_at n p k) p k f t.process) source) o)
usage_there n p f k None e = tt
usage_there n p f k (Some None) e = tt
usage_there n p f k (Some (Some t)) e =
    let w : ℕ = t.process in
    let sources : List (Option Tag) = sources_at n p k in
    let next : f + 1 ≡ suc f = omega arith in
    let q : ℕ = uses_before sources f w in
    let here : uses_before sources (suc f) w ≡ suc q =
    sym (ap (λ j. uses_before sources j w) next) ∙ before_more sources f w (Some t) e
    ∙ ap (λ xs. q + length xs) (turn_of-own w t refl) ∙ omega arith in
    let within : q < length (uses_of (used n p k w)) =
    omega (arith, here, before_within sources (suc f) w, length-map (used n p k w) (tokens_below (used n p k w))) in
    found_there n p k w q (channel_from 0 (plans_of n) w p k) refl
    (found_slots n p k w 0 (plans_of n) (all_planned n)) within

may_use : (n : Nest) (p f k : ℕ) → MayUse n p (usage n p f k)
may_use n p f k = usage_there n p f k (slice_get (sources_at n p k) f) refl

-- The events of a use

abbrev weight : ℕ → ChannelPlan → ℕ
weight p plan = cond (eqb plan.reader p) plan.slots.hold 0

slot_within : (n : Nest) (p slot : ℕ) (u : Usage) → IsUsageOf n p u → slot < u.slots.hold
    → u.base + slot < slots_of (plans_of n) p
slot_within n p slot u is lt =
    let whole = sum_at (weight p) (plans_of n) u.channel is.plan is.there in
    let counted : weight p is.plan ≡ is.plan.slots.hold =
    ap (λ b. cond b is.plan.slots.hold 0) (eq-eqb is.plan.reader p is.reader) in
    omega (arith, whole, counted, lt, is.base, ap (λ (s : SlotPlan). s.hold) is.same)

gets_are : (n : Nest) (p : ℕ) (u : Option Usage) → MayUse n p u → Each (IsEventOf n p) (gets_of u)
gets_are n p None h = tt
gets_are n p (Some u) is =
    let done : ℕ = gets_for_uses u.slots u.number in
    let needed : ℕ = gets_for_uses u.slots (suc u.number) in
    let most : needed ≡ gets_for (take (u.number + 1) is.uses) =
    ap (λ s. gets_for_uses s (suc u.number)) is.planned ∙ gets_here is.uses u.number is.within in
    each_map (IsEventOf n p) (λ m. Get u.channel (u.base + slice_index u.slots.slot_of_get m))
    (range_with_len done (needed - done))
    (each_range_with_len (λ m. IsEventOf n p (Get u.channel (u.base + slice_index u.slots.slot_of_get m))) done
    (needed - done)
    (λ m from below. (
      (is.plan, is.there, is.reader),
      slot_within n p (slice_index u.slots.slot_of_get m) u is
          (subst (λ (s : SlotPlan). slice_index s.slot_of_get m < s.hold) (sym is.planned)
          (gets_inside is.uses (u.number + 1) m (omega (arith, most)))),
    )))

ref_within : (n : Nest) (p : ℕ) (u : Option Usage) → MayUse n p u → IsWithin (slots_of (plans_of n) p) (ref_of u)
ref_within n p None h = tt
ref_within n p (Some u) is =
    slot_within n p (slice_index u.slots.slot_of_use u.number) u is
    (subst (λ (s : SlotPlan). slice_index s.slot_of_use u.number < s.hold) (sym is.planned)
    (uses_inside is.uses u.number is.within))

puts_are : (n : Nest) (front rest : List ChannelPlan) (p f c : ℕ) → length front ≡ c → front ++ rest ≡ plans_of n
    → Each (IsEventOf n p) (puts_from c rest p f)
puts_are n front [] p f c e whole = tt
puts_are n front (plan ∷ rest) p f c e whole =
    let next =
    puts_are n (front ++ plan ∷ []) rest p f (suc c) (longer front plan ∙ ap suc e)
    (append_assoc front (plan ∷ []) rest ∙ whole) in
    let here : slice_get (plans_of n) c ≡ Some plan =
    ap (λ xs. slice_get xs c) (sym whole) ∙ ap (slice_get (front ++ plan ∷ rest)) (sym e)
    ∙ slice_get-append_cons front plan rest in
    elim (cases_Bool (eqb plan.writer p)) [
      | inl own ↦ elim (cases_Bool (slice_index_or plan.is_token f false)) [
        | inl token ↦ rw (own, token) (((plan, here, eqb-true plan.writer p own), next))
        | inr token ↦ rw (own, token) next
      ]
      | inr own ↦ rw own next
    ]

point_are : (n : Nest) (p f : ℕ) → Each (IsEventOf n p) (point_events n p f)
point_are n p f =
    let reads : List ℕ = range_with_len 0 (read_count n p) in
    let usages : List (Option Usage) = map (usage n p f) reads in
    each_append (IsEventOf n p) (flat_map gets_of usages) (Fire (map ref_of usages) ∷ puts_from 0 (plans_of n) p f)
    (each_flat_map (IsEventOf n p) gets_of usages (each_map (λ u. Each (IsEventOf n p) (gets_of u)) (usage n p f) reads
    (each_of (λ k. Each (IsEventOf n p) (gets_of (usage n p f k))) reads
    (λ k. gets_are n p (usage n p f k) (may_use n p f k))))) (
      (
        each_map (IsWithin (slots_of (plans_of n) p)) ref_of usages
            (each_map (λ u. IsWithin (slots_of (plans_of n) p) (ref_of u)) (usage n p f) reads
            (each_of (λ k. IsWithin (slots_of (plans_of n) p) (ref_of (usage n p f k))) reads
            (λ k. ref_within n p (usage n p f k) (may_use n p f k)))),
        length-map usages ref_of ∙ length-map-range_with_len (usage n p f) 0 (read_count n p),
      ),
      puts_are n [] (plans_of n) p f 0 refl refl,
    )

script_are : (n : Nest) (p : ℕ) → Each (IsEventOf n p) (script n p)
script_are n p =
    each_flat_map (IsEventOf n p) (point_events n p) (range_with_len 0 (turn_count n p))
    (each_of (λ f. Each (IsEventOf n p) (point_events n p f)) (range_with_len 0 (turn_count n p)) (point_are n p))

pub script_past : (n : Nest) (p : ℕ) → length n.statements ≤ p → (net_of (net n)).script p ≡ []
unfolding net
script_past n p le =
    ap (λ (o : Option Process). option_map_or (λ process. process.script) o [])
    (slice_get_past (map (process_of n) (range_with_len 0 (length n.statements))) p
    (omega (arith, length-map-range_with_len (process_of n) 0 (length n.statements))))

-- each event of a script is one that its process may have
pub event_is : (n : Nest) (p k : ℕ) (e : Event) → slice_get ((net_of (net n)).script p) k ≡ Some e
    → (p < length n.statements) × IsEventOf n p e
event_is n p k e is =
    elim (cases_lt p (length n.statements)) [
      | inl lt ↦
          let here : slice_get (script n p) k ≡ Some e = ap (λ xs. slice_get xs k) (sym (script_at n p lt)) ∙ is in
          (lt, each_in (IsEventOf n p) e (script n p) (script_are n p) (at_in e (script n p) k here))
      | inr le ↦ (let none : slice_get {X = Event} [] k ≡ Some e = ap (λ xs. slice_get xs k) (sym (script_past n p le))
          ∙ is in absurd (cc))
    ]

-- What the channels name

-- a channel's processes exist, and its read is one of the reader's
pub record IsChannelOf (n : Nest) (plan : ChannelPlan) : Type 0 where
  pub writer : plan.writer < length n.statements
  pub reader : plan.reader < length n.statements
  pub read : plan.read < read_count n plan.reader

pub all_channels : (n : Nest) → Each (IsChannelOf n) (plans_of n)
all_channels n =
    each_plan n (IsChannelOf n)
    (λ p k w process read writer from. record { writer = writer; reader = process; read = read })

pub channel_at : (n : Nest) (c : ℕ) (plan : ChannelPlan) → slice_get (plans_of n) c ≡ Some plan
    → slice_get (net n).channels c ≡ Some (channel_of plan)
unfolding net
channel_at n c plan e = slice_get-map channel_of (plans_of n) c ∙ ap (option_map channel_of) e

pub reader_at : (n : Nest) (c : ℕ) (plan : ChannelPlan) → slice_get (plans_of n) c ≡ Some plan
    → (net_of (net n)).reader c ≡ plan.reader
reader_at n c plan e =
    ap (λ (o : Option Channel). option_map_or (λ channel. channel.reader) o 0) (channel_at n c plan e)

pub writer_at : (n : Nest) (c : ℕ) (plan : ChannelPlan) → slice_get (plans_of n) c ≡ Some plan
    → (net_of (net n)).writer c ≡ plan.writer
writer_at n c plan e =
    ap (λ (o : Option Channel). option_map_or (λ channel. channel.writer) o 0) (channel_at n c plan e)

pub slots_there : (n : Nest) (p : ℕ) → p < length n.statements → (net_of (net n)).slots p ≡ slots_of (plans_of n) p
unfolding net
slots_there n p lt =
    ap (λ (o : Option Process). option_map_or (λ process. process.slots) o 0)
    (slice_get-map-range_with_len (process_of n) 0 (length n.statements) p p lt (omega arith))

channel_there : (n : Nest) (c : ℕ) → c < (net_of (net n)).channels → HasPlan n c (IsChannelOf n)
channel_there n c lt =
    let item = slice_get-some (plans_of n) c (omega (arith, count_channels n)) in
    (item.0, item.1, each_in (IsChannelOf n) item.0 (plans_of n) (all_channels n) (at_in item.0 (plans_of n) c item.1))

-- No Put stands before the first Fire

abbrev pub IsGet : Event → Type 0
IsGet (Get c slot) = Unit {0}
IsGet (Fire refs) = ⊥
IsGet (Put c) = ⊥

pub all_gets : (u : Option Usage) → Each IsGet (gets_of u)
all_gets None = tt
all_gets (Some u) =
    each_map IsGet (λ m. Get u.channel (u.base + slice_index u.slots.slot_of_get m))
    (range_with_len (gets_for_uses u.slots u.number)
    (gets_for_uses u.slots (suc u.number) - gets_for_uses u.slots u.number))
    (each_of (λ m. IsGet (Get u.channel (u.base + slice_index u.slots.slot_of_get m))) _ (λ m. tt))

count_cons : (e : Event) (es : List Event) → count_by is_fire (e ∷ es) ≡ cond (is_fire e) 1 0 + count_by is_fire es
count_cons e es = sum_by-cons (λ e. cond (is_fire e) 1 0) e es

fired_first : (gets : List Event) (refs : List Ref) (rest : List Event) (k c : ℕ) → Each IsGet gets
    → slice_get (gets ++ Fire refs ∷ rest) k ≡ Some (Put c)
    → 0 < count_by is_fire (take k (gets ++ Fire refs ∷ rest))
fired_first [] refs rest zero c h e = absurd (cc)
fired_first [] refs rest (suc k) c h e = omega (arith, count_cons (Fire refs) (take k rest))
fired_first (Get d slot ∷ gets) refs rest zero c h e = absurd (cc)
fired_first (Fire other ∷ gets) refs rest zero c h e = absurd h.0
fired_first (Put d ∷ gets) refs rest zero c h e = absurd h.0
fired_first (event ∷ gets) refs rest (suc k) c h e =
    omega (arith, count_cons event (take k (gets ++ Fire refs ∷ rest)), fired_first gets refs rest k c h.1 e)

fired_before : (n : Nest) (p turns k c : ℕ)
    → slice_get (flat_map (point_events n p) (range_with_len 0 turns)) k ≡ Some (Put c)
    → 0 < count_by is_fire (take k (flat_map (point_events n p) (range_with_len 0 turns)))
fired_before n p zero k c e = absurd (cc)
fired_before n p (suc turns) k c e =
    let reads : List ℕ = range_with_len 0 (read_count n p) in
    let usages : List (Option Usage) = map (usage n p 0) reads in
    let later : List Event = flat_map (point_events n p) (range_with_len (0 + 1) turns) in
    let split : flat_map (point_events n p) (range_with_len 0 (suc turns))
    ≡ flat_map gets_of usages ++ Fire (map ref_of usages) ∷ (puts_from 0 (plans_of n) p 0 ++ later) =
    flat_map-cons (point_events n p) 0 (range_with_len (0 + 1) turns)
    ∙ append_assoc (flat_map gets_of usages) (Fire (map ref_of usages) ∷ puts_from 0 (plans_of n) p 0) later in
    let gets =
    each_flat_map IsGet gets_of usages
    (each_map (λ u. Each IsGet (gets_of u)) (usage n p 0) reads
    (each_of (λ k. Each IsGet (gets_of (usage n p 0 k))) reads (λ k. all_gets (usage n p 0 k)))) in
    subst (λ es. 0 < count_by is_fire (take k es)) (sym split)
    (fired_first (flat_map gets_of usages) (map ref_of usages) (puts_from 0 (plans_of n) p 0 ++ later) k c gets
    (ap (λ es. slice_get es k) (sym split) ∙ e))

pub is_wired : (n : Nest) → IsWired (net_of (net n))
is_wired n = record {
  bounded = λ p le. script_past n p (omega (arith, count_processes n));
  writers =
      λ c lt. (let h = channel_there n c lt in omega (arith, writer_at n c h.0 h.1, h.2.writer, count_processes n));
  readers =
      λ c lt. (let h = channel_there n c lt in omega (arith, reader_at n c h.0 h.1, h.2.reader, count_processes n));
  get_channel =
      λ p k c slot e.
      (let h = (event_is n p k (Get c slot) e).1.0 in omega
      (arith, slice_get_within (plans_of n) c h.0 h.1, count_channels n));
  get_reader = λ p k c slot e. (let h = (event_is n p k (Get c slot) e).1.0 in reader_at n c h.0 h.1 ∙ h.2);
  get_slot = λ p k c slot e. (let h = event_is n p k (Get c slot) e in omega (arith, h.1.1, slots_there n p h.0));
  put_channel =
      λ p k c e. (let h = (event_is n p k (Put c) e).1 in omega
      (arith, slice_get_within (plans_of n) c h.0 h.1, count_channels n));
  put_writer = λ p k c e. (let h = (event_is n p k (Put c) e).1 in writer_at n c h.0 h.1 ∙ h.2);
  put_fired = λ p k c e. (let lt = (event_is n p k (Put c) e).0 in
      let there = script_at n p lt in
      subst (λ es. 0 < count_by is_fire (take k es)) (sym there)
      (fired_before n p (turn_count n p) k c (ap (λ es. slice_get es k) (sym there) ∙ e)));
  reference_slots = λ p k refs e. (let h = event_is n p k (Fire refs) e in
      subst (λ s. All (IsWithin s) refs) (sym (slots_there n p h.0))
      (all_from_each (IsWithin (slots_of (plans_of n) p)) refs h.1.0));
}

-- a script has fewer than 2 ^ 32 events
pub short_script : (n : Nest) (p : ℕ) → SizeIsOk n → p < length n.statements → length (script n p) < 2 ^ 32
short_script n p ok lt =
    omega (arith, ap length (script_at n p lt), script_short (net_of (net n)) (is_wired n) (numbers_fit n ok) p)
