-- Where the events of a point end in a script.
--
-- The events of a point are Gets, one Fire, and Puts. So from where a point begins its end is seen by
-- the events alone: it is behind the first Fire and the Puts that follow this (`point_length`), as long
-- as what comes next begins with no Put. The next point begins with a Get or its Fire, so that holds
-- (`points_begin`). A script is its points one after the other (`script_splits`), so behind the events
-- of the first f points the length that is found is that of point f (`point_found`).
use Rattle.std.proofs.Common.{◌≡◌, ℕ, zero, suc, ◌+◌, ◌-◌, ◌<◌, true, false, cond, Option, Some, None, List, [], ◌∷◌}
use Rattle.std.proofs.Common.{◌++◌, length, map, drop, refl, ap, ◌∙◌, arith, append_assoc, length-append}
use Rattle.std.specs.Prelude.{slice_index, slice_index_or, ◌==◌, ◌&&◌}
use Rattle.std.specs.List.{flat_map, range_with_len}
use Rattle.std.proofs.lemmas.List.{drop_at}
use Rattle.std.proofs.lemmas.List.Concat.{flat_map-append}
use Rattle.channel_plan.specs.declared.plans.ChannelPlan.{ChannelPlan}
use Rattle.channel_plan.specs.Plans.{plans_of, turn_count}
use Rattle.net_core.specs.declared.network.Event.{Event}
use Rattle.net_core.specs.declared.network.Event.TheVariants.{Get, Fire, Put}
use Rattle.net_core.specs.declared.refs.Ref.{Ref}
use Rattle.process_derive.specs.Scripts.{Usage, gets_for_uses, gets_of, point_events, puts_from, ref_of, script, usage}
use Rattle.sanlp.specs.Access.{read_count}
use Rattle.sanlp.specs.declared.nest.Nest.{Nest}
use Rattle.sanlp.proofs.Lists.{range_with_len-append}
use Rattle.witness_plan.specs.Steps.{point_length, put_length}

-- Gets in front

gets_passed : (c : ℕ) (slot : ℕ → ℕ) (ms : List ℕ) (es : List Event)
    → point_length (map (λ m. Get c (slot m)) ms ++ es) ≡ length (map (λ m. Get c (slot m)) ms) + point_length es
gets_passed c slot [] es = omega arith
gets_passed c slot (m ∷ ms) es = omega (arith, gets_passed c slot ms es)

gets_of_passed : (o : Option Usage) (es : List Event)
    → point_length (gets_of o ++ es) ≡ length (gets_of o) + point_length es
gets_of_passed None es = omega arith
gets_of_passed (Some u) es =
    let done = gets_for_uses u.slots u.number in
    gets_passed u.channel (λ m. u.base + slice_index u.slots.slot_of_get m)
    (range_with_len done (gets_for_uses u.slots (suc u.number) - done)) es

all_gets_passed : (us : List (Option Usage)) (es : List Event)
    → point_length (flat_map gets_of us ++ es) ≡ length (flat_map gets_of us) + point_length es
all_gets_passed [] es = omega arith
all_gets_passed (u ∷ us) es =
    let first =
    ap point_length (append_assoc (gets_of u) (flat_map gets_of us) es)
    ∙ gets_of_passed u (flat_map gets_of us ++ es) in
    omega (arith, first, all_gets_passed us es, length-append (gets_of u) (flat_map gets_of us))

gets_before : (c : ℕ) (slot : ℕ → ℕ) (ms : List ℕ) (es : List Event) → put_length es ≡ 0
    → put_length (map (λ m. Get c (slot m)) ms ++ es) ≡ 0
gets_before c slot [] es h = h
gets_before c slot (m ∷ ms) es h = refl

gets_of_before : (o : Option Usage) (es : List Event) → put_length es ≡ 0 → put_length (gets_of o ++ es) ≡ 0
gets_of_before None es h = h
gets_of_before (Some u) es h =
    let done = gets_for_uses u.slots u.number in
    gets_before u.channel (λ m. u.base + slice_index u.slots.slot_of_get m)
    (range_with_len done (gets_for_uses u.slots (suc u.number) - done)) es h

all_gets_before : (us : List (Option Usage)) (es : List Event) → put_length es ≡ 0
    → put_length (flat_map gets_of us ++ es) ≡ 0
all_gets_before [] es h = h
all_gets_before (u ∷ us) es h =
    ap put_length (append_assoc (gets_of u) (flat_map gets_of us) es)
    ∙ gets_of_before u (flat_map gets_of us ++ es) (all_gets_before us es h)

-- Puts behind

puts_passed : (c : ℕ) (plans : List ChannelPlan) (p f : ℕ) (es : List Event)
    → put_length (puts_from c plans p f ++ es) ≡ length (puts_from c plans p f) + put_length es
puts_passed c [] p f es = omega arith
puts_passed c (plan ∷ plans) p f es =
    elim ((plan.writer == p) && slice_index_or plan.is_token f false) as
    (λ b. put_length (cond b (Put c ∷ puts_from (suc c) plans p f) (puts_from (suc c) plans p f) ++ es)
    ≡ length (cond b (Put c ∷ puts_from (suc c) plans p f) (puts_from (suc c) plans p f)) + put_length es) [
      | true ↦ omega (arith, puts_passed (suc c) plans p f es)
      | false ↦ puts_passed (suc c) plans p f es
    ]

-- A point

parts_passed : (us : List (Option Usage)) (refs : List Ref) (plans : List ChannelPlan) (p f : ℕ) (es : List Event)
    → put_length es ≡ 0
    → point_length ((flat_map gets_of us ++ Fire refs ∷ puts_from 0 plans p f) ++ es)
    ≡ length (flat_map gets_of us ++ Fire refs ∷ puts_from 0 plans p f)
parts_passed us refs plans p f es h =
    let whole =
    ap point_length (append_assoc (flat_map gets_of us) (Fire refs ∷ puts_from 0 plans p f) es)
    ∙ all_gets_passed us (Fire refs ∷ (puts_from 0 plans p f ++ es)) in
    omega (
      arith,
      whole,
      puts_passed 0 plans p f es,
      length-append (flat_map gets_of us) (Fire refs ∷ puts_from 0 plans p f),
    )

-- a point ends where what follows begins with no Put
pub point_passed : (n : Nest) (p f : ℕ) (es : List Event) → put_length es ≡ 0
    → point_length (point_events n p f ++ es) ≡ length (point_events n p f)
point_passed n p f es h =
    let usages = map (usage n p f) (range_with_len 0 (read_count n p)) in
    parts_passed usages (map ref_of usages) (plans_of n) p f es h

-- a point begins with no Put
point_begins : (n : Nest) (p f : ℕ) (es : List Event) → put_length (point_events n p f ++ es) ≡ 0
point_begins n p f es =
    let usages = map (usage n p f) (range_with_len 0 (read_count n p)) in
    ap put_length (append_assoc (flat_map gets_of usages) (Fire (map ref_of usages) ∷ puts_from 0 (plans_of n) p f) es)
    ∙ all_gets_before usages (Fire (map ref_of usages) ∷ (puts_from 0 (plans_of n) p f ++ es)) refl

points_begin : (n : Nest) (p a m : ℕ) → put_length (flat_map (point_events n p) (range_with_len a m)) ≡ 0
points_begin n p a zero = refl
points_begin n p a (suc m) = point_begins n p a (flat_map (point_events n p) (range_with_len (a + 1) m))

-- Scripts

-- the events of the first so many points of process p
abbrev pub events_before : Nest → ℕ → ℕ → List Event
events_before n p f = flat_map (point_events n p) (range_with_len 0 f)

split_script : (n : Nest) (p f m : ℕ)
    → events_before n p (f + suc m)
    ≡ events_before n p f ++ (point_events n p f ++ flat_map (point_events n p) (range_with_len (f + 1) m))
split_script n p f m =
    let front : 0 + f ≡ f = omega arith in
    ap (flat_map (point_events n p)) (range_with_len-append 0 f (suc m))
    ∙ flat_map-append (point_events n p) (range_with_len 0 f) (range_with_len (0 + f) (suc m))
    ∙ ap (λ a. events_before n p f ++ flat_map (point_events n p) (range_with_len a (suc m))) front

pub script_splits : (n : Nest) (p f : ℕ) → f < turn_count n p
    → script n p
    ≡ events_before n p f
    ++ (point_events n p f ++ flat_map (point_events n p) (range_with_len (f + 1) (turn_count n p - f - 1)))
script_splits n p f lt =
    let whole : turn_count n p ≡ f + suc (turn_count n p - f - 1) = omega arith in
    ap (λ m. flat_map (point_events n p) (range_with_len 0 m)) whole ∙ split_script n p f (turn_count n p - f - 1)

-- behind the points before it a point is found
pub point_found : (n : Nest) (p f : ℕ) → f < turn_count n p
    → point_length (drop (length (events_before n p f)) (script n p)) ≡ length (point_events n p f)
point_found n p f lt =
    let later = flat_map (point_events n p) (range_with_len (f + 1) (turn_count n p - f - 1)) in
    ap point_length
    (ap (drop (length (events_before n p f))) (script_splits n p f lt)
    ∙ drop_at (events_before n p f) (point_events n p f ++ later) (length (events_before n p f)) refl)
    ∙ point_passed n p f later (points_begin n p (f + 1) (turn_count n p - f - 1))
