-- What the fires use for the first so many reads.
use Rattle.std.proofs.Common.{◌≡◌, ◌≤◌, ◌+◌, ℕ, zero, suc, List, [], ◌∷◌, ◌++◌, map, length, take, refl, sym, ap, ◌∙◌}
use Rattle.std.proofs.Common.{arith, add-one, append_assoc}
use Rattle.std.specs.Prelude.{Option, Some, slice_get}
use Rattle.std.specs.List.{flat_map}
use Rattle.std.specs.Option.{option_and_then}
use Rattle.std.proofs.lemmas.Grind.{flat_map-append}
use Rattle.std.proofs.lemmas.List.{length-map, map-append}
use Rattle.std.proofs.lemmas.List.Concat.{flat_map-cons}
use Rattle.channel_plan.specs.declared.plans.ChannelPlan.{ChannelPlan}
use Rattle.net_core.specs.declared.network.Event.{Event}
use Rattle.net_core.specs.declared.refs.Ref.{Ref}
use Rattle.plain_data.proofs.Lists.{take-suc_some}
use Rattle.process_derive.specs.declared.uses.ChannelUse.{ChannelUse}
use Rattle.process_derive.specs.Scripts.{Usage, gets_of, ref_of}
use Rattle.process_derive.specs.Uses.{usages_at, with_slots}

at_end : {X : Type 0} (xs : List X) → xs ++ [] ≡ xs
at_end [] = refl
at_end (x ∷ xs) = ap (λ ys. x ∷ ys) (at_end xs)

usages_more : (plans : List ChannelPlan) (uses : List (List (Option ChannelUse))) (i f : ℕ)
    (list : List (Option ChannelUse)) → slice_get uses i ≡ Some list
    → usages_at plans (take (i + 1) uses) f
    ≡ usages_at plans (take i uses) f ++ with_slots plans (option_and_then (λ found. found) (slice_get list f)) ∷ []
usages_more plans uses i f list e =
    ap (λ k. usages_at plans (take k uses) f) (add-one i)
    ∙ ap (λ xs. usages_at plans xs f) (take-suc_some uses i list e)
    ∙ map-append (λ list. with_slots plans (option_and_then (λ found. found) (slice_get list f))) (take i uses)
    (list ∷ [])

-- one read more
pub gets_more : (plans : List ChannelPlan) (uses : List (List (Option ChannelUse))) (i f : ℕ)
    (list : List (Option ChannelUse)) (found : Option ChannelUse) (first before after : List Event)
    → slice_get uses i ≡ Some list → found ≡ option_and_then (λ found. found) (slice_get list f)
    → before ≡ first ++ flat_map gets_of (usages_at plans (take i uses) f)
    → after ≡ before ++ gets_of (with_slots plans found)
    → after ≡ first ++ flat_map gets_of (usages_at plans (take (i + 1) uses) f)
gets_more plans uses i f list found first before after e is was g =
    let done : List (Option Usage) = usages_at plans (take i uses) f in
    g ∙ ap (λ xs. xs ++ gets_of (with_slots plans found)) was
    ∙ append_assoc first (flat_map gets_of done) (gets_of (with_slots plans found))
    ∙ ap (λ o. first ++ (flat_map gets_of done ++ gets_of (with_slots plans o))) is
    ∙ ap (λ xs. first ++ (flat_map gets_of done ++ xs))
    (sym (flat_map-cons gets_of (with_slots plans (option_and_then (λ found. found) (slice_get list f))) []
    ∙ at_end (gets_of (with_slots plans (option_and_then (λ found. found) (slice_get list f))))))
    ∙ ap (λ xs. first ++ xs)
    (sym (flat_map-append gets_of done
    (with_slots plans (option_and_then (λ found. found) (slice_get list f)) ∷ [])))
    ∙ ap (λ us. first ++ flat_map gets_of us) (sym (usages_more plans uses i f list e))

pub refs_more : (plans : List ChannelPlan) (uses : List (List (Option ChannelUse))) (i f : ℕ)
    (list : List (Option ChannelUse)) (found : Option ChannelUse) (named : Ref) (before after : List Ref)
    → slice_get uses i ≡ Some list → found ≡ option_and_then (λ found. found) (slice_get list f)
    → named ≡ ref_of (with_slots plans found)
    → before ≡ map ref_of (usages_at plans (take i uses) f) → after ≡ before ++ named ∷ []
    → after ≡ map ref_of (usages_at plans (take (i + 1) uses) f)
refs_more plans uses i f list found named before after e is names was g =
    let done : List (Option Usage) = usages_at plans (take i uses) f in
    g ∙ ap (λ xs. xs ++ named ∷ []) was
    ∙ ap (λ r. map ref_of done ++ r ∷ []) (names ∙ ap (λ o. ref_of (with_slots plans o)) is)
    ∙ sym (map-append ref_of done (with_slots plans (option_and_then (λ found. found) (slice_get list f)) ∷ []))
    ∙ ap (map ref_of) (sym (usages_more plans uses i f list e))

pub few_refs : (plans : List ChannelPlan) (uses : List (List (Option ChannelUse))) (i f : ℕ) (refs : List Ref)
    → refs ≡ map ref_of (usages_at plans (take i uses) f) → length refs ≤ i
few_refs plans uses i f refs e =
    omega (
      arith,
      ap length e,
      length-map (usages_at plans (take i uses) f) ref_of,
      length-map (take i uses)
          (λ list. with_slots plans (option_and_then (λ found. found) (slice_get list f))),
      length_take_le i uses,
    ) where
      length_take_le : (t : ℕ) (xs : List (List (Option ChannelUse))) → length (take t xs) ≤ t
      length_take_le zero xs = omega arith
      length_take_le (suc t) [] = omega arith
      length_take_le (suc t) (x ∷ xs) = omega (arith, length_take_le t xs)
