-- The channels of a process among all channels.
--
-- A use is looked up among the incoming channels of its process, which are kept with their numbers and with where
-- their slots begin; the definition looks among all channels. Both find the same channel, or none (`found_same`).
-- The induction is along the channels that are left, behind those that were passed: how many these are is the
-- next channel's number, and the slots of p among them are where the next ones begin. By the same induction, with
-- the numbers alone, the Puts to the outgoing channels are those to all channels (`puts_same`).
use Rattle.std.proofs.Common.{◌≡◌, ◌+◌, ℕ, suc, true, false, cond, eqb, List, [], ◌∷◌, ◌++◌, length, take, refl, sym}
use Rattle.std.proofs.Common.{ap, ◌∙◌, subst, inl, inr, arith, append_assoc, eqb-true, length-append}
use Rattle.std.specs.Prelude.{Option, Some, None, slice_get, slice_index_or}
use Rattle.std.specs.List.{find}
use Rattle.std.specs.Option.{option_map_or}
use Rattle.std.proofs.lemmas.Bool.{cases_Bool}
use Rattle.std.proofs.lemmas.List.Sums.{sum_by-cons, sum_by-append}
use Rattle.std.proofs.Math.Seq.{take-append_seam}
use Rattle.channel_plan.specs.declared.plans.ChannelPlan.{ChannelPlan}
use Rattle.net_core.specs.declared.network.Event.TheVariants.{Put}
use Rattle.plain_data.proofs.Lists.{slice_get-append_cons}
use Rattle.process_derive.specs.declared.incoming.Incoming.{Incoming}
use Rattle.process_derive.specs.Incoming.{carries, comes_from, incoming_from, outgoing_from, puts_to}
use Rattle.process_derive.specs.Scripts.{channel_from, puts_from, slot_base, slots_of}

-- an incoming channel is the channel of this number, whose slots begin behind those of the channels before it
pub record IsChannel (plans : List ChannelPlan) (p : ℕ) (i : Incoming) (found : ℕ × ChannelPlan) : Type 0 where
  pub number : i.channel ≡ found.0
  pub base : i.base ≡ slot_base plans p found.0
  pub there : slice_get plans found.0 ≡ Some found.1
  pub reader : found.1.reader ≡ p

-- either both are found, or none
abbrev pub AreSame : List ChannelPlan → ℕ → Option Incoming → Option (ℕ × ChannelPlan) → Type 0
AreSame plans p None None = Unit {0}
AreSame plans p None (Some found) = ⊥
AreSame plans p (Some i) None = ⊥
AreSame plans p (Some i) (Some found) = IsChannel plans p i found

abbrev weight : ℕ → ChannelPlan → ℕ
weight p plan = cond (eqb plan.reader p) plan.slots.hold 0

slots_after : (front : List ChannelPlan) (plan : ChannelPlan) (p : ℕ)
    → slots_of (front ++ plan ∷ []) p ≡ slots_of front p + weight p plan
slots_after front plan p =
    sum_by-append (weight p) front (plan ∷ [])
    ∙ ap (λ k. slots_of front p + k) (sum_by-cons (weight p) plan [] ∙ omega arith)

pub longer : (front : List ChannelPlan) (plan : ChannelPlan) → length (front ++ plan ∷ []) ≡ suc (length front)
longer front plan = length-append front (plan ∷ []) ∙ omega arith

abbrev WhereFound : List ChannelPlan → ℕ → ℕ → ℕ → List ChannelPlan → Type 0
WhereFound front p w k rest =
    (c base : ℕ) → length front ≡ c → slots_of front p ≡ base
    → AreSame (front ++ rest) p (find (comes_from w k) (incoming_from c base rest p)) (channel_from c rest w p k)

found_here : (front rest : List ChannelPlan) (plan : ChannelPlan) (p c base : ℕ) → length front ≡ c
    → slots_of front p ≡ base → eqb plan.reader p ≡ true
    → IsChannel (front ++ plan ∷ rest) p (record { channel = c; read = plan.read; writer = plan.writer; base = base })
    (c, plan)
found_here front rest plan p c base e b own = record {
  number = refl;
  base = sym b ∙ ap (λ xs. slots_of xs p) (sym (take-append_seam front (plan ∷ rest)))
      ∙ ap (λ n. slots_of (take n (front ++ plan ∷ rest)) p) e;
  there = ap (slice_get (front ++ plan ∷ rest)) (sym e) ∙ slice_get-append_cons front plan rest;
  reader = eqb-true plan.reader p own;
}

pub found_same : (front rest : List ChannelPlan) (p w k : ℕ) → WhereFound front p w k rest
found_same front [] p w k c base e b = tt
found_same front (plan ∷ rest) p w k c base e b =
    let later : WhereFound (front ++ plan ∷ []) p w k rest = found_same (front ++ plan ∷ []) rest p w k in
    let counted : length (front ++ plan ∷ []) ≡ suc c = longer front plan ∙ ap suc e in
    elim (cases_Bool (eqb plan.reader p)) [
      | inl own ↦
          let slots : slots_of (front ++ plan ∷ []) p ≡ base + plan.slots.hold =
          slots_after front plan p ∙ ap (λ x. slots_of front p + cond x plan.slots.hold 0) own
          ∙ ap (λ x. x + plan.slots.hold) b in
          let next =
          subst (λ all.
          AreSame all p (find (comes_from w k) (incoming_from (suc c) (base + plan.slots.hold) rest p))
          (channel_from (suc c) rest w p k)) (append_assoc front (plan ∷ []) rest)
          (later (suc c) (base + plan.slots.hold) counted slots) in
          elim (cases_Bool (eqb plan.writer w)) [
            | inl from ↦ elim (cases_Bool (eqb plan.read k)) [
              | inl to ↦ rw (own, from, to) (found_here front rest plan p c base e b own)
              | inr to ↦ rw (own, from, to) next
            ]
            | inr from ↦ rw (own, from) next
          ]
      | inr own ↦
          let slots : slots_of (front ++ plan ∷ []) p ≡ base =
          slots_after front plan p ∙ ap (λ x. slots_of front p + cond x plan.slots.hold 0) own
          ∙ (let same : slots_of front p + 0 ≡ base = omega arith in same) in
          let next =
          subst (λ all.
          AreSame all p (find (comes_from w k) (incoming_from (suc c) base rest p))
          (channel_from (suc c) rest w p k)) (append_assoc front (plan ∷ []) rest)
          (later (suc c) base counted slots) in
          elim (cases_Bool (eqb plan.writer w)) [ inl from ↦ rw (own, from) next | inr from ↦ rw (own, from) next ]
    ]

carries_there : (plans : List ChannelPlan) (f c : ℕ) (plan : ChannelPlan) → slice_get plans c ≡ Some plan
    → carries plans f c ≡ slice_index_or plan.is_token f false
carries_there plans f c plan e = ap (λ o. option_map_or (λ plan. slice_index_or plan.is_token f false) o false) e

-- the Puts to the outgoing channels are those to all channels of the process
pub puts_same : (front rest : List ChannelPlan) (p f c : ℕ) → length front ≡ c
    → puts_to (front ++ rest) (outgoing_from c rest p) f ≡ puts_from c rest p f
puts_same front [] p f c e = refl
puts_same front (plan ∷ rest) p f c e =
    let next : puts_to (front ++ plan ∷ rest) (outgoing_from (suc c) rest p) f ≡ puts_from (suc c) rest p f =
    ap (λ all. puts_to all (outgoing_from (suc c) rest p) f) (sym (append_assoc front (plan ∷ []) rest))
    ∙ puts_same (front ++ plan ∷ []) rest p f (suc c) (longer front plan ∙ ap suc e) in
    let here : carries (front ++ plan ∷ rest) f c ≡ slice_index_or plan.is_token f false =
    carries_there (front ++ plan ∷ rest) f c plan
    (ap (slice_get (front ++ plan ∷ rest)) (sym e) ∙ slice_get-append_cons front plan rest) in
    elim (cases_Bool (eqb plan.writer p)) [
      | inl own ↦ elim (cases_Bool (slice_index_or plan.is_token f false)) [
        | inl token ↦ rw (own, here, token) (ap (λ es. Put c ∷ es) next)
        | inr token ↦ rw (own, here, token) next
      ]
      | inr own ↦ rw own next
    ]
