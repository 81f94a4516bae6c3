-- That a network is wired has one proof at most, so that a type can keep it.
use Rattle.std.specs.Prelude.{◌≡◌, ◌⊎◌, ℕ, List, Option, Some, None, refl}
use Rattle.std.specs.Coded.{Coded, Unit-prop, le_prop, code_by, coded×, coded⊎, coded_list, coded_option, coded_ℕ}
use Rattle.std.proofs.Common.{inl, inr}
use Rattle.std.proofs.Props.{props}
use Rattle.net_core.specs.declared.refs.Ref.{Ref}
use Rattle.net_core.specs.declared.refs.Ref.TheVariants.{Zero, Slot}
use Rattle.net_core.specs.declared.network.Event.{Event}
use Rattle.net_core.specs.declared.network.Event.TheVariants.{Get, Fire, Put}
use Rattle.net_core.specs.Shape.{IsWithin}

-- a reference is within its limit in one way at most
pub IsWithin-prop : (slots : ℕ) (r : Ref) → IsProp (IsWithin slots r)
IsWithin-prop slots Zero = Unit-prop
IsWithin-prop slots (Slot k) = le_prop

abbrev slot_of : Ref → Option ℕ
slot_of Zero = None
slot_of (Slot k) = Some k

abbrev at_slot : Option ℕ → Ref
at_slot None = Zero
at_slot (Some k) = Slot k

pub same_slot : (r : Ref) → at_slot (slot_of r) ≡ r
same_slot Zero = refl
same_slot (Slot k) = refl

-- a reference is told by its slot
abbrev pub ref_code : Coded Ref
ref_code = code_by (Option ℕ) (coded_option coded_ℕ) slot_of at_slot same_slot

abbrev fields_of : Event → (ℕ × ℕ) ⊎ (List Ref ⊎ ℕ)
fields_of (Get c slot) = inl (c, slot)
fields_of (Fire refs) = inr (inl refs)
fields_of (Put c) = inr (inr c)

abbrev with_fields : (ℕ × ℕ) ⊎ (List Ref ⊎ ℕ) → Event
with_fields (inl f) = Get f.0 f.1
with_fields (inr (inl refs)) = Fire refs
with_fields (inr (inr c)) = Put c

pub same_fields : (e : Event) → with_fields (fields_of e) ≡ e
same_fields (Get c slot) = refl
same_fields (Fire refs) = refl
same_fields (Put c) = refl

-- an event is told by its kind and its fields
abbrev pub event_code : Coded Event
event_code =
    code_by ((ℕ × ℕ) ⊎ (List Ref ⊎ ℕ))
    (coded⊎ (coded× coded_ℕ coded_ℕ) (coded⊎ (coded_list ref_code) coded_ℕ))
    fields_of with_fields same_fields

-- the set by which a network is wired in one way at most
pub ruleset wired_props = (props, IsWithin-prop, event_code)
