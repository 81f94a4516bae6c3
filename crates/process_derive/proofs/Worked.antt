-- The scripts of worked processes, computed from the definitions.
--
-- The plans of the channels and the sources are written out, so what is computed is only what the scripts make of
-- them. The first reader uses its tokens in another order than they are put, for which it gets one ahead. The second
-- uses each token twice, and gets all of them before its first fire. The third has one read with two writers, whose
-- channels have slots of their own, side by side. They are examples: nothing follows from them for other plans.
use Rattle.std.proofs.Common.{◌≡◌, ℕ, zero, suc, Bool, true, false, List, [], ◌∷◌, ◌++◌, refl}
use Rattle.std.specs.Prelude.{Option, Some}
use Rattle.std.specs.List.{flat_map, range_with_len}
use Rattle.channel_class.specs.declared.ChannelClass.{ChannelClass}
use Rattle.channel_class.specs.declared.UseOrder.TheVariants.{InOrder, Reorder}
use Rattle.channel_plan.specs.declared.plans.ChannelPlan.{ChannelPlan}
use Rattle.net_core.specs.declared.network.Event.{Event}
use Rattle.net_core.specs.declared.network.Event.TheVariants.{Get, Fire, Put}
use Rattle.net_core.specs.declared.refs.Ref.TheVariants.{Slot}
use Rattle.sanlp.specs.declared.nest.Tag.{Tag}
use Rattle.process_derive.specs.Scripts.{gets_of, puts_from, ref_of, slots_of, usage_from}

abbrev tag : ℕ → ℕ → Option Tag
tag process turn = Some (record { process = process; turn = turn })

abbrev in_order : ChannelClass
in_order = record { order = InOrder; multiplicity = false }

-- a channel that is in order, each of whose tokens is used once
abbrev in_turn : ℕ → ℕ → List Bool → ℕ → List ℕ → List ℕ → ChannelPlan
in_turn writer reader is_token tokens gets slots = record {
  reader = reader;
  read = 0;
  writer = writer;
  is_token = is_token;
  tokens = tokens;
  class = in_order;
  slots = record { gets_before = gets; slot_of_get = slots; slot_of_use = slots; hold = 1 };
}

-- the events of the first so many points of process p, which has one read with these sources, from process w
abbrev script_by : List ChannelPlan → List (Option Tag) → ℕ → (ℕ → ℕ) → ℕ → List Event
script_by plans sources p w fires =
    flat_map (λ f.
    gets_of (usage_from plans sources p 0 f (w f))
    ++ Fire (ref_of (usage_from plans sources p 0 f (w f)) ∷ []) ∷ puts_from 0 plans p f)
    (range_with_len 0 fires)

-- for j < 2 for i < 2 b[j][i] = a[i][j]
abbrev turned_plans : List ChannelPlan
turned_plans =
    record {
      reader = 1;
      read = 0;
      writer = 0;
      is_token = true ∷ true ∷ true ∷ true ∷ [];
      tokens = 4;
      class = record { order = Reorder; multiplicity = false };
      slots = record {
        gets_before = 1 ∷ 3 ∷ 3 ∷ 4 ∷ [];
        slot_of_get = 0 ∷ 0 ∷ 1 ∷ 0 ∷ [];
        slot_of_use = 0 ∷ 1 ∷ 0 ∷ 0
            ∷ [];
        hold = 2;
      };
    } ∷ in_turn 1 2 (true ∷ true ∷ true ∷ true ∷ []) 4 (1 ∷ 2 ∷ 3 ∷ 4 ∷ []) (0 ∷ 0 ∷ 0 ∷ 0 ∷ []) ∷ []

turned : script_by turned_plans (tag 0 0 ∷ tag 0 2 ∷ tag 0 1 ∷ tag 0 3 ∷ []) 1 (λ f. 0) 4
    ≡ Get 0 0 ∷ Fire (Slot 0 ∷ []) ∷ Put 1
    ∷ Get 0 0 ∷ Get 0 1 ∷ Fire (Slot 1 ∷ []) ∷ Put 1
    ∷ Fire (Slot 0 ∷ []) ∷ Put 1
    ∷ Get 0 0 ∷ Fire (Slot 0 ∷ []) ∷ Put 1 ∷ []
turned = refl

turned_slots : slots_of turned_plans 1 ≡ 2
turned_slots = refl

-- for i < 2 for j < 3 b[i][j] = x[2-j]
abbrev reversed_plans : List ChannelPlan
reversed_plans =
    record {
      reader = 1;
      read = 0;
      writer = 0;
      is_token = true ∷ true ∷ true ∷ [];
      tokens = 3;
      class = record { order = Reorder; multiplicity = true };
      slots = record {
        gets_before = 3 ∷ 3 ∷ 3 ∷ 3 ∷ 3 ∷ 3 ∷ [];
        slot_of_get = 0 ∷ 1 ∷ 2 ∷ [];
        slot_of_use = 2 ∷ 1 ∷ 0 ∷ 2 ∷ 1 ∷ 0 ∷ [];
        hold = 3;
      };
    } ∷ []

reversed : script_by reversed_plans (tag 0 2 ∷ tag 0 1 ∷ tag 0 0 ∷ tag 0 2 ∷ tag 0 1 ∷ tag 0 0 ∷ []) 1 (λ f. 0) 6
    ≡ Get 0 0 ∷ Get 0 1 ∷ Get 0 2 ∷ Fire (Slot 2 ∷ []) ∷ Fire (Slot 1 ∷ []) ∷ Fire (Slot 0 ∷ [])
    ∷ Fire (Slot 2 ∷ []) ∷ Fire (Slot 1 ∷ []) ∷ Fire (Slot 0 ∷ []) ∷ []
reversed = refl

-- for i < 3 { if (i < 2) { a[i] = x[i]; } else { a[i] = 0 - x[i]; } } for i < 3 y[i] = a[i]
abbrev branched_plans : List ChannelPlan
branched_plans =
    in_turn 0 1 (true ∷ true ∷ false ∷ []) 2 (1 ∷ 2 ∷ []) (0 ∷ 0 ∷ [])
    ∷ in_turn 0 2 (false ∷ false ∷ true ∷ []) 1 (1 ∷ []) (0 ∷ [])
    ∷ in_turn 1 3 (true ∷ true ∷ []) 2 (1 ∷ 2 ∷ []) (0 ∷ 0 ∷ [])
    ∷ in_turn 2 3 (true ∷ []) 1 (1 ∷ []) (0 ∷ [])
    ∷ in_turn 3 4 (true ∷ true ∷ true ∷ []) 3 (1 ∷ 2 ∷ 3 ∷ []) (0 ∷ 0 ∷ 0 ∷ []) ∷ []

abbrev branch : ℕ → ℕ
branch zero = 1
branch (suc zero) = 1
branch (suc (suc f)) = 2

branched : script_by branched_plans (tag 1 0 ∷ tag 1 1 ∷ tag 2 0 ∷ []) 3 branch 3
    ≡ Get 2 0 ∷ Fire (Slot 0 ∷ []) ∷ Put 4 ∷ Get 2 0 ∷ Fire (Slot 0 ∷ []) ∷ Put 4 ∷ Get 3 1 ∷ Fire
    (Slot 1 ∷ []) ∷ Put 4 ∷ []
branched = refl

branched_slots : slots_of branched_plans 3 ≡ 2
branched_slots = refl

-- a source puts each of its values to the channel that carries it
branched_puts : flat_map (puts_from 0 branched_plans 0) (range_with_len 0 3) ≡ Put 0 ∷ Put 0 ∷ Put 1 ∷ []
branched_puts = refl
