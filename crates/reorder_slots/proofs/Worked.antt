-- The slots of worked channels, computed from the definitions.
use Rattle.std.proofs.Common.{◌≡◌, ℕ, List, [], ◌∷◌, refl}
use Rattle.reorder_slots.specs.Slots.{gets_before, held_after, hold_of, slots_of_gets, slots_of_uses}

-- for j < 2 for i < 2 b[j][i] = a[i][j]
abbrev turned : List ℕ
turned = 0 ∷ 2 ∷ 1 ∷ 3 ∷ []

turned_gets : gets_before turned ≡ 1 ∷ 3 ∷ 3 ∷ 4 ∷ []
turned_gets = refl

turned_slots : slots_of_gets turned ≡ 0 ∷ 0 ∷ 1 ∷ 0 ∷ []
unfolding held_after
turned_slots = refl

turned_uses : slots_of_uses turned ≡ 0 ∷ 1 ∷ 0 ∷ 0 ∷ []
unfolding held_after
turned_uses = refl

turned_hold : hold_of turned ≡ 2
unfolding held_after
turned_hold = refl

-- for i < 2 for j < 3 b[i][j] = x[2-j]
abbrev reversed_twice : List ℕ
reversed_twice = 2 ∷ 1 ∷ 0 ∷ 2 ∷ 1 ∷ 0 ∷ []

reversed_slots : slots_of_gets reversed_twice ≡ 0 ∷ 1 ∷ 2 ∷ []
unfolding held_after
reversed_slots = refl

reversed_uses : slots_of_uses reversed_twice ≡ 2 ∷ 1 ∷ 0 ∷ 2 ∷ 1 ∷ 0 ∷ []
unfolding held_after
reversed_uses = refl

reversed_hold : hold_of reversed_twice ≡ 3
unfolding held_after
reversed_hold = refl
