-- The slots of a channel: no slot is numbered past the hold, and the hold is no more than the Gets.
--
-- Two invariants hold as the Gets are made one after the other: there are no more slots than Gets, and no
-- Get's slot is numbered past the number of slots (`IsInside`); and each Get that was made has a slot below
-- that number (`AreBelow`). A Get takes a slot that is there or the next new one (`lowest_free-le`), and no
-- slot goes away, so both hold again. In the end the Gets for all uses are made (`all_made`), so each use's
-- slot is below the hold (`uses_inside`). That a slot still has its token when it is used isn't shown here.
use Rattle.std.proofs.Common.{◌≡◌, ◌<◌, ◌≤◌, ◌+◌, ◌-◌, ℕ, zero, suc, List, [], ◌∷◌, ◌++◌, map, length, take, drop}
use Rattle.std.proofs.Common.{get_or, ap, ◌∙◌, arith, length-append, length-drop, refl}
use Rattle.std.proofs.lemmas.List.{length-take-le}
use Rattle.std.specs.Prelude.{slice_index_or}
use Rattle.reorder_slots.specs.declared.slots.SlotPlan.{SlotPlan}
use Rattle.reorder_slots.specs.Slots.{Held, after_get, after_gets, filled, gets_for, held_after, hold_of}
use Rattle.reorder_slots.specs.Slots.{lowest_free, slots_of_gets, slots_of_uses}
use Rattle.reorder_slots.proofs.Gets.{length-after_gets}
use Rattle.reorder_slots.proofs.Held.{lowest_free-le}
use Rattle.reorder_slots.proofs.Uses.{named_below}
use Rattle.channel_plan.specs.Plans.{slot_plan}
use Rattle.sanlp.proofs.Each.{Each}

record IsInside (held : Held) : Type 0 where
  few : length held.slots ≤ length held.slot_of_get
  gets : (m : ℕ) → get_or held.slot_of_get m 0 ≤ length held.slots

length-filled : (slots : List ℕ) (slot token : ℕ) → slot ≤ length slots
    → length (filled slots slot token) ≡ slot + suc (length slots - (slot + 1))
length-filled slots slot token le =
    length-append (take slot slots) (token ∷ drop (slot + 1) slots)
    ∙ ap (λ k. k + suc (length (drop (slot + 1) slots))) (length-take-le slot slots le)
    ∙ ap (λ k. slot + suc k) (length-drop (slot + 1) slots)

read_push : (xs : List ℕ) (x m b : ℕ) → ((i : ℕ) → get_or xs i 0 ≤ b) → x ≤ b → get_or (xs ++ x ∷ []) m 0 ≤ b
read_push [] x zero b all le = le
read_push [] x (suc m) b all le = omega arith
read_push (y ∷ xs) x zero b all le = all 0
read_push (y ∷ xs) x (suc m) b all le = read_push xs x m b (λ i. all (suc i)) le

inside_get : (uses : List ℕ) (q : ℕ) (held : Held) → IsInside held → IsInside (after_get uses q held)
inside_get uses q held inside =
    let slot : ℕ = lowest_free uses q held.slots in
    let low : slot ≤ length held.slots = lowest_free-le uses q held.slots in
    let made = length-filled held.slots slot (length held.slot_of_get) low in
    let got = length-append held.slot_of_get (slot ∷ []) in
    record {
      few = omega (arith, made, got, inside.few);
      gets = λ m. read_push held.slot_of_get slot m (length (filled held.slots slot (length held.slot_of_get)))
          (λ i. omega (arith, made, inside.gets i)) (omega (arith, made));
    }

inside_gets : (uses : List ℕ) (q gets : ℕ) (held : Held) → IsInside held → IsInside (after_gets uses q gets held)
inside_gets uses q zero held inside = inside
inside_gets uses q (suc gets) held inside =
    inside_gets uses q gets (after_get uses q held) (inside_get uses q held inside)

inside_after : (uses : List ℕ) (q : ℕ) → IsInside (held_after uses q)
unfolding held_after
inside_after uses zero = record { few = omega arith; gets = λ m. omega arith }
inside_after uses (suc q) =
    inside_gets uses q (gets_for (take (q + 1) uses) - length (held_after uses q).slot_of_get) (held_after uses q)
    (inside_after uses q)

few_after : (uses : List ℕ) (limit : ℕ) → ((q : ℕ) → gets_for (take q uses) ≤ limit) → (q : ℕ)
    → length (held_after uses q).slot_of_get ≤ limit
unfolding held_after
few_after uses limit all zero = omega arith
few_after uses limit all (suc q) =
    let held : Held = held_after uses q in
    omega (
      arith,
      length-after_gets uses q (gets_for (take (q + 1) uses) - length held.slot_of_get) held,
      few_after uses limit all q,
      all (q + 1),
    )

pub few_gets : (uses : List ℕ) (limit : ℕ) → Each (λ token. token < limit) uses → gets_for uses ≤ limit
few_gets [] limit h = omega arith
few_gets (token ∷ uses) limit h = omega (arith, h.0, few_gets uses limit h.1)

pub each_take : (limit : ℕ) (q : ℕ) (uses : List ℕ) → Each (λ token. token < limit) uses
    → Each (λ token. token < limit) (take q uses)
each_take limit zero uses h = tt
each_take limit (suc q) [] h = tt
each_take limit (suc q) (token ∷ uses) h = (h.0, each_take limit q uses h.1)

-- No slot is numbered past the hold of a plan of slots.
pub record IsHeld (slots : SlotPlan) : Type 0 where
  pub gets : (m : ℕ) → get_or slots.slot_of_get m 0 ≤ slots.hold
  pub uses : (q : ℕ) → get_or slots.slot_of_use q 0 ≤ slots.hold

read_uses : (gets uses : List ℕ) (q b : ℕ) → ((m : ℕ) → get_or gets m 0 ≤ b)
    → get_or (map (λ token. slice_index_or gets token 0) uses) q 0 ≤ b
read_uses gets [] q b all = omega arith
read_uses gets (token ∷ uses) zero b all = all token
read_uses gets (token ∷ uses) (suc q) b all = read_uses gets uses q b all

pub plan_held : (uses : List ℕ) → IsHeld (slot_plan uses)
plan_held uses =
    let inside = inside_after uses (length uses) in
    record { gets = λ m. inside.gets m; uses = λ q. read_uses (slots_of_gets uses) uses q (hold_of uses) inside.gets }

-- each Get has a slot below the hold

read_push_below : (xs : List ℕ) (x m b : ℕ) → ((i : ℕ) → i < length xs → get_or xs i 0 < b) → x < b
    → m < length (xs ++ x ∷ []) → get_or (xs ++ x ∷ []) m 0 < b
read_push_below [] x zero b all lt within = lt
read_push_below [] x (suc m) b all lt within = absurd (omega arith)
read_push_below (y ∷ xs) x zero b all lt within = all 0 (omega arith)
read_push_below (y ∷ xs) x (suc m) b all lt within =
    read_push_below xs x m b (λ i h. all (suc i) (omega arith)) lt (omega arith)

abbrev AreBelow : Held → Type 0
AreBelow held = (m : ℕ) → m < length held.slot_of_get → get_or held.slot_of_get m 0 < length held.slots

below_get : (uses : List ℕ) (q : ℕ) (held : Held) → AreBelow held → AreBelow (after_get uses q held)
below_get uses q held below m lt =
    let slot : ℕ = lowest_free uses q held.slots in
    let low : slot ≤ length held.slots = lowest_free-le uses q held.slots in
    let made = length-filled held.slots slot (length held.slot_of_get) low in
    read_push_below held.slot_of_get slot m (length (filled held.slots slot (length held.slot_of_get)))
    (λ i h. omega (arith, made, below i h)) (omega (arith, made)) lt

below_gets : (uses : List ℕ) (q gets : ℕ) (held : Held) → AreBelow held → AreBelow (after_gets uses q gets held)
below_gets uses q zero held below = below
below_gets uses q (suc gets) held below = below_gets uses q gets (after_get uses q held) (below_get uses q held below)

below_after : (uses : List ℕ) (q : ℕ) → AreBelow (held_after uses q)
unfolding held_after
below_after uses zero = λ m lt. absurd (omega arith)
below_after uses (suc q) =
    below_gets uses q (gets_for (take (q + 1) uses) - length (held_after uses q).slot_of_get) (held_after uses q)
    (below_after uses q)

-- the Gets before so many uses are made
made_after : (uses : List ℕ) (q : ℕ) → gets_for (take q uses) ≤ length (held_after uses q).slot_of_get
unfolding held_after
made_after uses zero = omega arith
made_after uses (suc q) =
    let held : Held = held_after uses q in
    let next : suc q ≡ q + 1 = omega arith in
    omega (
      arith,
      length-after_gets uses q (gets_for (take (q + 1) uses) - length held.slot_of_get) held,
      ap (λ k. gets_for (take k uses)) next,
    )

gets_part : (uses : List ℕ) (q : ℕ) → gets_for (take q uses) ≤ gets_for uses
gets_part uses zero = omega arith
gets_part [] (suc q) = omega arith
gets_part (token ∷ uses) (suc q) = omega (arith, gets_part uses q)

take_whole : (uses : List ℕ) → take (length uses) uses ≡ uses
take_whole [] = refl
take_whole (token ∷ uses) = ap (λ ts. token ∷ ts) (take_whole uses)

pub all_made : (uses : List ℕ) → gets_for uses ≤ length (slots_of_gets uses)
all_made uses = omega (arith, made_after uses (length uses), ap gets_for (take_whole uses))

pub gets_inside : (uses : List ℕ) (q m : ℕ) → m < gets_for (take q uses)
    → get_or (slots_of_gets uses) m 0 < hold_of uses
gets_inside uses q m lt = below_after uses (length uses) m (omega (arith, lt, gets_part uses q, all_made uses))

read_token : (gets uses : List ℕ) (q : ℕ) → q < length uses
    → get_or (map (λ token. slice_index_or gets token 0) uses) q 0 ≡ get_or gets (get_or uses q 0) 0
read_token gets [] q lt = absurd (omega arith)
read_token gets (token ∷ uses) zero lt = refl
read_token gets (token ∷ uses) (suc q) lt = read_token gets uses q (omega arith)

pub uses_inside : (uses : List ℕ) (q : ℕ) → q < length uses → get_or (slots_of_uses uses) q 0 < hold_of uses
uses_inside uses q lt =
    omega (
      arith,
      read_token (slots_of_gets uses) uses q lt,
      below_after uses (length uses) (get_or uses q 0) (omega (arith, named_below uses q lt, all_made uses)),
    )

-- the hold is no more than the Gets
pub hold_made : (uses : List ℕ) (limit : ℕ) → gets_for uses ≤ limit → hold_of uses ≤ limit
hold_made uses limit le =
    omega (
      arith,
      (inside_after uses (length uses)).few,
      few_after uses limit (λ q. omega (arith, gets_part uses q, le)) (length uses),
    )
