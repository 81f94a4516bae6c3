-- There are no more items than events.
--
-- An event adds one item or none: a Get or a Fire that goes with the item next to it adds none. A port that begins
-- behind a Fire has one item less in front and one more at the end, so no more either.
use Rattle.std.proofs.Common.{◌≡◌, ℕ, ◌+◌, ◌≤◌, Bool, true, false, cond, eqb, is_none, List, [], ◌∷◌}
use Rattle.std.proofs.Common.{length, refl, inl, inr, arith}
use Rattle.std.proofs.lemmas.Bool.{cases_Bool}
use Rattle.net_core.specs.declared.network.Event.{Event}
use Rattle.net_core.specs.declared.network.Event.TheVariants.{Get, Fire, Put}
use Rattle.port_items.specs.declared.items.GetItem.{GetItem}
use Rattle.port_items.specs.declared.items.PutItem.{PutItem}
use Rattle.port_items.specs.Items.{begins_with_fire, fire_items, get_items, get_items_before, only_fire, port_gets, put_items}
use Rattle.port_items.specs.Items.{without_fire, without_put}

pub few_fires : (script : List Event) → length (fire_items script) ≤ length script
few_fires [] = omega arith
few_fires (Get c slot ∷ script) = omega (arith, few_fires script)
few_fires (Fire refs ∷ script) = omega (arith, few_fires script)
few_fires (Put c ∷ script) = omega (arith, few_fires script)

either_short : {X : Type 0} (b : Bool) (xs ys : List X) (m : ℕ) → length xs ≤ m → length ys ≤ m → length (cond b xs ys) ≤ m
either_short true xs ys m x y = x
either_short false xs ys m x y = y

length_without_fire : (items : List GetItem) → length (without_fire items) ≤ length items
length_without_fire [] = omega arith
length_without_fire (item ∷ items) =
    either_short (is_none item.get) items (item ∷ items) (length (item ∷ items)) (omega arith) (omega arith)

length_without_put : (items : List PutItem) → length (without_put items) ≤ length items
length_without_put [] = omega arith
length_without_put (item ∷ items) =
    either_short item.fire (item ∷ items) items (length (item ∷ items)) (omega arith) (omega arith)

few_gets : (c : ℕ) (behind : List GetItem) (script : List Event)
    → length (get_items_before c behind script) ≤ length script + length behind
few_gets c behind [] = omega arith
few_gets c behind (Get d slot ∷ script) =
    either_short (eqb c d) _ _ _
    (omega (arith, few_gets c behind script, length_without_fire (get_items_before c behind script)))
    (omega (arith, few_gets c behind script))
few_gets c behind (Fire refs ∷ script) = omega (arith, few_gets c behind script)
few_gets c behind (Put d ∷ script) = omega (arith, few_gets c behind script)

pub few_puts : (c : ℕ) (script : List Event) → length (put_items c script) ≤ length script
few_puts c [] = omega arith
few_puts c (Get d slot ∷ script) = omega (arith, few_puts c script)
few_puts c (Fire refs ∷ script) = omega (arith, few_puts c script, length_without_put (put_items c script))
few_puts c (Put d ∷ script) =
    either_short (eqb c d) _ _ _ (omega (arith, few_puts c script)) (omega (arith, few_puts c script))

-- the first Fire stands in front whatever comes behind the script
pub begins_alike : (c : ℕ) (behind : List GetItem) (script : List Event)
    → begins_with_fire (get_items c script) ≡ true
    → begins_with_fire (get_items_before c behind script) ≡ true
begins_alike c behind [] t = absurd (cc)
begins_alike c behind (Get d slot ∷ script) t =
    elim (cases_Bool (eqb c d)) [
      | inl here ↦ let wrong = rw here at t in absurd (cc)
      | inr other ↦ let later = rw other at t in rw other (begins_alike c behind script later)
    ]
begins_alike c behind (Fire refs ∷ script) t = refl
begins_alike c behind (Put d ∷ script) t = begins_alike c behind script t

shorter : (items : List GetItem) (m : ℕ) → begins_with_fire items ≡ true → length items ≤ m + 1
    → length (without_fire items) ≤ m
shorter [] m t le = omega arith
shorter (item ∷ items) m t le = rw t (omega arith)

pub few_port_gets : (c : ℕ) (script : List Event) → length (port_gets c script) ≤ length script
few_port_gets c script =
    elim (cases_Bool (begins_with_fire (get_items c script))) [
      | inl t ↦
          rw t (shorter (get_items_before c (only_fire ∷ []) script) (length script)
          (begins_alike c (only_fire ∷ []) script t) (few_gets c (only_fire ∷ []) script))
      | inr f ↦
          rw f (omega (arith, few_gets c [] script, length_without_fire (get_items c script)))
    ]
