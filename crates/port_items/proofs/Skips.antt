-- A walk that is to skip the first Fire of a script, before which there is no Get.
--
-- As long as it is yet to be skipped no item is made and no Get waits, and what is left begins with that Fire: any
-- other event is none of the port's. Once it is skipped, what is left is owed as it is. At the end it was skipped,
-- since nothing is left.
use Rattle.std.proofs.Common.{◌≡◌, ℕ, ◌<◌, Bool, true, false, not, cond, eqb, Option, Some, None, List, [], ◌∷◌, ◌++◌}
use Rattle.std.proofs.Common.{length, ap, sym, ◌∙◌, refl, inl, inr, arith}
use Rattle.std.proofs.lemmas.Bool.{cases_Bool}
use Rattle.net_core.specs.declared.network.Event.{Event}
use Rattle.net_core.specs.declared.network.Event.TheVariants.{Get, Fire, Put}
use Rattle.net_core.specs.Shape.{is_fire}
use Rattle.port_items.specs.declared.items.GetItem.{GetItem}
use Rattle.port_items.specs.Items.{begins_with_fire, fire_if, get_items, get_items_before, port_gets, without_fire}
use Rattle.port_items.specs.Walks.{behind_get, left_of_gets}
use Rattle.port_items.proofs.Lengths.{few_port_gets}

-- an event that isn't the Fire leaves all as it is
still_begins : (c : ℕ) (e : Event) (rest : List Event) → begins_with_fire (get_items c (e ∷ rest)) ≡ true
    → not (is_fire e) ≡ true → begins_with_fire (get_items c rest) ≡ true
still_begins c (Get d slot) rest begins other =
    elim (cases_Bool (eqb c d)) [
      | inl here ↦ let wrong = rw here at begins in absurd (cc)
      | inr there ↦ let same = rw there at begins in same
    ]
still_begins c (Fire refs) rest begins other = absurd (cc)
still_begins c (Put d) rest begins other = begins

skipped : (c : ℕ) (b : Bool) (e : Event) (rest : List Event) → begins_with_fire (get_items c (e ∷ rest)) ≡ true
    → without_fire (get_items_before c (fire_if b) (e ∷ rest))
    ≡ left_of_gets (not (is_fire e)) None (get_items_before c (fire_if b) rest)
skipped c b (Get d slot) rest begins =
    elim (cases_Bool (eqb c d)) [
      | inl here ↦ let wrong = rw here at begins in absurd (cc)
      | inr there ↦ ap (λ (x : Bool). without_fire (cond x (record { get = Some slot; fire = begins_with_fire (get_items_before c (fire_if b) rest) } ∷ without_fire (get_items_before c (fire_if b) rest)) (get_items_before c (fire_if b) rest))) there
    ]
skipped c b (Fire refs) rest begins = refl
skipped c b (Put d) rest begins = refl

pub skips_on : (c : ℕ) (old : List Event) (e : Event) (rest : List Event) (fire : Bool) → old ≡ e ∷ rest
    → fire ≡ is_fire e
    → begins_with_fire (get_items c old) ≡ true → not fire ≡ true → begins_with_fire (get_items c rest) ≡ true
skips_on c old e rest fire is tells begins on =
    still_begins c e rest (ap (λ s. begins_with_fire (get_items c s)) (sym is) ∙ begins) (ap not (sym tells) ∙ on)

pub skips_left : (c : ℕ) (b : Bool) (old : List Event) (e : Event) (rest : List Event) (fire skips : Bool)
    (waiting : Option ℕ) (items all : List GetItem) → old ≡ e ∷ rest → fire ≡ is_fire e → skips ≡ true → waiting ≡ None
    → begins_with_fire (get_items c old) ≡ true
    → items ++ left_of_gets skips waiting (get_items_before c (fire_if b) old) ≡ all
    → items ++ left_of_gets (not fire) waiting (get_items_before c (fire_if b) rest) ≡ all
skips_left c b old e rest fire skips waiting items all is tells on none begins left =
    ap (λ w. items ++ left_of_gets (not fire) w (get_items_before c (fire_if b) rest)) none
    ∙ ap (λ f. items ++ left_of_gets (not f) None (get_items_before c (fire_if b) rest)) tells
    ∙ ap (λ l. items ++ l) (sym (skipped c b e rest (ap (λ s. begins_with_fire (get_items c s)) (sym is) ∙ begins)))
    ∙ ap (λ s. items ++ without_fire (get_items_before c (fire_if b) s)) (sym is)
    ∙ ap (λ k. items ++ left_of_gets k waiting (get_items_before c (fire_if b) old)) (sym on)
    ∙ left

-- at the end there are no more items than events
pub walk_ends : (c : ℕ) (b : Bool) (script rest : List Event) (skips : Bool) (waiting : Option ℕ)
    (items made : List GetItem) (m : ℕ) → rest ≡ []
    → (skips ≡ true → begins_with_fire (get_items c rest) ≡ true)
    → items ++ left_of_gets skips waiting (get_items_before c (fire_if b) rest) ≡ port_gets c script
    → made ≡ items ++ behind_get waiting (fire_if b) → length script < m → length made < m
walk_ends c b script rest true waiting items made m end begins left is short =
    let wrong : false ≡ true = ap (λ s. begins_with_fire (get_items c s)) (sym end) ∙ begins refl in
    absurd (cc)
walk_ends c b script rest false waiting items made m end begins left is short =
    let whole : made ≡ port_gets c script =
    is ∙ ap (λ s. items ++ behind_get waiting (get_items_before c (fire_if b) s)) (sym end) ∙ left in
    omega (arith, ap length whole, few_port_gets c script)
