-- The item in front of a list of items, by the event that is next.
--
-- Where the next event is a Put of the port it is an item by itself (`put_front`), and a Fire is one with the Put
-- behind it, if that is next (`fire_front`); so where an item with a Fire is in front, the next event is that Fire
-- (`fire_from_front`). A Get is an item with the Fire behind it, if that is next (`get_front`). A list that
-- doesn't begin so has nothing taken off (`same_without_put`, `same_without_fire`). All by cases on one event or
-- one item. Which event is next is told in Ahead.
use Rattle.std.proofs.Common.{◌≡◌, ◌⊎◌, ℕ, Bool, true, false, not, cond, eqb, Option, Some, None, List, [], ◌∷◌, slice_get}
use Rattle.std.proofs.Common.{ap, sym, ◌∙◌, refl, inl, inr, eq-eqb, eqb-true}
use Rattle.std.specs.Option.{option_map_or}
use Rattle.std.proofs.lemmas.Bool.{cases_Bool, or_cases, not-true}
use Rattle.net_core.specs.declared.refs.Ref.{Ref}
use Rattle.net_core.specs.declared.network.Event.{Event}
use Rattle.net_core.specs.declared.network.Event.TheVariants.{Get, Fire, Put}
use Rattle.net_core.specs.Shape.{is_fire, is_put}
use Rattle.port_items.specs.declared.items.GetItem.{GetItem}
use Rattle.port_items.specs.declared.items.PutItem.{PutItem}
use Rattle.port_items.specs.Items.{begins_with_fire, begins_with_put, fire_if, get_items_before, only_put, put_items}
use Rattle.port_items.specs.Items.{without_fire, without_put}
use Rattle.port_design.specs.Registers.{is_at_fire}
use Rattle.port_design.specs.Clocked.{is_get_or_fire, is_put_or_fire}

-- Puts

pub put_front : (c : ℕ) (e : Event) (script : List Event) → is_put c e ≡ true
    → put_items c (e ∷ script) ≡ only_put ∷ put_items c script
put_front c (Get d slot) script t = absurd (cc)
put_front c (Fire refs) script t = absurd (cc)
put_front c (Put d) script t = ap (λ b. cond b (only_put ∷ put_items c script) (put_items c script)) t

pub fire_front : (c : ℕ) (e : Event) (script : List Event) → is_fire e ≡ true
    → put_items c (e ∷ script)
    ≡ record { fire = true; put = begins_with_put (put_items c script) } ∷ without_put (put_items c script)
fire_front c (Get d slot) script t = absurd (cc)
fire_front c (Fire refs) script t = refl
fire_front c (Put d) script t = absurd (cc)

pub same_without_put : (items : List PutItem) → begins_with_put items ≡ false → without_put items ≡ items
same_without_put [] off = refl
same_without_put (item ∷ items) off =
    elim (cases_Bool item.fire) [
      | inl fire ↦ ap (λ b. cond b (item ∷ items) items) fire
      | inr put ↦ let wrong : true ≡ false = sym (ap not put) ∙ off in absurd (cc)
    ]

pub no_fire_at_put : (items : List PutItem) → begins_with_put items ≡ true → is_at_fire (slice_get items 0) ≡ false
no_fire_at_put [] on = absurd (cc)
no_fire_at_put (item ∷ items) on = not-true item.fire on

-- where a Fire is in front, the next event is one
pub fire_from_front : (c : ℕ) (e : Event) (script : List Event) → is_put_or_fire c e ≡ true
    → is_at_fire (slice_get (put_items c (e ∷ script)) 0) ≡ true → is_fire e ≡ true
fire_from_front c e script on at =
    elim (or_cases (is_put c e) (is_fire e) on) [
      | inl put ↦
          let wrong : false ≡ true =
          sym (ap (λ (items : List PutItem). is_at_fire (slice_get items 0)) (put_front c e script put)) ∙ at in
          absurd (cc)
      | inr fire ↦ fire
    ]

-- Gets

pub get_front : (c slot : ℕ) (behind : List GetItem) (script : List Event)
    → get_items_before c behind (Get c slot ∷ script)
    ≡ record { get = Some slot; fire = begins_with_fire (get_items_before c behind script) }
    ∷ without_fire (get_items_before c behind script)
get_front c slot behind script = let same : eqb c c ≡ true = eq-eqb c c refl in rw same refl

pub same_without_fire : (items : List GetItem) → begins_with_fire items ≡ false → without_fire items ≡ items
same_without_fire [] off = refl
same_without_fire (item ∷ items) off = ap (λ b. cond b items (item ∷ items)) off

abbrev pub get_in : Option GetItem → Option ℕ
get_in item = option_map_or (λ i. i.get) item None

-- behind the script no item has a Get
pub no_get_behind : (b : Bool) → get_in (slice_get (fire_if b) 0) ≡ None
no_get_behind true = refl
no_get_behind false = refl

-- what is next of a Get port, by its channel
pub seen_by_getter : (c : ℕ) (e : Event) → is_get_or_fire c e ≡ true
    → ((slot : ℕ) × (e ≡ Get c slot)) ⊎ ((refs : List Ref) × (e ≡ Fire refs))
seen_by_getter c (Get d slot) on =
    elim (or_cases (eqb c d) false on) [
      | inl here ↦ inl (slot, ap (λ x. Get x slot) (sym (eqb-true c d here)))
      | inr wrong ↦ absurd (cc)
    ]
seen_by_getter c (Fire refs) on = inr (refs, refl)
seen_by_getter c (Put d) on = absurd (cc)
