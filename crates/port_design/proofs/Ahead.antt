-- What items are made of the part of a script that lies ahead of a place: those of the next event, and of the part
-- behind it.
--
-- A list of items that passes over the events that aren't of a kind is the same from a place on as from the next
-- event of that kind on, and where none is left it is that of no event. The three lists of items are such: a
-- process's for its Fires, a Get port's for the Gets of its channel and the Fires, and a Put port's for its Puts
-- and the Fires.
use Rattle.std.proofs.Common.{◌≡◌, ℕ, zero, suc, ◌+◌, ◌-◌, ◌<◌, ◌≤◌, Bool, false, eqb, Some, List}
use Rattle.std.proofs.Common.{[], ◌∷◌, length, drop, slice_get, ap, sym, ◌∙◌, refl, inl, inr, arith}
use Rattle.std.proofs.lemmas.Bool.{or_parts}
use Rattle.std.proofs.lemmas.List.{drop_all}
use Rattle.std.proofs.lemmas.Option.{slice_get_cases}
use Rattle.net_core.specs.declared.network.Event.{Event}
use Rattle.net_core.specs.declared.network.Event.TheVariants.{Get, Fire, Put}
use Rattle.net_core.specs.Shape.{is_fire}
use Rattle.plain_data.proofs.Lists.{drop-some}
use Rattle.port_items.specs.declared.items.GetItem.{GetItem}
use Rattle.port_items.specs.Items.{fire_items, get_items_before, put_items}
use Rattle.port_design.specs.Clocked.{HasPassed, is_get_or_fire, is_put_or_fire}
use Rattle.port_design.proofs.Places.{NextIs, NoneLeft, next_late, next_skips}

module _ {X : Type 0} (items : List Event → X) (kind : Event → Bool)
    (skips : (e : Event) (script : List Event) → kind e ≡ false → items (e ∷ script) ≡ items script)
    (script : List Event) where
  skip_to : (m a i : ℕ) → a + m ≡ i
      → ((k : ℕ) (f : Event) → a ≤ k → k < i → slice_get script k ≡ Some f → kind f ≡ false)
      → items (drop a script) ≡ items (drop i script)
  skip_to zero a i sum none = let same : a ≡ i = omega arith in ap (λ k. items (drop k script)) same
  skip_to (suc m) a i sum none =
      elim (slice_get_cases script a).1 [
        | inl x ↦
            let lt : a < i = omega arith in
            ap items (drop-some script a x.0 x.2)
            ∙ skips x.0 (drop (suc a) script) (none a x.0 (omega arith) lt x.2)
            ∙ skip_to m (suc a) i (omega arith) (λ k f ge lt. none k f (omega arith) lt)
        | inr past ↦ ap items (drop_all a script past.0 ∙ sym (drop_all i script (omega (arith, past.0))))
      ]

  -- the next event is in front
  pub at_next : (come : ℕ → Bool) (place i : ℕ) (e : Event) → HasPassed kind script come place
      → NextIs kind script come i e
      → items (drop place script) ≡ items (e ∷ drop (suc i) script)
  at_next come place i e passed x =
      let late : place ≤ i = next_late kind script come place passed i e x in
      skip_to (i - place) place i (omega arith) (next_skips kind script come place passed i e x)
      ∙ ap items (drop-some script i e x.is)

  pub at_none : (place : ℕ) → NoneLeft kind script place → items (drop place script) ≡ items []
  at_none place none =
      let end : length script ≤ place + length script = omega arith in
      skip_to (length script) place (place + length script) refl (λ k f ge lt is. none k f ge is)
      ∙ ap items (drop_all (place + length script) script end)

-- The three lists

pub fires_skip : (e : Event) (script : List Event) → is_fire e ≡ false → fire_items (e ∷ script) ≡ fire_items script
fires_skip (Get c slot) script off = refl
fires_skip (Fire refs) script off = absurd (cc)
fires_skip (Put c) script off = refl

pub gets_skip : (c : ℕ) (behind : List GetItem) (e : Event) (script : List Event) → is_get_or_fire c e ≡ false
    → get_items_before c behind (e ∷ script) ≡ get_items_before c behind script
gets_skip c behind (Get d slot) script off = let other = (or_parts (eqb c d) false off).0 in rw other refl
gets_skip c behind (Fire refs) script off = absurd (cc)
gets_skip c behind (Put d) script off = refl

pub puts_skip : (c : ℕ) (e : Event) (script : List Event) → is_put_or_fire c e ≡ false
    → put_items c (e ∷ script) ≡ put_items c script
puts_skip c (Get d slot) script off = refl
puts_skip c (Fire refs) script off = absurd (cc)
puts_skip c (Put d) script off = let other = (or_parts (eqb c d) false off).0 in rw other refl
