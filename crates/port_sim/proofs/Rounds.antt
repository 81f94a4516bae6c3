-- The events of a script up to its first fire, and what a window of a script tells of it.
--
-- A round's events are the script's, a fire among them is the last one, and a round that isn't the whole script
-- ends in a fire: each by induction over the script. A window has the round of what is left behind its beginning,
-- so its events are the script's at their places (`event_here`). Every event behind it depends on the fire at its
-- end, which hasn't come, so none of them is due (`not_behind`). Which events of the window itself are due isn't
-- told here.
use Rattle.std.proofs.Common.{◌≡◌, ℕ, zero, suc, ◌+◌, ◌<◌, ◌≤◌, Bool, true, false, Some, List, [], ◌∷◌}
use Rattle.std.proofs.Common.{cond, length, drop, slice_get, option_map, ap, sym, ◌∙◌, refl, arith}
use Rattle.std.proofs.Common.{length-drop}
use Rattle.std.proofs.lemmas.Bool.{both_ways, false_from_ne_true}
use Rattle.std.proofs.lemmas.List.{get_or-drop, length-map}
use Rattle.std.proofs.lemmas.Option.{get_or_from_slice_get, slice_get-map, slice_get_read, slice_get_within}
use Rattle.net_core.specs.declared.network.Event.{Event}
use Rattle.net_core.specs.Shape.{is_fire}
use Rattle.port_runs.specs.Ports.{is_due}
use Rattle.port_runs.proofs.DueEvents.{due_before, fire_after}
use Rattle.port_sim.specs.declared.window.Pending.{Pending}
use Rattle.port_sim.specs.declared.window.Window.{Window}
use Rattle.port_sim.specs.Windows.{IsWindow, round}
use Rattle.plain_data.proofs.Lists.{slice_get-some}

round_at : (b : Bool) (x : Event) (xs : List Event) (i : ℕ) (e : Event)
    → ((i : ℕ) (e : Event) → slice_get (round xs) i ≡ Some e → slice_get xs i ≡ Some e)
    → slice_get (cond b (x ∷ []) (x ∷ round xs)) i ≡ Some e → slice_get (x ∷ xs) i ≡ Some e
round_at true x xs zero e below at = at
round_at true x xs (suc i) e below at = absurd (cc)
round_at false x xs zero e below at = at
round_at false x xs (suc i) e below at = below i e at

-- the events of a round are the script's
pub round_get : (xs : List Event) (i : ℕ) (e : Event) → slice_get (round xs) i ≡ Some e → slice_get xs i ≡ Some e
round_get [] i e at = at
round_get (x ∷ xs) i e at = round_at (is_fire x) x xs i e (λ j f. round_get xs j f) at

last_at : (b : Bool) (x : Event) (xs : List Event) (i : ℕ) (e : Event) → is_fire x ≡ b
    → ((i : ℕ) (e : Event) → slice_get (round xs) i ≡ Some e → is_fire e ≡ true → suc i ≡ length (round xs))
    → slice_get (cond b (x ∷ []) (x ∷ round xs)) i ≡ Some e → is_fire e ≡ true
    → suc i ≡ length (cond b (x ∷ []) (x ∷ round xs))
last_at true x xs zero e is below at fire = omega arith
last_at true x xs (suc i) e is below at fire = absurd (cc)
last_at false x xs zero e is below at fire =
    let same : x ≡ e = cc in
    absurd (both_ways (is_fire x) is (ap is_fire same ∙ fire))
last_at false x xs (suc i) e is below at fire = omega (arith, below i e at fire)

-- a fire is the last of its round
pub round_last : (xs : List Event) (i : ℕ) (e : Event) → slice_get (round xs) i ≡ Some e → is_fire e ≡ true
    → suc i ≡ length (round xs)
round_last [] i e at fire = absurd (cc)
round_last (x ∷ xs) i e at fire = last_at (is_fire x) x xs i e refl (λ j f. round_last xs j f) at fire

-- the fire that ends a round
abbrev EndsIn : List Event → Type 0
EndsIn es = (i : ℕ) × (e : Event) × (suc i ≡ length es) × (slice_get es i ≡ Some e) × (is_fire e ≡ true)

closed_at : (b : Bool) (x : Event) (xs : List Event) → is_fire x ≡ b
    → (length (round xs) < length xs → EndsIn (round xs))
    → length (cond b (x ∷ []) (x ∷ round xs)) < length (x ∷ xs) → EndsIn (cond b (x ∷ []) (x ∷ round xs))
closed_at true x xs is below lt = (0, x, omega arith, refl, is)
closed_at false x xs is below lt =
    let c = below (omega (arith, lt)) in
    (suc c.0, c.1, omega (arith, c.2), c.3, c.4)

-- a round that isn't the whole script ends in a fire
pub round_closed : (xs : List Event) → length (round xs) < length xs → EndsIn (round xs)
round_closed [] lt = absurd (omega arith)
round_closed (x ∷ xs) lt = closed_at (is_fire x) x xs refl (round_closed xs) lt

short_at : (b : Bool) (x : Event) (xs : List Event) → length (round xs) ≤ length xs
    → length (cond b (x ∷ []) (x ∷ round xs)) ≤ length (x ∷ xs)
short_at true x xs below = omega arith
short_at false x xs below = omega (arith, below)

pub round_short : (xs : List Event) → length (round xs) ≤ length xs
round_short [] = omega arith
round_short (x ∷ xs) = short_at (is_fire x) x xs (round_short xs)

-- Windows

module _ (script : List Event) (come : ℕ → Bool) (w : Window) (is : IsWindow script come w) where
  event_in : (i : ℕ) (x : Pending) → slice_get w.events.items i ≡ Some x
      → slice_get (round (drop w.first script)) i ≡ Some x.event
  event_in i x at =
      ap (λ (es : List Event). slice_get es i) (sym is.events)
      ∙ slice_get-map (λ (y : Pending). y.event) w.events.items i
      ∙ ap (option_map (λ (y : Pending). y.event)) at

  -- an event of the window is the script's
  pub event_here : (i : ℕ) (x : Pending) → slice_get w.events.items i ≡ Some x
      → slice_get script (w.first + i) ≡ Some x.event
  event_here i x at =
      let behind = drop w.first script in
      let read = round_get behind i x.event (event_in i x at) in
      let inside = slice_get_within behind i x.event read in
      slice_get_read script (length script) (w.first + i) x.event refl
      (omega (arith, inside, length-drop w.first script))
      (sym (get_or_from_slice_get behind i x.event x.event read) ∙ get_or-drop w.first script i x.event)

  long : length w.events.items ≡ length (round (drop w.first script))
  long = sym (length-map w.events.items (λ (y : Pending). y.event)) ∙ ap length is.events

  -- a fire is the window's last event
  pub fire_last : (i : ℕ) (x : Pending) → slice_get w.events.items i ≡ Some x → is_fire x.event ≡ true
      → suc i ≡ length w.events.items
  fire_last i x at fire =
      omega (arith, long, round_last (drop w.first script) i x.event (event_in i x at) fire)

  -- no event behind the window is due
  pub not_behind : (k : ℕ) (e : Event) → w.first + length w.events.items ≤ k → slice_get script k ≡ Some e
      → is_due script come e k ≡ false
  not_behind k e past at =
      false_from_ne_true (is_due script come e k)
      (λ due.
      let within = slice_get_within script k e at in
      let more : length (round (drop w.first script)) < length (drop w.first script) =
      omega (arith, long, length-drop w.first script, within, past) in
      let c = round_closed (drop w.first script) more in
      let there : c.0 < length w.events.items = omega (arith, c.2, long) in
      let x = slice_get-some w.events.items c.0 there in
      let both : Some x.0.event ≡ Some c.1 = sym (event_in c.0 x.0 x.1) ∙ c.3 in
      let same : x.0.event ≡ c.1 = cc in
      let fire : is_fire x.0.event ≡ true = ap is_fire same ∙ c.4 in
      let came : come (w.first + c.0) ≡ true =
      due_before script come e k due (w.first + c.0) x.0.event (omega (arith, there, past)) (event_here c.0 x.0 x.1)
      (fire_after e x.0.event fire) in
      both_ways (come (w.first + c.0)) (is.here c.0 x.0 x.1 ∙ is.fire c.0 x.0 x.1 fire) came)
