-- A ring holds the tokens of a channel.
--
-- The invariant is `Holds`: from the oldest token's place on, going round at the end, lie the queue's tokens in
-- order, and the place behind them is the free one. A token that is taken leaves the others where they are, each
-- with a number one less (`shift`), and one that is given comes to a place of none of them, since there are fewer
-- than places (`places_differ`). An edge at which both happen is one that takes and one that gives. Nothing is
-- said of what lies in places of no token.
use Rattle.std.proofs.Common.{◌≡◌, ℕ, zero, suc, ◌+◌, ◌-◌, ◌<◌, ◌≤◌, Bool, true, false, ◌&&◌, nat_lt, if◌then◌else◌}
use Rattle.std.proofs.Common.{Option, Some, None, List, [], ◌∷◌, ◌++◌, length, drop, slice_get, slice_set, option_map}
use Rattle.std.proofs.Common.{option_to_list, refl, sym, ap, subst, ◌∙◌, inl, inr, arith, append-nil, eq-eqb, ne_eqb, ltb-true, lt-ltb}
use Rattle.std.proofs.Common.{length-append, length-set}
use Rattle.std.proofs.lemmas.Bool.{and_parts, cases_eq, cases_lt, le-ltb}
use Rattle.std.proofs.lemmas.List.{length-replicate}
use Rattle.net_core.specs.Machine.{Net, Rule}
use Rattle.plain_data.proofs.Lists.{slice_get-append_cons, slice_get-append_left, slice_get-set_other, slice_get-set_same}
use Rattle.design_clocks.specs.Registers.{Controls, after_edges, asks, event_at, fifo_after, token_for, offers}
use Rattle.design_clocks.specs.Rings.{Holds, Ring, empty_ring, next_place, place_of, ring_after, ring_after_edges, ring_step}

-- Places

module _ (capacity : ℕ) where
  place_low : (oldest i : ℕ) → oldest + i < capacity → place_of capacity oldest i ≡ oldest + i
  place_low oldest i low =
      ap (λ (b : Bool). if b then oldest + i else oldest + i - capacity) (lt-ltb (oldest + i) capacity low)

  place_high : (oldest i : ℕ) → capacity ≤ oldest + i → place_of capacity oldest i ≡ oldest + i - capacity
  place_high oldest i high =
      ap (λ (b : Bool). if b then oldest + i else oldest + i - capacity) (le-ltb (oldest + i) capacity high)

  behind_last : (at : ℕ) → at + 1 ≡ capacity → next_place capacity at ≡ 0
  behind_last at last = ap (λ (b : Bool). if b then 0 else at + 1) (eq-eqb (at + 1) capacity last)

  behind_other : (at : ℕ) → (at + 1 ≡ capacity → ⊥) → next_place capacity at ≡ at + 1
  behind_other at other = ap (λ (b : Bool). if b then 0 else at + 1) (ne_eqb (at + 1) capacity other)

  next_place_within : (at : ℕ) → at < capacity → next_place capacity at < capacity
  next_place_within at within =
      elim (cases_eq (at + 1) capacity) [
        | inl last ↦ omega (arith, behind_last at last)
        | inr other ↦ omega (arith, behind_other at other)
      ]

  -- behind a token's place is that of the next one
  place_behind : (oldest i j : ℕ) → oldest < capacity → i < capacity → j ≡ i + 1
      → next_place capacity (place_of capacity oldest i) ≡ place_of capacity oldest j
  place_behind oldest i j within few next =
      elim (cases_lt (oldest + i) capacity) [
        | inl low ↦
            elim (cases_eq (oldest + i + 1) capacity) [
              | inl last ↦
                  ap (next_place capacity) (place_low oldest i low) ∙ behind_last (oldest + i) last
                  ∙ sym (let round : capacity ≤ oldest + j = omega arith in
                  omega (arith, place_high oldest j round))
              | inr other ↦
                  ap (next_place capacity) (place_low oldest i low) ∙ behind_other (oldest + i) other
                  ∙ sym (let more : oldest + j < capacity = omega arith in omega (arith, place_low oldest j more))
            ]
        | inr high ↦
            let other : oldest + i - capacity + 1 ≡ capacity → ⊥ = λ e. omega arith in
            let round : capacity ≤ oldest + j = omega arith in
            ap (next_place capacity) (place_high oldest i high) ∙ behind_other (oldest + i - capacity) other
            ∙ sym (omega (arith, place_high oldest j round))
      ]

  -- from the next place on each token has the number before
  shift : (oldest i j : ℕ) → oldest < capacity → i < capacity → j ≡ i + 1
      → place_of capacity (next_place capacity oldest) i ≡ place_of capacity oldest j
  shift oldest i j within few next =
      elim (cases_eq (oldest + 1) capacity) [
        | inl last ↦
            let low : 0 + i < capacity = omega arith in
            let round : capacity ≤ oldest + j = omega arith in
            ap (λ (at : ℕ). place_of capacity at i) (behind_last oldest last)
            ∙ omega (arith, place_low 0 i low, place_high oldest j round)
        | inr other ↦
            ap (λ (at : ℕ). place_of capacity at i) (behind_other oldest other)
            ∙ elim (cases_lt (oldest + 1 + i) capacity) [
              | inl low ↦
                  let low' : oldest + j < capacity = omega arith in
                  omega (arith, place_low (oldest + 1) i low, place_low oldest j low')
              | inr high ↦
                  let high' : capacity ≤ oldest + j = omega arith in
                  omega (arith, place_high (oldest + 1) i high, place_high oldest j high')
            ]
      ]

  place_within : (oldest i : ℕ) → oldest < capacity → i < capacity → place_of capacity oldest i < capacity
  place_within oldest i within few =
      elim (cases_lt (oldest + i) capacity) [
        | inl low ↦ omega (arith, place_low oldest i low)
        | inr high ↦ omega (arith, place_high oldest i high)
      ]

  -- tokens of different numbers lie in different places
  places_differ : (oldest i j : ℕ) → oldest < capacity → i < j → j < capacity
      → place_of capacity oldest i ≡ place_of capacity oldest j → ⊥
  places_differ oldest i j within less few same =
      elim (cases_lt (oldest + j) capacity) [
        | inl low ↦
            let low' : oldest + i < capacity = omega arith in
            omega (arith, place_low oldest i low', place_low oldest j low)
        | inr high ↦
            elim (cases_lt (oldest + i) capacity) [
              | inl low ↦ omega (arith, place_low oldest i low, place_high oldest j high)
              | inr high' ↦ omega (arith, place_high oldest i high', place_high oldest j high)
            ]
      ]

-- An edge

module _ {T : Type 0} (capacity : ℕ) where
  taken : (ring : Ring T) (token : Option T) (x : T) (queue : List T) → Holds capacity ring (x ∷ queue)
      → Holds capacity (ring_step capacity false true token ring) queue
  taken ring token x queue h =
      let fits : suc (length queue) ≤ capacity = h.fits in
      record {
        places = h.places;
        count = omega (arith, h.count);
        fits = omega arith;
        oldest = next_place_within capacity ring.oldest h.oldest;
        free = h.free
            ∙ sym (shift capacity ring.oldest (length queue) (suc (length queue)) h.oldest (omega arith) (omega arith));
        tokens = λ i lt.
            ap (slice_get ring.places) (shift capacity ring.oldest i (suc i) h.oldest (omega arith) (omega arith))
            ∙ h.tokens (suc i) (omega arith);
      }

  given : (ring : Ring T) (x : T) (queue : List T) → Holds capacity ring queue → length queue < capacity
      → Holds capacity (ring_step capacity true false (Some x) ring) (queue ++ x ∷ [])
  given ring x queue h room =
      let long : length (queue ++ x ∷ []) ≡ length queue + 1 = length-append queue (x ∷ []) in
      let free_there : ring.free < length ring.places =
      omega (arith, h.free, h.places, place_within capacity ring.oldest (length queue) h.oldest room) in
      record {
        places = omega (arith, h.places, length-set ring.places ring.free (Some x));
        count = omega (arith, h.count);
        fits = omega arith;
        oldest = h.oldest;
        free = ap (next_place capacity) h.free
            ∙ place_behind capacity ring.oldest (length queue) (length (queue ++ x ∷ [])) h.oldest room long;
        tokens = λ i lt.
            elim (cases_eq i (length queue)) [
              | inl last ↦
                  ap (slice_get (slice_set ring.places ring.free (Some x)))
                  (ap (place_of capacity ring.oldest) last ∙ sym h.free)
                  ∙ slice_get-set_same ring.places ring.free (Some x) free_there
                  ∙ ap (option_map Some)
                  (sym (ap (slice_get (queue ++ x ∷ [])) last ∙ slice_get-append_cons queue x []))
              | inr other ↦
                  let before : i < length queue = omega arith in
                  slice_get-set_other ring.places ring.free (place_of capacity ring.oldest i) (Some x)
                  (λ e. places_differ capacity ring.oldest i (length queue) h.oldest before room (e ∙ h.free))
                  ∙ h.tokens i before
                  ∙ ap (option_map Some) (sym (slice_get-append_left queue (x ∷ []) i before))
            ];
      }

  -- one that is taken and one that is given at one edge
  exchanged : (ring : Ring T) (x y : T) (queue : List T) → Holds capacity ring (y ∷ queue) → length queue < capacity
      → Holds capacity (ring_step capacity true true (Some x) ring) (queue ++ x ∷ [])
  exchanged ring x y queue h room =
      let count : ring.count - 1 + 1 ≡ ring.count = omega (arith, h.count) in
      subst
      (λ (count : ℕ). Holds capacity
      (record (ring_step capacity true true (Some x) ring) { count = count }) (queue ++ x ∷ []))
      count
      (given (ring_step capacity false true (Some x) ring) x queue (taken ring (Some x) y queue h) room)

  moved_holds : (gives takes : Bool) (ring : Ring T) (token : Option T) (queue : List T) → Holds capacity ring queue
      → (gives ≡ true → length queue < capacity) → (gives ≡ true → (x : T) × (token ≡ Some x))
      → (takes ≡ true → 0 < length queue)
      → Holds capacity (ring_step capacity gives takes token ring)
      ((if takes then drop 1 queue else queue) ++ (if gives then option_to_list token else []))
  moved_holds false false ring token queue h room there some =
      subst (λ (l : List T). Holds capacity ring l) (sym (append-nil queue)) h
  moved_holds false true ring token [] h room there some =
      let none : 0 < 0 = some refl in absurd (omega arith)
  moved_holds false true ring token (x ∷ queue) h room there some =
      subst (λ (l : List T). Holds capacity (ring_step capacity false true token ring) l) (sym (append-nil queue))
      (taken ring token x queue h)
  moved_holds true false ring token queue h room there some =
      let x = there refl in
      subst
      (λ (token : Option T). Holds capacity (ring_step capacity true false token ring) (queue ++ option_to_list token))
      (sym x.1) (given ring x.0 queue h (room refl))
  moved_holds true true ring token [] h room there some =
      let none : 0 < 0 = some refl in absurd (omega arith)
  moved_holds true true ring token (y ∷ queue) h room there some =
      let x = there refl in
      let more : suc (length queue) < capacity = room refl in
      subst
      (λ (token : Option T). Holds capacity (ring_step capacity true true token ring) (queue ++ option_to_list token))
      (sym x.1) (exchanged ring x.0 y queue h (omega arith))

  pub edge_holds : (asked offers : Bool) (ring : Ring T) (token : Option T) (queue : List T)
      → Holds capacity ring queue → (offers ≡ true → (x : T) × (token ≡ Some x))
      → Holds capacity (ring_after capacity asked offers token ring) (fifo_after capacity asked offers token queue)
  edge_holds asked offers ring token queue h there =
      subst
      (λ (count : ℕ). Holds capacity
      (ring_step capacity (offers && nat_lt count capacity) (asked && nat_lt 0 count) token ring)
      (fifo_after capacity asked offers token queue))
      (sym h.count)
      (moved_holds (offers && nat_lt (length queue) capacity) (asked && nat_lt 0 (length queue)) ring token queue h
      (λ gives. ltb-true _ _ (and_parts _ _ gives).1) (λ gives. there (and_parts _ _ gives).0)
      (λ takes. ltb-true _ _ (and_parts _ _ takes).1))

  pub empty_holds : 0 < capacity → Holds capacity (empty_ring {T = T} capacity) []
  empty_holds some =
      let low : 0 + 0 < capacity = omega arith in
      record {
        places = length-replicate capacity None;
        count = refl;
        fits = omega arith;
        oldest = some;
        free = sym (place_low capacity 0 0 low);
        tokens = λ i lt. absurd (omega arith);
      }

-- beside the design
pub rings_hold : {T : Type 0} (n : Net) (controls : Controls) (rule : Rule T)
    → ((k c : ℕ) → offers n (event_at controls (after_edges n controls rule k)) c ≡ true
    → (x : T) × (token_for n (after_edges n controls rule k) c ≡ Some x))
    → (k c : ℕ) → 0 < n.capacity c
    → Holds (n.capacity c) (ring_after_edges n controls rule c k) ((after_edges n controls rule k).fifo c)
rings_hold n controls rule defined zero c some = empty_holds (n.capacity c) some
rings_hold n controls rule defined (suc k) c some =
    let d = after_edges n controls rule k in
    edge_holds (n.capacity c) (asks n (event_at controls d) c) (offers n (event_at controls d) c) (ring_after_edges n controls rule c k)
    (token_for n d c) (d.fifo c) (rings_hold n controls rule defined k c some) (defined k c)
