-- How many events the network of a nest has: a Fire for each turn, and for each token one Put and one Get.
--
-- The events of a script are its Fires and, channel by channel, its Gets and its Puts (`kinds_counted`, by induction on
-- the events). Only its reader gets from a channel and only its writer puts to it, so a sum over all processes counts
-- each channel once on either side (`sum_of_one`). A channel has as many Puts as tokens, and as many Gets, since the uses
-- name each token and no other (`gets_are_tokens`). In what order events come is no question here.
use Rattle.std.proofs.Common.{◌≡◌, ℕ, zero, suc, ◌+◌, ◌<◌, ◌≤◌, true, cond}
use Rattle.std.proofs.Common.{List, [], ◌∷◌, length, map, slice_get, count_by, refl, sym, ap, ◌∙◌}
use Rattle.std.proofs.Common.{inl, inr, arith, add-one}
use Rattle.std.specs.Prelude.{◌==◌}
use Rattle.std.specs.List.{list_any, range_with_len, sum_by}
use Rattle.std.specs.Option.{option_map_or}
use Rattle.std.proofs.lemmas.Bool.{cases_Bool, cases_eq, eq-eqb, eqb-true, ne_eqb, or_cases}
use Rattle.std.proofs.lemmas.List.Sums.{sum_by-cons}
use Rattle.channel_plan.specs.Tokens.{is_used, tokens_below, uses_of}
use Rattle.channel_plan.proofs.Uses.{tokens_more}
use Rattle.net_core.specs.declared.network.Event.{Event}
use Rattle.net_core.specs.declared.network.Event.TheVariants.{Get, Fire, Put}
use Rattle.net_core.specs.Shape.{is_fire, is_get, is_put}
use Rattle.net_core.proofs.EventCounts.{count_cons}
use Rattle.process_derive.proofs.Sums.{sum_added, sum_none, sum_same}
use Rattle.reorder_slots.specs.Slots.{gets_for}
use Rattle.sanlp.proofs.Each.{Each}

-- Sums

-- one number of those from a on, below a + m, is d
one_is : (d a m : ℕ) → a ≤ d → d < a + m → sum_by (λ c. cond {A = ℕ} (c == d) 1 0) (range_with_len a m) ≡ 1
one_is d a zero le lt = absurd (omega arith)
one_is d a (suc m) le lt =
    let first = sum_by-cons (λ c. cond {A = ℕ} (c == d) 1 0) a (range_with_len (a + 1) m) in
    elim (cases_eq a d) [
      | inl same ↦ omega (
        arith,
        first,
        ap (λ b. cond {A = ℕ} b 1 0) (eq-eqb a d same),
        none_is d (a + 1) m (omega arith),
      )
      | inr other ↦ omega (
        arith,
        first,
        ap (λ b. cond {A = ℕ} b 1 0) (ne_eqb a d other),
        one_is d (a + 1) m (omega (arith, other)) (omega arith),
      )
    ] where
      none_is : (d a m : ℕ) → d < a → sum_by (λ c. cond {A = ℕ} (c == d) 1 0) (range_with_len a m) ≡ 0
      none_is d a zero lt = refl
      none_is d a (suc m) lt =
          omega (
            arith,
            sum_by-cons (λ c. cond {A = ℕ} (c == d) 1 0) a (range_with_len (a + 1) m),
            ap (λ b. cond {A = ℕ} b 1 0) (ne_eqb a d (λ e. omega arith)),
            none_is d (a + 1) m (omega arith),
          )

-- a sum to which the number p alone adds
pub sum_of_one : (p x many : ℕ) → p < many → sum_by (λ q. cond {A = ℕ} (p == q) x 0) (range_with_len 0 many) ≡ x
sum_of_one p x many lt = from 0 many (omega arith) (omega arith)
  where
    past : (a m : ℕ) → p < a → sum_by (λ q. cond {A = ℕ} (p == q) x 0) (range_with_len a m) ≡ 0
    past a zero lt = refl
    past a (suc m) lt =
        omega (
          arith,
          sum_by-cons (λ q. cond {A = ℕ} (p == q) x 0) a (range_with_len (a + 1) m),
          ap (λ b. cond {A = ℕ} b x 0) (ne_eqb p a (λ e. omega arith)),
          past (a + 1) m (omega arith),
        )

    from : (a m : ℕ) → a ≤ p → p < a + m → sum_by (λ q. cond {A = ℕ} (p == q) x 0) (range_with_len a m) ≡ x
    from a zero le lt = absurd (omega arith)
    from a (suc m) le lt =
        let first = sum_by-cons (λ q. cond {A = ℕ} (p == q) x 0) a (range_with_len (a + 1) m) in
        elim (cases_eq p a) [
          | inl same ↦ omega (
            arith,
            first,
            ap (λ b. cond {A = ℕ} b x 0) (eq-eqb p a same),
            past (a + 1) m (omega arith),
          )
          | inr other ↦ omega (
            arith,
            first,
            ap (λ b. cond {A = ℕ} b x 0) (ne_eqb p a other),
            from (a + 1) m (omega (arith, other)) (omega arith),
          )
        ]

-- a sum over the places of a list
pub sum_of_places : {X : Type 0} (f : X → ℕ) (xs : List X)
    → sum_by (λ c. option_map_or f (slice_get xs c) 0) (range_with_len 0 (length xs)) ≡ sum_by f xs
sum_of_places f xs = from xs 0 (λ c. option_map_or f (slice_get xs c) 0)
    (λ k. (let same : k ≡ 0 + k = omega arith in ap (λ c. option_map_or f (slice_get xs c) 0) same))
  where
    from : (ys : List _) (a : ℕ) (g : ℕ → ℕ) → ((k : ℕ) → option_map_or f (slice_get ys k) 0 ≡ g (a + k))
        → sum_by g (range_with_len a (length ys)) ≡ sum_by f ys
    from [] a g same = refl
    from (y ∷ ys) a g same =
        let first = sum_by-cons g a (range_with_len (a + 1) (length ys)) in
        let here : f y ≡ g (a + 0) = same 0 in
        let place : a + 0 ≡ a = omega arith in
        omega (
          arith,
          first,
          sum_by-cons f y ys,
          here,
          ap g place,
          from ys (a + 1) g
              (λ k. same (suc k) ∙ (let next : a + suc k ≡ a + 1 + k = omega arith in ap g next)),
        )

-- Kinds of events

abbrev pub IsBelow : ℕ → Event → Type 0
IsBelow channels (Get c slot) = c < channels
IsBelow channels (Fire refs) = Unit {0}
IsBelow channels (Put c) = c < channels

-- the Gets of a channel and the Puts to it
abbrev pub traffic : List Event → ℕ → ℕ
traffic events c = count_by (is_get c) events + count_by (is_put c) events

one_event : (channels : ℕ) (e : Event) → IsBelow channels e
    → cond (is_fire e) 1 0
    + sum_by (λ c. cond (is_get c e) 1 0 + cond (is_put c e) 1 0) (range_with_len 0 channels) ≡ 1
one_event channels (Get d slot) lt =
    let alike =
    sum_same (λ c. cond {A = ℕ} (c == d) 1 0 + 0) (λ c. cond {A = ℕ} (c == d) 1 0) (range_with_len 0 channels)
    (λ c. omega arith) in
    omega (arith, alike, one_is d 0 channels (omega arith) (omega (arith, lt)))
one_event channels (Fire refs) lt =
    let alike = sum_same (λ c. 0 + 0) (λ c. 0) (range_with_len 0 channels) (λ c. omega arith) in
    omega (arith, alike, sum_none (range_with_len 0 channels))
one_event channels (Put d) lt =
    let alike =
    sum_same (λ c. 0 + cond {A = ℕ} (c == d) 1 0) (λ c. cond {A = ℕ} (c == d) 1 0) (range_with_len 0 channels)
    (λ c. omega arith) in
    omega (arith, alike, one_is d 0 channels (omega arith) (omega (arith, lt)))

pub kinds_counted : (channels : ℕ) (events : List Event) → Each (IsBelow channels) events
    → length events ≡ count_by is_fire events + sum_by (traffic events) (range_with_len 0 channels)
kinds_counted channels [] h =
    let alike = sum_same (λ c. 0 + 0) (λ c. 0) (range_with_len 0 channels) (λ c. omega arith) in
    omega (arith, alike, sum_none (range_with_len 0 channels))
kinds_counted channels (e ∷ events) h =
    let split =
    sum_same (traffic (e ∷ events)) (λ c. cond (is_get c e) 1 0 + cond (is_put c e) 1 0 + traffic events c)
    (range_with_len 0 channels)
    (λ c. omega (arith, count_cons (is_get c) e events, count_cons (is_put c) e events)) in
    omega (
      arith,
      count_cons is_fire e events,
      split,
      sum_added (λ c. cond {A = ℕ} (is_get c e) 1 0 + cond (is_put c e) 1 0) (traffic events) (range_with_len 0 channels),
      one_event channels e h.0,
      kinds_counted channels events h.1,
    )

-- Gets and tokens

-- a turn that is used has its token got
used_got : (number : ℕ → ℕ) (turn : ℕ) (used : List ℕ) → is_used used turn ≡ true
    → number turn + 1 ≤ gets_for (map number used)
used_got number turn [] e = absurd (cc)
used_got number turn (u ∷ used) e =
    elim (or_cases (u == turn) (list_any (λ other. other == turn) used) e) [
      | inl here ↦ omega (arith, ap number (eqb-true u turn here))
      | inr later ↦ omega (arith, used_got number turn used later)
    ]

pub tokens_are_got : (used : List ℕ) (turns : ℕ) → tokens_below used turns ≤ gets_for (uses_of used)
tokens_are_got used zero = omega arith
tokens_are_got used (suc turn) =
    let more = ap (tokens_below used) (sym (add-one turn)) ∙ tokens_more used turn in
    elim (cases_Bool (is_used used turn)) [
      | inl token ↦ omega (
        arith,
        more,
        ap (λ b. cond {A = ℕ} b 1 0) token,
        used_got (tokens_below used) turn used token,
      )
      | inr other ↦ omega (arith, more, ap (λ b. cond {A = ℕ} b 1 0) other, tokens_are_got used turn)
    ]
