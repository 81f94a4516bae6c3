-- The class of a channel, by the turns that are used in place of their tokens.
--
-- Of two turns of which the later one is used, the later one's token is the later one: up to it one more turn is a token
-- (`tokens_rise`). So used turns compare as their tokens do, both by order and by being the same (`same_order`, `same_turn`),
-- and uses fall or repeat exactly where the turns do. Of turns that aren't used nothing is said: their numbers may be the same.
use Rattle.std.proofs.Common.{◌≡◌, ◌+◌, ◌-◌, ◌<◌, ◌==◌, ◌&&◌, ◌||◌, ℕ, true, cond, leb, List, [], ◌∷◌}
use Rattle.std.proofs.Common.{map, refl, sym, ap, ap₂, ◌∙◌, inl, inr, arith}
use Rattle.std.specs.List.{list_any}
use Rattle.std.proofs.lemmas.Bool.{cases_eq, cases_lt, eq-eqb, le-leb, lt-leb, ne_eqb, or_left, or_right}
use Rattle.channel_class.specs.Classes.{class_of, has_repeat, never_falls}
use Rattle.channel_class.specs.declared.UseOrder.TheVariants.{InOrder, Reorder}
use Rattle.channel_plan.specs.Tokens.{is_used, tokens_below, uses_of}
use Rattle.channel_plan.proofs.Uses.{tokens_more, tokens_below-more}

-- and behind a turn that is used it is greater
pub tokens_rise : (used : List ℕ) (a b : ℕ) → is_used used a ≡ true → a < b → tokens_below used a < tokens_below used b
tokens_rise used a b h lt =
    let rest : a + 1 + (b - a - 1) ≡ b = omega arith in
    omega (
      arith,
      tokens_more used a,
      ap (λ c. cond {A = ℕ} c 1 0) h,
      tokens_below-more used (a + 1) (b - a - 1),
      ap (tokens_below used) rest,
    )

-- each of these turns is used
abbrev pub AreUsed : List ℕ → List ℕ → Type 0
AreUsed used [] = Unit {0}
AreUsed used (turn ∷ turns) = (is_used used turn ≡ true) × AreUsed used turns

module _ (used : List ℕ) where
  same_order : (a b : ℕ) → is_used used b ≡ true → leb (tokens_below used a) (tokens_below used b) ≡ leb a b
  same_order a b h =
      elim (cases_lt b a) [
        | inl falls ↦ lt-leb (tokens_below used a) (tokens_below used b) (tokens_rise used b a h falls)
            ∙ sym (lt-leb a b falls)
        | inr rises ↦
            let rest : a + (b - a) ≡ b = omega arith in
            le-leb (tokens_below used a) (tokens_below used b)
            (omega (arith, tokens_below-more used a (b - a), ap (tokens_below used) rest))
            ∙ sym (le-leb a b rises)
      ]

  pub same_turn : (a b : ℕ) → is_used used a ≡ true → is_used used b ≡ true
      → (tokens_below used a == tokens_below used b) ≡ (a == b)
  same_turn a b h k =
      elim (cases_eq a b) [
        | inl same ↦ eq-eqb (tokens_below used a) (tokens_below used b) (ap (tokens_below used) same)
            ∙ sym (eq-eqb a b same)
        | inr other ↦
            ne_eqb (tokens_below used a) (tokens_below used b)
            (λ e. elim (cases_lt a b) [
              | inl below ↦ absurd (omega (arith, tokens_rise used a b h below, e))
              | inr above ↦ absurd (omega (arith, tokens_rise used b a k (omega (arith, other)), e))
            ])
            ∙ sym (ne_eqb a b other)
      ]

  falls_alike : (turns : List ℕ) → AreUsed used turns → never_falls (map (tokens_below used) turns) ≡ never_falls turns
  falls_alike [] h = refl
  falls_alike (a ∷ []) h = refl
  falls_alike (a ∷ (b ∷ turns)) h = ap₂ (λ x y. x && y) (same_order a b h.1.0) (falls_alike (b ∷ turns) h.1)

  any_alike : (a : ℕ) (turns : List ℕ) → is_used used a ≡ true → AreUsed used turns
      → list_any (λ n. tokens_below used a == n) (map (tokens_below used) turns) ≡ list_any (λ n. a == n) turns
  any_alike a [] h each = refl
  any_alike a (b ∷ turns) h each = ap₂ (λ x y. x || y) (same_turn a b h each.0) (any_alike a turns h each.1)

  repeats_alike : (turns : List ℕ) → AreUsed used turns → has_repeat (map (tokens_below used) turns) ≡ has_repeat turns
  repeats_alike [] h = refl
  repeats_alike (a ∷ turns) h = ap₂ (λ x y. x || y) (any_alike a turns h.0 h.1) (repeats_alike turns h.1)

used_later : (first : ℕ) (used turns : List ℕ) → AreUsed used turns → AreUsed (first ∷ used) turns
used_later first used [] h = tt
used_later first used (turn ∷ turns) h =
    (or_right (first == turn) (is_used used turn) h.0, used_later first used turns h.1)

pub all_used : (used : List ℕ) → AreUsed used used
all_used [] = tt
all_used (turn ∷ used) =
    (or_left (turn == turn) (is_used used turn) (eq-eqb turn turn refl), used_later turn used used (all_used used))

pub class_alike : (used : List ℕ) → class_of used ≡ class_of (uses_of used)
class_alike used =
    let falls = falls_alike used used (all_used used) in
    let repeats = repeats_alike used used (all_used used) in
    λ i. record { order = cond (sym falls i) InOrder Reorder; multiplicity = sym repeats i }
