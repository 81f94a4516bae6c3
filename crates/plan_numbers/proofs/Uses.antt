-- The uses of a channel, from the turns that are used and how many tokens stand before each turn.
--
-- How many tokens stand before each turn is a table, and a use is what it has at the use's turn (`number_read`).
-- Whether a token is used from some use on is asked of the turns (`is_wanted_alike`): by induction along the turns
-- behind, since of two turns that are used the tokens are the same exactly where the turns are (`same_turn`). Of a
-- turn that isn't used this would be wrong: it has the number of the next one that is used.
use Rattle.std.proofs.Common.{◌≡◌, ◌<◌, ◌==◌, ◌||◌, ℕ, zero, suc, true, List, [], ◌∷◌, map, length, drop, get_or, refl}
use Rattle.std.proofs.Common.{ap, ap₂, ◌∙◌, arith}
use Rattle.std.specs.List.{list_any}
use Rattle.std.proofs.lemmas.List.{get_or-map}
use Rattle.std.proofs.lemmas.List.FromFn.{get_or-map-range_with_len}
use Rattle.channel_plan.specs.Tokens.{is_used, tokens_below, uses_of}
use Rattle.plan_numbers.proofs.Classes.{AreUsed, all_used, same_turn}
use Rattle.plan_numbers.specs.Numbers.{IsNumbered}
use Rattle.reorder_slots.specs.Slots.{is_wanted}

-- what is read for a turn
pub number_read : (used numbers : List ℕ) (turn : ℕ) → IsNumbered used numbers → turn < length numbers
    → get_or numbers turn 0 ≡ tokens_below used turn
number_read used numbers turn e below =
    ap (λ xs. get_or xs turn 0) e
    ∙ get_or-map-range_with_len (tokens_below used) 0 (length numbers) turn turn 0 below (omega arith)

-- a token is used from a place on exactly where its turn is
wanted_alike : (used : List ℕ) (turn : ℕ) (turns : List ℕ) → is_used used turn ≡ true → AreUsed used turns
    → list_any (λ named. named == tokens_below used turn) (map (tokens_below used) turns)
    ≡ list_any (λ named. named == turn) turns
wanted_alike used turn [] h each = refl
wanted_alike used turn (other ∷ turns) h each =
    ap₂ (λ x y. x || y) (same_turn used other turn each.0 h) (wanted_alike used turn turns h each.1)

used_behind : (used : List ℕ) (k : ℕ) (turns : List ℕ) → AreUsed used turns → AreUsed used (drop k turns)
used_behind used zero turns each = each
used_behind used (suc k) [] each = tt
used_behind used (suc k) (turn ∷ turns) each = used_behind used k turns each.1

used_at : (used : List ℕ) (turns : List ℕ) (k : ℕ) → AreUsed used turns → k < length turns
    → is_used used (get_or turns k 0) ≡ true
used_at used [] k each lt = absurd (omega arith)
used_at used (turn ∷ turns) zero each lt = each.0
used_at used (turn ∷ turns) (suc k) each lt = used_at used turns k each.1 (omega arith)

pub is_wanted_alike : (used : List ℕ) (q k : ℕ) → q < length used
    → is_wanted (uses_of used) k (get_or (uses_of used) q 0) ≡ is_wanted used k (get_or used q 0)
is_wanted_alike used q k lt =
    ap (is_wanted (uses_of used) k) (get_or-map (tokens_below used) used q 0 0 lt)
    ∙ ap (list_any (λ named. named == tokens_below used (get_or used q 0))) (drop_map (tokens_below used) k used)
    ∙ wanted_alike used (get_or used q 0) (drop k used) (used_at used used q (all_used used) lt)
    (used_behind used k used (all_used used))
  where
    drop_map : (f : ℕ → ℕ) (k : ℕ) (xs : List ℕ) → drop k (map f xs) ≡ map f (drop k xs)
    drop_map f zero xs = refl
    drop_map f (suc k) [] = refl
    drop_map f (suc k) (x ∷ xs) = drop_map f k xs
