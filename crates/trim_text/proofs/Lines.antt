-- The words of a line, and numbers behind them with a space before each.
use Rattle.std.proofs.Common.{◌≡◌, ◌∙◌, ℕ, List, [], ◌∷◌, ◌++◌, codes, decimal, map, append-nil, append_assoc, sym, ap}
use Rattle.std.specs.List.{flat_map, join_with_byte}
use Rattle.std.proofs.lemmas.Grind.{common_steps}

joined : (first : List ℕ) (words : List (List ℕ)) (numbers : List ℕ)
    → join_with_byte 32 (first ∷ (words ++ map decimal numbers))
    ≡ join_with_byte 32 (first ∷ words) ++ flat_map (λ number. codes " " ++ decimal number) numbers
joined first [] [] = sym (append-nil first)
joined first [] (number ∷ numbers) =
    ap (λ (text : List ℕ). first ++ 32 ∷ text) (joined (decimal number) [] numbers)
joined first (word ∷ words) numbers =
    ap (λ (text : List ℕ). first ++ 32 ∷ text) (joined word words numbers)
    ∙ sym (append_assoc first (32 ∷ join_with_byte 32 (word ∷ words))
    (flat_map (λ number. codes " " ++ decimal number) numbers))

pub line_joined : (c capacity : ℕ) (positions : List ℕ)
    → join_with_byte 32
    (codes "channel" ∷ decimal c ∷ codes "capacity" ∷ decimal capacity ∷ codes "rest" ∷ map decimal positions)
    ≡ join_with_byte 32 (codes "channel" ∷ decimal c ∷ codes "capacity" ∷ decimal capacity ∷ codes "rest" ∷ [])
    ++ flat_map (λ position. codes " " ++ decimal position) positions
line_joined c capacity positions =
    joined (codes "channel") (decimal c ∷ codes "capacity" ∷ decimal capacity ∷ codes "rest" ∷ []) positions

-- what the writing of a line wants in its `using`
pub ruleset line_steps = (common_steps, append_assoc, line_joined)
