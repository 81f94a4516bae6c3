-- The first token of a stretch, which leaves one token less.
use Rattle.std.proofs.Common.{◌≡◌, ℕ, suc, ◌-◌, ◌<◌, List, ◌∷◌, ◌++◌, replicate, sym, ap, ◌∙◌, arith}
use Rattle.std.specs.List.{flat_map}
use Rattle.net_checker.specs.declared.turn_queue.Stretch.{Stretch}
use Rattle.net_checker.specs.TurnQueues.{stretch_turns, turns_in}

-- a stretch's first turn
first_turn : (stretch : Stretch) → 0 < stretch.count → (rest : Stretch) → rest.turn ≡ stretch.turn
    → rest.count ≡ stretch.count - 1 → stretch_turns stretch ≡ stretch.turn ∷ stretch_turns rest
first_turn stretch some rest turn count =
    let one : stretch.count ≡ suc rest.count = omega arith in
    ap (λ (n : ℕ). replicate n stretch.turn) one
    ∙ ap (λ (t : ℕ). stretch.turn ∷ replicate rest.count t) (sym turn)

-- the first token
pub first_token : (front rest back : Stretch) (middle : List Stretch) → 0 < front.count → rest.turn ≡ front.turn
    → rest.count ≡ front.count - 1 → turns_in front middle back ≡ front.turn ∷ turns_in rest middle back
first_token front rest back middle some turn count =
    ap (λ (xs : List ℕ). xs ++ (flat_map stretch_turns middle ++ stretch_turns back))
    (first_turn front some rest turn count)
