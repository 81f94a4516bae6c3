-- The scripts of processes, and how many events they have.
use Rattle.std.proofs.Common.{◌≡◌, ℕ, zero, suc, ◌+◌, length, refl, ap}
use Rattle.net_core.specs.Machine.{Net}
use Rattle.net_core.specs.Shape.{events_below}

-- other capacities leave the events as they are
pub events_below-capacities : (n : Net) (room : ℕ → ℕ) (p : ℕ)
    → events_below (record n { capacity = room }) p ≡ events_below n p
events_below-capacities n room zero = refl
events_below-capacities n room (suc p) = ap (λ (k : ℕ). k + length (n.script p)) (events_below-capacities n room p)
