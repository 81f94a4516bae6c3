-- Other capacities leave the numbers of a network as they are.
use Rattle.std.proofs.Common.{◌≡◌, ◌<◌, ◌^◌, ℕ, sym, subst}
use Rattle.net_core.specs.Machine.{Net}
use Rattle.net_core.specs.Shape.{FitsNumbers}
use Rattle.net_core.proofs.Scripts.{events_below-capacities}

pub numbers_stay : (n changed : Net) (room : ℕ → ℕ) → changed ≡ record n { capacity = room } → FitsNumbers n
    → FitsNumbers changed
numbers_stay n changed room is fits =
    subst FitsNumbers (sym is)
    (record {
      processes = fits.processes;
      channels = fits.channels;
      events =
          subst (λ (k : ℕ). k < 2 ^ 32) (sym (events_below-capacities n room n.processes)) fits.events;
    })
