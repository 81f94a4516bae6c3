-- The channels of the design as rings of places.
use Rattle.std.specs.Prelude.{ℕ, zero, suc, true}
use Rattle.net_core.specs.Machine.{Net, Rule}
use Rattle.design_clocks.specs.Rings.{Ring, empty_ring, ring_after}
use Rattle.port_design.specs.Registers.{Controls, after_edges, asks, token_for}

-- the ring of a channel after so many edges, beside the design
abbrev pub port_ring_after : {T : Type 0} → Net → Controls → Rule T → ℕ → ℕ → Ring T
port_ring_after n controls rule c zero = empty_ring (n.capacity c)
port_ring_after n controls rule c (suc k) =
    ring_after (n.capacity c) (asks n controls (λ p. true) (after_edges n controls rule k) c)
    ((after_edges n controls rule k).putter c).waits
    (token_for n (after_edges n controls rule k) c) (port_ring_after n controls rule c k)
