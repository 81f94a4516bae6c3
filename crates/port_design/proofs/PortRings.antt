-- A ring beside a channel of the design holds its tokens.
--
-- The invariant is `Holds`: the ring has as many tokens as the channel, and they lie in it in order from the
-- oldest one on. Behind a reset both are empty. An edge keeps it (`edge_holds`), since at each edge the two are
-- asked alike and are offered the same token, which is there where one is offered. By induction over the edges. A
-- channel without a place has no ring.
use Rattle.std.proofs.Common.{◌≡◌, ℕ, zero, suc, ◌<◌, true, Some}
use Rattle.net_core.specs.Machine.{Net, Rule}
use Rattle.design_clocks.specs.Rings.{Holds}
use Rattle.design_clocks.proofs.Rings.{edge_holds, empty_holds}
use Rattle.port_design.specs.Registers.{Controls, after_edges, asks, token_for}
use Rattle.port_design.specs.PortRings.{port_ring_after}

pub rings_hold : {T : Type 0} (n : Net) (controls : Controls) (rule : Rule T)
    → ((k c : ℕ) → ((after_edges n controls rule k).putter c).waits ≡ true
    → (x : T) × (token_for n (after_edges n controls rule k) c ≡ Some x))
    → (k c : ℕ) → 0 < n.capacity c
    → Holds (n.capacity c) (port_ring_after n controls rule c k) ((after_edges n controls rule k).fifo c)
rings_hold n controls rule defined zero c some = empty_holds (n.capacity c) some
rings_hold n controls rule defined (suc k) c some =
    let d = after_edges n controls rule k in
    edge_holds (n.capacity c) (asks n controls (λ p. true) d c) (d.putter c).waits (port_ring_after n controls rule c k)
    (token_for n d c) (d.fifo c) (rings_hold n controls rule defined k c some) (defined k c)
