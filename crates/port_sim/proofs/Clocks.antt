-- A clock of what the code holds: its three parts one after the other.
--
-- What `IsAt` says holds between two clocks, and between the parts of one. Each part keeps it, so behind the Puts,
-- the Fires and the Gets the code stands at the state after all events of the clock, and it has found some exactly
-- where the clock has some (`clock_done`). A clock with events is before the last one (`clock_before`), so the
-- code counts no clock too many. Which events a part has isn't a matter of this file.
use Rattle.std.proofs.Common.{◌≡◌, ◌<◌, ◌≤◌, ℕ, Bool, true, not, ◌||◌, length, ap, sym}
use Rattle.std.proofs.Common.{subst, ◌∙◌, inl, inr, arith}
use Rattle.std.proofs.lemmas.Bool.{both_ways, cases_lt, eq-eqb, not_from_true}
use Rattle.sanlp.specs.declared.nest.Tag.{Tag}
use Rattle.net_core.specs.Machine.{Net}
use Rattle.net_core.specs.Rules.{tags}
use Rattle.port_runs.specs.Ports.{PortState, port_after}
use Rattle.port_clocks.specs.PortClocks.{PortClocksEnd, after_port_clocks, after_fires, events_of_clock}
use Rattle.port_clocks.specs.PortClocks.{fires_of_clock, gets_of_clock, is_still_after, port_clocks, puts_of_clock}
use Rattle.port_clocks.proofs.OneClock.{behind_clock}
use Rattle.port_sim.specs.declared.ports.Ports.{Ports}
use Rattle.port_sim.specs.Windows.{IsAt}
use Rattle.port_sim.proofs.RunLists.{any_of, are_some}

-- the whole clock, where its parts have come
pub clock_done : (n : Net) (s : PortState Tag) (ports ports' : Ports) (puts fires gets : Bool) → IsAt n s ports
    → puts ≡ are_some (puts_of_clock n s) → fires ≡ are_some (fires_of_clock n tags s)
    → (IsAt n (port_after n tags (after_fires n tags s) (gets_of_clock n tags s)) ports')
    × (gets ≡ are_some (gets_of_clock n tags s))
    → (IsAt n (port_after n tags s (events_of_clock n tags s)) ports')
    × ((puts || (fires || gets)) ≡ are_some (events_of_clock n tags s))
clock_done n s ports ports' puts fires gets at some_puts some_fires last = (
  subst (λ (t : PortState Tag). IsAt n t ports') (sym (behind_clock n tags at.wired s)) last.0,
  ap (λ b. b || (fires || gets)) some_puts
      ∙ ap (λ b. are_some (puts_of_clock n s) || (b || gets)) some_fires
      ∙ ap (λ b. are_some (puts_of_clock n s) || (are_some (fires_of_clock n tags s) || b)) last.1
      ∙ any_of (puts_of_clock n s) (fires_of_clock n tags s) (gets_of_clock n tags s),
)

-- a clock with events is before the last
pub clock_before : (n : Net) → PortClocksEnd n tags → (k : ℕ) → k ≤ port_clocks n
    → not (is_still_after n k) ≡ true → k < port_clocks n
clock_before n ends k few some =
    elim (cases_lt k (port_clocks n)) [
      | inl lt ↦ lt
      | inr ge ↦
          let last : k ≡ port_clocks n = omega arith in
          let still : is_still_after n (port_clocks n) ≡ true =
          eq-eqb (length (events_of_clock n tags (after_port_clocks n tags (port_clocks n)))) 0
          (ap length ends.still) in
          absurd (both_ways (not (is_still_after n k))
          (not_from_true (is_still_after n k) (ap (is_still_after n) last ∙ still)) some)
    ]
