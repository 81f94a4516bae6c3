-- No capacities below the least ones let a run end all.
--
-- Let some capacities be in no channel above the least ones, and below them in one. When that channel's turn came the others
-- had at least their least capacities, and with one less than it was given then the network doesn't end (`less_sticks`). In
-- no channel is that less than the given capacities, so with these no run ends all either. That no other capacities have a
-- lesser sum doesn't follow.
use Rattle.std.proofs.Common.{◌≡◌, ℕ, ◌-◌, ◌<◌, ◌≤◌, true, List, ap, sym, ◌∙◌, inl, inr, arith}
use Rattle.std.proofs.lemmas.Bool.{both_ways, cases_eq}
use Rattle.net_core.specs.Machine.{Net, Rule, replaced}
use Rattle.net_core.specs.Orders.{EndsAll}
use Rattle.net_core.specs.Shape.{IsWired}
use Rattle.net_core.proofs.EventCounts.{replaced_other, replaced_same}
use Rattle.witness_plan.proofs.OtherCapacities.{wired_at}
use Rattle.cap_trim.specs.Capacities.{least_capacity, trimmed_network, trimmed_network_below, with_capacity, with_room}
use Rattle.cap_trim.specs.Rests.{can_end}
use Rattle.cap_trim.proofs.AtRest.{can_end_roomier, can_end_since}
use Rattle.cap_trim.proofs.LeastCapacities.{before_is, falls, keeps, less_sticks, turn_here}

module _ (n : Net) (wired : IsWired n) (capacities : ℕ → ℕ) (c : ℕ) (there : c < n.channels) where
  abbrev least : ℕ → ℕ
  least = (trimmed_network n).capacity

  -- the network when the channel's turn came
  abbrev turn : Net
  turn = trimmed_network_below n c

  -- what the channel was given then it keeps
  given : least c ≡ least_capacity turn c
  unfolding trimmed_network
  given = keeps n c n.channels (omega arith) ∙ turn_here n c

  -- and no other one has been given more since
  no_more : (d : ℕ) → least d ≤ turn.capacity d
  unfolding trimmed_network
  no_more d = falls n c n.channels d (omega arith)

  abbrev lower : ℕ → ℕ
  lower = replaced turn.capacity c (least c - 1)

  same_net : with_room n lower ≡ with_capacity turn c (least c - 1)
  same_net = sym (ap (λ (x : Net). with_room x lower) (before_is n c))

  above : ((d : ℕ) → d < n.channels → capacities d ≤ least d) → capacities c < least c → (d : ℕ) → d < n.channels
      → capacities d ≤ lower d
  above within below d inside =
      elim (cases_eq d c) [
        | inl same ↦
            let here : capacities d ≡ capacities c = ap capacities same in
            omega (arith, here, below, replaced_same turn.capacity c (least c - 1) d same)
        | inr other ↦
            omega (arith, within d inside, no_more d, replaced_other turn.capacity c (least c - 1) d other)
      ]

  pub none_below : {T : Type 0} (rule : Rule T) (run : List ℕ) → ((d : ℕ) → d < n.channels → capacities d ≤ least d)
      → capacities c < least c → EndsAll (with_room n capacities) rule run → ⊥
  none_below {T} rule run within below whole =
      let small = wired_at n capacities wired in
      let can = can_end_since (with_room n capacities) small rule run whole in
      let more : can_end (with_room n lower) ≡ true =
      can_end_roomier (with_room n capacities) small lower (above within below) can in
      both_ways (can_end (with_capacity turn c (least c - 1)))
      (less_sticks turn c (least c - 1) (omega (arith, given, below))) (ap can_end (sym same_net) ∙ more)
