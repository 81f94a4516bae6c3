-- A network that sticks with one place less in any one channel ends with no lesser capacities.
--
-- Capacities that are in no channel above the network's, and below them in some channel, are in none above those with one
-- place less in that channel. More room does no harm, so a run that ends all with the former ends all with the latter, where none does.
-- That is of one network: what other networks need isn't said, nor that no other capacities have a lesser sum.
use Rattle.std.proofs.Common.{◌≡◌, ℕ, ◌-◌, ◌<◌, ◌≤◌, List, ap, inl, inr, arith}
use Rattle.std.proofs.lemmas.Bool.{cases_eq}
use Rattle.net_core.specs.Machine.{Net, replaced}
use Rattle.net_core.specs.Rules.{tags}
use Rattle.net_core.specs.Shape.{IsWired}
use Rattle.net_core.proofs.EventCounts.{replaced_other, replaced_same}
use Rattle.witness_plan.proofs.OtherCapacities.{wired_at}
use Rattle.cap_trim.specs.Capacities.{NoneEndsBelow, SticksBelow, with_room}
use Rattle.cap_trim.proofs.MoreRoom.{ends_roomier}

pub none_below : (n : Net) → IsWired n → (rests : List (List ℕ)) → SticksBelow n rests → NoneEndsBelow n n.capacity
none_below n wired rests sticks lesser c run there within below whole =
    let lower : ℕ → ℕ = replaced n.capacity c (n.capacity c - 1) in
    let above : (d : ℕ) → d < n.channels → lesser d ≤ lower d = λ d inside.
    elim (cases_eq d c) [
      | inl same ↦
          let here : lesser d ≡ lesser c = ap lesser same in
          omega (arith, here, below, replaced_same n.capacity c (n.capacity c - 1) d same)
      | inr other ↦
          omega (arith, within d inside, replaced_other n.capacity c (n.capacity c - 1) d other)
    ] in
    (sticks c there).endless run
    (ends_roomier (with_room n lesser) (wired_at n lesser wired) lower above tags run whole)
