-- A board that is advanced until no process steps has ended, where every order of events ends all.
--
-- The lane 0 of 1 has all processes. Where an advance of it steps none, all have ended or none is enabled, and in the
-- second case some run from there on would have to go on, or all have ended there too. Each advance that steps adds
-- an event, of which there are no more than the scripts have (`fewer_left`).
use Rattle.std.proofs.Common.{◌≡◌, ℕ, ◌<◌, ◌-◌, ◌%◌, List, [], ◌∷◌, ◌++◌, length, refl, inl, inr, ap, sym, subst, ◌∙◌}
use Rattle.std.proofs.Common.{arith, length-append}
use Rattle.std.specs.Prelude.{◌↔◌}
use Rattle.std.proofs.lemmas.Bool.{both_ways}
use Rattle.net_core.specs.declared.network.Network.{Network}
use Rattle.net_core.specs.Machine.{Net, net_of, start, enabled, IsRun}
use Rattle.net_core.specs.Orders.{EndsAll, EndsAlways, reached}
use Rattle.net_core.specs.Rules.{tags}
use Rattle.net_core.specs.Shape.{IsWired, events_below}
use Rattle.net_core.proofs.EveryOrder.{run_short}
use Rattle.trace_board.specs.declared.lanes.Advance.{Advance}
use Rattle.trace_board.specs.declared.lanes.Advance.TheVariants.{Stepped, Idle, Done}
use Rattle.trace_board.specs.Advances.{history_after}
use Rattle.trace_board.specs.Boards.{NetworkRun, IsRunFromStart, state_of}
use Rattle.trace_board.specs.Lanes.{IsLaneIdle, HasLaneEnded}
use Rattle.trace_board.proofs.BoardSteps.{history_left}

-- one lane has all processes
in_one_lane : (p : ℕ) → p % 1 ≡ 0
in_one_lane p = omega arith

-- what an advance of the one lane of a board with this history tells, where it steps no process
module _ (n : Net) (history : List ℕ) (run : IsRun n tags (start n) history) (ends : EndsAlways n tags) where
  pub all_ended : (a : Advance) → ((p : ℕ) → a ≡ Stepped p → ⊥)
      → ((a ≡ Idle) ↔ IsLaneIdle n (reached n tags history) 0 1)
      → ((a ≡ Done) ↔ HasLaneEnded n (reached n tags history) 0 1) → EndsAll n tags history
  all_ended (Stepped p) none idle done = absurd (none p refl)
  all_ended Idle none idle done =
      let stuck = (idle.0 refl).0 in
      elim (ends.goes_on history run) [
        | inl ended ↦ (run, ended)
        | inr some ↦ absurd
            (both_ways (enabled n (reached n tags history) some.0) (stuck some.0 (in_one_lane some.0)) some.1)
      ]
  all_ended Done none idle done = (run, λ p. done.0 refl p (in_one_lane p))

-- the board after an advance of the one lane that steps no process
pub finished : (network : Network) → EndsAlways (net_of network) tags → (old new : NetworkRun) (a : Advance)
    → ((p : ℕ) → a ≡ Stepped p → ⊥)
    → old.network ≡ network → new.network ≡ old.network → new.history ≡ history_after old.history a → IsRunFromStart new
    → ((a ≡ Idle) ↔ IsLaneIdle (net_of old.network) (state_of old) 0 1)
    → ((a ≡ Done) ↔ HasLaneEnded (net_of old.network) (state_of old) 0 1)
    → EndsAll (net_of network) tags new.history
finished network ends old new a none here kept grown run idle done =
    let same : new.history ≡ old.history = grown ∙ history_left old.history a none in
    let back : new ≡ old = λ i. record { network = kept i; history = same i } in
    let at_old : EndsAll (net_of old.network) tags old.history =
    all_ended (net_of old.network) old.history (subst (λ (b : NetworkRun). IsRunFromStart b) back run)
    (subst (λ (network : Network). EndsAlways (net_of network) tags) (sym here) ends) a none idle done in
    subst (λ (network : Network). EndsAll (net_of network) tags new.history) here
    (subst (λ (history : List ℕ). EndsAll (net_of old.network) tags history) (sym same) at_old)

-- fewer events are left after one more
pub fewer_left : (network : Network) → IsWired (net_of network) → (old new : NetworkRun) (a : Advance) (p : ℕ)
    → a ≡ Stepped p → old.network ≡ network → new.network ≡ old.network → new.history ≡ history_after old.history a
    → IsRunFromStart new
    → events_below (net_of new.network) (net_of new.network).processes - length new.history
    < events_below (net_of old.network) (net_of old.network).processes - length old.history
fewer_left network wired old new a p is here kept grown run =
    let events : Network → ℕ = λ network. events_below (net_of network) (net_of network).processes in
    let longer : new.history ≡ old.history ++ p ∷ [] = grown ∙ ap (history_after old.history) is in
    let wired' : IsWired (net_of new.network) =
    subst (λ (network : Network). IsWired (net_of network)) (sym (kept ∙ here)) wired in
    omega (
      arith,
      run_short (net_of new.network) tags wired' new.history run,
      ap length longer,
      length-append old.history (p ∷ []),
      ap events kept,
    )
