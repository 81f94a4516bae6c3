-- What holds of every order of events.
use Rattle.std.specs.Prelude.{◌≡◌, ◌≢◌, ◌⊎◌, ◌≤◌, ℕ, true, List, length}
use Rattle.net_core.specs.Machine.{Net, State, Rule, start, enabled, step, after, IsRun, HasEnded, IsStuck}
use Rattle.net_core.specs.Shape.{events_below}
use Rattle.net_core.specs.Cuts.{Cut, positions, IsLegal}

-- an enabled process stays enabled whatever another process does
abbrev pub StaysEnabled : {T : Type 0} → Net → Rule T → Type 0
StaysEnabled {T} n rule =
    (s : State T) (p q : ℕ) → p ≢ q → enabled n s p ≡ true → enabled n (step n rule s q) p ≡ true

-- the steps of two different processes give one state in either order
abbrev pub StepsCommute : {T : Type 0} → Net → Rule T → Type 0
StepsCommute {T} n rule =
    (s : State T) (p q : ℕ) → p ≢ q → enabled n s p ≡ true → enabled n s q ≡ true
    → step n rule (step n rule s p) q ≡ step n rule (step n rule s q) p

-- the state after a run from the start
abbrev pub reached : {T : Type 0} → Net → Rule T → List ℕ → State T
reached n rule run = after n rule (start n) run

-- this list is a run from the start, and it ends all
abbrev pub EndsAll : {T : Type 0} → Net → Rule T → List ℕ → Type 0
EndsAll n rule run = IsRun n rule (start n) run × HasEnded n (reached n rule run)

-- Every order of events ends all.
pub record EndsAlways {T : Type 0} (n : Net) (rule : Rule T) : Type 0 where
  -- a state that a run reaches has ended, or some process may go on
  pub goes_on : (run : List ℕ) → IsRun n rule (start n) run
      → HasEnded n (reached n rule run) ⊎ ((p : ℕ) × (enabled n (reached n rule run) p ≡ true))
  -- and it can go on until all have ended
  pub ends : (run : List ℕ) → IsRun n rule (start n) run
      → (rest : List ℕ) × IsRun n rule (reached n rule run) rest
      × HasEnded n (after n rule (reached n rule run) rest)
  -- no queue is longer than its channel's capacity
  pub fits : (run : List ℕ) → IsRun n rule (start n) run → (c : ℕ)
      → length ((reached n rule run).queue c) ≤ n.capacity c
  -- a run that ends all has as many events as the scripts together
  pub events : (run : List ℕ) → EndsAll n rule run → length run ≡ events_below n n.processes
  -- the law of cuts: a legal cut has the positions of a state that a run reaches
  pub cuts : (k : Cut) → IsLegal n k
      → (run : List ℕ) × IsRun n rule (start n) run
      × ((p : ℕ) → positions (reached n rule run) p ≡ k p)

-- two runs that can't go on have the same positions
abbrev pub StopsAlike : {T : Type 0} → Net → Rule T → Type 0
StopsAlike n rule =
    (run other : List ℕ) → IsRun n rule (start n) run → IsRun n rule (start n) other
    → IsStuck n (reached n rule run) → IsStuck n (reached n rule other)
    → (p : ℕ) → positions (reached n rule run) p ≡ positions (reached n rule other) p
