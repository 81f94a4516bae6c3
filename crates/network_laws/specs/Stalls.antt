-- Executions by one clock in which processes may be held back: by a slow memory, a stalled stream or a gated clock.
use Rattle.std.specs.Prelude.{◌≡◌, ◌≤◌, ℕ, zero, suc, Bool, true, ◌&&◌, List, [], ◌++◌}
use Rattle.std.specs.List.{filter, range_with_len}
use Rattle.net_core.specs.Machine.{Net, Rule, State, enabled}
use Rattle.net_core.specs.Orders.{reached}

-- the processes that step at a clock that begins in this state: the enabled ones that aren't held back, ascending
abbrev pub steps_of_clock : {T : Type 0} → Net → (ℕ → Bool) → State T → List ℕ
steps_of_clock n may s = filter (λ p. may p && enabled n s p) (range_with_len 0 n.processes)

-- the processes that step in the first so many clocks, where process p may step at clock k if `may k p` is true
abbrev pub run_with_stalls : {T : Type 0} → Net → Rule T → (ℕ → ℕ → Bool) → ℕ → List ℕ
run_with_stalls n rule may zero = []
run_with_stalls n rule may (suc k) =
    run_with_stalls n rule may k
    ++ steps_of_clock n (may k) (reached n rule (run_with_stalls n rule may k))

-- no process is held back for ever: one that is enabled may step at that clock or at a later one; nothing is asked for one
-- that waits or has ended
abbrev pub IsFair : {T : Type 0} → Net → Rule T → (ℕ → ℕ → Bool) → Type 0
IsFair n rule may =
    (k p : ℕ) → enabled n (reached n rule (run_with_stalls n rule may k)) p ≡ true
    → (j : ℕ) × (k ≤ j) × (may j p ≡ true)
