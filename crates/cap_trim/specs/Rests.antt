-- Where a network comes to rest: the positions at which no process can go on.
use Rattle.std.specs.Prelude.{◌≡◌, ◌≤◌, ◌==◌, ℕ, zero, suc, Bool, Option, List, [], ◌∷◌, map, take, length, slice_get, slice_index}
use Rattle.std.specs.List.{find, list_all, range_with_len}
use Rattle.std.specs.Option.{option_map_or}
use Rattle.net_core.specs.Cuts.{positions}
use Rattle.net_core.specs.Machine.{Net, State, Rule, start, enabled, step, IsRun, IsStuck}
use Rattle.net_core.specs.Orders.{reached}
use Rattle.net_core.specs.Rules.{tags}
use Rattle.net_core.specs.Shape.{events_below}

-- the least process that is enabled in a state, if any is
abbrev pub least_enabled : {T : Type 0} → Net → State T → Option ℕ
least_enabled n s = find (enabled n s) (range_with_len 0 n.processes)

-- the run from this state on in which each time the least enabled process steps, until none is, for so many events at most
abbrev pub least_run_from : {T : Type 0} → Net → Rule T → ℕ → State T → List ℕ
least_run_from n rule zero s = []
least_run_from n rule (suc many) s =
    option_map_or (λ p. p ∷ least_run_from n rule many (step n rule s p)) (least_enabled n s) []

-- The least-process run: at each state the least enabled process steps, until none is enabled. It has no more events than the scripts.
unfoldable pub least_run : Net → List ℕ
least_run n = least_run_from n tags (events_below n n.processes) (start n)

-- the positions of all processes in a state, in order
abbrev pub position_list : {T : Type 0} → Net → State T → List ℕ
position_list n s = map (positions s) (range_with_len 0 n.processes)

-- the positions that the least-process run reaches
abbrev pub rest : Net → List ℕ
rest n = position_list n (reached n tags (least_run n))

-- whether the network ends: at rest each process is at its script's end
abbrev pub can_end : Net → Bool
can_end n =
    list_all (λ p. slice_index (rest n) p == length (n.script p)) (range_with_len 0 n.processes)

-- at each of its places a run has the process that is the least enabled there, and at its end none is enabled
pub record IsLeastRun (n : Net) (run : List ℕ) : Type 0 where
  pub is_run : IsRun n tags (start n) run
  pub least : (i : ℕ) → i ≤ length run
      → slice_get run i ≡ least_enabled n (reached n tags (take i run))

-- each run that can't go on has the positions at rest
abbrev pub StopsAtRest : {T : Type 0} → Net → Rule T → Type 0
StopsAtRest n rule =
    (run : List ℕ) → IsRun n rule (start n) run → IsStuck n (reached n rule run)
    → position_list n (reached n rule run) ≡ rest n
