-- Cuts: one position for each process. Which process may go on is a matter of the cut alone.
use Rattle.std.specs.Prelude.{◌≡◌, ◌<◌, ◌≤◌, ℕ, suc, ◌+◌, Bool, true, false, nat_lt, Option, Some, None, List, [], ◌∷◌, length, take, slice_get, count_by}
use Rattle.net_core.specs.declared.network.Event.{Event}
use Rattle.net_core.specs.declared.network.Event.TheVariants.{Get, Fire, Put}
use Rattle.net_core.specs.Machine.{Net, State, replaced}
use Rattle.net_core.specs.Shape.{is_get, is_put, fires}

abbrev pub Cut : Type 0
Cut = ℕ → ℕ

-- every process at its script's beginning
abbrev pub opening : Cut
opening = λ p. 0

-- the cut of a state: each process's position
abbrev pub positions : {T : Type 0} → State T → Cut
positions s = λ p. (s.local p).position

-- the Gets of a channel before its reader's position, and its Puts before its writer's
abbrev pub gets_at : Net → Cut → ℕ → ℕ
gets_at n k c = count_by (is_get c) (take (k (n.reader c)) (n.script (n.reader c)))

-- the Puts of a channel before a cut
abbrev pub puts_at : Net → Cut → ℕ → ℕ
puts_at n k c = count_by (is_put c) (take (k (n.writer c)) (n.script (n.writer c)))

-- each queue holds what was put and not got, and each process has kept one value for each of its fires
pub record IsCounted {T : Type 0} (n : Net) (s : State T) : Type 0 where
  pub queues : (c : ℕ) → length (s.queue c) + gets_at n (positions s) c ≡ puts_at n (positions s) c
  pub kept : (p : ℕ) → length (s.local p).kept ≡ fires n p (s.local p).position

-- No position is past its script's end, and on each channel the Puts less the Gets lie between 0 and the capacity.
pub record IsLegal (n : Net) (k : Cut) : Type 0 where
  pub inside : (p : ℕ) → k p ≤ length (n.script p)
  pub got_is_put : (c : ℕ) → c < n.channels → gets_at n k c ≤ puts_at n k c
  pub within : (c : ℕ) → c < n.channels → puts_at n k c ≤ gets_at n k c + n.capacity c

-- whether an event may come at a cut, and whether a process may go on there
abbrev pub can_come_at : Net → Cut → Option Event → Bool
can_come_at n k None = false
can_come_at n k (Some (Get c slot)) = nat_lt (gets_at n k c) (puts_at n k c)
can_come_at n k (Some (Fire refs)) = true
can_come_at n k (Some (Put c)) = nat_lt (puts_at n k c) (gets_at n k c + n.capacity c)

-- whether a process may go on at a cut
abbrev pub enabled_at : Net → Cut → ℕ → Bool
enabled_at n k p = can_come_at n k (slice_get (n.script p) (k p))

-- the cut after one event of p
abbrev pub advanced : Cut → ℕ → Cut
advanced k p = replaced k p (suc (k p))

-- the cut after a list of steps
abbrev pub cut_after : Cut → List ℕ → Cut
cut_after k [] = k
cut_after k (p ∷ run) = cut_after (advanced k p) run

-- each of these processes may go on in turn
abbrev pub IsCutRun : Net → Cut → List ℕ → Type 0
IsCutRun n k [] = Unit {0}
IsCutRun n k (p ∷ run) = (enabled_at n k p ≡ true) × IsCutRun n (advanced k p) run
