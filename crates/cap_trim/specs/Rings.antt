-- Processes that wait for one another in a ring.
use Rattle.std.specs.Prelude.{◌≡◌, ◌<◌, ℕ, Bool, true, false, ◌==◌, Option, Some, None, slice_get}
use Rattle.std.specs.Fn.{iterate}
use Rattle.net_core.specs.declared.network.Event.{Event}
use Rattle.net_core.specs.declared.network.Event.TheVariants.{Get, Fire, Put}
use Rattle.net_core.specs.Cuts.{Cut}
use Rattle.net_core.specs.Machine.{Net}

-- the process that p waits for where this is its next event: at a Get the channel's writer, at a Put its reader, and else p itself
abbrev pub other_end : Net → ℕ → Option Event → ℕ
other_end n p None = p
other_end n p (Some (Get c slot)) = n.writer c
other_end n p (Some (Fire refs)) = p
other_end n p (Some (Put c)) = n.reader c

-- the process that p waits for at a cut
abbrev pub waits_for : Net → Cut → ℕ → ℕ
waits_for n k p = other_end n p (slice_get (n.script p) (k p))

-- whether an event is a Get, of whatever channel, or a Put to this channel
abbrev pub waits_at : ℕ → Option Event → Bool
waits_at c None = false
waits_at c (Some (Get d slot)) = true
waits_at c (Some (Fire refs)) = false
waits_at c (Some (Put d)) = c == d

-- Each process from p on waits for the next one, the last of them for p; and each makes a Get next, or a Put to channel c.
pub record IsRing (n : Net) (k : Cut) (c p : ℕ) : Type 0 where
  pub size : ℕ
  pub some : 0 < size
  pub back : iterate (waits_for n k) size p ≡ p
  pub waits : (i : ℕ) → i < size
      → waits_at c
      (slice_get (n.script (iterate (waits_for n k) i p)) (k (iterate (waits_for n k) i p)))
      ≡ true
