use Rattle.std.proofs.Common.{◌≡◌, ℕ, ◌<◌, None, slice_get}
use Rattle.net_checker.specs.Lookups.{refused_reference}
use Rattle.net_checker.specs.SlotRows.{slots_in}
use Rattle.net_checker.proofs.entries.judge_fire.Given as goal

abbrev pub invariant-loop-read : goal.invariant-loop-read
invariant-loop-read l =
    (j : ℕ) → j < l.read
    → refused_reference l.points.of l.table.of l.first_read l.turn (slots_in l.slots) l.entry j (slice_get l.refs j)
    ≡ None
