use Rattle.std.proofs.Common.{◌≡◌, ℕ, ℤ, ◌<◌, List, None, slice_get}
use Rattle.net_checker.specs.Lookups.{refused_reference}
use Rattle.net_checker.specs.SlotRows.{slots_in}
use Rattle.net_checker.proofs.entries.names_are_wanted.Given as goal

abbrev pub invariant-loop-read : goal.invariant-loop-read
invariant-loop-read l =
    (points : List (List (List ℤ))) (entry j : ℕ) → j < l.read
    → refused_reference points l.table.of l.first_read l.turn (slots_in l.slots) entry j (slice_get l.refs j) ≡ None
