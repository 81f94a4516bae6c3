use Rattle.std.proofs.Common.{◌≡◌, ℕ, ◌<◌, None, slice_get}
use Rattle.net_checker.specs.Classes.{channel_refusal}
use Rattle.net_checker.proofs.classes.first_other_class.Given as goal

abbrev pub invariant-loop-at : goal.invariant-loop-at
invariant-loop-at l =
    (c : ℕ) → c < l.at → channel_refusal l.network c (slice_get l.network.channels c) ≡ None
