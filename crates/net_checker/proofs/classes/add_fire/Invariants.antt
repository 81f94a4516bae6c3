use Rattle.std.proofs.Common.{◌≡◌, ℕ, ◌<◌, [], ◌++◌, length, take, slice_index_or}
use Rattle.std.specs.List.{flat_map}
use Rattle.net_core.specs.Uses.{use_of}
use Rattle.net_checker.specs.SlotRows.{slots_in}
use Rattle.net_checker.proofs.classes.add_fire.Given as goal

abbrev pub invariant-loop-read : goal.invariant-loop-read
invariant-loop-read l =
    (length l.uses ≡ length l.initial.uses)
    × ((c : ℕ) → c < length l.initial.uses
    → slice_index_or l.uses c []
    ≡ slice_index_or l.initial.uses c [] ++ flat_map (use_of c (slots_in l.slots)) (take l.read l.refs))
