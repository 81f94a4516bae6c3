use Rattle.std.proofs.Common.{◌≡◌, ℕ, false, get_or, length, take}
use Rattle.channel_class.specs.Classes.{has_repeat}
use Rattle.channel_class.proofs.Marks.{is_named}
use Rattle.channel_class.proofs.has_marked_repeat.Given as goal

abbrev pub invariant-loop-named : goal.invariant-loop-named
invariant-loop-named l = record {
  many : length l.marks.items ≡ l.limit;
  none : has_repeat (take l.named-index l.uses) ≡ false;
  marked : (t : ℕ) → get_or l.marks.items t false ≡ is_named l.uses l.named-index t;
}
