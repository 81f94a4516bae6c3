use Rattle.std.proofs.Common.{◌≤◌, max, ◌+◌, ◌-◌, ℕ, List, vec_len}
use Rattle.reorder_slots.specs.Slots.{Held, after_gets}
use Rattle.reorder_slots.specs.Readers.{AreWanted, Keeps}
use Rattle.reorder_slots.proofs.reader.Reader.get_up_to.Given as goal

abbrev pub invariant-loop-self : goal.invariant-loop-self
invariant-loop-self l =
    let before = vec_len l.initial.self.slot_of_get in
    let now = vec_len l.self.slot_of_get in
    record {
      more : before ≤ now;
      enough : now ≤ max before (l.token + 1);
      hold : l.self.hold ≤ now;
      kept : (uses : List ℕ) (number : ℕ) (held : Held) → Keeps uses number held l.initial.self
          → AreWanted uses number before l.token
          → Keeps uses number (after_gets uses number (now - before) held) l.self;
    }

abbrev pub decreases-loop-self : goal.decreases-loop-self
decreases-loop-self l = l.token + 1 - vec_len l.self.slot_of_get
