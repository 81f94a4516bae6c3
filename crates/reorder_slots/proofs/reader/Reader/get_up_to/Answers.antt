use Rattle.std.proofs.Common.{◌≡◌, ◌+◌, ◌-◌, sym, subst, arith, vec_len}
use Rattle.reorder_slots.specs.Slots.{Held, after_gets}
use Rattle.reorder_slots.specs.Readers.{Keeps}
use Rattle.reorder_slots.proofs.Gets.{after_gets-more}
use Rattle.reorder_slots.proofs.reader.Reader.get_up_to.Goals as goal

pub loop-self-preserved : goal.loop-self-preserved
loop-self-preserved c =
    let before = vec_len c.args.self.now.slot_of_get in
    let now = vec_len c.loop-self.self.slot_of_get in
    let next = vec_len c.get.new.self.slot_of_get in
    record {
      more = omega (arith, c.in_ok-get.ensures.len);
      enough = omega (arith, c.in_ok-get.ensures.len);
      hold = omega (arith, c.in_ok-get.ensures.len, c.in_ok-get.ensures.hold);
      kept = λ uses number held keeps wanted.
          let kept = c.loop-self.invariant.kept uses number held keeps wanted in
          let step = c.in_ok-get.ensures.kept uses number (after_gets uses number (now - before) held) kept
          (wanted now (omega arith) (omega arith)) in
          let one : next - before ≡ now - before + 1 = omega (arith, c.in_ok-get.ensures.len) in
          subst (λ (h : Held). Keeps uses number h c.get.new.self)
          (sym (after_gets-more uses number (now - before) (next - before) held one)) step;
    }

pub returns-clause-kept : goal.returns-clause-kept
returns-clause-kept c = λ uses number held keeps wanted.
    let before = vec_len c.args.self.now.slot_of_get in
    let now = vec_len c.loop-self.self.slot_of_get in
    let same : now - before ≡ c.args.token + 1 - before = omega arith in
    subst (λ n. Keeps uses number (after_gets uses number n held) c.loop-self.self) same
    (c.loop-self.invariant.kept uses number held keeps wanted)
