use Rattle.std.proofs.Common.{◌≡◌, ◌∙◌, ◌+◌, ◌-◌, ◌++◌, ap, arith, map}
use Rattle.std.specs.Prelude.{slice_index}
use Rattle.std.specs.List.{range_with_len}
use Rattle.net_core.specs.declared.network.Event.TheVariants.{Get}
use Rattle.process_derive.specs.Scripts.{gets_for_uses}
use Rattle.process_derive.proofs.Lists.{counted_all, counted_more}
use Rattle.process_derive.proofs.events.add_gets.Goals as goal

pub loop-get-preserved : goal.loop-get-preserved
loop-get-preserved c = record {
  added = counted_more
      (λ m. Get c.args.found.channel
      (c.args.found.base + slice_index c.args.slots.now.slot_of_get m)) c.args.events.now c.loop-get.events _
      c.gets_for-done.result c.loop-get.get _ c.loop-get.auto.get
      (ap (λ slot. Get c.args.found.channel (c.args.found.base + slot))
      (c.number_at.ensures ∙ ap (λ xs. slice_index xs c.loop-get.get) c.as_slice-in-loop-get.ensures))
      c.loop-get.invariant.added c.in_ok-push_event.ensures;
  none = λ h. absurd (omega arith);
}

pub returns : goal.returns
returns c =
    let slots = c.args.slots.now in
    let needed : c.number_at-needed.result ≡ slice_index slots.gets_before c.args.found.number =
    c.number_at-needed.ensures ∙ ap (λ xs. slice_index xs c.args.found.number) c.as_slice.ensures in
    counted_all (λ m.
    Get c.args.found.channel
    (c.args.found.base + slice_index slots.slot_of_get m)) c.args.events.now c.loop-get.events
    c.gets_for-done.result c.loop-get.get c.number_at-needed.result c.loop-get.invariant.added (grind arith)
    ∙ ap (λ k. c.args.events.now
    ++ map (λ m. Get c.args.found.channel (c.args.found.base + slice_index slots.slot_of_get m))
    (range_with_len k (c.number_at-needed.result - k))) c.gets_for-done.ensures
    ∙ ap (λ k. c.args.events.now
    ++ map (λ m. Get c.args.found.channel (c.args.found.base + slice_index slots.slot_of_get m))
    (range_with_len (gets_for_uses slots c.args.found.number)
    (k - gets_for_uses slots c.args.found.number))) needed
