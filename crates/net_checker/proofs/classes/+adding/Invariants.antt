use Rattle.std.proofs.Common.{◌++◌, length, take}
use Rattle.script_blocks.specs.Expansion.{parts_expansion, repeated}
use Rattle.net_core.specs.Machine.{net_of}
use Rattle.net_checker.specs.Collected.{IsCollected, IsCollectedBefore}
use Rattle.net_checker.specs.SlotRows.{slots_in}
use Rattle.net_checker.proofs.classes.+adding.Given as goal

abbrev pub invariant-add_parts-loop-part : goal.invariant-add_parts-loop-part
invariant-add_parts-loop-part l =
    (place : IsCollectedBefore (net_of l.fitting.network.now) l.process
    (parts_expansion l.parts) l.initial.gets l.initial.uses
    (slots_in l.initial.slots))
    → IsCollected (net_of l.fitting.network.now) l.process place.first_gets place.first_uses l.gets l.uses
    (slots_in l.slots)
    (length (place.before ++ parts_expansion (take l.part-index l.parts)))

abbrev pub invariant-add_copies-loop : goal.invariant-add_copies-loop
invariant-add_copies-loop l =
    (place : IsCollectedBefore (net_of l.fitting.network.now) l.process (repeated l.count
    (parts_expansion l.parts)) l.initial.gets
    l.initial.uses (slots_in l.initial.slots))
    → IsCollected (net_of l.fitting.network.now) l.process place.first_gets place.first_uses l.gets l.uses
    (slots_in l.slots)
    (length (place.before ++ repeated l.counter (parts_expansion l.parts)))
