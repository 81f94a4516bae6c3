use Rattle.std.proofs.Common.{◌≡◌, take, true}
use Rattle.std.specs.List.{list_all}
use Rattle.net_core.specs.Machine.{net_of}
use Rattle.net_checker.specs.Shapes.{is_own_event}
use Rattle.script_blocks.specs.Expansion.{parts_expansion}
use Rattle.net_checker.proofs.shapes.+own.Given as goal

abbrev pub invariant-parts_are_own-loop-part : goal.invariant-parts_are_own-loop-part
invariant-parts_are_own-loop-part l =
    list_all (is_own_event (net_of l.network) l.process) (parts_expansion (take l.part-index l.parts)) ≡ true
