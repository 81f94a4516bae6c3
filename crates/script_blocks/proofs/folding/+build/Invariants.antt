use Rattle.std.proofs.Common.{◌≡◌, ◌+◌, ◌*◌, ◌≤◌, ◌++◌}
use Rattle.std.specs.Prelude.{IsTrue}
use Rattle.script_blocks.specs.Expansion.{parts_expansion}
use Rattle.script_blocks.specs.Labels.{items_or}
use Rattle.script_blocks.specs.Nesting.{are_proper, parts_nesting}
use Rattle.script_blocks.proofs.folding.+build.Given as goal

abbrev pub invariant-build-loop-symbol : goal.invariant-build-loop-symbol
invariant-build-loop-symbol g l =
    (parts_expansion l.initial.parts ++ items_or l.kinds l.other l.labels
    ≡ parts_expansion l.parts ++ items_or l.kinds l.other l.rest)
    × (parts_nesting l.parts ≤ l.depth)
    × IsTrue (are_proper l.parts)

abbrev pub decreases-build : goal.decreases-build
decreases-build g l = 3 * l.depth + 1

abbrev pub decreases-build_symbol : goal.decreases-build_symbol
decreases-build_symbol g l = 3 * l.depth

abbrev pub decreases-build_repeat : goal.decreases-build_repeat
decreases-build_repeat g l = 3 * l.depth + 2
