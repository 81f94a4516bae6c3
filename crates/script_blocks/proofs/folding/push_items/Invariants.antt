use Rattle.std.proofs.Common.{◌≡◌, ◌++◌, take}
use Rattle.script_blocks.specs.Expansion.{parts_expansion}
use Rattle.script_blocks.specs.Labels.{items_or}
use Rattle.script_blocks.specs.Nesting.{are_proper, parts_nesting}
use Rattle.script_blocks.proofs.folding.push_items.Given as goal

abbrev pub invariant-loop-label : goal.invariant-loop-label
invariant-loop-label g l =
    (parts_expansion l.parts
    ≡ parts_expansion l.initial.parts ++ items_or l.kinds l.other (take l.label-index l.labels))
    × (parts_nesting l.parts ≡ parts_nesting l.initial.parts)
    × (are_proper l.parts ≡ are_proper l.initial.parts)
