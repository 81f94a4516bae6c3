use Rattle.std.proofs.Common.{◌≡◌, ◌++◌, drop, take}
use Rattle.tree_trim.specs.Renumbering.{terms_by}
use Rattle.tree_trim.proofs.renumbering.renumber.Given as goal

-- the terms so far have their new numbers
abbrev pub invariant-loop-term : goal.invariant-loop-term
invariant-loop-term l =
    l.terms ≡ terms_by l.renumbering (take l.term-index l.initial.terms) ++ drop l.term-index l.initial.terms
