use Rattle.std.proofs.Common.{◌≡◌, map, take}
use Rattle.lex_max.specs.Choices.{with_terms}
use Rattle.lex_max.proofs.decide.switched.Given as goal

abbrev pub invariant-loop-old : goal.invariant-loop-old
invariant-loop-old l = l.less ≡ map (with_terms l.terms) (take l.old-index l.old-items)
