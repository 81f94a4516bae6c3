use Rattle.std.proofs.Common.{◌≡◌, take}
use Rattle.lex_max.proofs.decide.copy_less.Given as goal

abbrev pub invariant-loop-terms : goal.invariant-loop-terms
invariant-loop-terms l = l.copies ≡ take l.terms-index l.less
