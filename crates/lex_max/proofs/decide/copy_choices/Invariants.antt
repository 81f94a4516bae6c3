use Rattle.std.proofs.Common.{◌≡◌, take}
use Rattle.lex_max.proofs.decide.copy_choices.Given as goal

abbrev pub invariant-loop-choice : goal.invariant-loop-choice
invariant-loop-choice l = l.copies ≡ take l.choice-index l.choices
