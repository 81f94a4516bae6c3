use Rattle.std.proofs.Common.{◌≡◌, take}
use Rattle.lex_max.specs.Choices.{chosen_place}
use Rattle.lex_max.proofs.leaf.forms_of.Given as goal

abbrev pub invariant-loop-choice : goal.invariant-loop-choice
invariant-loop-choice l = l.forms ≡ chosen_place (take l.choice-index l.choices)
