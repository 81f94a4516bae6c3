use Rattle.loop_grammar.specs.declared.lexeme.Lexeme.TheVariants as word
use Rattle.loop_print.specs.Printing.{behind_sign, comparison_words}
use Rattle.loop_print.proofs.Written.{WritesFirst}
use Rattle.loop_print.proofs.printer.print_comparisons.Given as goal

abbrev pub invariant-loop-comparison : goal.invariant-loop-comparison
invariant-loop-comparison l =
    WritesFirst (behind_sign word.And comparison_words) l.others l.comparison-index l.initial.out.items l.out.items
