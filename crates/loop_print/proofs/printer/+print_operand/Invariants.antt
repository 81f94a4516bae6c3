use Rattle.loop_grammar.specs.declared.lexeme.Lexeme.TheVariants as word
use Rattle.loop_print.specs.Printing.{behind_sign, expr_words, subscript_words}
use Rattle.loop_print.proofs.Written.{WritesFirst}
use Rattle.loop_print.proofs.printer.+print_operand.Given as goal

abbrev pub invariant-print_arguments-loop-operand : goal.invariant-print_arguments-loop-operand
invariant-print_arguments-loop-operand l =
    WritesFirst (behind_sign word.Comma expr_words) l.others l.operand-index l.initial.out.items l.out.items

abbrev pub invariant-print_subscripts-loop-subscript : goal.invariant-print_subscripts-loop-subscript
invariant-print_subscripts-loop-subscript l =
    WritesFirst subscript_words l.subscripts l.subscript-index l.initial.out.items l.out.items
