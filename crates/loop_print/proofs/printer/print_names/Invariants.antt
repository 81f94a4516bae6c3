use Rattle.loop_grammar.specs.declared.lexeme.Lexeme.TheVariants as word
use Rattle.loop_print.specs.Printing.{behind_sign, named_words}
use Rattle.loop_print.proofs.Written.{WritesFirst}
use Rattle.loop_print.proofs.printer.print_names.Given as goal

abbrev pub invariant-loop-named : goal.invariant-loop-named
invariant-loop-named l =
    WritesFirst (behind_sign word.Comma named_words) l.others l.named-index l.initial.out.items l.out.items
