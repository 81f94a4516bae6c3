use Rattle.loop_print.specs.Printing.{declaration_words}
use Rattle.loop_print.proofs.Written.{WritesFirst}
use Rattle.loop_print.proofs.printer.print_declarations.Given as goal

abbrev pub invariant-loop-declaration : goal.invariant-loop-declaration
invariant-loop-declaration l = WritesFirst declaration_words l.declarations l.declaration-index l.initial.out.items l.out.items
