use Rattle.loop_print.specs.Printing.{part_words}
use Rattle.loop_print.proofs.Written.{WritesFirst}
use Rattle.loop_print.proofs.printer.+print_part.Given as goal

abbrev pub invariant-print_parts-loop-part : goal.invariant-print_parts-loop-part
invariant-print_parts-loop-part l = WritesFirst part_words l.parts l.part-index l.initial.out.items l.out.items
