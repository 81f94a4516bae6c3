use Rattle.loop_print.proofs.Written.{behind}
use Rattle.loop_print.proofs.printer.print_comparison.Goals as goal

pub returns : goal.returns
returns c = behind c.in_ok-print_operand.ensures (behind c.in_ok-put_compare.ensures c.in_ok-print_operand-2.ensures)
