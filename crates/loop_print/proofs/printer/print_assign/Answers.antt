use Rattle.loop_print.proofs.Written.{behind}
use Rattle.loop_print.proofs.printer.print_assign.Goals as goal

pub returns : goal.returns
returns c = behind c.in_ok-print_access.ensures
    (behind c.in_ok-put.ensures (behind c.in_ok-print_operand.ensures c.in_ok-put-2.ensures))
