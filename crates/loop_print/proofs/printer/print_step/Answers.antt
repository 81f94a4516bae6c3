use Rattle.loop_print.proofs.Written.{behind}
use Rattle.loop_print.proofs.printer.print_step.Goals as goal

pub returns-in_ok-put-in-One : goal.returns-in_ok-put-in-One
returns-in_ok-put-in-One c = rw c.in-One.is (behind c.in_ok-put_name.ensures c.in_ok-put-in-One.ensures)

pub returns-in_ok-print_operand-in-By : goal.returns-in_ok-print_operand-in-By
returns-in_ok-print_operand-in-By c = rw c.in-By.is
    (behind c.in_ok-put_name.ensures (behind c.in_ok-put-in-By.ensures c.in_ok-print_operand-in-By.ensures))
