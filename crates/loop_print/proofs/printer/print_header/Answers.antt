use Rattle.loop_print.proofs.Written.{behind}
use Rattle.loop_print.proofs.printer.print_header.Goals as goal

pub returns : goal.returns
returns c = rw (← c.bound_sign.ensures)
    (behind c.in_ok-put.ensures
    (behind c.in_ok-put-2.ensures (behind c.in_ok-put_name.ensures (behind c.in_ok-put-3.ensures
    (behind c.in_ok-print_operand.ensures (behind c.in_ok-put-4.ensures (behind c.in_ok-put_name-2.ensures
    (behind c.in_ok-put_compare.ensures (behind c.in_ok-print_operand-2.ensures
    (behind c.in_ok-put-5.ensures (behind c.in_ok-print_step.ensures c.in_ok-put-6.ensures)))))))))))
