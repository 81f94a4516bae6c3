use Rattle.loop_print.proofs.Written.{behind}
use Rattle.loop_print.proofs.printer.print_guard.Goals as goal

pub returns : goal.returns
returns c = behind c.in_ok-put.ensures
    (behind c.in_ok-put-2.ensures (behind c.in_ok-print_comparisons.ensures c.in_ok-put-3.ensures))
