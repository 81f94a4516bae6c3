use Rattle.loop_print.proofs.Written.{behind}
use Rattle.loop_print.proofs.printer.print_declaration.Goals as goal

pub returns : goal.returns
returns c = rw (← c.as_slice.ensures)
    (behind c.in_ok-put_declare.ensures (behind c.in_ok-print_names.ensures c.in_ok-put.ensures))
