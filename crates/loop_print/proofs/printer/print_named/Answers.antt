use Rattle.loop_print.proofs.printer.print_named.Goals as goal

pub returns : goal.returns
returns c = rw c.as_slice.ensures at c.in_ok-print_access.ensures
