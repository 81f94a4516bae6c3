use Rattle.loop_print.proofs.Written.{behind}
use Rattle.loop_print.proofs.printer.text_of.Goals as goal

pub returns : goal.returns
returns c = rw (← c.as_slice.ensures, ← c.as_slice-2.ensures)
    (rw c.new-out.ensures.items at (behind c.in_ok-print_declarations.ensures c.in_ok-print_parts.ensures).is)
