use Rattle.std.proofs.Common.{arith}
use Rattle.loop_print.proofs.Written.{none_written, more_written, all_written}
use Rattle.loop_print.proofs.printer.print_declarations.Goals as goal

pub loop-declaration-init : goal.loop-declaration-init
loop-declaration-init c = none_written c.args.out.now.items

pub loop-declaration-preserved : goal.loop-declaration-preserved
loop-declaration-preserved c =
    more_written c.loop-declaration.invariant c.loop-declaration-test.true c.declaration-item.is c.in_ok-print_declaration.ensures

pub returns : goal.returns
returns c = all_written c.loop-declaration.invariant (omega arith)
