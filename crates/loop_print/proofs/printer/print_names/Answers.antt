use Rattle.std.proofs.Common.{arith}
use Rattle.std.proofs.lemmas.List.{nil_from_length}
use Rattle.loop_grammar.specs.declared.lexeme.Lexeme.TheVariants as word
use Rattle.loop_print.specs.Printing.{named_words}
use Rattle.loop_print.proofs.Written.{behind, nothing, none_written, more_written, joined_written}
use Rattle.loop_print.proofs.printer.print_names.Goals as goal

pub loop-named-init : goal.loop-named-init
loop-named-init c = none_written c.print_named.new.out.items

pub loop-named-preserved : goal.loop-named-preserved
loop-named-preserved c =
    more_written c.loop-named.invariant c.loop-named-test.true c.named-item.is
    (behind c.in_ok-put.ensures c.in_ok-print_named-2.ensures)

pub returns-after-loop-named : goal.returns-after-loop-named
returns-after-loop-named c =
    joined_written word.Comma named_words c.in-Some.ensures.cases.0 c.in_ok-print_named.ensures c.loop-named.invariant
    (omega arith)

pub returns-in_default : goal.returns-in_default
returns-in_default c =
    rw (nil_from_length c.args.names.now c.in_default.ensures.cases) (nothing c.args.out.now.items)
