use Rattle.std.proofs.Common.{arith}
use Rattle.std.proofs.lemmas.List.{nil_from_length}
use Rattle.loop_grammar.specs.declared.lexeme.Lexeme.TheVariants as word
use Rattle.loop_print.specs.Printing.{comparison_words}
use Rattle.loop_print.proofs.Written.{behind, nothing, none_written, more_written, joined_written}
use Rattle.loop_print.proofs.printer.print_comparisons.Goals as goal

pub loop-comparison-init : goal.loop-comparison-init
loop-comparison-init c = none_written c.print_comparison.new.out.items

pub loop-comparison-preserved : goal.loop-comparison-preserved
loop-comparison-preserved c =
    more_written c.loop-comparison.invariant c.loop-comparison-test.true c.comparison-item.is
    (behind c.in_ok-put.ensures c.in_ok-print_comparison-2.ensures)

pub returns-after-loop-comparison : goal.returns-after-loop-comparison
returns-after-loop-comparison c =
    joined_written word.And comparison_words c.in-Some.ensures.cases.0 c.in_ok-print_comparison.ensures c.loop-comparison.invariant
    (omega arith)

pub returns-in_default : goal.returns-in_default
returns-in_default c =
    rw (nil_from_length c.args.cond.now c.in_default.ensures.cases) (nothing c.args.out.now.items)
