use Rattle.std.proofs.Common.{◌≡◌, arith, ◌∙◌, sym, ap}
use Rattle.loop_grammar.specs.declared.tree.Part.TheVariants.{For, If}
use Rattle.loop_print.specs.Printing.{part_words}
use Rattle.loop_print.proofs.Phrases.{words_for, words_if, words_assign, words_block}
use Rattle.loop_print.proofs.Written.{behind, nothing, none_written, more_written, all_written}
use Rattle.loop_print.proofs.printer.+print_part.Goals as goal

pub print_part-returns-in_ok-print_part-in-For : goal.print_part-returns-in_ok-print_part-in-For
print_part-returns-in_ok-print_part-in-For t c =
    let f = c.in-For in
    rw (ap part_words (f.is ∙ ap (For f.name f.first f.second f.inclusive f.bound f.third f.step) (sym c.get.ensures))
    ∙ words_for f.name f.first f.second f.inclusive f.bound f.third f.step c.get.result.now)
    (behind c.in_ok-print_header-in-For.ensures c.in_ok-print_part-in-For.ensures)

pub print_part-returns-in_ok-print_other-in-If : goal.print_part-returns-in_ok-print_other-in-If
print_part-returns-in_ok-print_other-in-If t c =
    let same : c.args.part.now ≡ If c.in-If.cond c.get-in-If.result.now c.in-If.other =
    c.in-If.is ∙ (λ i. If c.in-If.cond (sym c.get-in-If.ensures i) c.in-If.other) in
    rw (ap part_words same ∙ words_if c.in-If.cond c.get-in-If.result.now c.in-If.other, ← c.as_slice.ensures)
    (behind c.in_ok-print_guard-in-If.ensures
    (behind c.in_ok-print_part-in-If.ensures c.in_ok-print_other-in-If.ensures))

pub print_part-returns-in_ok-print_assign-in-Assign : goal.print_part-returns-in_ok-print_assign-in-Assign
print_part-returns-in_ok-print_assign-in-Assign t c =
    rw (c.in-Assign.is, ← c.as_slice-in-Assign.ensures, words_assign) c.in_ok-print_assign-in-Assign.ensures

pub print_part-returns-in_ok-put-in-Block-2 : goal.print_part-returns-in_ok-put-in-Block-2
print_part-returns-in_ok-put-in-Block-2 t c =
    rw (c.in-Block.is, ← c.as_slice-in-Block.ensures, words_block)
    (behind c.in_ok-put-in-Block.ensures
    (behind c.in_ok-print_parts-in-Block.ensures c.in_ok-put-in-Block-2.ensures))

pub print_parts-loop-part-init : goal.print_parts-loop-part-init
print_parts-loop-part-init t c = none_written c.args.out.now.items

pub print_parts-loop-part-preserved : goal.print_parts-loop-part-preserved
print_parts-loop-part-preserved t c =
    more_written c.loop-part.invariant c.loop-part-test.true c.part-item.is c.in_ok-print_part.ensures

pub print_parts-returns : goal.print_parts-returns
print_parts-returns t c = all_written c.loop-part.invariant (omega arith)

pub print_other-returns-in_ok-print_part-in-Some : goal.print_other-returns-in_ok-print_part-in-Some
print_other-returns-in_ok-print_part-in-Some t c =
    rw (c.in-Some.is, ← c.get.ensures) (behind c.in_ok-put-in-Some.ensures c.in_ok-print_part-in-Some.ensures)

pub print_other-returns-in-None : goal.print_other-returns-in-None
print_other-returns-in-None t c = rw c.in-None.is (nothing c.args.out.now.items)
