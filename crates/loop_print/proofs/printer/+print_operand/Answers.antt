use Rattle.std.proofs.Common.{◌≡◌, to_z, of_z, arith, ◌∙◌, sym, ap}
use Rattle.std.proofs.lemmas.List.{nil_from_length}
use Rattle.std.specs.Int.{w64}
use Rattle.std.proofs.lemmas.Int.{ints}
use Rattle.loop_grammar.specs.declared.lexeme.Lexeme.TheVariants as word
use Rattle.loop_grammar.specs.declared.tree.Operand.TheVariants.{Binary, Neg}
use Rattle.loop_print.specs.Printing.{expr_words, phrase_of}
use Rattle.loop_print.proofs.Phrases.{phrase_number, phrase_access, phrase_binary, phrase_neg, phrase_min, phrase_max}
use Rattle.loop_print.proofs.Written.{as_phrase, behind, nothing, none_written, more_written, all_written, joined_written}
use Rattle.loop_print.proofs.printer.+print_operand.Goals as goal

pub print_at-returns-in_ok-put-2 : goal.print_at-returns-in_ok-put-2
print_at-returns-in_ok-put-2 t c =
    rw (← c.rank_of.ensures, ← c.asks_for_parentheses.ensures, c.if-asks_for_parentheses.true)
    (behind c.in_ok-put.ensures (behind c.in_ok-print_operand.ensures c.in_ok-put-2.ensures))

pub print_at-returns-in_ok-print_operand-2 : goal.print_at-returns-in_ok-print_operand-2
print_at-returns-in_ok-print_operand-2 t c =
    rw (← c.rank_of.ensures, ← c.asks_for_parentheses.ensures, c.if-asks_for_parentheses.false)
    c.in_ok-print_operand-2.ensures

pub print_choice-returns : goal.print_choice-returns
print_choice-returns t c = behind c.in_ok-put.ensures
    (behind c.in_ok-put-2.ensures (behind c.in_ok-print_arguments.ensures c.in_ok-put-3.ensures))

pub print_access-returns : goal.print_access-returns
print_access-returns t c = behind c.in_ok-put_name.ensures c.in_ok-print_subscripts.ensures

pub print_operand-returns-in_ok-put_number-in-Number : goal.print_operand-returns-in_ok-put_number-in-Number
print_operand-returns-in_ok-put_number-in-Number t c =
    let read : to_z w64 (of_z w64 c.in-Number.value) ≡ c.in-Number.value = omega (arith, ints) in
    as_phrase c.args.operand.now (ap phrase_of c.in-Number.is ∙ phrase_number c.in-Number.value c.in-Number.token)
    (rw read at c.in_ok-put_number-in-Number.ensures)

pub print_operand-returns-in_ok-print_access-in-Access : goal.print_operand-returns-in_ok-print_access-in-Access
print_operand-returns-in_ok-print_access-in-Access t c =
    as_phrase c.args.operand.now
    (ap phrase_of c.in-Access.is ∙ phrase_access c.in-Access.name c.in-Access.subscripts)
    (rw c.as_slice.ensures at c.in_ok-print_access-in-Access.ensures)

pub print_operand-returns-in_ok-print_at-in-Binary-2 : goal.print_operand-returns-in_ok-print_at-in-Binary-2
print_operand-returns-in_ok-print_at-in-Binary-2 t c =
    let b = c.in-Binary in
    let same : c.args.operand.now ≡ Binary b.sign b.token c.get.result.now c.get-in-Binary.result.now =
    b.is ∙ (λ i. Binary b.sign b.token (sym c.get.ensures i) (sym c.get-in-Binary.ensures i)) in
    as_phrase c.args.operand.now
    (ap phrase_of same ∙ phrase_binary b.sign b.token c.get.result.now c.get-in-Binary.result.now)
    (behind (rw c.rank_of_sign.ensures at c.in_ok-print_at-in-Binary.ensures)
    (behind c.in_ok-put_binary-in-Binary.ensures
    (rw c.rank_to_the_right.ensures at c.in_ok-print_at-in-Binary-2.ensures)))

pub print_operand-returns-in_ok-print_at-in-Neg : goal.print_operand-returns-in_ok-print_at-in-Neg
print_operand-returns-in_ok-print_at-in-Neg t c =
    as_phrase c.args.operand.now
    (ap phrase_of (c.in-Neg.is ∙ ap (Neg c.in-Neg.token) (sym c.get-in-Neg.ensures))
    ∙ phrase_neg c.in-Neg.token c.get-in-Neg.result.now)
    (behind c.in_ok-put_binary-in-Neg.ensures c.in_ok-print_at-in-Neg.ensures)

pub print_operand-returns-in_ok-print_choice-in-Min : goal.print_operand-returns-in_ok-print_choice-in-Min
print_operand-returns-in_ok-print_choice-in-Min t c =
    as_phrase c.args.operand.now (ap phrase_of c.in-Min.is ∙ phrase_min c.in-Min.token c.in-Min.list)
    (rw c.as_slice-in-Min.ensures at c.in_ok-print_choice-in-Min.ensures)

pub print_operand-returns-in_ok-print_choice-in-Max : goal.print_operand-returns-in_ok-print_choice-in-Max
print_operand-returns-in_ok-print_choice-in-Max t c =
    as_phrase c.args.operand.now (ap phrase_of c.in-Max.is ∙ phrase_max c.in-Max.token c.in-Max.list)
    (rw c.as_slice-in-Max.ensures at c.in_ok-print_choice-in-Max.ensures)

pub print_subscripts-loop-subscript-init : goal.print_subscripts-loop-subscript-init
print_subscripts-loop-subscript-init t c = none_written c.args.out.now.items

pub print_subscripts-loop-subscript-preserved : goal.print_subscripts-loop-subscript-preserved
print_subscripts-loop-subscript-preserved t c =
    more_written c.loop-subscript.invariant c.loop-subscript-test.true c.subscript-item.is
    (behind c.in_ok-put.ensures (behind c.in_ok-print_operand.ensures c.in_ok-put-2.ensures))

pub print_subscripts-returns : goal.print_subscripts-returns
print_subscripts-returns t c = all_written c.loop-subscript.invariant (omega arith)

pub print_arguments-loop-operand-init : goal.print_arguments-loop-operand-init
print_arguments-loop-operand-init t c = none_written c.print_operand.new.out.items

pub print_arguments-loop-operand-preserved : goal.print_arguments-loop-operand-preserved
print_arguments-loop-operand-preserved t c =
    more_written c.loop-operand.invariant c.loop-operand-test.true c.operand-item.is
    (behind c.in_ok-put.ensures c.in_ok-print_operand-2.ensures)

pub print_arguments-returns-after-loop-operand : goal.print_arguments-returns-after-loop-operand
print_arguments-returns-after-loop-operand t c =
    joined_written word.Comma expr_words c.in-Some.ensures.cases.0 c.in_ok-print_operand.ensures
    c.loop-operand.invariant (omega arith)

pub print_arguments-returns-in_default : goal.print_arguments-returns-in_default
print_arguments-returns-in_default t c =
    rw (nil_from_length c.args.list.now c.in_default.ensures.cases) (nothing c.args.out.now.items)
