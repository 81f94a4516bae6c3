use Rattle.std.proofs.Common.{◌≡◌, [], length, sym, ap, ◌∙◌, to_z, of_z, arith, map}
use Rattle.std.specs.Int.{w64}
use Rattle.std.proofs.lemmas.Int.{ints}
use Rattle.wrap_expr.specs.declared.expr.Expr.{Const, Neg}
use Rattle.loop_grammar.specs.declared.tree.Operand.TheVariants.{Binary}
use Rattle.loop_grammar.specs.declared.tree.Operand.TheVariants as operand
use Rattle.loop_bind.specs.declared.value.Extreme.TheVariants.{Least, Greatest}
use Rattle.loop_bind.specs.Names.{value_named}
use Rattle.loop_bind.specs.Values.{valued, name_value, binary_expr, extreme_expr, list_value, without_reads}
use Rattle.loop_bind.proofs.ValueLemmas.{valued_number, valued_access, valued_binary, valued_neg, valued_min}
use Rattle.loop_bind.proofs.ValueLemmas.{valued_max, no_reads, binary_ok, neg_reads, same_ok, next_reads}
use Rattle.loop_bind.proofs.value.+value.Goals as goal

pub value-returns-in-Number : goal.value-returns-in-Number
value-returns-in-Number t c =
    let read : to_z w64 (of_z w64 c.in-Number.value) ≡ c.in-Number.value = omega (arith, ints) in
    no_reads (Const (to_z w64 (of_z w64 c.in-Number.value))) c.args.reads.now c.args.least.now
    (valued c.args.depth c.args.scope.now c.args.operand.now (length c.args.reads.now))
    (valued_number c.args.depth c.args.scope.now c.args.operand.now
    (length c.args.reads.now) c.in-Number.value c.in-Number.token c.in-Number.is
    ∙ ap (λ v. without_reads (Const v) []) (sym read))

pub value-returns-in-Access : goal.value-returns-in-Access
value-returns-in-Access t c =
    let k = length c.args.reads.now in
    let name = c.in-Access.name in
    let scope = c.args.scope.now in
    same_ok c.name_expr.result c.args.reads.now c.name_expr.new.reads c.args.least.now c.name_expr.new.least
    (name_value c.args.depth scope name.token (value_named scope name.text) c.as_slice.result.now k)
    (valued c.args.depth scope c.args.operand.now k)
    c.name_expr.ensures
    (valued_access c.args.depth scope c.args.operand.now k name c.in-Access.subscripts c.in-Access.is
    ∙ ap (λ list. name_value c.args.depth scope name.token (value_named scope name.text) list k)
    (sym c.as_slice.ensures))

pub value-returns-in-Ok : goal.value-returns-in-Ok
value-returns-in-Ok t c =
    let d = c.args.depth in
    let scope = c.args.scope.now in
    let k = length c.args.reads.now in
    binary_ok c.binary.result (binary_expr c.in-Binary.sign) c.in_ok-left-in-Binary.left c.in-Ok.right
    c.args.reads.now c.value.new.reads c.value-in-Binary.new.reads c.args.least.now c.value.new.least
    c.value-in-Binary.new.least
    (valued d scope c.get.result.now k) (valued d scope c.get-in-Binary.result.now)
    (valued d scope c.args.operand.now k)
    c.binary.ensures c.in_ok-left-in-Binary.ensures (rw c.in-Ok.is at c.value-in-Binary.ensures)
    (valued_binary d scope c.args.operand.now k c.in-Binary.sign c.in-Binary.token c.get.result.now
    c.get-in-Binary.result.now
    (c.in-Binary.is
    ∙ (λ i. Binary c.in-Binary.sign c.in-Binary.token (sym c.get.ensures i) (sym c.get-in-Binary.ensures i))))

pub value-returns-in_ok-new-in-Neg : goal.value-returns-in_ok-new-in-Neg
value-returns-in_ok-new-in-Neg t c =
    let d = c.args.depth in
    let scope = c.args.scope.now in
    let k = length c.args.reads.now in
    neg_reads (Neg c.in_ok-new-in-Neg.field-0) c.in_ok-inner-in-Neg.inner c.args.reads.now c.value-in-Neg.new.reads
    c.args.least.now c.value-in-Neg.new.least
    (valued d scope c.get-in-Neg.result.now k) (valued d scope c.args.operand.now k)
    (ap Neg c.in_ok-new-in-Neg.ensures) c.in_ok-inner-in-Neg.ensures
    (valued_neg d scope c.args.operand.now k c.in-Neg.token c.get-in-Neg.result.now
    (c.in-Neg.is ∙ ap (operand.Neg c.in-Neg.token) (sym c.get-in-Neg.ensures)))

pub value-returns-in-Min : goal.value-returns-in-Min
value-returns-in-Min t c =
    let k = length c.args.reads.now in
    let scope = c.args.scope.now in
    same_ok c.value_all.result c.args.reads.now c.value_all.new.reads c.args.least.now c.value_all.new.least
    (list_value (extreme_expr Least) (map (valued c.args.depth scope) c.as_slice-in-Min.result.now) k)
    (valued c.args.depth scope c.args.operand.now k)
    c.value_all.ensures
    (valued_min c.args.depth scope c.args.operand.now k c.in-Min.token c.in-Min.list c.in-Min.is
    ∙ ap (λ list. list_value (extreme_expr Least) (map (valued c.args.depth scope) list) k)
    (sym c.as_slice-in-Min.ensures))

pub value-returns-in-Max : goal.value-returns-in-Max
value-returns-in-Max t c =
    let k = length c.args.reads.now in
    let scope = c.args.scope.now in
    same_ok c.value_all-in-Max.result c.args.reads.now c.value_all-in-Max.new.reads c.args.least.now
    c.value_all-in-Max.new.least
    (list_value (extreme_expr Greatest) (map (valued c.args.depth scope) c.as_slice-in-Max.result.now) k)
    (valued c.args.depth scope c.args.operand.now k)
    c.value_all-in-Max.ensures
    (valued_max c.args.depth scope c.args.operand.now k c.in-Max.token c.in-Max.list c.in-Max.is
    ∙ ap (λ list. list_value (extreme_expr Greatest) (map (valued c.args.depth scope) list) k)
    (sym c.as_slice-in-Max.ensures))

pub value_all-loop-operand-preserved : goal.value_all-loop-operand-preserved
value_all-loop-operand-preserved t c =
    next_reads c.args.which c.args.depth c.args.scope.now c.args.operands.now c.in-Some.others.now c.in-Some.first.now
    c.operand-item.result c.loop-operand.operand-index
    c.in_ok-all-2.all c.loop-operand.all c.in-Ok.next c.args.reads.now c.loop-operand.reads
    c.value-in-loop-operand.new.reads
    c.args.least.now c.loop-operand.least c.value-in-loop-operand.new.least
    c.in-Some.ensures.cases.0 c.loop-operand-test.true c.operand-item.is c.loop-operand.invariant
    (rw c.in-Ok.is at c.value-in-loop-operand.ensures) c.in_ok-all-2.ensures
