use Rattle.std.proofs.Common.{◌+◌, ◌*◌, ◌∙◌, ap, arith, rules, FitsSigned}
use Rattle.std.specs.Int.{w128}
use Rattle.std.specs.Prelude.{unsigned_abs}
use Rattle.std.proofs.lemmas.Result.{IfOk-weaker}
use Rattle.stride_trees.proofs.CommonDivisors.{divisor_positive, positive_read, positive_size}
use Rattle.stride_trees.proofs.NeverDivided.{never_refuted}
use Rattle.stride_trees.proofs.RoundedRows.{rounded_proof}
use Rattle.stride_trees.proofs.TestNodes.{fitting_of, subscript_room}
use Rattle.stride_trees.proofs.never.never_write.Goals as goal

pub overflow_cast-rows : goal.overflow_cast-rows
overflow_cast-rows c =
    let f = fitting_of c.args.s.now c.requires.strided in
    omega (arith, c.len-rows.ensures, f.few_rows)

pub overflow_cast-subscripts : goal.overflow_cast-subscripts
overflow_cast-subscripts c =
    let f = fitting_of c.args.s.now c.requires.strided in
    omega (arith, c.len-subscripts.ensures, f.few_subscripts)

pub overflow_mul-row : goal.overflow_mul-row
overflow_mul-row c =
    let i = subscript_room c.args.s.now c.args.test.now c.requires.strided c.requires.test in
    omega (arith, i)

pub overflow_add-row : goal.overflow_add-row
overflow_add-row c =
    let f = fitting_of c.args.s.now c.requires.strided in
    let i = subscript_room c.args.s.now c.args.test.now c.requires.strided c.requires.test in
    omega (arith, c.len-rows.ensures, f.few_rows, i)

pub overflow_add-row-2 : goal.overflow_add-row-2
overflow_add-row-2 c =
    let f = fitting_of c.args.s.now c.requires.strided in
    let i = subscript_room c.args.s.now c.args.test.now c.requires.strided c.requires.test in
    omega (arith, c.len-rows.ensures, f.few_rows, i, c.requires.here)

pub overflow_mul-count : goal.overflow_mul-count
overflow_mul-count c =
    let f = fitting_of c.args.s.now c.requires.strided in
    omega (arith, c.len-subscripts.ensures, f.few_subscripts)

pub overflow_add-count : goal.overflow_add-count
overflow_add-count c =
    let f = fitting_of c.args.s.now c.requires.strided in
    omega (arith, c.len-subscripts.ensures, f.few_subscripts, c.requires.more)

pub overflow_add-count-2 : goal.overflow_add-count-2
overflow_add-count-2 c =
    let f = fitting_of c.args.s.now c.requires.strided in
    omega (arith, c.len-rows.ensures, f.few_rows, c.len-subscripts.ensures, f.few_subscripts, c.requires.more)

pub overflow_add-count-3 : goal.overflow_add-count-3
overflow_add-count-3 c =
    let f = fitting_of c.args.s.now c.requires.strided in
    omega (arith, c.len-rows.ensures, f.few_rows, c.len-subscripts.ensures, f.few_subscripts, c.requires.more, c.requires.here)

pub row_above-requires : goal.row_above-requires
row_above-requires c =
    let f = fitting_of c.args.s.now c.requires.strided in
    let i = subscript_room c.args.s.now c.args.test.now c.requires.strided c.requires.test in
    omega (arith, c.len-rows.ensures, f.few_rows, i, c.requires.here)

pub row_below-requires : goal.row_below-requires
row_below-requires c =
    let f = fitting_of c.args.s.now c.requires.strided in
    let i = subscript_room c.args.s.now c.args.test.now c.requires.strided c.requires.test in
    omega (arith, c.len-rows.ensures, f.few_rows, i, c.requires.here)

pub divisor_of-common-requires : goal.divisor_of-common-requires
divisor_of-common-requires c = record { divisor = divisor_positive c.args.s.now c.args.test.now c.requires.test }

pub returns : goal.returns
returns c =
    let common = c.divisor_of-common.result in
    let size = positive_size common c.divisor_of-common.ensures.positive in
    let fits : FitsSigned w128 common = search rules in
    let read = positive_read common c.divisor_of-common.ensures.positive fits in
    let d = c.args.test.now in
    let here = c.args.here in
    let row = here + (c.len-rows.result + 2 * d.subscript) in
    let all = here + (c.len-rows.result + (2 * c.len-subscripts.result + c.args.more)) in
    let above = c.row_above.result in
    let below = c.row_below.result in
    IfOk-weaker c.rounded.result _ _
    (λ proof is cx order small reader made count. never_refuted c.args.s.now d c.requires.strided c.requires.test
    c.requires.never here c.args.more cx small reader order made count proof row above below all
    (omega (arith, c.len-rows.ensures)) c.row_above.ensures c.row_below.ensures
    (omega (arith, c.len-rows.ensures, c.len-subscripts.ensures)) (unsigned_abs common) size.0
    c.divisor_of-common.ensures.greatest (is ∙ ap (λ z. rounded_proof z above below all) read)) c.rounded.ensures
