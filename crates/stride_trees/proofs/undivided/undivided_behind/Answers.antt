use Rattle.std.proofs.Common.{◌+◌, ◌*◌, arith}
use Rattle.std.proofs.lemmas.Result.{IfOk-weaker}
use Rattle.stride_trees.proofs.TestNodes.{fitting_of, subscript_room}
use Rattle.stride_trees.proofs.NoWrites.{undivided_cuts, undivided_refuted}
use Rattle.stride_trees.proofs.undivided.undivided_behind.Goals as goal

pub overflow_cast-rows : goal.overflow_cast-rows
overflow_cast-rows c =
    let f = fitting_of c.args.s.now c.requires.strided in
    omega (arith, c.len-rows.ensures, f.few_rows)

pub overflow_cast-subscripts : goal.overflow_cast-subscripts
overflow_cast-subscripts c =
    let f = fitting_of c.args.s.now c.requires.strided in
    omega (arith, c.len-subscripts.ensures, f.few_subscripts)

pub overflow_mul-cell : goal.overflow_mul-cell
overflow_mul-cell c =
    let i = subscript_room c.args.s.now c.args.division.now c.requires.strided c.requires.test in
    omega (arith, i)

pub overflow_add-cell : goal.overflow_add-cell
overflow_add-cell c =
    let f = fitting_of c.args.s.now c.requires.strided in
    let i = subscript_room c.args.s.now c.args.division.now c.requires.strided c.requires.test in
    omega (arith, c.len-rows.ensures, f.few_rows, i)

pub overflow_add-cell-2 : goal.overflow_add-cell-2
overflow_add-cell-2 c =
    let f = fitting_of c.args.s.now c.requires.strided in
    let i = subscript_room c.args.s.now c.args.division.now c.requires.strided c.requires.test in
    omega (arith, c.len-rows.ensures, f.few_rows, i, c.requires.here)

pub overflow_mul-count : goal.overflow_mul-count
overflow_mul-count c =
    let f = fitting_of c.args.s.now c.requires.strided in
    omega (arith, c.len-subscripts.ensures, f.few_subscripts)

pub overflow_add-count : goal.overflow_add-count
overflow_add-count c =
    let f = fitting_of c.args.s.now c.requires.strided in
    omega (arith, c.len-subscripts.ensures, f.few_subscripts, c.requires.more)

pub overflow_add-count-2 : goal.overflow_add-count-2
overflow_add-count-2 c =
    let f = fitting_of c.args.s.now c.requires.strided in
    omega (arith, c.len-rows.ensures, f.few_rows, c.len-subscripts.ensures, f.few_subscripts, c.requires.more)

pub overflow_add-count-3 : goal.overflow_add-count-3
overflow_add-count-3 c =
    let f = fitting_of c.args.s.now c.requires.strided in
    omega (arith, c.len-rows.ensures, f.few_rows, c.len-subscripts.ensures, f.few_subscripts, c.requires.more, c.requires.here)

pub row_above-above-requires : goal.row_above-above-requires
row_above-above-requires c =
    let f = fitting_of c.args.s.now c.requires.strided in
    let i = subscript_room c.args.s.now c.args.division.now c.requires.strided c.requires.test in
    omega (arith, c.len-rows.ensures, f.few_rows, i, c.requires.here)

pub row_below-below-requires : goal.row_below-below-requires
row_below-below-requires c =
    let f = fitting_of c.args.s.now c.requires.strided in
    let i = subscript_room c.args.s.now c.args.division.now c.requires.strided c.requires.test in
    omega (arith, c.len-rows.ensures, f.few_rows, i, c.requires.here)

pub indivisible-requires-clause-count : goal.indivisible-requires-clause-count
indivisible-requires-clause-count c =
    let f = fitting_of c.args.s.now c.requires.strided in
    omega (arith, c.len-rows.ensures, f.few_rows, c.len-subscripts.ensures, f.few_subscripts, c.requires.more, c.requires.here)

pub returns : goal.returns
returns c =
    let s = c.args.s.now in
    let d = c.args.division.now in
    let here = c.args.here in
    let cell = here + (c.len-rows.result + 2 * d.subscript) in
    let all = here + (c.len-rows.result + (2 * c.len-subscripts.result + c.args.more)) in
    let above = c.row_above-above.result in
    let below = c.row_below-below.result in
    IfOk-weaker c.indivisible.result _ _
    (λ proof is cx order quotient at reader made count. (
      undivided_refuted s d c.requires.strided c.requires.test c.args.row quotient here c.args.more cx at reader order made
          count proof cell above below all (omega (arith, c.len-rows.ensures)) c.row_above-above.ensures
          c.row_below-below.ensures (omega (arith, c.len-rows.ensures, c.len-subscripts.ensures)) is,
      undivided_cuts s d c.requires.strided c.requires.test c.args.row quotient here c.args.more cx at reader order made
          count proof cell above below all (omega (arith, c.len-rows.ensures)) c.row_above-above.ensures
          c.row_below-below.ensures (omega (arith, c.len-rows.ensures, c.len-subscripts.ensures)) is,
    )) c.indivisible.ensures
