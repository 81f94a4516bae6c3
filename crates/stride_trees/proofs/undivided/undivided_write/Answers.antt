use Rattle.std.proofs.Common.{◌+◌, ◌*◌, sym, subst, arith}
use Rattle.std.proofs.lemmas.Result.{IfOk-weaker}
use Rattle.stride_trees.specs.Contexts.{IsNoIn}
use Rattle.stride_trees.specs.Strides.{depth_of_read}
use Rattle.stride_trees.proofs.TestNodes.{fitting_of}
use Rattle.stride_trees.proofs.undivided.undivided_write.Goals as goal

pub overflow_cast-root : goal.overflow_cast-root
overflow_cast-root c =
    let f = fitting_of c.args.s.now c.requires.strided in
    omega (arith, c.len-root.ensures, f.few_reader_rows)

pub overflow_add-root : goal.overflow_add-root
overflow_add-root c =
    let f = fitting_of c.args.s.now c.requires.strided in
    omega (arith, c.len-root.ensures, f.few_reader_rows, c.requires.place)

pub undivided_behind-requires-clause-row : goal.undivided_behind-requires-clause-row
undivided_behind-requires-clause-row c =
    let f = fitting_of c.args.s.now c.requires.strided in
    omega (arith, c.len-root.ensures, f.few_reader_rows, c.requires.place)

pub returns : goal.returns
returns c =
    let d = c.args.division.now in
    let quotient = depth_of_read c.args.s.now + c.args.place in
    IfOk-weaker c.undivided_behind.result _ _
    (λ proof refutes cx order at made count.
    (refutes cx order quotient
    (subst (λ root. IsNoIn d (root + 2 * c.args.place) quotient c.args.here cx) (sym c.len-root.ensures)
    (record { small = at.small; first = at.first; second = at.second })) (omega (arith, at.inside)) made count).0)
    c.undivided_behind.ensures
