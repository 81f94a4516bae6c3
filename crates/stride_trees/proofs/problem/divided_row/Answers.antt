use Rattle.std.proofs.Common.{◌≡◌, sym, ◌∙◌, arith}
use Rattle.std.specs.Prelude.{Some}
use Rattle.std.proofs.lemmas.Int.{ints}
use Rattle.tree_cuts.specs.Class.{stride_of}
use Rattle.tree_cuts.proofs.QuotientRows.{stride_positive}
use Rattle.stride_trees.proofs.problem.divided_row.Goals as goal

pub quotients-requires : goal.quotients-requires
quotients-requires c =
    let is : stride_of c.args.row.now ≡ Some c.in-Some.c = sym c.small_stride.ensures.value ∙ c.in-Some.is in
    omega (arith, ints, c.size.ensures, stride_positive c.args.row.now c.in-Some.c is)
