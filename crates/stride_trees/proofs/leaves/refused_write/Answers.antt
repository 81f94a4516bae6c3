-- The place tells which test it is: one that is asked has a lower place than a test that says no by its form alone.
use Rattle.std.proofs.Common.{arith}
use Rattle.std.proofs.lemmas.Result.{IfOk-weaker}
use Rattle.stride_trees.proofs.leaves.refused_write.Goals as goal

pub never_write-requires-clause-never : goal.never_write-requires-clause-never
never_write-requires-clause-never c = c.requires.test.never (omega (arith, c.if-test-lt-NO_PLACE.false))

pub returns-then-test-lt-NO_PLACE : goal.returns-then-test-lt-NO_PLACE
returns-then-test-lt-NO_PLACE c =
    IfOk-weaker c.undivided_write.result _ _
    (λ proof refutes cx order at made count. refutes cx order (at.asked (omega (arith, c.if-test-lt-NO_PLACE.true))) made
    count) c.undivided_write.ensures

pub returns-else-test-lt-NO_PLACE : goal.returns-else-test-lt-NO_PLACE
returns-else-test-lt-NO_PLACE c =
    IfOk-weaker c.never_write.result _ _
    (λ proof refutes cx order at made count. refutes cx order at.small at.reader made count) c.never_write.ensures
