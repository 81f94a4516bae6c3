use Rattle.tree_bounds.proofs.Branches.{dead_never, divides_never, test_never, writer_never, zero_never}
use Rattle.tree_bounds.proofs.trees.+stays_within.Goals as goal

pub returns-then-stays_within : goal.returns-then-stays_within
returns-then-stays_within t c = λ told.
    test_never c.args.limit c.args.tree.now c.in-Test.form c.in-Test.yes c.in-Test.no c.in-Test.is
    (c.has_values.ensures c.if-not-has_values.false) (rw c.get.ensures at c.stays_within.ensures c.if-stays_within.true)
    (rw c.get-then-stays_within.ensures at c.stays_within-then-stays_within.ensures told)

pub returns-then-stays_within-2 : goal.returns-then-stays_within-2
returns-then-stays_within-2 t c = λ told.
    divides_never c.args.limit c.in-Some.bound c.max-wider.result c.args.tree.now c.in-Divides.form
    c.in-Divides.field-1 c.in-Divides.yes c.in-Divides.no c.in-Divides.is c.in-Some.ensures.values c.max-wider.ensures
    (rw c.get-in-Divides.ensures at c.stays_within-in-Divides.ensures c.if-stays_within-2.true)
    (rw c.get-then-stays_within-2.ensures at c.stays_within-then-stays_within-2.ensures told)

pub returns-in-Writer : goal.returns-in-Writer
returns-in-Writer t c = λ told.
    writer_never c.args.limit c.args.tree.now c.in-Writer.field-0 c.in-Writer.place c.in-Writer.field-2 c.in-Writer.is
    (rw c.as_slice.ensures at c.all_have_values.ensures told)

pub returns-in-Zero : goal.returns-in-Zero
returns-in-Zero t c = λ told. zero_never c.args.limit c.args.tree.now c.in-Zero.field-0 c.in-Zero.is

pub returns-in-Dead : goal.returns-in-Dead
returns-in-Dead t c = λ told. dead_never c.args.limit c.args.tree.now c.in-Dead.field-0 c.in-Dead.is
