use Rattle.std.proofs.Common.{sym}
use Rattle.source_tests.proofs.Candidates.{writes_array}
use Rattle.source_tests.proofs.trees.tree_of_strides.Goals as goal
use Rattle.source_tree.specs.References.{occurrence_of}

pub stride_candidate-requires-clause-class : goal.stride_candidate-requires-clause-class
stride_candidate-requires-clause-class c = c.in_stride_class.ensures.0 c.if-not-in_stride_class.false

pub stride_candidate-requires-clause-writes : goal.stride_candidate-requires-clause-writes
stride_candidate-requires-clause-writes c =
    writes_array c.args.nest.now c.args.arg3.0 c.args.arg3.1 c.args.writer c.in-Some-Some.reading.now
    c.in-Some-Some.writing.now c.in-Some.access.now (occurrence_of c.in-Some-write_to.write)
    (sym c.in-Some-Some.ensures.value) (sym c.in-Some.ensures.value) (sym c.in-Some-Some.ensures'.value)
    c.in-Some-write_to.ensures
