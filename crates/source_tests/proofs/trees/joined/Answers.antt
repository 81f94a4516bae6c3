use Rattle.source_tests.proofs.trees.joined.Goals as goal

pub source_of-requires : goal.source_of-requires
source_of-requires c = c.in_stride_class.ensures.0 c.if-not-in_stride_class.false
