use Rattle.std.proofs.Common.{refl}
use Rattle.stride_trees.proofs.candidate.alone.Goals as goal

pub returns : goal.returns
returns c = record {
  nest = refl;
  read = refl;
  writer = c.requires.writer.0;
  own = c.requires.writer.1;
  writers = c.requires.writer.2;
  tests = c.requires.tests;
  answers = c.requires.answers;
  cuts = refl;
  facts = refl;
  only = refl;
}
