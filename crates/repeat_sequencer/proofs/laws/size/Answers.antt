use Rattle.std.proofs.Common.{arith}
use Rattle.repeat_sequencer.proofs.Lengths.{all_more}
use Rattle.repeat_sequencer.proofs.Sizes.{all_few, as_many, as_nodes}
use Rattle.repeat_sequencer.proofs.laws.size.Goals as goal

pub returns : goal.returns
returns g c = record {
  items = λ blocks. as_many blocks;
  nodes = λ blocks. all_few blocks;
  ends = λ blocks proper. as_nodes blocks proper;
  within = λ blocks proper. omega (arith, as_many blocks, all_more blocks proper);
}
