use Rattle.tree_text.proofs.ReadBack.{tree_codec}
use Rattle.tree_text.proofs.law.reads_what_is_written.Goals as goal

pub returns : goal.returns
returns c = record {
  forth = λ at next t e. (tree_codec 512).forth at next t e;
  back = λ t number rest k. let reads = (tree_codec 512).back t number rest k in (reads.line, reads.reads);
}
