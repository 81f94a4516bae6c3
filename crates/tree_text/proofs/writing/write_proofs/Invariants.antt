use Rattle.std.proofs.Common.{take}
use Rattle.std.specs.List.{flat_map}
use Rattle.text_out.specs.Wrote.{Wrote}
use Rattle.tree_text.specs.TreeText.{proof_text}
use Rattle.tree_text.proofs.writing.write_proofs.Given as goal

-- those so far were written
abbrev pub invariant-loop-proof : goal.invariant-loop-proof
invariant-loop-proof g l = Wrote g.W.TextWriter.given l.fn.out l.out (flat_map proof_text (take l.proof-index l.proofs))
