use Rattle.std.proofs.Common.{take}
use Rattle.std.specs.List.{flat_map}
use Rattle.text_out.specs.Wrote.{Wrote}
use Rattle.text_out.specs.Words.{spaced_text}
use Rattle.text_out.proofs.words.write_others.Given as goal

-- the words so far were written
abbrev pub invariant-loop-word : goal.invariant-loop-word
invariant-loop-word g l = Wrote g.W.TextWriter.given l.fn.out l.out (flat_map spaced_text (take l.word-index l.words))
