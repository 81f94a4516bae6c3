use Rattle.std.proofs.Common.{take}
use Rattle.std.specs.List.{flat_map}
use Rattle.text_out.specs.Wrote.{Wrote}
use Rattle.text_out.specs.Words.{word_text}
use Rattle.vhdl_text.proofs.words.write_all.Given as goal

-- those so far were written
abbrev pub invariant-loop-word : goal.invariant-loop-word
invariant-loop-word g l =
    Wrote g.W.TextWriter.given l.fn.out l.out (flat_map word_text (take l.word-index l.words))
