use Rattle.std.proofs.Common.{◌++◌, codes, take}
use Rattle.std.specs.List.{flat_map}
use Rattle.text_out.specs.Wrote.{Wrote}
use Rattle.tree_text.specs.TreeText.{term_words}
use Rattle.tree_text.proofs.writing.write_terms.Given as goal

-- those so far were written
abbrev pub invariant-loop-term : goal.invariant-loop-term
invariant-loop-term g l = Wrote g.W.TextWriter.given l.fn.out l.out
    (flat_map (λ term. flat_map (λ word. codes " " ++ word) (term_words term)) (take l.term-index l.terms))
