use Rattle.std.proofs.Common.{take}
use Rattle.std.specs.List.{flat_map}
use Rattle.text_out.specs.Wrote.{Wrote}
use Rattle.tree_text.specs.TreeText.{map_text}
use Rattle.tree_text.proofs.writing.write_place.Given as goal

-- those so far were written
abbrev pub invariant-loop-form : goal.invariant-loop-form
invariant-loop-form g l = Wrote g.W.TextWriter.given l.fn.out l.out (flat_map map_text (take l.form-index l.place))
