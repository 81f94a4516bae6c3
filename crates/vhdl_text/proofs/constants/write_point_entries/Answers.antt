use Rattle.std.proofs.Common.{pos, refl, slice_index_or, ℤ, List}
use Rattle.vhdl_text.specs.Literals.{literal}
use Rattle.vhdl_text.proofs.Sequences.{entry_more}
use Rattle.vhdl_text.proofs.constants.write_point_entries.Goals as goal

pub loop-index-preserved : goal.loop-index-preserved
loop-index-preserved g c =
    entry_more g.W.TextWriter.given (λ (at : List ℤ). literal (slice_index_or at c.args.number (pos 0))) c.args.values.now
    c.loop-index.index c.index-values-index.result _ c.loop-index-test.true c.index-values-index.is refl
    c.loop-index.invariant c.write_point_entry.ensures
