use Rattle.std.proofs.Common.{◌≡◌, ◌++◌, ◌∙◌, pos, codes, decimal, length, slice_index_or, sym, ap}
use Rattle.std.proofs.lemmas.List.{length-map}
use Rattle.text_out.proofs.Wrote.{Wrote-append}
use Rattle.vhdl_text.specs.Constants.{variable_values}
use Rattle.vhdl_text.specs.Literals.{literal}
use Rattle.vhdl_text.proofs.Columns.{constant_pieces}
use Rattle.vhdl_text.proofs.constants.write_variable.Goals as goal

pub returns : goal.returns
returns g c =
    let w = g.W.TextWriter.given in
    let n = c.args.number in
    let points = c.args.auto.now.values in
    let values = variable_values n points in
    let count : length c.as_slice-values.result.now ≡ length values =
    ap length c.as_slice-values.ensures
    ∙ sym (length-map points (λ vector. literal (slice_index_or vector n (pos 0)))) in
    let head = rw (c.from.ensures, count) at c.write_head.ensures in
    let entries = rw c.as_slice-values.ensures at c.write_point_entries.ensures in
    let tail = rw (count, c.literal.ensures) at c.write_tail.ensures in
    rw (constant_pieces (codes "v" ++ decimal n) (codes "words") values (literal (pos 0)))
    (Wrote-append w _ _ head (Wrote-append w _ _ entries tail))
