use Rattle.std.proofs.Common.{◌≡◌, ◌++◌, ◌∙◌, codes, decimal, length, map, pos, sym, ℤ}
use Rattle.std.proofs.lemmas.List.{length-map}
use Rattle.text_out.proofs.Wrote.{Wrote-append}
use Rattle.vhdl_text.proofs.Columns.{constant_pieces}
use Rattle.vhdl_text.specs.Literals.{literal}
use Rattle.repeat_sequencer.specs.declared.sequencer.Instruction.{Instruction}
use Rattle.unit_text.proofs.node.write_gain_table.Goals as goal

pub returns : goal.returns
returns g c =
    let w = g.W.TextWriter.given in
    let number = c.args.counter.now.number in
    let instructions = c.args.counter.now.gains.instructions in
    let values = map (λ (i : Instruction ℤ). literal i.item) instructions in
    let count : c.len-count.result ≡ length values =
    c.len-count.ensures ∙ sym (length-map instructions (λ (i : Instruction ℤ). literal i.item)) in
    let head = rw (c.from.ensures, count) at c.write_head.ensures in
    let entries = rw c.as_slice.ensures at c.write_gains.ensures in
    let tail = rw (count, c.literal.ensures) at c.write_tail.ensures in
    rw (constant_pieces (codes "gain" ++ decimal number) (codes "words") values (literal (pos 1)))
    (Wrote-append w _ _ head (Wrote-append w _ _ entries tail))
