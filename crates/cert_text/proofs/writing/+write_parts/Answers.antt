use Rattle.std.proofs.Common.{ℕ, List, length, sym, subst}
use Rattle.text_out.specs.Wrote.{Wrote}
use Rattle.text_out.proofs.Wrote.{Wrote-append}
use Rattle.script_blocks.specs.declared.blocks.BlockPart.{BlockPart}
use Rattle.cert_text.specs.CertText.{part_text, parts_text, repeat_text}
use Rattle.cert_text.proofs.Texts.{text_item, text_repeat}
use Rattle.cert_text.proofs.writing.+write_parts.Goals as goal

pub write_part-returns-in-Item : goal.write_part-returns-in-Item
write_part-returns-in-Item g t c =
    let lines = g.T.WriteLines.lines in
    subst (λ (part : BlockPart _). Wrote g.W.TextWriter.given c.args.out.now c.write_lines.new.out
    (part_text lines part)) (sym c.in-Item.is)
    (subst (λ (text : List ℕ). Wrote g.W.TextWriter.given c.args.out.now c.write_lines.new.out text)
    (sym (text_item lines c.in-Item.item)) c.write_lines.ensures)

pub write_part-returns-in-Repeat : goal.write_part-returns-in-Repeat
write_part-returns-in-Repeat g t c =
    let lines = g.T.WriteLines.lines in
    let body = c.in-Repeat.body in
    let times = c.in-Repeat.times in
    subst (λ (part : BlockPart _). Wrote g.W.TextWriter.given c.args.out.now c.write_parts.new.out
    (part_text lines part)) (sym c.in-Repeat.is)
    (subst (λ (text : List ℕ). Wrote g.W.TextWriter.given c.args.out.now c.write_parts.new.out text)
    (sym (text_repeat lines times body))
    (Wrote-append g.W.TextWriter.given
    (repeat_text times (length body.parts)) (parts_text lines body.parts)
    (rw c.len.ensures at c.write_repeat.ensures) (rw c.as_slice.ensures at c.write_parts.ensures)))
