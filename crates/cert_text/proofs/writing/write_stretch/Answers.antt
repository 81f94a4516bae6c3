use Rattle.std.proofs.Common.{ℕ, List, sym, subst}
use Rattle.text_out.specs.Wrote.{Wrote}
use Rattle.text_out.proofs.Wrote.{Wrote-append}
use Rattle.cert_text.specs.CertText.{entry_text, repeat_text}
use Rattle.cert_text.proofs.Texts.{more_text, one_text}
use Rattle.cert_text.proofs.writing.write_stretch.Goals as goal

pub returns-then-times-eq1 : goal.returns-then-times-eq1
returns-then-times-eq1 g c =
    subst (λ (text : List ℕ). Wrote g.W.TextWriter.given c.args.out.now c.write_lines.new.out text)
    (sym (one_text c.args.times c.args.entry c.if-times-eq1.true)) c.write_lines.ensures

pub returns-else-times-eq1 : goal.returns-else-times-eq1
returns-else-times-eq1 g c =
    subst (λ (text : List ℕ). Wrote g.W.TextWriter.given c.args.out.now c.write_lines-else-times-eq1.new.out text)
    (sym (more_text c.args.times c.args.entry c.if-times-eq1.false))
    (Wrote-append g.W.TextWriter.given
    (repeat_text c.args.times 1) (entry_text c.args.entry) c.write_repeat.ensures c.write_lines-else-times-eq1.ensures)
