use Rattle.std.proofs.Common.{refl}
use Rattle.std.proofs.lemmas.List.Splits.{join_with_byte-slice_split}
use Rattle.cert_lines.proofs.lines.expect_text.Goals as goal

pub returns-then-eq : goal.returns-then-eq
returns-then-eq c = rw (join_with_byte-slice_split 32 c.args.line.now, ← c.if-eq.ensures) refl

pub returns-else-eq : goal.returns-else-eq
returns-else-eq c = rw (join_with_byte-slice_split 32 c.args.line.now, ← c.if-eq.ensures) refl
