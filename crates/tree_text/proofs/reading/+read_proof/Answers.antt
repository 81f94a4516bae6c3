use Rattle.std.proofs.Common.{◌∙◌, ℕ, ◌<◌, ◌≡◌, Err, ap, arith}
use Rattle.std.proofs.lemmas.Result.{err_from_is_err_and}
use Rattle.cert_lines.specs.declared.error.CertError.TheVariants.{Deep}
use Rattle.cert_lines.proofs.Codecs.{line_behind}
use Rattle.tree_text.specs.Lines.{proof_line}
use Rattle.tree_text.proofs.Levels.{proof_deep, proof_read, proof_refused}
use Rattle.tree_text.proofs.reading.+read_proof.Goals as goal

pub read_proof-returns-in_err-line : goal.read_proof-returns-in_err-line
read_proof-returns-in_err-line t c =
    let told = err_from_is_err_and c.from_residual.result c.from_residual.ensures.1 in
    rw (told.1, told.2)
    (λ known. proof_refused c.args.levels c.args.lines.now c.in_err-line.field-0.0 (c.in_err-line.ensures known))

pub read_proof-returns-then-levels-eq0 : goal.read_proof-returns-then-levels-eq0
read_proof-returns-then-levels-eq0 t c =
    let behind =
    line_behind proof_line c.args.lines.now c.read_proof_line.new.lines c.in_ok-line.line c.in_ok-line.ensures in
    let number : c.args.lines.now.line ≡ c.taken.result = omega (arith, behind, c.taken.ensures) in
    λ known. proof_deep c.args.levels c.args.lines.now c.read_proof_line.new.lines c.in_ok-line.line
    c.if-levels-eq0.true c.in_ok-line.ensures ∙ ap (λ (n : ℕ). Err (Deep n)) number

pub read_proof-returns : goal.read_proof-returns
read_proof-returns t c =
    let some : 0 < c.args.levels = omega arith in
    rw (proof_read c.args.levels c.args.lines.now c.read_proof_line.new.lines c.in_ok-line.line some
    c.in_ok-line.ensures) c.read_step.ensures
