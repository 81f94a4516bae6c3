use Rattle.std.proofs.lemmas.Result.{err_from_is_err_and}
use Rattle.cert_lines.specs.Reading.{many}
use Rattle.tree_text.specs.Reading.{proof}
use Rattle.cert_lines.proofs.Many.{read_on, read_out, refused_on}
use Rattle.tree_text.proofs.reading.read_proofs.Goals as goal

pub returns-in_err-proof : goal.returns-in_err-proof
returns-in_err-proof c =
    let told = err_from_is_err_and c.from_residual.result c.from_residual.ensures.1 in
    rw (told.1, told.2)
    (λ known. refused_on (proof 512) c.loop.proofs c.args.count c.loop.counter c.loop.lines c.in_err-proof.field-0.0
    (many (proof 512) c.args.count c.args.lines.now) c.loop-test.true
    c.loop.invariant (c.in_err-proof.ensures known))

pub loop-preserved : goal.loop-preserved
loop-preserved c =
    rw (c.in_ok-push.ensures.ok, c.into_inner.ensures)
    (read_on (proof 512) c.loop.proofs c.args.count c.loop.counter c.loop.lines c.read_proof.new.lines
    c.in_ok-proof.proof (many (proof 512) c.args.count c.args.lines.now) c.loop-test.true
    c.loop.invariant c.in_ok-proof.ensures)

pub returns : goal.returns
returns c =
    read_out (proof 512) c.loop.proofs c.args.count c.loop.counter c.loop.lines
    (many (proof 512) c.args.count c.args.lines.now) c.loop-test.false c.loop.invariant
