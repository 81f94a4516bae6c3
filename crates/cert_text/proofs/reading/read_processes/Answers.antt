use Rattle.std.proofs.lemmas.Result.{err_from_is_err_and}
use Rattle.cert_lines.specs.Reading.{many}
use Rattle.cert_text.specs.Kept.{process_kept}
use Rattle.cert_lines.proofs.Many.{read_on, read_out, refused_on}
use Rattle.cert_text.proofs.reading.read_processes.Goals as goal

pub returns-in_err-read_process : goal.returns-in_err-read_process
returns-in_err-read_process c =
    let one = process_kept c.args.version in
    let told = err_from_is_err_and c.from_residual.result c.from_residual.ensures.1 in
    rw (told.1, told.2)
    (λ known. refused_on one c.loop.processes c.args.count c.loop.counter c.loop.lines c.in_err-read_process.field-0.0
    (many one c.args.count c.args.lines.now) c.loop-test.true
    c.loop.invariant (c.in_err-read_process.ensures known))

pub loop-preserved : goal.loop-preserved
loop-preserved c =
    let one = process_kept c.args.version in
    rw c.in_ok-push.ensures.ok
    (read_on one c.loop.processes c.args.count c.loop.counter c.loop.lines c.read_process.new.lines
    c.in_ok-read_process.field-0 (many one c.args.count c.args.lines.now) c.loop-test.true
    c.loop.invariant c.in_ok-read_process.ensures)

pub returns : goal.returns
returns c =
    let one = process_kept c.args.version in
    read_out one c.loop.processes c.args.count c.loop.counter c.loop.lines
    (many one c.args.count c.args.lines.now) c.loop-test.false c.loop.invariant
