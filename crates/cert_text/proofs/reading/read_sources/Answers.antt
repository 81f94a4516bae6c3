use Rattle.std.proofs.lemmas.Result.{err_from_is_err_and}
use Rattle.cert_lines.specs.Reading.{many}
use Rattle.cert_text.specs.Reading.{source}
use Rattle.cert_lines.proofs.Many.{read_on, read_out, refused_on}
use Rattle.cert_text.proofs.reading.read_sources.Goals as goal

pub returns-in_err-read_source : goal.returns-in_err-read_source
returns-in_err-read_source c =
    let told = err_from_is_err_and c.from_residual.result c.from_residual.ensures.1 in
    rw (told.1, told.2)
    (λ known. refused_on source c.loop.sources c.args.count c.loop.counter c.loop.lines c.in_err-read_source.field-0.0
    (many source c.args.count c.args.lines.now) c.loop-test.true
    c.loop.invariant (c.in_err-read_source.ensures known))

pub loop-preserved : goal.loop-preserved
loop-preserved c =
    rw c.in_ok-push.ensures.ok
    (read_on source c.loop.sources c.args.count c.loop.counter c.loop.lines c.read_source.new.lines
    c.in_ok-read_source.field-0 (many source c.args.count c.args.lines.now) c.loop-test.true
    c.loop.invariant c.in_ok-read_source.ensures)

pub returns : goal.returns
returns c =
    read_out source c.loop.sources c.args.count c.loop.counter c.loop.lines
    (many source c.args.count c.args.lines.now) c.loop-test.false c.loop.invariant
