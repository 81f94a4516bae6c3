use Rattle.std.proofs.lemmas.Result.{err_from_is_err_and}
use Rattle.cert_lines.specs.Reading.{line, many}
use Rattle.cert_lines.proofs.Many.{read_on, read_out, refused_on}
use Rattle.cert_text.proofs.lines.read_lines.Goals as goal

pub returns-in_err-read_line : goal.returns-in_err-read_line
returns-in_err-read_line g c =
    let part = line g.T.FromLine.judged in
    let told = err_from_is_err_and c.from_residual.result c.from_residual.ensures.1 in
    rw (told.1, told.2)
    (λ known. refused_on part c.loop.items c.args.count c.loop.counter c.loop.lines c.in_err-read_line.field-0.0
    (many part c.args.count c.args.lines.now) c.loop-test.true
    c.loop.invariant (c.in_err-read_line.ensures known))

pub loop-preserved : goal.loop-preserved
loop-preserved g c =
    let part = line g.T.FromLine.judged in
    rw c.in_ok-push.ensures.ok
    (read_on part c.loop.items c.args.count c.loop.counter c.loop.lines c.read_line.new.lines c.in_ok-read_line.field-0
    (many part c.args.count c.args.lines.now) c.loop-test.true
    c.loop.invariant c.in_ok-read_line.ensures)

pub returns : goal.returns
returns g c =
    let part = line g.T.FromLine.judged in
    read_out part c.loop.items c.args.count c.loop.counter c.loop.lines
    (many part c.args.count c.args.lines.now) c.loop-test.false c.loop.invariant
