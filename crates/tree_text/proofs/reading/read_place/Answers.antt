use Rattle.std.proofs.lemmas.Result.{err_from_is_err_and}
use Rattle.cert_lines.specs.Reading.{line, many}
use Rattle.tree_text.specs.Lines.{map_line}
use Rattle.cert_lines.proofs.Many.{read_on, read_out, refused_on}
use Rattle.tree_text.proofs.reading.read_place.Goals as goal

pub returns-in_err-read_form : goal.returns-in_err-read_form
returns-in_err-read_form c =
    let told = err_from_is_err_and c.from_residual.result c.from_residual.ensures.1 in
    rw (told.1, told.2)
    (λ known. refused_on (line map_line) c.loop.place c.args.count c.loop.counter c.loop.lines
    c.in_err-read_form.field-0.0 (many (line map_line) c.args.count c.args.lines.now) c.loop-test.true
    c.loop.invariant (c.in_err-read_form.ensures known))

pub loop-preserved : goal.loop-preserved
loop-preserved c =
    rw c.in_ok-push.ensures.ok
    (read_on (line map_line) c.loop.place c.args.count c.loop.counter c.loop.lines c.read_form.new.lines
    c.in_ok-read_form.field-0 (many (line map_line) c.args.count c.args.lines.now) c.loop-test.true
    c.loop.invariant c.in_ok-read_form.ensures)

pub returns : goal.returns
returns c =
    read_out (line map_line) c.loop.place c.args.count c.loop.counter c.loop.lines
    (many (line map_line) c.args.count c.args.lines.now) c.loop-test.false c.loop.invariant
