use Rattle.std.proofs.Common.{◌≡◌, ◌∙◌, ◌<◌, ℕ, List, Ok, Err, sym, ap, arith}
use Rattle.std.proofs.lemmas.Result.{err_from_is_err_and}
use Rattle.cert_lines.specs.declared.error.CertError.TheVariants.{Deep}
use Rattle.cert_lines.proofs.Codecs.{line_behind}
use Rattle.cert_text.specs.declared.places.PartLine.TheVariants as of_part
use Rattle.cert_text.specs.Kept.{lists_of}
use Rattle.cert_text.specs.Places.{part_line}
use Rattle.cert_text.specs.Reading.{part}
use Rattle.cert_text.proofs.Levels.{body_refused, item_added, part_deep, part_refused, repeat_added, twice_of_line}
use Rattle.cert_text.proofs.Lists.{added_on, added_out, refused_on}
use Rattle.cert_text.proofs.reading.+read_parts.Goals as goal

pub read_parts-returns-in_err-read_part : goal.read_parts-returns-in_err-read_part
read_parts-returns-in_err-read_part g t c =
    let one = part g.T.FromLine.judged c.args.version c.args.levels in
    let told = err_from_is_err_and c.from_residual.result c.from_residual.ensures.1 in
    rw (told.1, told.2)
    (λ known. refused_on one c.loop.list c.args.count c.loop.counter c.loop.lines c.in_err-read_part.field-0.0
    (lists_of one c.args.count c.args.lines.now) c.loop-test.true
    c.loop.invariant (c.in_err-read_part.ensures known))

pub read_parts-loop-preserved : goal.read_parts-loop-preserved
read_parts-loop-preserved g t c =
    let one = part g.T.FromLine.judged c.args.version c.args.levels in
    added_on one c.loop.list c.read_part.new.list c.args.count c.loop.counter c.loop.lines c.read_part.new.lines
    (lists_of one c.args.count c.args.lines.now) c.loop-test.true
    c.loop.invariant c.in_ok-read_part.ensures

pub read_parts-returns : goal.read_parts-returns
read_parts-returns g t c =
    let one = part g.T.FromLine.judged c.args.version c.args.levels in
    added_out one c.loop.list c.args.count c.loop.counter c.loop.lines
    (lists_of one c.args.count c.args.lines.now) c.loop-test.false c.loop.invariant
    ∙ ap (λ (list : List _). Ok (list, c.loop.lines)) (sym c.in_ok-into_list.ensures)

pub read_part-returns-in_err-line : goal.read_part-returns-in_err-line
read_part-returns-in_err-line g t c =
    let told = err_from_is_err_and c.from_residual.result c.from_residual.ensures.1 in
    rw (told.1, told.2)
    (λ known. part_refused g.T.FromLine.judged c.args.version c.args.levels c.args.lines.now c.in_err-line.field-0.0
    (c.in_err-line.ensures known))

pub read_part-returns-then-levels-eq0 : goal.read_part-returns-then-levels-eq0
read_part-returns-then-levels-eq0 g t c =
    let said = rw c.in-Repeat.is at c.in_ok-line.ensures in
    let behind =
    line_behind (part_line g.T.FromLine.judged c.args.version) c.args.lines.now c.read_part_line.new.lines
    (of_part.Repeat c.in-Repeat.times c.in-Repeat.parts) said in
    let number : c.args.lines.now.line ≡ c.taken.result = omega (arith, behind, c.taken.ensures) in
    λ known. part_deep g.T.FromLine.judged c.args.version c.args.levels c.args.lines.now c.read_part_line.new.lines
    c.in-Repeat.times c.in-Repeat.parts c.if-levels-eq0.true said
    ∙ ap (λ (n : ℕ). Err (Deep n)) number

pub read_part-returns-in_err-body-in-Repeat : goal.read_part-returns-in_err-body-in-Repeat
read_part-returns-in_err-body-in-Repeat g t c =
    let said = rw c.in-Repeat.is at c.in_ok-line.ensures in
    let some : 0 < c.args.levels = omega arith in
    let told = err_from_is_err_and c.from_residual-in_err-body-in-Repeat.result
    c.from_residual-in_err-body-in-Repeat.ensures.1 in
    rw (told.1, told.2)
    (λ known. body_refused g.T.FromLine.judged c.args.version c.args.levels c.args.lines.now c.read_part_line.new.lines
    c.in-Repeat.times c.in-Repeat.parts c.in_err-body-in-Repeat.field-0.0 some said
    (c.in_err-body-in-Repeat.ensures known))

pub read_part-push_repeated-requires-clause-twice : goal.read_part-push_repeated-requires-clause-twice
read_part-push_repeated-requires-clause-twice g t c =
    let said = rw c.in-Repeat.is at c.in_ok-line.ensures in
    twice_of_line g.T.FromLine.judged c.args.version c.args.lines.now c.read_part_line.new.lines c.in-Repeat.times
    c.in-Repeat.parts said

pub read_part-returns-in_ok-push-in-Item : goal.read_part-returns-in_ok-push-in-Item
read_part-returns-in_ok-push-in-Item g t c =
    let said = rw c.in-Item.is at c.in_ok-line.ensures in
    item_added g.T.FromLine.judged c.args.version c.args.levels c.args.lines.now c.read_part_line.new.lines
    c.in-Item.item c.args.list.now said
    ∙ ap (λ (list : List _). Ok (list, c.read_part_line.new.lines)) (sym c.in_ok-push-in-Item.ensures)

pub read_part-returns-in_ok-push_repeated-in-Repeat : goal.read_part-returns-in_ok-push_repeated-in-Repeat
read_part-returns-in_ok-push_repeated-in-Repeat g t c =
    let said = rw c.in-Repeat.is at c.in_ok-line.ensures in
    let some : 0 < c.args.levels = omega arith in
    repeat_added g.T.FromLine.judged c.args.version c.args.levels c.args.lines.now c.read_part_line.new.lines
    c.read_parts.new.lines c.in-Repeat.times c.in-Repeat.parts c.args.list.now c.in_ok-body-in-Repeat.body some said
    c.in_ok-body-in-Repeat.ensures
    ∙ ap (λ (list : List _). Ok (list, c.read_parts.new.lines)) (sym c.in_ok-push_repeated-in-Repeat.ensures)
