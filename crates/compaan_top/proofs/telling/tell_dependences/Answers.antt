use Rattle.std.proofs.lemmas.Result.{err_from_is_err_and}
use Rattle.compaan_top.proofs.TellsSources.{told_nest, told_without_nest, told_without_size}
use Rattle.compaan_top.proofs.telling.tell_dependences.Goals as goal

pub returns-in_err-nest : goal.returns-in_err-nest
returns-in_err-nest c =
    let stop = err_from_is_err_and c.from_residual.result c.from_residual.ensures.1 in
    rw (stop.1, stop.2) (told_without_nest c.args.params.now c.args.bundle.now
    c.parts_of-parts.result.source.now _ c.parts_of-parts.ensures.source c.in_err-nest.ensures)

pub returns-in_err-swept : goal.returns-in_err-swept
returns-in_err-swept c =
    let stop = err_from_is_err_and c.from_residual-in_err-swept.result c.from_residual-in_err-swept.ensures.1 in
    rw (stop.1, stop.2) (told_without_size c.args.params.now c.args.bundle.now
    c.parts_of-parts.result.source.now c.in_ok-nest.nest _ c.parts_of-parts.ensures.source c.in_ok-nest.ensures
    c.in_err-swept.ensures)

pub returns : goal.returns
returns c =
    told_nest c.args.params.now c.args.bundle.now c.parts_of-parts.result.source.now c.in_ok-nest.nest
    c.in_ok-swept.swept c.in_ok-dependences.dependences c.parts_of-parts.ensures.source c.in_ok-nest.ensures
    c.in_ok-swept.ensures c.in_ok-dependences.ensures
