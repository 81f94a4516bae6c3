use Rattle.std.proofs.Common.{◌∙◌, Ok, ap, sym}
use Rattle.std.proofs.lemmas.Result.{err_from_is_err_and}
use Rattle.command_answers.proofs.Sources.{gives_without_tokens, gives_without_tree, gives_nest}
use Rattle.command_answers.proofs.source.nest_of.Goals as goal

pub returns-in_err-lexed : goal.returns-in_err-lexed
returns-in_err-lexed c =
    let stop = err_from_is_err_and c.from_residual.result c.from_residual.ensures.1 in
    rw (stop.1, stop.2) (gives_without_tokens c.args.source.now c.args.params.now _ c.in_err-lexed.ensures)

pub returns-in_err-tree : goal.returns-in_err-tree
returns-in_err-tree c =
    let lexed = c.in_ok-lexed.ensures ∙ ap Ok (sym c.as_slice-found.ensures.value) in
    let stop = err_from_is_err_and c.from_residual-in_err-tree.result c.from_residual-in_err-tree.ensures.1 in
    rw (stop.1, stop.2)
    (gives_without_tree c.args.source.now c.args.params.now c.as_slice-found.result.now _ lexed c.in_err-tree.ensures)

pub returns : goal.returns
returns c =
    let lexed = c.in_ok-lexed.ensures ∙ ap Ok (sym c.as_slice-found.ensures.value) in
    gives_nest c.args.source.now c.args.params.now c.as_slice-found.result.now c.in_ok-tree.tree c.bound.result lexed
    c.in_ok-tree.ensures c.bound.ensures
