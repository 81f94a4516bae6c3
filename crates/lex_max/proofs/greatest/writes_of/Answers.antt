use Rattle.std.proofs.Common.{sym, ap, ◌∙◌}
use Rattle.std.specs.Prelude.{Some}
use Rattle.source_tree.specs.Systems.{named_write}
use Rattle.source_tree.specs.References.{occurrence_of}
use Rattle.tree_graphs.proofs.ProblemBounds.{problem_of}
use Rattle.lex_max.proofs.ReadAndWrite.{asked_built, asked_of}
use Rattle.lex_max.proofs.greatest.writes_of.Goals as goal

pub writes_between-requires : goal.writes_between-requires
writes_between-requires c =
    let n = c.args.nest.now in
    let r = occurrence_of c.looked_up-found.result.0 in
    let w = occurrence_of c.looked_up-found.result.1 in
    problem_of n r w c.args.level
    (asked_of n c.args.statement c.args.read c.args.writer c.args.level r w c.requires.class c.requires.level
    c.looked_up-found.ensures.read c.looked_up-found.ensures.write)

pub returns-clause-stands : goal.returns-clause-stands
returns-clause-stands c =
    let is = c.writes_between.ensures in
    asked_built c.args.nest.now c.args.statement c.args.read c.args.writer c.args.level c.writes_between.result
    c.requires.class c.requires.level (c.looked_up-found.ensures.read ∙ ap Some (sym is.read))
    (ap (λ r. named_write c.args.nest.now r c.args.writer) is.read
    ∙ c.looked_up-found.ensures.write ∙ ap Some (sym is.write)) is.level

pub returns-clause-read : goal.returns-clause-read
returns-clause-read c = c.looked_up-found.ensures.read ∙ ap Some (sym c.writes_between.ensures.read)

pub returns-clause-write : goal.returns-clause-write
returns-clause-write c =
    ap (λ r. named_write c.args.nest.now r c.args.writer) c.writes_between.ensures.read
    ∙ c.looked_up-found.ensures.write ∙ ap Some (sym c.writes_between.ensures.write)
