use Rattle.std.proofs.Common.{sym, ap, ◌∙◌, arith}
use Rattle.std.specs.Option.{option_copied}
use Rattle.std.proofs.lemmas.Result.{IfOk-weaker}
use Rattle.tree_graphs.proofs.FloydWarshall.{bound_small}
use Rattle.tree_graphs.proofs.closure.bound_through.Goals as goal

pub lesser_bound-requires-clause-first : goal.lesser_bound-requires-clause-first
lesser_bound-requires-clause-first c =
    let h = c.requires in
    let le = h.3 in
    bound_small h.0 h.1 c.args.bounds.now c.args.from c.args.middle c.in-Some.first.now h.2 (omega (arith, le))
    (sym c.at.ensures ∙ ap option_copied c.in-Some.is)

pub lesser_bound-requires-clause-second : goal.lesser_bound-requires-clause-second
lesser_bound-requires-clause-second c =
    let h = c.requires in
    let le = h.3 in
    bound_small h.0 h.1 c.args.bounds.now c.args.middle c.args.to c.in-Some-at.second.now h.2 (omega (arith, le))
    (sym c.at-in-Some.ensures ∙ ap option_copied c.in-Some-at.is)

pub returns-in-Some-at : goal.returns-in-Some-at
returns-in-Some-at c =
    IfOk-weaker c.lesser_bound.result _ _
    (λ bound h edges most sound.
    h edges most c.args.bounds.now c.args.middle c.args.from c.args.to sound c.at-direct.ensures
    (sym c.at.ensures ∙ ap option_copied c.in-Some.is)
    (sym c.at-in-Some.ensures ∙ ap option_copied c.in-Some-at.is))
    c.lesser_bound.ensures
