use Rattle.std.proofs.Common.{sym, ◌∙◌}
use Rattle.loop_lex.proofs.Longest.{double_found, single_found, no_sign_found}
use Rattle.loop_lex.proofs.scan.sign.Goals as goal

pub returns-then-is_double_sign : goal.returns-then-is_double_sign
returns-then-is_double_sign c =
    let found = double_found c.args.first c.args.rest.now c.requires
    (sym c.is_double_sign.ensures ∙ c.if-is_double_sign.true) in (found.long, found.kind)

pub returns-then-is_sign : goal.returns-then-is_sign
returns-then-is_sign c =
    let found = single_found c.args.first c.args.rest.now c.requires
    (sym c.is_double_sign.ensures ∙ c.if-is_double_sign.false) (sym c.is_sign.ensures ∙ c.if-is_sign.true) in
    (found.long, found.kind)

pub returns-else-is_sign : goal.returns-else-is_sign
returns-else-is_sign c = no_sign_found c.args.first c.args.rest.now c.requires
    (sym c.is_double_sign.ensures ∙ c.if-is_double_sign.false) (sym c.is_sign.ensures ∙ c.if-is_sign.false)
