use Rattle.std.proofs.Common.{sym, ◌∙◌}
use Rattle.lex_max.proofs.ChoiceForms.{form_small, is_above}
use Rattle.lex_max.proofs.decide.is_no_greater.Goals as goal

pub difference-above-requires-clause-over : goal.difference-above-requires-clause-over
difference-above-requires-clause-over c = c.requires.other.over ∙ sym c.requires.form.over

pub difference-above-requires-clause-first : goal.difference-above-requires-clause-first
difference-above-requires-clause-first c = form_small c.args.context.now.system.now.vars c.args.other.now
    c.requires.other

pub difference-above-requires-clause-second : goal.difference-above-requires-clause-second
difference-above-requires-clause-second c = form_small c.args.context.now.system.now.vars c.args.form.now
    c.requires.form

pub is_known-requires : goal.is_known-requires
is_known-requires c = (is_above c.args.context.now.system.now.vars c.args.other.now c.args.form.now
    c.difference-above.result c.requires.other c.requires.form c.difference-above.ensures).over
