use Rattle.std.proofs.Common.{length}
use Rattle.lex_max.proofs.decide.+least_form.Given as goal

abbrev pub decreases-least_form : goal.decreases-least_form
decreases-least_form l = length l.forms.now
