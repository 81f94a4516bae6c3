use Rattle.std.proofs.Common.{◌+◌, ◌*◌, length}
use Rattle.std.specs.List.{sum_by}
use Rattle.lex_max.proofs.decide.+choose.Given as goal

abbrev pub decreases-choose : goal.decreases-choose
decreases-choose l = 4 * length l.forms.now + 4 * sum_by (λ forms. length forms + 1) l.more.now + 1

abbrev pub decreases-choose_next : goal.decreases-choose_next
decreases-choose_next l = 4 * sum_by (λ forms. length forms + 1) l.more.now

abbrev pub decreases-follow : goal.decreases-follow
decreases-follow l = 4 * length l.forms.now + 4 * sum_by (λ forms. length forms + 1) l.more.now + 3

abbrev pub decreases-choose_with : goal.decreases-choose_with
decreases-choose_with l = 4 * length l.forms.now + 4 * sum_by (λ forms. length forms + 1) l.more.now + 2
