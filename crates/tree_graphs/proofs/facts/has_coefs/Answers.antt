use Rattle.std.proofs.Common.{sym, ◌∙◌}
use Rattle.std.proofs.lemmas.Bool.Decides.{not_from_Decides, Decides-int_eq}
use Rattle.std.proofs.lemmas.Slice.Eq.{slice_eq-Decides}
use Rattle.tree_graphs.proofs.facts.has_coefs.Goals as goal

pub returns-clause-yes : goal.returns-clause-yes
returns-clause-yes c = λ same.
    sym c.as_slice.ensures.value ∙ (slice_eq-Decides Decides-int_eq _ _ _ c.eq.ensures).0 same
    ∙ c.as_slice-2.ensures.value

pub returns-clause-no : goal.returns-clause-no
returns-clause-no c = λ other same.
    not_from_Decides _ (slice_eq-Decides Decides-int_eq _ _ _ c.eq.ensures) other
    (c.as_slice.ensures.value ∙ same ∙ sym c.as_slice-2.ensures.value)
