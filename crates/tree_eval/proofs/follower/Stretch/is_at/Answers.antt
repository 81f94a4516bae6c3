use Rattle.std.proofs.Common.{sym, ◌∙◌}
use Rattle.std.proofs.lemmas.Bool.Decides.{Decides-int_eq}
use Rattle.std.proofs.lemmas.Slice.Eq.{slice_eq-Decides}
use Rattle.tree_eval.proofs.follower.Stretch.is_at.Goals as goal

pub returns : goal.returns
returns c =
    let same = slice_eq-Decides Decides-int_eq _ _ _ c.eq.ensures in (
      λ told. sym c.as_slice.ensures.value ∙ same.0 told,
      λ equal. same.1 (c.as_slice.ensures.value ∙ equal),
    )
