use Rattle.std.proofs.Common.{length, sym, ap, ◌∙◌}
use Rattle.affine_core.specs.Affine.{form_at}
use Rattle.sanlp.specs.declared.nest.Access.{Access}
use Rattle.cell_rows.proofs.PlaceSteps.{no_place}
use Rattle.cell_rows.proofs.narrow_access.NarrowAccess.place.Goals as goal

pub returns-then-extents-forms : goal.returns-then-extents-forms
returns-then-extents-forms c =
    let forms = c.as_slice-forms.ensures ∙ ap (λ (access : Access). access.subscripts) c.self.view_is in
    sym (no_place (λ form. form_at form c.args.at.now) 0 c.args.extents.now c.args.self.now.subscripts
    (λ same. c.if-extents-forms.true (same ∙ sym (ap length forms))))
