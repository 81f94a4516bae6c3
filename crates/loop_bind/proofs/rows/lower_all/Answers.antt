use Rattle.std.proofs.Common.{pos, [], get_or, subst, sym, arith}
use Rattle.std.specs.Prelude.{IsTrue}
use Rattle.std.specs.List.{list_all}
use Rattle.std.proofs.lemmas.Grind.{common_steps}
use Rattle.loop_bind.specs.declared.affine.Affine.{Affine}
use Rattle.loop_bind.specs.Forms.{is_limited}
use Rattle.loop_bind.specs.Ranges.{is_bound_form}
use Rattle.loop_bind.proofs.ListLemmas.{all_at, all_push}
use Rattle.loop_bind.proofs.Moderate.{moderate_form, bound_lowered}
use Rattle.loop_bind.proofs.rows.lower_all.Goals as goal

pub lowered-requires : goal.lowered-requires
lowered-requires c =
    let form : Affine = get_or c.args.forms.now c.loop-form.form-index (record { constant = pos 0; coefs = [] }) in
    moderate_form form
    (all_at is_limited c.args.forms.now c.loop-form.form-index
    (record { constant = pos 0; coefs = [] }) c.requires c.loop-form-test.true)

pub loop-form-preserved : goal.loop-form-preserved
loop-form-preserved c =
    let form : Affine = get_or c.args.forms.now c.loop-form.form-index (record { constant = pos 0; coefs = [] }) in
    let limited =
    all_at is_limited c.args.forms.now c.loop-form.form-index
    (record { constant = pos 0; coefs = [] }) c.requires c.loop-form-test.true in
    let lowered : IsTrue (is_bound_form c.lowered.result) =
    subst (λ f. IsTrue (is_bound_form f)) (sym c.lowered.ensures) (bound_lowered form limited) in (
      grind (arith, common_steps),
      subst (λ all. IsTrue (list_all is_bound_form all)) (sym c.in_ok-push.ensures.ok)
          (all_push is_bound_form c.loop-form.all c.lowered.result c.loop-form.invariant.1 lowered),
    )
