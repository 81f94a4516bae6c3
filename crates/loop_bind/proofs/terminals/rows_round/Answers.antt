use Rattle.std.proofs.Common.{◌≡◌, ℤ, pos, ◌-ℤ◌, get_or, to_z, of_z, sym, ap, ◌∙◌, subst, arith, refl}
use Rattle.std.specs.Prelude.{IsTrue}
use Rattle.std.specs.Int.{w64}
use Rattle.std.specs.Cmp.Derive.{both_true}
use Rattle.std.proofs.lemmas.Int.{ints}
use Rattle.sanlp.specs.Cells.{natural}
use Rattle.loop_bind.specs.Forms.{constant_form, is_limited_number}
use Rattle.loop_bind.specs.Ranges.{is_bound_form}
use Rattle.loop_bind.proofs.ListLemmas.{all_at}
use Rattle.loop_bind.proofs.Moderate.{bound_last}
use Rattle.loop_bind.proofs.terminals.rows_round.Goals as goal

pub push_range_rows-requires-clause-upper : goal.push_range_rows-requires-clause-upper
push_range_rows-requires-clause-upper c =
    let e : ℤ = get_or c.args.extents.now c.loop-number.number (pos 0) in
    let small : IsTrue (is_limited_number e) =
    all_at is_limited_number c.args.extents.now c.loop-number.number (pos 0) c.requires.small (omega arith) in
    let read : to_z w64 (of_z w64 e) ≡ e = omega (arith, ints) in
    let last : to_z w64 (of_z w64 c.last_value.result) ≡ c.last_value.result = omega (arith, ints) in
    let is : c.constant-in-loop-number.result ≡ constant_form (pos (natural e) -ℤ pos 1) =
    c.constant-in-loop-number.ensures
    ∙ ap constant_form (last ∙ c.last_value.ensures ∙ ap (λ x. pos (natural x) -ℤ pos 1) read) in
    both_true (subst (λ f. IsTrue (is_bound_form f)) (sym is) (bound_last e small)) refl
