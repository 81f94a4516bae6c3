use Rattle.std.proofs.Common.{pos, [], get_or, sym, subst}
use Rattle.std.specs.Prelude.{IsTrue}
use Rattle.loop_bind.specs.declared.affine.Affine.{Affine}
use Rattle.loop_bind.specs.Ranges.{is_moderate_form, is_bound_form}
use Rattle.loop_bind.proofs.ListLemmas.{all_at}
use Rattle.loop_bind.proofs.Moderate.{moderate_bound, moderate_reach}
use Rattle.loop_bind.proofs.rows.push_turn_rows.Goals as goal

abbrev zero_form : Affine
zero_form = record { constant = pos 0; coefs = [] }

pub minus-requires-clause-left : goal.minus-requires-clause-left
minus-requires-clause-left c =
    moderate_bound (get_or c.args.upper.now c.loop-high.high-index zero_form)
    (all_at is_bound_form c.args.upper.now c.loop-high.high-index zero_form c.requires.upper c.loop-high-test.true)

pub minus-requires-in-loop-high-clause-left : goal.minus-requires-in-loop-high-clause-left
minus-requires-in-loop-high-clause-left c =
    let upper : Affine = get_or c.args.upper.now c.loop-high.high-index zero_form in
    let bound : IsTrue (is_bound_form upper) =
    all_at is_bound_form c.args.upper.now c.loop-high.high-index zero_form c.requires.upper c.loop-high-test.true in
    subst (λ f. IsTrue (is_moderate_form f)) (sym c.minus.ensures)
    (moderate_reach upper bound c.args.first.now c.requires.first)
