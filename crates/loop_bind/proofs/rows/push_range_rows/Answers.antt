use Rattle.std.proofs.Common.{pos, [], get_or}
use Rattle.loop_bind.specs.declared.affine.Affine.{Affine}
use Rattle.loop_bind.specs.Forms.{is_limited}
use Rattle.loop_bind.specs.Ranges.{is_bound_form}
use Rattle.loop_bind.proofs.ListLemmas.{all_at}
use Rattle.loop_bind.proofs.Moderate.{moderate_form, moderate_bound}
use Rattle.loop_bind.proofs.rows.push_range_rows.Goals as goal

abbrev zero_form : Affine
zero_form = record { constant = pos 0; coefs = [] }

pub minus-requires-clause-right : goal.minus-requires-clause-right
minus-requires-clause-right c =
    moderate_form (get_or c.args.lower.now c.loop-low.low-index zero_form)
    (all_at is_limited c.args.lower.now c.loop-low.low-index zero_form c.requires.lower c.loop-low-test.true)

pub minus-requires-in-loop-high-clause-left : goal.minus-requires-in-loop-high-clause-left
minus-requires-in-loop-high-clause-left c =
    moderate_bound (get_or c.args.upper.now c.loop-high.high-index zero_form)
    (all_at is_bound_form c.args.upper.now c.loop-high.high-index zero_form c.requires.upper c.loop-high-test.true)
