use Rattle.std.proofs.Common.{◌≡◌, ◌∷◌, rules, sym, subst, arith}
use Rattle.std.proofs.lemmas.Result.{on_ok_weaker}
use Rattle.source_check.specs.Making.{IsMadeOver}
use Rattle.source_check.proofs.SystemRows.{system_all_over}
use Rattle.source_tree.specs.Rows.{Take, equal_rows}
use Rattle.source_check.proofs.Steps.{both_tested}
use Rattle.source_check.proofs.tested.+test_both.Goals as goal

pub test_both-requires : goal.test_both-requires
test_both-requires t c = (
  omega arith,
  subst (IsMadeOver c.args.space.now.vars) (sym c.in_ok-with_loop.ensures)
      (system_all_over c.args.space.now.vars c.args.system
      (equal_rows (Take c.in-Some-Some.v.now) (Take c.in-Some-Some.w.now)) c.requires),
)

pub returns : goal.returns
returns t c =
    let first : c.args.order.now.first.now ≡ c.in-Some-Some.v.now ∷ c.in-Some-Some.first.now = search rules in
    let second : c.args.order.now.second.now ≡ c.in-Some-Some.w.now ∷ c.in-Some-Some.second.now = search rules in
    on_ok_weaker c.test_both.result
    (λ is. both_tested c.args.leaf.now c.args.space.now.vars c.args.system c.in_ok-level.level c.in_ok-with_loop.field-0
    c.args.order.now.common c.args.order.now.less
    _ _ _ _ c.in-Some-Some.v.now c.in-Some-Some.w.now c.args.tested.now c.if-order-eq0.false first second _ _
    c.taken.ensures.value c.taken-2.ensures.value
    c.in_ok-level.ensures.value c.in_ok-with_loop.ensures c.args.further.now _ _ c.in_ok-test_levels.ensures is)
    c.test_both.ensures
