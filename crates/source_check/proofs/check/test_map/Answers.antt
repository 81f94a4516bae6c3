use Rattle.std.proofs.Common.{sym, subst, ap, ◌∙◌}
use Rattle.source_check.specs.Making.{IsMadeOver}
use Rattle.source_check.specs.Paths.{path_rows}
use Rattle.source_check.specs.Tests.{after_one}
use Rattle.source_check.specs.Verdict.{made_system}
use Rattle.source_check.proofs.SystemRows.{system_all_over}
use Rattle.source_check.proofs.Points.{other_tested, same_tested}
use Rattle.source_tree.specs.Places.{same_rows}
use Rattle.source_check.proofs.check.test_map.Goals as goal

pub returns-then-writer-reader : goal.returns-then-writer-reader
returns-then-writer-reader c = λ ctx e.
    other_tested c.args.leaf.now c.args.read.now c.requires.read.place c.args.writer.now c.args.map.now _ _ _
    c.in_ok-system.system _ c.order_of-after.result c.args.tested.now _ _ _
    (c.in_ok-system.ensures.value
    ∙ ap (λ rows. made_system c.args.leaf.now.vars (path_rows rows c.args.leaf.now.path.now)) c.as_slice.ensures)
    c.in_ok-copy.ensures c.as_slice-rows.ensures c.as_slice-writes.ensures c.as_slice-reads.ensures
    (record {
      common = c.order_of-after.ensures.common;
      less_is = c.order_of-after.ensures.less;
      first =
          c.order_of-after.ensures.first;
      second = c.order_of-after.ensures.second;
    })
    c.in_ok-test_outside.ensures c.in_ok-test_cell.ensures c.in_ok-test_levels.ensures ctx e c.if-writer-reader.true

pub test-requires : goal.test-requires
test-requires c =
    subst (IsMadeOver c.args.leaf.now.vars) (sym c.in_ok-with_same.ensures)
    (system_all_over c.args.leaf.now.vars c.in_ok-system.system
    (same_rows c.args.read.now.place.now c.args.map.now) c.in_ok-system.ensures.over)

pub returns : goal.returns
returns c = λ ctx e.
    same_tested c.args.leaf.now c.args.read.now c.requires.read.place c.args.writer.now c.args.map.now _ _ _
    c.in_ok-system.system _ c.order_of-after.result c.args.tested.now _ _ _
    (c.in_ok-system.ensures.value
    ∙ ap (λ rows. made_system c.args.leaf.now.vars (path_rows rows c.args.leaf.now.path.now)) c.as_slice.ensures)
    c.in_ok-copy.ensures c.as_slice-rows.ensures c.as_slice-writes.ensures c.as_slice-reads.ensures
    (record {
      common = c.order_of-after.ensures.common;
      less_is = c.order_of-after.ensures.less;
      first =
          c.order_of-after.ensures.first;
      second = c.order_of-after.ensures.second;
    })
    c.in_ok-test_outside.ensures c.in_ok-test_cell.ensures c.in_ok-test_levels.ensures ctx _ e c.if-writer-reader.false
    (c.test.ensures ∙ ap (after_one c.args.leaf.now c.test_levels.new.tested) c.in_ok-with_same.ensures)
