use Rattle.std.proofs.Common.{◌≡◌, ◌++◌, ◌+◌, ◌≤◌, ◌<◌, [], length, refl, sym, ap, ◌∙◌, subst, arith, length-append}
use Rattle.std.specs.Prelude.{IfSome, IsTrue}
use Rattle.std.specs.List.{sum_by}
use Rattle.std.proofs.lemmas.List.Sums.{sum_by-cons}
use Rattle.std.proofs.lemmas.Result.{on_ok_weaker}
use Rattle.tree_order.specs.Candidates.{levels_before}
use Rattle.last_writer.proofs.StatementWrites.{says_before, says_not, strided_at}
use Rattle.last_writer.proofs.WriterLists.{few_of, left_out, one_writer, writers_none}
use Rattle.stride_trees.specs.Writers.{IsWriterOf}
use Rattle.last_writer.specs.Writers.{AddsTests, AreWriters}
use Rattle.source_tree.specs.Systems.{with_write}
use Rattle.source_tree.specs.References.{occurrence_of}
use Rattle.tree_cuts.specs.Class.{stride_count, writes_strides}
use Rattle.stride_trees.specs.Strides.{read_of, tests_of, write_of}
use Rattle.last_writer.proofs.writers.push_writer.Goals as goal

pub returns-in_default-clause-writers : goal.returns-in_default-clause-writers
returns-in_default-clause-writers c before h =
    let n = c.args.nest.now in
    let r = occurrence_of c.args.read.now in
    subst (λ o. AreWriters n r (before ++ with_write o []) c.args.tests.now c.args.writers.now) (sym c.in_default.ensures)
    (writers_none n r before c.args.tests.now c.args.writers.now h)

pub returns-then-level_count-eq0-clause-writers : goal.returns-then-level_count-eq0-clause-writers
returns-then-level_count-eq0-clause-writers c before h =
    let n = c.args.nest.now in
    let r = occurrence_of c.args.read.now in
    let w = occurrence_of c.in-Some.write in
    let none : levels_before w r ≡ 0 = sym c.level_count.ensures ∙ c.if-level_count-eq0.true in
    subst (λ o. AreWriters n r (before ++ with_write o []) c.args.tests.now c.args.writers.now) (sym c.in-Some.ensures)
    (left_out n r before c.args.tests.now c.args.writers.now w h (says_not r w none))

pub strides_of-strides-requires : goal.strides_of-strides-requires
strides_of-strides-requires c =
    let r = c.args.read.now in
    let w = c.in-Some.write in
    let before : 0 < levels_before (occurrence_of w) (occurrence_of r) =
    omega (arith, c.level_count.ensures, c.if-level_count-eq0.false) in
    let fits = subst (λ o. IfSome o (λ w. IsTrue (writes_strides w) × (length c.args.tests.now + stride_count w ≤ 6)))
    c.in-Some.ensures c.requires.strides in
    strided_at c.args.nest.now r w c.args.number c.args.statement.now c.requires.read c.requires.statement c.in-Some.ensures
    fits.0 (omega (arith, fits.1)) before

pub writer_of-requires-clause-few : goal.writer_of-requires-clause-few
writer_of-requires-clause-few c =
    let fits = subst (λ o. IfSome o (λ w. IsTrue (writes_strides w) × (length c.args.tests.now + stride_count w ≤ 6)))
    c.in-Some.ensures c.requires.strides in
    omega (arith, fits.1)

pub returns-clause-writers : goal.returns-clause-writers
returns-clause-writers c before h =
    let n = c.args.nest.now in
    let r = occurrence_of c.args.read.now in
    let w = occurrence_of c.in-Some.write in
    let old = c.args.tests.now in
    let tests = c.writer_of.new.tests in
    let x = c.in_ok-writer_of.field-0 in
    let own = c.in_ok-writer_of.ensures in
    let before_read : 0 < levels_before w r = omega (arith, c.level_count.ensures, c.if-level_count-eq0.false) in
    let is : write_of x.strides ≡ w = ap write_of own.strides ∙ c.strides_of-strides.ensures.write in
    let of : IsWriterOf n r tests x = subst (λ r. IsWriterOf n r tests x) c.strides_of-strides.ensures.read
    (subst (λ n. IsWriterOf n (read_of c.strides_of-strides.result) tests x) c.strides_of-strides.ensures.nest own.writer) in
    let adds : AddsTests (tests_of x.strides) old tests =
    subst (λ s. AddsTests (tests_of s) old tests) (sym own.strides) own.tests in
    let few : length (tests_of x.strides) ≤ stride_count w =
    subst (λ w. length (tests_of x.strides) ≤ stride_count w) is (few_of x.strides) in
    on_ok_weaker c.push.result
    (λ pushed. subst (λ o. AreWriters n r (before ++ with_write o []) tests c.push.new.self) (sym c.in-Some.ensures)
    (one_writer n r before old tests c.args.writers.now c.push.new.self x w h (says_before r w before_read) of is adds few
    pushed)) c.push.ensures.ok

pub returns-clause-few : goal.returns-clause-few
returns-clause-few c =
    let w = occurrence_of c.in-Some.write in
    let old = c.args.tests.now in
    let tests = c.writer_of.new.tests in
    let x = c.in_ok-writer_of.field-0 in
    let own = c.in_ok-writer_of.ensures in
    let is : write_of c.strides_of-strides.result ≡ w = c.strides_of-strides.ensures.write in
    let few : length (tests_of c.strides_of-strides.result) ≤ stride_count w =
    subst (λ w. length (tests_of c.strides_of-strides.result) ≤ stride_count w) is (few_of c.strides_of-strides.result) in
    let none : sum_by stride_count [] ≡ 0 = refl in
    on_ok_weaker c.push.result
    (λ pushed. subst (λ o. length tests ≤ length old + sum_by stride_count (with_write o [])) (sym c.in-Some.ensures)
    (omega (
      arith,
      few,
      own.tests.few,
      ap length own.tests.grown,
      length-append old own.tests.more,
      sum_by-cons stride_count w [],
      none,
    ))) c.push.ensures.ok
