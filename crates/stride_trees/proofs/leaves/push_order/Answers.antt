-- Where a test says no the proof for it is added, whatever the order rows are, and none is taken; else the first of the proofs that
-- are left is converted. Both are made in the context with the facts, and added without them.
use Rattle.std.proofs.Common.{◌≡◌, ◌≤◌, ◌<◌, ◌+◌, ◌∷◌, true, length, sym, ap, subst, rules, arith}
use Rattle.std.specs.Prelude.{All, MatchOption}
use Rattle.std.proofs.lemmas.List.{nil_from_length}
use Rattle.std.proofs.lemmas.List.Elements.{All-head, All-tail}
use Rattle.stride_trees.proofs.FactLeaves.{write_away, write_cut}
use Rattle.stride_trees.proofs.LeafConversion.{is_refusal, refused, refused_here, tested, told_places, zip_count}
use Rattle.stride_trees.proofs.OrderSteps.{adds_absent, adds_refused, adds_told}
use Rattle.stride_trees.specs.Candidates.{order_number, IsCutSumOf}
use Rattle.stride_trees.specs.Leaves.{fact_context, is_told, IsForOne, IsRefusalAmong, IsRefusedContext, IsToldSum, IsWithoutFacts}
use Rattle.stride_trees.specs.Writers.{IsPlaceOf}
use Rattle.source_tree.specs.Checked.{IsRefuted}
use Rattle.stride_trees.proofs.ProblemBounds.{are_fitting}
use Rattle.stride_trees.specs.Contexts.{own_system, told_system, IsTestedContext}
use Rattle.stride_trees.specs.Strides.{read_of, write_of}
use Rattle.stride_trees.proofs.leaves.push_order.Goals as goal

pub rows_with-rows-requires : goal.rows_with-rows-requires
rows_with-rows-requires c = omega (arith, c.requires.leaf.few)

pub cell_count-cells-requires-clause-rows : goal.cell_count-cells-requires-clause-rows
cell_count-cells-requires-clause-rows c =
    let s = c.args.writer.now.strides in
    (are_fitting s.nest.now (read_of s) (write_of s) s.level c.requires.writer.of.strided.strided).few_rows

pub cell_count-cells-requires-clause-subscripts : goal.cell_count-cells-requires-clause-subscripts
cell_count-cells-requires-clause-subscripts c =
    let s = c.args.writer.now.strides in
    (are_fitting s.nest.now (read_of s) (write_of s) s.level c.requires.writer.of.strided.strided).few_subscripts

pub overflow_add-more : goal.overflow_add-more
overflow_add-more c =
    let s = c.args.writer.now.strides in
    let fits = are_fitting s.nest.now (read_of s) (write_of s) s.level c.requires.writer.of.strided.strided in
    omega (arith, c.cell_count-cells.ensures, fits.few_rows, fits.few_subscripts, c.requires.order)

pub refusal_of-requires : goal.refusal_of-requires
refusal_of-requires c =
    zip_count (IsPlaceOf c.args.w.now.tests.now) c.args.writer.now.divisions c.args.writer.now.places
    c.requires.writer.of.places

pub refused_write-requires-clause-strided : goal.refused_write-requires-clause-strided
refused_write-requires-clause-strided c = c.requires.writer.of.strided

pub refused_write-requires-clause-test : goal.refused_write-requires-clause-test
refused_write-requires-clause-test c =
    let w = c.args.w.now in
    let x = c.args.writer.now in
    is_refusal w x c.in-Some.test c.requires.leaf.answered c.requires.writer.of
    (subst (λ o. MatchOption o (is_told w.answers.now x ≡ true) (IsRefusalAmong w.answers.now x.divisions x.places))
    c.in-Some.is c.refusal_of.ensures)

pub refused_write-requires-clause-here : goal.refused_write-requires-clause-here
refused_write-requires-clause-here c = omega (arith, c.rows_with-rows.ensures, c.requires.leaf.few)

pub push_own-requires-clause-more : goal.push_own-requires-clause-more
push_own-requires-clause-more c =
    let s = c.args.writer.now.strides in
    let fits = are_fitting s.nest.now (read_of s) (write_of s) s.level c.requires.writer.of.strided.strided in
    omega (arith, c.cell_count-cells.ensures, fits.few_rows, fits.few_subscripts, c.requires.order)

pub converted_write-requires-clause-strided : goal.converted_write-requires-clause-strided
converted_write-requires-clause-strided c = c.requires.writer.of.strided

pub converted_write-requires-clause-places : goal.converted_write-requires-clause-places
converted_write-requires-clause-places c =
    let w = c.args.w.now in
    let x = c.args.writer.now in
    subst (All (λ i. i < 6)) (sym c.as_slice-places.ensures)
    (told_places w x c.requires.leaf.answered c.requires.writer.of
    (subst (λ o. MatchOption o (is_told w.answers.now x ≡ true) (IsRefusalAmong w.answers.now x.divisions x.places))
    c.in-None.is c.refusal_of.ensures))

pub converted_write-requires-clause-here : goal.converted_write-requires-clause-here
converted_write-requires-clause-here c = omega (arith, c.rows_with-rows.ensures, c.requires.leaf.few)

pub converted_write-requires-clause-sum : goal.converted_write-requires-clause-sum
converted_write-requires-clause-sum c =
    let first : c.args.told.now ≡ c.in-Some-split_first.proof.now ∷ c.in-Some-split_first.told.now = search rules in
    let told = IsToldSum c.args.w.now in
    (All-head told c.in-Some-split_first.proof.now c.in-Some-split_first.told.now (subst (All told) first c.requires.sums)).sum

pub push_own-requires-in-None-clause-more : goal.push_own-requires-in-None-clause-more
push_own-requires-in-None-clause-more c =
    let s = c.args.writer.now.strides in
    let fits = are_fitting s.nest.now (read_of s) (write_of s) s.level c.requires.writer.of.strided.strided in
    omega (arith, c.cell_count-cells.ensures, fits.few_rows, fits.few_subscripts, c.requires.order)

pub returns-in_ok-push_own-in-Some-clause-proofs : goal.returns-in_ok-push_own-in-Some-clause-proofs
returns-in_ok-push_own-in-Some-clause-proofs c rest rows at order =
    let w = c.args.w.now in
    let x = c.args.writer.now in
    let s = x.strides in
    let cx = fact_context w rest in
    let test = c.in-Some.test in
    let fits = are_fitting s.nest.now (read_of s) (write_of s) s.level c.requires.writer.of.strided.strided in
    let among = subst (λ o. MatchOption o (is_told w.answers.now x ≡ true)
    (IsRefusalAmong w.answers.now x.divisions x.places)) c.in-Some.is c.refusal_of.ensures in
    let made = c.in_ok-made-in-Some.made in
    let added = c.in_ok-push_own-in-Some.ensures in
    let refuted = c.in_ok-made-in-Some.ensures cx rows
    (subst (λ n. IsRefusedContext s test n cx) (sym c.rows_with-rows.ensures)
    (refused_here w (c.args.here + length w.cuts.now) cx x at c.requires.writer.of test among)) order.1 order.0 in
    adds_refused w rest x rows added.0 c.args.told.now c.args.proofs.now c.push_own.new.proofs
    (refused w.answers.now x test among) c.requires.writer.told added.1
    (write_away w c.args.here c.args.order rest rows x made added.0 fits.even
    (subst (λ n. IsWithoutFacts w c.args.here (n + c.args.order) made added.0) c.cell_count-cells.ensures added.2) at order.0
    refuted)

pub returns-in_default-clause-proofs : goal.returns-in_default-clause-proofs
returns-in_default-clause-proofs c rest rows at order =
    let w = c.args.w.now in
    let x = c.args.writer.now in
    adds_absent w rest x rows c.args.told.now c.args.proofs.now
    (subst (λ o. MatchOption o (is_told w.answers.now x ≡ true) (IsRefusalAmong w.answers.now x.divisions x.places))
    c.in-None.is c.refusal_of.ensures) (nil_from_length c.args.told.now c.in_default.ensures.cases)

pub returns-in_ok-push_own-in-None-clause-sums : goal.returns-in_ok-push_own-in-None-clause-sums
returns-in_ok-push_own-in-None-clause-sums c =
    let first : c.args.told.now ≡ c.in-Some-split_first.proof.now ∷ c.in-Some-split_first.told.now = search rules in
    let told = IsToldSum c.args.w.now in
    All-tail told c.in-Some-split_first.proof.now c.in-Some-split_first.told.now (subst (All told) first c.requires.sums)

pub returns-in_ok-push_own-in-None-clause-proofs : goal.returns-in_ok-push_own-in-None-clause-proofs
returns-in_ok-push_own-in-None-clause-proofs c rest rows at order =
    let w = c.args.w.now in
    let x = c.args.writer.now in
    let s = x.strides in
    let cx = fact_context w rest in
    let proof = c.in-Some-split_first.proof.now in
    let first : c.args.told.now ≡ proof ∷ c.in-Some-split_first.told.now = search rules in
    let fits = are_fitting s.nest.now (read_of s) (write_of s) s.level c.requires.writer.of.strided.strided in
    let says = subst (λ o. MatchOption o (is_told w.answers.now x ≡ true)
    (IsRefusalAmong w.answers.now x.divisions x.places)) c.in-None.is c.refusal_of.ensures in
    let made = c.in_ok-made-in-None.made in
    let added = c.in_ok-push_own-in-None.ensures in
    let there = subst (λ n. IsTestedContext s x.places n cx) (sym c.rows_with-rows.ensures)
    (tested w (c.args.here + length w.cuts.now) cx x at c.requires.writer.of c.requires.leaf.answered says) in
    let convert = subst (λ ps. IsTestedContext s ps c.rows_with-rows.result cx → IsRefuted (told_system s ps cx rows) proof
    → IsRefuted (own_system s cx rows) made) c.as_slice-places.ensures
    (λ there told. c.in_ok-made-in-None.ensures.refuted cx rows there order.1 order.0 told) there in
    let light = (All-head (IsToldSum w) proof c.in-Some-split_first.told.now
    (subst (All (IsToldSum w)) first c.requires.sums)).light in
    let few : length w.cuts.now ≡ 0 → IsForOne w → c.rows_with-rows.result ≤ 8192 = λ none single.
    omega (arith, c.rows_with-rows.ensures, none, c.requires.leaf.low single) in
    let cuts = λ (single : IsForOne w). subst (λ ps. IsTestedContext s ps c.rows_with-rows.result cx
    → IsRefuted (told_system s ps cx rows) proof
    → IsCutSumOf (order_number (read_of s) (write_of s) cx) (own_system s cx rows) made) c.as_slice-places.ensures
    (λ there told. c.in_ok-made-in-None.ensures.cuts
    (few (ap length (c.requires.leaf.answered.without single)) single) cx rows there order.1 order.0 told (light single)) in
    adds_told w rest x rows proof added.0 c.args.told.now c.in-Some-split_first.told.now c.args.proofs.now
    c.push_own-in-None.new.proofs says first added.1
    (λ told. write_away w c.args.here c.args.order rest rows x made added.0 fits.even
    (subst (λ n. IsWithoutFacts w c.args.here (n + c.args.order) made added.0) c.cell_count-cells.ensures added.2) at order.0
    (convert told))
    (λ single told. write_cut w rest rows x made added.0 c.requires.leaf.facts (c.requires.leaf.answered.without single)
    (added.2.same (c.requires.leaf.answered.without single)) (cuts single there told))
