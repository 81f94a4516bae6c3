-- They are converted in the context with the facts. Each of their systems has one row behind the context's.
use Rattle.std.proofs.Common.{◌+◌, ◌<◌, ◌^◌, ℕ, List, length, sym, subst, refl, arith}
use Rattle.std.specs.Prelude.{All}
use Rattle.std.proofs.lemmas.List.Elements.{All-weaker}
use Rattle.std.proofs.lemmas.Result.{IfOk-weaker}
use Rattle.affine_core.specs.declared.form.Form.{Form}
use Rattle.int_polyhedra.specs.declared.system.Proof.{Proof}
use Rattle.source_tree.specs.Checked.{AreRefuted}
use Rattle.source_tree.specs.Systems.{Context}
use Rattle.stride_trees.specs.Candidates.{AreCutSums}
use Rattle.stride_trees.specs.Contexts.{outside_cell_systems, IsPlaceIn, IsTestedContext}
use Rattle.stride_trees.specs.Leaves.{fact_context, IsToldSum}
use Rattle.stride_trees.specs.Problem.{told_read, told_write}
use Rattle.stride_trees.specs.Strides.{depth_of_write, read_of, write_of}
use Rattle.stride_trees.specs.declared.leaves.Answered.{Answered}
use Rattle.stride_trees.specs.declared.strides.Strides.{Strides}
use Rattle.stride_trees.proofs.FactLeaves.{place_away, place_cut}
use Rattle.stride_trees.proofs.LeafConversion.{tested, told_places}
use Rattle.stride_trees.proofs.ReadBounds.{few_rows}
use Rattle.stride_trees.proofs.leaves.place_proofs.Goals as goal
use Rattle.tree_graphs.specs.Joint.{IsSum}
use Rattle.tree_graphs.specs.Simple.{IsLightSum}
use Rattle.tree_sums.specs.Parts.{IsWithin}

pub rows_with-rows-requires : goal.rows_with-rows-requires
rows_with-rows-requires c = omega (arith, c.requires.leaf.few)

pub rows_above-above-requires-clause-rows : goal.rows_above-above-requires-clause-rows
rows_above-above-requires-clause-rows c = few_rows c.args.w.now.nest.now c.args.w.now.read c.requires.leaf.answered.read

pub rows_above-above-requires-clause-answers : goal.rows_above-above-requires-clause-answers
rows_above-above-requires-clause-answers c =
    omega (arith, c.requires.leaf.answered.answers, c.requires.leaf.answered.few)

pub converted_place-requires-clause-strided : goal.converted_place-requires-clause-strided
converted_place-requires-clause-strided c = c.requires.writer.of.strided

pub converted_place-requires-clause-places : goal.converted_place-requires-clause-places
converted_place-requires-clause-places c =
    subst (All (λ i. i < 6)) (sym c.as_slice-places.ensures)
    (told_places c.args.w.now c.args.writer.now c.requires.leaf.answered c.requires.writer.of c.requires.says)

pub converted_place-requires-clause-here : goal.converted_place-requires-clause-here
converted_place-requires-clause-here c = omega (arith, c.rows_with-rows.ensures, c.requires.leaf.few)

pub converted_place-requires-clause-count : goal.converted_place-requires-clause-count
converted_place-requires-clause-count c = c.requires.count

pub overflow_add-here : goal.overflow_add-here
overflow_add-here c = omega (arith, c.requires.leaf.few)

pub proofs_by_cuts-requires-clause-few : goal.proofs_by_cuts-requires-clause-few
proofs_by_cuts-requires-clause-few c = omega (arith, c.requires.leaf.few)

pub proofs_by_cuts-requires-clause-inside : goal.proofs_by_cuts-requires-clause-inside
proofs_by_cuts-requires-clause-inside c =
    omega (
      arith,
      c.rows_above-above.ensures,
      few_rows c.args.w.now.nest.now c.args.w.now.read c.requires.leaf.answered.read,
      c.requires.leaf.answered.answers,
      c.requires.leaf.answered.few,
      c.requires.leaf.few,
    )

told_sums : (w : Answered) (told : List Proof) → All (IsToldSum w) told → All IsSum told
told_sums w told h = All-weaker (IsToldSum w) IsSum (λ p s. s.sum) told h

pub converted_place-requires-clause-sums : goal.converted_place-requires-clause-sums
converted_place-requires-clause-sums c = told_sums c.args.w.now c.args.told.now c.requires.sums

abbrev Places : Strides → List Proof → List Proof → ℕ → List ℕ → Type 0
Places s told made n ps = (cx : Context) (place : List Form) → IsTestedContext s ps n cx
    → IsPlaceIn cx (depth_of_write s) place
    → AreRefuted (outside_cell_systems (told_read cx.vars ps (read_of s) (write_of s)) (told_write (write_of s)) cx place) told
    → AreRefuted (outside_cell_systems (read_of s) (write_of s) cx place) made

abbrev Cuts : Strides → List Proof → List Proof → ℕ → List ℕ → Type 0
Cuts s told made n ps = (cx : Context) (place : List Form) → IsTestedContext s ps n cx
    → IsPlaceIn cx (depth_of_write s) place → All (IsWithin (2 ^ 40)) place
    → AreRefuted (outside_cell_systems (told_read cx.vars ps (read_of s) (write_of s)) (told_write (write_of s)) cx place) told
    → All IsLightSum told → AreCutSums (n + 1) (outside_cell_systems (read_of s) (write_of s) cx place) made

pub returns-clause-refuted : goal.returns-clause-refuted
returns-clause-refuted c =
    let w = c.args.w.now in
    let x = c.args.writer.now in
    let s = x.strides in
    let here = c.args.here in
    let made = c.in_ok-made.made in
    let convert = subst (λ n. Places s c.args.told.now made n x.places) c.rows_with-rows.ensures
    (subst (Places s c.args.told.now made c.rows_with-rows.result) c.as_slice-places.ensures c.in_ok-made.ensures.refuted) in
    IfOk-weaker c.proofs_by_cuts.result _ _
    (λ own is rest place at place_in told.
    (let cx = fact_context w rest in
    place_away w here c.rows_above-above.result (here + 1) rest (read_of s) (write_of s) place made own c.requires.leaf
    c.rows_above-above.ensures refl is at
    (convert cx place
    (tested w (here + length w.cuts.now) cx x at c.requires.writer.of c.requires.leaf.answered c.requires.says) place_in told)))
    c.proofs_by_cuts.ensures

pub returns-clause-cuts : goal.returns-clause-cuts
returns-clause-cuts c =
    let w = c.args.w.now in
    let x = c.args.writer.now in
    let s = x.strides in
    let here = c.args.here in
    let rows = c.rows_with-rows.result in
    let made = c.in_ok-made.made in
    let convert = subst (Cuts s c.args.told.now made rows) c.as_slice-places.ensures c.in_ok-made.ensures.cuts in
    IfOk-weaker c.proofs_by_cuts.result _ _
    (λ own is rest place single at place_in near told.
    (let cx = fact_context w rest in
    place_cut w here c.rows_above-above.result (here + 1) rows rest (read_of s) (write_of s) place made own c.requires.leaf
    (c.requires.leaf.answered.without single) c.rows_with-rows.ensures is at
    (convert cx place
    (subst (λ n. IsTestedContext s x.places n cx) (sym c.rows_with-rows.ensures)
    (tested w (here + length w.cuts.now) cx x at c.requires.writer.of c.requires.leaf.answered c.requires.says)) place_in near
    told (All-weaker (IsToldSum w) IsLightSum (λ p s. s.light single) c.args.told.now c.requires.sums))))
    c.proofs_by_cuts.ensures
