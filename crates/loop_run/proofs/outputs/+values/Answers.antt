use Rattle.std.proofs.Common.{rules, ◌≡◌, ℤ, pos, ◌+ℤ◌, ◌-ℤ◌, ◌<ℤ◌, List, [], ◌∷◌, ◌++◌, to_z, of_z, arith, subst, sym}
use Rattle.std.specs.Int.{w64}
use Rattle.std.specs.List.{flat_map}
use Rattle.std.proofs.lemmas.Int.{ints}
use Rattle.sanlp.specs.Cells.{counted, natural}
use Rattle.loop_run.specs.CellMemory.{memory_of}
use Rattle.loop_run.specs.Outputs.{values_inside}
use Rattle.loop_run.proofs.ValuesInside.{values_more}
use Rattle.loop_run.proofs.outputs.+values.Goals as goal

pub push_values-loop-subscript-preserved : goal.push_values-loop-subscript-preserved
push_values-loop-subscript-preserved t c =
    let v : ℤ = to_z w64 c.loop-subscript.subscript-bits in
    let end : ℤ = to_z w64 (of_z w64 c.in-Some.extent.now) in
    let lt : to_z w64 c.loop-subscript.subscript-bits <ℤ to_z w64 (of_z w64 c.in-Some.extent.now) = search rules in
    let next : to_z w64 (of_z w64 (to_z w64 c.loop-subscript.subscript-bits +ℤ pos 1))
    ≡ to_z w64 c.loop-subscript.subscript-bits +ℤ pos 1 = omega (arith, ints) in
    let f : ℤ → List ℤ =
    λ v. values_inside (memory_of c.args.cells.now) c.args.array c.in-Some.inner.now (c.args.at.now ++ v ∷ []) in
    let more =
    values_more f v end c.loop-subscript.values c.push_values_at.new.values _ lt c.in_ok-push_values_at.ensures
    c.loop-subscript.invariant in
    subst (λ v. c.push_values_at.new.values ++ flat_map f (counted v (natural (end -ℤ v)))
    ≡ c.args.values.now ++ flat_map f (counted (pos 0) (natural end))) (sym next) more
