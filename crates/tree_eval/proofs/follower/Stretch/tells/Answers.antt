use Rattle.std.proofs.Common.{◌≡◌, ◌≤ℤ◌, ◌-ℤ◌, pos, sym, ap, ◌∙◌, arith, rules, FitsSigned, w64}
use Rattle.std.specs.Prelude.{Some}
use Rattle.std.proofs.lemmas.Int.{ints, to_z-of_z}
use Rattle.source_tree.specs.declared.tree.Found.TheVariants as found
use Rattle.tree_eval.specs.Stretches.{found_at}
use Rattle.tree_eval.proofs.Maps.{turn_fits}
use Rattle.tree_eval.proofs.Rows.{along_at}
use Rattle.tree_eval.proofs.follower.Stretch.tells.Goals as goal

pub returns : goal.returns
returns c tree along =
    let to : (c.args.value -ℤ c.args.self.now.first) ≤ℤ (c.args.self.now.last -ℤ c.args.self.now.first) =
    omega (arith, ints) in
    let not_negative : pos 0 ≤ℤ (c.args.value -ℤ c.args.self.now.first) = omega (arith, ints) in
    let few : (c.args.value -ℤ c.args.self.now.first) ≤ℤ pos 1073741824 = omega (arith, ints, along.few) in
    let value : FitsSigned w64 c.args.value = c.ranges.value in
    let first : FitsSigned w64 c.args.self.now.first = search rules in
    let turn : FitsSigned w64 (c.args.value -ℤ c.args.self.now.first) =
    turn_fits (c.args.value -ℤ c.args.self.now.first) not_negative few in
    let there = along_at tree c.args.self.now.outer c.args.self.now.first
    (c.args.self.now.last -ℤ c.args.self.now.first) c.args.value c.args.self.now.leaf along c.requires.first to in
    let exact = simp to_z-of_z at c.is_at.ensures in (
      λ told. there ∙ ap Some (exact.0 told),
      λ gives.
          let same : Some (found_at c.args.self.now.leaf (c.args.value -ℤ c.args.self.now.first))
          ≡ Some (found.At (record { statement = c.args.statement; at = c.args.point.now })) = sym there ∙ gives in
          let one : found_at c.args.self.now.leaf (c.args.value -ℤ c.args.self.now.first)
          ≡ found.At (record { statement = c.args.statement; at = c.args.point.now }) = cc in
          exact.1 one,
    )
