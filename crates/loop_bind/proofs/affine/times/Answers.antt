use Rattle.std.proofs.Common.{◌*ℤ◌}
use Rattle.std.specs.Prelude.{FitsSigned}
use Rattle.std.specs.Int.{w64}
use Rattle.std.proofs.lemmas.Int.{to_z-of_z}
use Rattle.loop_bind.proofs.Products.{product_fits}
use Rattle.loop_bind.proofs.affine.times.Goals as goal

pub returns : goal.returns
returns c =
    let a : FitsSigned w64 c.args.a = c.ranges.a in
    let b : FitsSigned w64 c.args.b = c.ranges.b in
    let product : FitsSigned w64 (c.args.a *ℤ c.args.b) = product_fits c.args.a c.args.b c.requires.a c.requires.b in
    simp to_z-of_z
