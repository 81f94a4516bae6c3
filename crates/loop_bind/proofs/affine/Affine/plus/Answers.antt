use Rattle.std.proofs.Common.{◌≡◌, ◌+ℤ◌, to_z, of_z, arith}
use Rattle.std.specs.Int.{w64}
use Rattle.std.proofs.lemmas.Int.{ints}
use Rattle.loop_bind.specs.Forms.{termwise}
use Rattle.loop_bind.proofs.AffineLemmas.{termwise_is}
use Rattle.loop_bind.proofs.affine.Affine.plus.Goals as goal

pub returns : goal.returns
returns c =
    let f = c.args.self.now in
    let g = c.args.other.now in
    let constant : to_z w64 (of_z w64 c.plus-2.result) ≡ f.constant +ℤ g.constant = omega (arith, ints) in
    let coefs : c.loop-i.coefs ≡ termwise ◌+ℤ◌ f.coefs g.coefs =
    termwise_is ◌+ℤ◌ 6 c.loop-i.coefs f.coefs g.coefs c.loop-i.invariant.0 (omega arith) (omega arith)
    (λ k h. c.loop-i.invariant.1 k (omega arith)) in
    λ i. record { constant = constant i; coefs = coefs i }
