use Rattle.std.proofs.Common.{◌≡◌, pos, ◌-ℤ◌, map, to_z, of_z, arith}
use Rattle.std.specs.Int.{w64}
use Rattle.std.proofs.lemmas.Int.{ints}
use Rattle.loop_bind.proofs.AffineLemmas.{map_is}
use Rattle.loop_bind.proofs.affine.Affine.negated.Goals as goal

pub returns : goal.returns
returns c =
    let f = c.args.self.now in
    let constant : to_z w64 (of_z w64 c.minus-2.result) ≡ pos 0 -ℤ f.constant = omega (arith, ints) in
    let coefs : c.loop-i.coefs ≡ map (λ x. pos 0 -ℤ x) f.coefs =
    map_is (λ x. pos 0 -ℤ x) 6 c.loop-i.coefs f.coefs c.loop-i.invariant.0 (omega arith)
    (λ k h. c.loop-i.invariant.1 k (omega arith)) in
    λ i. record { constant = constant i; coefs = coefs i }
