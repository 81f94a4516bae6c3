use Rattle.std.proofs.Common.{◌≡◌, pos, ◌*ℤ◌, ◌∙◌, ap, get_or, map, to_z, of_z, arith}
use Rattle.std.specs.Int.{w64}
use Rattle.std.proofs.lemmas.Int.{ints}
use Rattle.loop_bind.proofs.AffineLemmas.{map_is}
use Rattle.loop_bind.proofs.affine.Affine.times.Goals as goal

pub returns : goal.returns
returns c =
    let f = c.args.self.now in
    let by : to_z w64 (of_z w64 c.args.by) ≡ c.args.by = omega (arith, ints) in
    let first : to_z w64 (of_z w64 f.constant) ≡ f.constant = omega (arith, ints) in
    let result : to_z w64 (of_z w64 c.times-2.result) ≡ c.times-2.result = omega (arith, ints) in
    let constant : to_z w64 (of_z w64 c.times-2.result) ≡ c.args.by *ℤ f.constant =
    result ∙ c.times-2.ensures ∙ (λ i. by i *ℤ first i) in
    let coefs : c.loop-i.coefs ≡ map (λ x. c.args.by *ℤ x) f.coefs =
    map_is (λ x. c.args.by *ℤ x) 6 c.loop-i.coefs f.coefs c.loop-i.invariant.0 (omega arith)
    (λ k h. c.loop-i.invariant.1 k (omega arith) ∙ ap (λ b. b *ℤ get_or f.coefs k (pos 0)) by) in
    λ i. record { constant = constant i; coefs = coefs i }
