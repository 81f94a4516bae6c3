-- The whole numbers from one up to another, without it.
use Rattle.std.proofs.Common.{◌≡◌, ℤ, pos, ◌+ℤ◌, ◌-ℤ◌, ◌<ℤ◌, ◌∷◌, ap, ◌∙◌, arith}
use Rattle.std.proofs.lemmas.Int.{ints}
use Rattle.sanlp.specs.Cells.{natural, counted}
use Rattle.sanlp.proofs.Intervals.{natural_more}

pub counted_step : (a b : ℤ) → a <ℤ b
    → counted a (natural (b -ℤ a)) ≡ a ∷ counted (a +ℤ pos 1) (natural (b -ℤ (a +ℤ pos 1)))
counted_step a b h =
    ap (counted a) (natural_more (b -ℤ a) (omega (arith, ints)))
    ∙ (let e : b -ℤ a -ℤ pos 1 ≡ b -ℤ (a +ℤ pos 1) = omega (arith, ints) in
    ap (λ z. a ∷ counted (a +ℤ pos 1) (natural z)) e)
