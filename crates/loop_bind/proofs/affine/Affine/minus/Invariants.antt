use Rattle.std.proofs.Common.{◌≡◌, ℕ, ◌<◌, length, get_or, pos, ◌-ℤ◌}
use Rattle.loop_bind.proofs.affine.Affine.minus.Given as goal

abbrev pub invariant-loop-i : goal.invariant-loop-i
invariant-loop-i l =
    (length l.coefs ≡ 6)
    × ((k : ℕ) → k < l.i → get_or l.coefs k (pos 0) ≡ get_or l.self.coefs k (pos 0) -ℤ get_or l.other.coefs k (pos 0))
