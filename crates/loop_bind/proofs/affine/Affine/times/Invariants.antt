use Rattle.std.proofs.Common.{◌≡◌, ℕ, ◌<◌, length, get_or, pos, ◌*ℤ◌}
use Rattle.loop_bind.proofs.affine.Affine.times.Given as goal

abbrev pub invariant-loop-i : goal.invariant-loop-i
invariant-loop-i l =
    (length l.coefs ≡ 6) × ((k : ℕ) → k < l.i → get_or l.coefs k (pos 0) ≡ l.by *ℤ get_or l.self.coefs k (pos 0))
