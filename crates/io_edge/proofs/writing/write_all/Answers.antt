use Rattle.std.proofs.Common.{ℕ, ◌<◌, take, drop, ◌∙◌, arith}
use Rattle.std.proofs.Math.Seq.{take-add}
use Rattle.std.proofs.KnownBytes.{Appends-trans}
use Rattle.io_edge.proofs.writing.write_all.Goals as goal

-- what one more write took goes behind the front so far
pub loop-at-preserved : goal.loop-at-preserved
loop-at-preserved g c =
    let piece = c.args.piece.now in
    let at : ℕ = c.loop-at.at in
    let count : ℕ = c.in-Ok.count in
    let some : 0 < count = omega (arith, c.in-Ok.count-test) in
    let taken = rw c.split_at.ensures.back at c.in-Ok.ensures.bytes in (
      omega (arith, c.in-Ok.ensures.bound, c.split_at.ensures.back_len),
      rw (take-add at count piece)
          (Appends-trans _ _ _ (take at piece) (take count (drop at piece)) c.loop-at.invariant.1 taken),
      c.in-Ok.ensures.cause.took some ∙ c.loop-at.invariant.2,
    )
