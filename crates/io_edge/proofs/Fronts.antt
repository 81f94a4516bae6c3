-- For a text that is written by several calls, one after the other: what a call that fails leaves behind.
use Rattle.std.proofs.Common.{ℕ, List, Option, ◌≡◌, ◌+◌, ◌≤◌, ◌++◌, length, take, ◌∙◌, ap}
use Rattle.std.proofs.Common.{arith, length-append}
use Rattle.std.proofs.lemmas.List.{take-append-le}
use Rattle.std.proofs.Math.Seq.{take-append-add}
use Rattle.std.specs.Io.KnownBytes.{Appends}
use Rattle.std.proofs.KnownBytes.{Appends-trans}
use Rattle.io_edge.specs.Causes.{AppendsFront}

-- `done` came, and then a front of `piece`: of the whole a front came
pub front_after : (old mid new : Option (List ℕ)) (done piece rest whole : List ℕ)
    → Appends old mid done → AppendsFront mid new piece → whole ≡ done ++ (piece ++ rest) → AppendsFront old new whole
front_after old mid new done piece rest whole before (count, within, came) e =
    let front : take (length done + count) whole ≡ done ++ take count piece =
    ap (take (length done + count)) e ∙ take-append-add done (piece ++ rest) count
    ∙ ap (λ (xs : List ℕ). done ++ xs) (take-append-le count piece rest within) in
    let short : length done + count ≤ length whole = rw (e, length-append, length-append) (omega (arith, within)) in
    (length done + count, short, rw front (Appends-trans old mid new done (take count piece) before came))
