use Rattle.std.proofs.Common.{ℕ, List, ◌≡◌, ◌++◌, ◌+◌, ◌≤◌, length, take, ◌∙◌, arith, length-append}
use Rattle.std.proofs.lemmas.List.{take-append-le}
use Rattle.std.proofs.KnownBytes.{Consumes-trans}
use Rattle.io_edge.proofs.reading.read_all.Goals as goal

-- where there is no memory for what came, it was consumed all the same
pub returns-then-is_err-clause-memory : goal.returns-then-is_err-clause-memory
returns-then-is_err-clause-memory g c _ =
    let before : List ℕ = c.loop-bytes.bytes.items in
    let came : List ℕ = c.split_at.result.0.now in
    let bound = c.in-Ok.ensures.bound in
    let front : came ≡ take c.in-Ok.count c.read.new.buf =
    c.split_at.ensures.front
    ∙ take-append-le c.in-Ok.count c.read.new.buf c.split_at_mut-front.result.1.now bound.0 in
    let consumed = rw (← front) at c.in-Ok.ensures.bytes.0 in
    let short : length before + length came ≤ c.args.limit + 1 = omega (arith, c.split_at.ensures.front_len, bound.0) in
    (before ++ came, rw length-append short, Consumes-trans _ _ _ before came c.loop-bytes.invariant.1 consumed)

-- the read before the refusal is the one that may have come without a byte
pub returns-then-is_err-clause-reads : goal.returns-then-is_err-clause-reads
returns-then-is_err-clause-reads g c =
    let before : List ℕ = c.loop-bytes.bytes.items in
    let came : List ℕ = c.split_at.result.0.now in
    let bound = c.in-Ok.ensures.bound in
    let front : came ≡ take c.in-Ok.count c.read.new.buf =
    c.split_at.ensures.front
    ∙ take-append-le c.in-Ok.count c.read.new.buf c.split_at_mut-front.result.1.now bound.0 in
    let consumed = rw (← front) at c.in-Ok.ensures.bytes.0 in (
      before ++ came,
      Consumes-trans _ _ _ before came c.loop-bytes.invariant.1 consumed,
      rw length-append (omega (arith, c.read.ensures.one, c.loop-bytes.invariant.2)),
    )
