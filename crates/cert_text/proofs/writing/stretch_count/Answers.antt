use Rattle.std.proofs.Common.{◌≡◌, ℕ, suc, List, length, ap, ◌∙◌, arith}
use Rattle.std.proofs.iter.SplitParts.{length_zero-nil}
use Rattle.cert_text.specs.Stretches.{Stretch, stretches}
use Rattle.cert_text.proofs.writing.stretch_count.Goals as goal

pub loop-entry-preserved : goal.loop-entry-preserved
loop-entry-preserved c =
    let next : length (stretches c.loop-entry.rest.now) ≡ suc (length (stretches c.take_stretch.result.1.now)) =
    ap (λ (es : List ℕ). length (stretches es)) c.in-Some.ensures.cases.0
    ∙ ap (λ (ss : List Stretch). length ss) c.take_stretch.ensures.first in
    record {
      whole = omega (arith, next, c.loop-entry.invariant.whole);
      few = omega (
        arith,
        ap (λ (es : List ℕ). length es) c.in-Some.ensures.cases.0,
        c.take_stretch.ensures.shorter,
        c.loop-entry.invariant.few,
      );
    }

pub returns : goal.returns
returns c =
    let none : length (stretches c.loop-entry.rest.now) ≡ 0 =
    ap (λ (es : List ℕ). length (stretches es))
    (length_zero-nil c.loop-entry.rest.now c.in_default.ensures.cases) in
    omega (arith, none, c.loop-entry.invariant.whole)
