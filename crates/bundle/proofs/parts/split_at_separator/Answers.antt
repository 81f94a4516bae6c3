use Rattle.std.proofs.Common.{◌++◌, List, ℕ, length, take, arith, ap, sym, ◌∙◌, length-append, append_assoc}
use Rattle.bundle.specs.Parts.{before_separator}
use Rattle.bundle.proofs.Lines.{before_separator-line, after_separator-line, after_separator-here, drop-past_line, take-past_line, length-past_line}
use Rattle.bundle.proofs.parts.split_at_separator.Goals as goal

pub returns-then-is_separator-clause-after : goal.returns-then-is_separator-clause-after
returns-then-is_separator-clause-after c =
    sym (c.loop-rest.invariant.after
    ∙ after_separator-here c.loop-rest.rest.now c.split_line.result.0.now c.split_line.result.1.now
    c.split_line.ensures.lines (sym c.if-is_separator.ensures))

pub loop-rest-smaller : goal.loop-rest-smaller
loop-rest-smaller c =
    omega (
      arith,
      ap length c.split_line.ensures.whole
          ∙ length-append c.split_line.result.0.now c.split_line.result.1.now,
    )

pub loop-rest-preserved : goal.loop-rest-preserved
loop-rest-preserved c =
    let bytes = c.args.bytes.now in
    let line = c.split_line.result.0.now in
    let later = c.split_line.result.1.now in
    let start = c.loop-rest.start in
    let here = sym c.loop-rest.invariant.rest ∙ c.split_line.ensures.whole in
    let lines = c.split_line.ensures.lines in
    let plain = sym c.if-is_separator.ensures in
    record {
      within = length-past_line bytes line later start c.loop-rest.invariant.within here;
      rest = sym (drop-past_line bytes line later start here);
      before = c.loop-rest.invariant.before
          ∙ ap (λ (rest : List ℕ). take start bytes ++ rest)
          (before_separator-line c.loop-rest.rest.now line later lines plain)
          ∙ sym (append_assoc (take start bytes) line (before_separator later))
          ∙ ap (λ (front : List ℕ). front ++ before_separator later) (sym (take-past_line bytes line later start here));
      after = c.loop-rest.invariant.after ∙ after_separator-line c.loop-rest.rest.now line later lines plain;
    }
