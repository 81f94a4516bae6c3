use Rattle.std.proofs.Common.{◌++◌, ℕ, List, append_assoc, append-nil, sym, ap, ◌∙◌}
use Rattle.std.proofs.iter.SplitParts.{length_zero-nil}
use Rattle.cert_text.specs.CertText.{entry_text, part_text, parts_text}
use Rattle.cert_text.specs.Stretches.{stretch_blocks, stretch_part}
use Rattle.cert_text.proofs.Texts.{schedule_next}
use Rattle.cert_text.proofs.writing.write_schedule.Goals as goal

pub loop-entry-preserved : goal.loop-entry-preserved
loop-entry-preserved g c =
    let before = (g.W.TextWriter.given c.loop-entry.out).text in
    let later = c.take_stretch-times.result.1.now in
    let times = c.take_stretch-times.result.0 in
    let entry = c.in-Some.entry.now in
    let first = part_text entry_text (stretch_part (record { times = times; entry = entry })) in
    let others = parts_text entry_text (stretch_blocks later).parts in
    record {
      start = c.write_stretch.ensures.0 ∙ c.loop-entry.invariant.start;
      whole =
          ap (λ (text : List ℕ). text ++ others) c.write_stretch.ensures.1
          ∙ append_assoc before first others
          ∙ ap (λ (more : List ℕ). before ++ more) (sym
          (schedule_next c.loop-entry.rest.now c.in-Some.others.now later entry times c.in-Some.ensures.cases.0
          c.take_stretch-times.ensures.first))
          ∙ c.loop-entry.invariant.whole;
    }

pub returns : goal.returns
returns g c =
    let text = (g.W.TextWriter.given c.loop-entry.out).text in (
      c.loop-entry.invariant.start,
      sym (append-nil text)
          ∙ ap (λ (es : List ℕ). text ++ parts_text entry_text (stretch_blocks es).parts)
          (sym (length_zero-nil c.loop-entry.rest.now c.in_default.ensures.cases))
          ∙ c.loop-entry.invariant.whole,
    )
