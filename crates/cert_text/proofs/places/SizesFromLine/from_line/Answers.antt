use Rattle.std.proofs.Common.{◌≡◌, ◌∙◌, true, refl, sym}
use Rattle.std.specs.Prelude.{bytes_eq, codes}
use Rattle.cert_lines.proofs.WordCounts.{is_keyword, one_before}
use Rattle.cert_text.proofs.places.SizesFromLine.from_line.Goals as goal

pub returns : goal.returns
returns c =
    let m = c.in-Some-Some-Some-Some-Some-None in
    let words =
    sym c.new-words.ensures
    ∙ one_before _ _ _ _ m.ensures
    (one_before _ _ _ _ m.ensures'
    (one_before _ _ _ _ m.ensures''
    (one_before _ _ _ _ m.ensures''' (one_before _ _ _ _ m.ensures'''' m.ensures'''''.0)))) in
    let first : bytes_eq m.word.now (codes "sizes") ≡ true =
    is_keyword m.word.now c.as_slice.result.now (codes "sizes") c.if-ne.ensures c.as_slice.ensures in
    rw (
      words,
      first,
      c.sizes_of.ensures,
      c.both.ensures,
      c.both-first.ensures,
      c.both-second.ensures,
      c.number.ensures,
      c.number-2.ensures,
      c.number-3.ensures,
      c.number-4.ensures,
    ) refl
