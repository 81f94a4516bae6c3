use Rattle.std.proofs.Common.{◌+◌, ℕ, List, ◌∷◌, drop, sym, ap, ◌∙◌}
use Rattle.cert_text.specs.Stretches.{Stretch, stretches}
use Rattle.cert_text.proofs.StretchLists.{stretch_first}
use Rattle.cert_text.proofs.writing.take_stretch.Goals as goal

abbrev with_others : ℕ → ℕ → List ℕ → List Stretch
with_others times entry later = record { times = times; entry = entry } ∷ stretches later

pub returns-clause-first : goal.returns-clause-first
returns-clause-first c =
    let others = c.args.others.now in
    let more = c.equal_in_front-more.result in
    stretch_first c.args.entry others
    ∙ ap (λ (n : ℕ). with_others (n + 1) c.args.entry (drop n others)) (sym c.equal_in_front-more.ensures.count)
    ∙ ap (λ (later : List ℕ). with_others (more + 1) c.args.entry later) (sym c.split_at.ensures.back)
