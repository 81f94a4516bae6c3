use Rattle.std.proofs.Common.{◌≡◌, [], get_or, sym, ◌∙◌, subst}
use Rattle.std.proofs.lemmas.Option.{get_or_from_slice_get}
use Rattle.net_checker.specs.Tables.{GoesOn, IsProgression}
use Rattle.net_checker.proofs.TagRows.{row_by_one}
use Rattle.net_checker.proofs.sources.is_even_row.Goals as goal

pub returns-then-step-eq1-clause-row : goal.returns-then-step-eq1-clause-row
returns-then-step-eq1-clause-row c even =
    let of = c.args.candidate.now.points.now.of in
    let row = c.args.row in
    let same : c.as_slice-vectors.result.now ≡ get_or of row.statement [] =
    c.as_slice-vectors.ensures
    ∙ sym (get_or_from_slice_get of row.statement c.in-Some.vectors.now [] (sym c.in-Some.ensures.value)) in
    let ahead = subst (λ vectors. GoesOn vectors row.first row.turns) same (c.goes_on.ensures even) in
    subst (λ step. IsProgression (get_or of row.statement []) row.first step row.turns) (sym c.if-step-eq1.true)
    (row_by_one c.args.candidate.now.nest.now of row.statement row.first row.turns
    c.args.candidate.now.points_of_nest ahead)

pub returns-then-has-clause-row : goal.returns-then-has-clause-row
returns-then-has-clause-row c _ = c.has.ensures c.if-has.true c.args.candidate.now.points.now.of c.requires

pub returns-clause-row : goal.returns-clause-row
returns-clause-row c _ =
    let of = c.args.candidate.now.points.now.of in
    let row = c.args.row in
    let same : c.as_slice-vectors.result.now ≡ get_or of row.statement [] =
    c.as_slice-vectors.ensures
    ∙ sym (get_or_from_slice_get of row.statement c.in-Some.vectors.now [] (sym c.in-Some.ensures.value)) in
    subst (λ vectors. IsProgression vectors row.first row.step row.turns) same
    (c.is_stepped_row.ensures c.if-not-is_stepped_row.false)

pub returns-clause-known : goal.returns-clause-known
returns-clause-known c =
    let of = c.args.candidate.now.points.now.of in
    let row = c.args.row in
    let same : c.as_slice-vectors.result.now ≡ get_or of row.statement [] =
    c.as_slice-vectors.ensures
    ∙ sym (get_or_from_slice_get of row.statement c.in-Some.vectors.now [] (sym c.in-Some.ensures.value)) in
    c.add.ensures of c.requires
    (subst (λ vectors. IsProgression vectors row.first row.step row.turns) same
    (c.is_stepped_row.ensures c.if-not-is_stepped_row.false))
