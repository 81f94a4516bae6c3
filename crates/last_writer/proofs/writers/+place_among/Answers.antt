use Rattle.std.proofs.Common.{◌≡◌, ◌+◌, ◌∷◌, length, sym, ap, subst, rules, arith}
use Rattle.std.proofs.lemmas.Option.{IfSome_then}
use Rattle.last_writer.proofs.WriterLists.{test_behind, test_here}
use Rattle.stride_trees.specs.Writers.{IsTestAt}
use Rattle.last_writer.proofs.writers.+place_among.Goals as goal

pub place_among-requires : goal.place_among-requires
place_among-requires t c =
    let first : c.args.tests.now ≡ c.in_ok-first.first.now ∷ c.in_ok-first.tests.now = search rules in
    (omega (arith, ap length first), omega (arith, ap length first, c.requires))

pub returns-then-is_same : goal.returns-then-is_same
returns-then-is_same t c =
    let first : c.args.tests.now ≡ c.in_ok-first.first.now ∷ c.in_ok-first.tests.now = search rules in (
      0,
      omega arith,
      subst (λ tests. IsTestAt tests c.args.division.now 0) (sym first)
          (test_here c.in_ok-first.first.now c.in_ok-first.tests.now c.args.division.now
          (c.is_same.ensures.form c.if-is_same.true) (c.is_same.ensures.divisor c.if-is_same.true)),
    )

pub returns : goal.returns
returns t c =
    let first : c.args.tests.now ≡ c.in_ok-first.first.now ∷ c.in_ok-first.tests.now = search rules in
    IfSome_then c.place_among.result c.place_among.ensures
    (λ place h. (
      h.0 + 1,
      omega (arith, h.1),
      subst (λ tests. IsTestAt tests c.args.division.now (h.0 + 1)) (sym first)
          (test_behind c.in_ok-first.first.now c.in_ok-first.tests.now c.args.division.now h.0 h.2),
    ))
