use Rattle.std.proofs.Common.{◌≡◌, ◌∷◌, length, sym, ap, subst, rules, arith}
use Rattle.std.specs.Prelude.{Contains}
use Rattle.stride_trees.specs.Leaves.{HasWriter}
use Rattle.stride_trees.proofs.WriterTests.{has_behind}
use Rattle.stride_trees.proofs.leaves.+writer_at.Goals as goal
use Rattle.plain_data.proofs.Lists.{Contains-first, Contains-later}

pub returns-then-writer-number-clause-among : goal.returns-then-writer-number-clause-among
returns-then-writer-number-clause-among t c =
    let first : c.args.writers.now ≡ c.in-Some.writer.now ∷ c.in-Some.writers.now = search rules in
    subst (λ ws. Contains ws c.in-Some.writer.now) (sym first) (Contains-first c.in-Some.writer.now c.in-Some.writers.now)

pub writer_at-requires : goal.writer_at-requires
writer_at-requires t c =
    let first : c.args.writers.now ≡ c.in-Some.writer.now ∷ c.in-Some.writers.now = search rules in (
      omega (arith, ap length first),
      has_behind c.in-Some.writer.now c.in-Some.writers.now c.args.number
          (subst (λ ws. HasWriter ws c.args.number) first c.requires) (λ e. c.if-writer-number.false e),
    )

pub returns-clause-among : goal.returns-clause-among
returns-clause-among t c =
    let first : c.args.writers.now ≡ c.in-Some.writer.now ∷ c.in-Some.writers.now = search rules in
    subst (λ ws. Contains ws c.writer_at.result.now) (sym first)
    (Contains-later c.in-Some.writer.now c.in-Some.writers.now c.writer_at.result.now c.writer_at.ensures.among)
