use Rattle.std.proofs.Common.{◌≡◌, ◌<◌, ◌+◌, ℕ, subst, arith}
use Rattle.sanlp.specs.Access.{read_count}
use Rattle.sanlp.proofs.ReadCounts.{read_count-some}
use Rattle.source_tree.specs.Sources.{read_number}
use Rattle.net_maker.specs.Origins.{HasOrigins}
use Rattle.net_maker.proofs.ReadNumbers.{next_statement, origins_more}
use Rattle.net_maker.proofs.origins.add_origins.Goals as goal

pub loop-read-preserved : goal.loop-read-preserved
loop-read-preserved c =
    let n = c.args.nest.now in
    let s = c.args.statement in
    let few : c.loop-read.read < read_count n s =
    omega (arith, read_count-some n s c.statement.result.now c.statement.ensures.value, c.len-read-end.ensures) in
    record {
      points = c.in_ok-origin.ensures.points;
      origins = origins_more n s c.loop-read.read c.loop-read.sources c.push.new.self c.in_ok-origin.field-0 few
          c.loop-read.invariant.origins c.in_ok-push.ensures.ok c.in_ok-origin.ensures.origin;
    }

pub returns-clause-origins : goal.returns-clause-origins
returns-clause-origins c =
    let n = c.args.nest.now in
    let s = c.args.statement in
    let all : read_number n s c.loop-read.read ≡ read_number n (s + 1) 0 =
    omega (
      arith,
      next_statement n s c.requires.statement,
      read_count-some n s c.statement.result.now c.statement.ensures.value,
      c.len-read-end.ensures,
    ) in
    subst (λ (count : ℕ). HasOrigins n count c.loop-read.sources) all c.loop-read.invariant.origins
