use Rattle.std.proofs.Common.{length, arith}
use Rattle.plain_data.proofs.Lists.{sum_by_more_some}
use Rattle.sanlp.specs.declared.nest.Statement.{Statement}
use Rattle.sanlp.proofs.NestFacts.{few_reads}
use Rattle.sanlp.proofs.reads.reads_before.Goals as goal

pub loop-number-preserved : goal.loop-number-preserved
loop-number-preserved c =
    let n = c.args.nest.now in
    let s = c.statement.result.now in (
      omega (
        arith,
        c.loop-number.invariant.0,
        c.len-total.ensures,
        sum_by_more_some (λ (st : Statement). length st.reads) n.statements c.loop-number.number s
            c.statement.ensures.value,
      ),
      omega (arith, c.loop-number.invariant.1, c.len-total.ensures, few_reads n.arrays s c.statement.ensures.fits),
    )
