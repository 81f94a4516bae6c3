use Rattle.std.proofs.Common.{arith, length}
use Rattle.cert_lines.proofs.WordCounts.{one_counted}
use Rattle.tree_text.specs.Lines.{integers}
use Rattle.tree_text.proofs.Coefficients.{next_integer, one_more}
use Rattle.tree_text.proofs.lines.coefficients.Goals as goal

pub loop-word-preserved : goal.loop-word-preserved
loop-word-preserved c = record {
  said = next_integer c.loop-word.coefs c.with_coefficient-coefs.result c.integer.result c.loop-word.words
      c.next.new.self c.in-Some.word.now (integers c.args.words) c.in-Some.ensures c.integer.ensures
      c.with_coefficient-coefs.ensures c.loop-word.invariant.said;
  counted = one_counted c.loop-word.count (length c.args.words) c.loop-word.words c.next.new.self c.in-Some.word.now
      c.in-Some.ensures c.loop-word.invariant.counted;
  few = omega (arith, c.loop-word.invariant.few, c.if-count-eq18.false);
  as_many = one_more c.loop-word.coefs c.with_coefficient-coefs.result c.integer.result c.loop-word.count
      c.with_coefficient-coefs.ensures c.loop-word.invariant.as_many;
}
