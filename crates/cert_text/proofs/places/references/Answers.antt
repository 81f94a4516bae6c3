use Rattle.std.proofs.Common.{arith, length}
use Rattle.cert_lines.proofs.WordCounts.{one_counted}
use Rattle.cert_text.specs.Words.{references}
use Rattle.cert_text.proofs.References.{next_reference, one_longer}
use Rattle.cert_text.proofs.places.references.Goals as goal

pub loop-word-preserved : goal.loop-word-preserved
loop-word-preserved c = record {
  said = next_reference c.loop-word.refs c.with_reference-refs.result c.reference.result c.loop-word.words
      c.next.new.self c.in-Some.word.now (references c.args.words) c.in-Some.ensures c.reference.ensures
      c.with_reference-refs.ensures c.loop-word.invariant.said;
  counted = one_counted c.loop-word.count (length c.args.words) c.loop-word.words c.next.new.self c.in-Some.word.now
      c.in-Some.ensures c.loop-word.invariant.counted;
  few = omega (arith, c.loop-word.invariant.few, c.if-count-eq8.false);
  as_many = one_longer c.loop-word.refs c.with_reference-refs.result c.reference.result c.loop-word.count
      c.with_reference-refs.ensures c.loop-word.invariant.as_many;
}
