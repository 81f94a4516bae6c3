use Rattle.std.proofs.Common.{arith}
use Rattle.lex_max.specs.Leaves.{after_levels}
use Rattle.lex_max.proofs.LeafProofs.{proofs_more, proofs_none, proofs_whole}
use Rattle.source_tree.specs.Systems.{with_rows}
use Rattle.lex_max.proofs.leaf.push_levels.Goals as goal

pub loop-level-init : goal.loop-level-init
loop-level-init c cx context place k = proofs_none (with_rows cx) (after_levels c.args.w.now place) c.args.proofs.now

pub after_proof-requires-clause-level : goal.after_proof-requires-clause-level
after_proof-requires-clause-level c = c.after_count-level-end.ensures.levels c.loop-level.level c.loop-level-test.true

pub loop-level-preserved : goal.loop-level-preserved
loop-level-preserved c cx context place k =
    let p = c.in_ok-after_proof.ensures cx context place k in
    proofs_more (with_rows cx) (after_levels c.args.w.now place) c.loop-level.level p.rows c.in_ok-after_proof.field-0
    c.args.proofs.now c.loop-level.proofs c.push.new.self p.is (c.loop-level.invariant cx context place k)
    c.in_ok-push.ensures.ok p.refuted p.light

pub returns : goal.returns
returns c cx context place k =
    let all = c.after_count-level-end.ensures.all place in
    proofs_whole (with_rows cx) (after_levels c.args.w.now place) c.loop-level.level c.args.proofs.now
    c.loop-level.proofs (omega (arith, all)) (c.loop-level.invariant cx context place k)
