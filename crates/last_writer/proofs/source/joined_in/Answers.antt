-- The writes that are told are problems of differences in this context, so they can be joined, and the joined tree is one of the
-- nest once its proofs are those for all writers.
use Rattle.std.proofs.Common.{length, sym, ap, ◌∙◌, subst, arith}
use Rattle.std.proofs.lemmas.Result.{IfOk-weaker}
use Rattle.int_polyhedra.specs.declared.system.System.{System}
use Rattle.last_writer.proofs.JointTrees.{all_answered, all_checked, all_joined, below_here, joined_below, pairs_joined, read_joined}
use Rattle.stride_trees.specs.Answers.{HasSmallRows}
use Rattle.last_writer.proofs.source.joined_in.Goals as goal

pub push_problems-requires-clause-writers : goal.push_problems-requires-clause-writers
push_problems-requires-clause-writers c = c.requires.answered.writers.each

pub join-requires : goal.join-requires
join-requires c =
    let w = c.args.w.now in
    let r = c.read_with-read.result in
    let read = c.read_with-read.ensures in
    read_joined w r c.requires.answered c.requires.all
    (c.requires.made.vars ∙ sym (ap (λ (s : System). s.vars) read.context))
    (subst HasSmallRows (sym read.context) c.requires.rows)
    (omega (arith, ap (λ (s : System). length s.rows) read.context, c.requires.few))
    (pairs_joined w r c.new-problems.result c.push_problems.new.problems c.as_slice.result.now
    read.reference read.problems c.as_slice.ensures c.new-problems.ensures
    c.in_ok-push_problems.ensures)

pub converted-requires-clause-tree : goal.converted-requires-clause-tree
converted-requires-clause-tree c =
    let w = c.args.w.now in
    let r = c.read_with-read.result in
    let read = c.read_with-read.ensures in
    let pairs = pairs_joined w r c.new-problems.result c.push_problems.new.problems c.as_slice.result.now
    read.reference read.problems c.as_slice.ensures c.new-problems.ensures
    c.in_ok-push_problems.ensures in
    let below = below_here w c.args.there.now c.len.result c.len.ensures c.requires.all c.requires.made c.requires.rows in
    let checked = joined_below w r c.args.there.now c.in_ok-tree.tree c.requires.made read.context pairs
    c.in_ok-tree.ensures.joined in
    all_joined w c.len.result c.in_ok-tree.tree c.requires.answered c.requires.facts below checked

pub returns : goal.returns
returns c =
    let w = c.args.w.now in
    let r = c.read_with-read.result in
    let read = c.read_with-read.ensures in
    let pairs = pairs_joined w r c.new-problems.result c.push_problems.new.problems c.as_slice.result.now
    read.reference read.problems c.as_slice.ensures c.new-problems.ensures
    c.in_ok-push_problems.ensures in
    let below = below_here w c.args.there.now c.len.result c.len.ensures c.requires.all c.requires.made c.requires.rows in
    let checked = joined_below w r c.args.there.now c.in_ok-tree.tree c.requires.made read.context pairs
    c.in_ok-tree.ensures.joined in
    IfOk-weaker c.converted.result _ _ (λ own converts.
    all_checked w c.len.result c.in_ok-tree.tree own c.requires.answered below checked converts) c.converted.ensures

pub converted-requires-clause-answered : goal.converted-requires-clause-answered
converted-requires-clause-answered c = all_answered c.args.w.now c.requires.answered

pub converted-requires-clause-here : goal.converted-requires-clause-here
converted-requires-clause-here c =
    omega (arith, c.len.ensures, ap (λ (s : System). length s.rows) c.read_with-read.ensures.context, c.in_ok-tree.ensures.low)
