use Rattle.std.proofs.Common.{◌+◌, ◌^◌, ◌≤◌, ◌<◌, length, sym, subst, arith}
use Rattle.std.specs.Prelude.{All}
use Rattle.std.specs.List.{count_by}
use Rattle.std.proofs.lemmas.List.Elements.{All-weaker}
use Rattle.affine_core.specs.declared.form.Form.{Form}
use Rattle.tree_sums.specs.Parts.{IsWithin}
use Rattle.tree_cuts.specs.Class.{is_stride}
use Rattle.stride_trees.specs.Strides.{depth_of_read}
use Rattle.stride_trees.proofs.QuotientProblem.{reads_short}
use Rattle.stride_trees.proofs.ProblemBounds.{all_within}
use Rattle.stride_trees.proofs.TestNodes.{fitting_of}
use Rattle.stride_trees.proofs.problem.told_reads.Goals as goal

pub push_reads-requires-clause-writes : goal.push_reads-requires-clause-writes
push_reads-requires-clause-writes c =
    let s = c.args.s.now in
    subst (All (IsWithin (2 ^ 32))) (sym c.as_slice-writes.ensures)
    (all_within (length s.write.statement.now.loops) s.write.access.now.subscripts
    (fitting_of s c.requires.strided).writes)

pub push_reads-requires-clause-reads : goal.push_reads-requires-clause-reads
push_reads-requires-clause-reads c =
    let s = c.args.s.now in
    subst (All (IsWithin (2 ^ 32))) (sym c.as_slice-reads.ensures)
    (all_within (depth_of_read s) s.read.access.now.subscripts (fitting_of s c.requires.strided).reads)

pub push_reads-requires-clause-over : goal.push_reads-requires-clause-over
push_reads-requires-clause-over c =
    let s = c.args.s.now in
    subst (All (λ (read : Form). length read.coefs ≤ c.args.vars)) (sym c.as_slice-reads.ensures)
    (reads_short (depth_of_read s) c.args.vars s.read.access.now.subscripts c.requires.places.reader
    (fitting_of s c.requires.strided).reads)

pub push_reads-requires-clause-few : goal.push_reads-requires-clause-few
push_reads-requires-clause-few c =
    let f = fitting_of c.args.s.now c.requires.strided in
    (omega (arith, c.len-depth.ensures, f.few_vars), omega (arith, c.requires.places.few, f.few_vars))

pub push_reads-requires-clause-places : goal.push_reads-requires-clause-places
push_reads-requires-clause-places c =
    All-weaker (λ i. depth_of_read c.args.s.now + i < c.args.vars) (λ i. i < 6 × c.len-depth.result + i < c.args.vars)
    (λ i h. (omega (arith, h, c.requires.places.few), omega (arith, h, c.len-depth.ensures))) c.args.places.now
    c.requires.places.each

pub push_reads-requires-clause-enough : goal.push_reads-requires-clause-enough
push_reads-requires-clause-enough c =
    subst (λ writes. count_by is_stride writes ≤ length c.args.places.now) (sym c.as_slice-writes.ensures)
    c.requires.places.enough
