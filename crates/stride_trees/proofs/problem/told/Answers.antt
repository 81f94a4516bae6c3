use Rattle.std.proofs.Common.{◌∙◌}
use Rattle.stride_trees.specs.Strides.{read_of, write_of}
use Rattle.stride_trees.proofs.QuotientProblem.{told_level, told_reader, told_writer}
use Rattle.stride_trees.proofs.problem.told.Goals as goal

pub returns-clause-read : goal.returns-clause-read
returns-clause-read c places of =
    told_reader (read_of c.args.s.now) (write_of c.args.s.now) c.args.vars places c.as_slice-3.result.now
    (c.as_slice-3.ensures ∙ of.read_forms)

pub returns-clause-write : goal.returns-clause-write
returns-clause-write c =
    let of = c.requires.told.2 in
    told_writer (write_of c.args.s.now) c.as_slice.result.now c.as_slice-2.result.now (c.as_slice.ensures ∙ of.rows)
    (c.as_slice-2.ensures ∙ of.write_forms)

pub invariant_of-result-clause-problem : goal.invariant_of-result-clause-problem
invariant_of-result-clause-problem c =
    let s = c.args.s.now in
    let h = c.requires.told in
    told_level s c.requires.strided c.args.vars h.0 h.1 c.as_slice-3.result.now c.as_slice.result.now
    c.as_slice-2.result.now
    (told_reader (read_of s) (write_of s) c.args.vars h.0 c.as_slice-3.result.now
    (c.as_slice-3.ensures ∙ h.2.read_forms))
    (told_writer (write_of s) c.as_slice.result.now c.as_slice-2.result.now (c.as_slice.ensures ∙ h.2.rows)
    (c.as_slice-2.ensures ∙ h.2.write_forms))

pub invariant_of-result-clause-loops : goal.invariant_of-result-clause-loops
invariant_of-result-clause-loops c = c.requires.strided.common
