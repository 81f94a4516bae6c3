use Rattle.std.proofs.Common.{◌∙◌, ap}
use Rattle.int_polyhedra.specs.Refusal.{refusal}
use Rattle.int_polyhedra.proofs.RowsOf.{rows_of_given}
use Rattle.int_polyhedra.proofs.ProofRules.{refutes_follows}
use Rattle.int_polyhedra.proofs.Soundness.{refutes_sound}
use Rattle.int_polyhedra.proofs.refute.refutes.Goals as goal

pub returns-clause-exact : goal.returns-clause-exact
returns-clause-exact c =
    c.refute.ensures
    ∙ ap (refusal c.args.system.now.vars c.args.proof.now) (rows_of_given c.as_slice.result ∙ c.as_slice.ensures)

pub returns-clause-follows : goal.returns-clause-follows
returns-clause-follows c =
    refutes_follows c.args.system.now.vars c.args.system.now.rows c.args.proof.now c.refute.result
    (returns-clause-exact c)

pub returns-clause-sound : goal.returns-clause-sound
returns-clause-sound c =
    refutes_sound c.args.system.now.vars c.args.system.now.rows c.args.proof.now c.refute.result c.requires.over
    (returns-clause-exact c)
