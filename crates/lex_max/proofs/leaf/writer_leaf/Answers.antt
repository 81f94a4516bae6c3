use Rattle.std.proofs.Common.{refl}
use Rattle.lex_max.proofs.LevelProofs.{leaf_answer}
use Rattle.lex_max.proofs.Ready.{ready_of}
use Rattle.lex_max.proofs.leaf.writer_leaf.Goals as goal

pub returns : goal.returns
returns c =
    leaf_answer c.args.graph.now.writes c.args.graph.now.edges.now c.args.graph.now.bounds.now c.args.context.now
    c.args.choices.now c.args.certs.now _ c.in_ok-forms_of.field-0 c.in_ok-proofs.proofs (ready_of c.args.graph.now)
    c.requires.context c.requires.chosen c.requires.certs c.in_ok-proofs.ensures.refuted c.in_ok-proofs.ensures.light
    c.in_ok-forms_of.ensures refl
