use Rattle.std.proofs.Common.{subst, arith}
use Rattle.std.proofs.lemmas.Result.{IfOk-weaker}
use Rattle.lex_max.specs.Answer.{IsAnswer}
use Rattle.lex_max.proofs.ReadAndWrite.{is_checked, is_greatest, is_simple}
use Rattle.lex_max.proofs.Root.{root_context_of}
use Rattle.lex_max.proofs.greatest.candidate.Goals as goal

pub tree_of-requires : goal.tree_of-requires
tree_of-requires c =
    root_context_of c.args.nest.now c.writes_of-w.result c.in_ok-context.context 3584 c.writes_of-w.ensures.stands
    c.writes_of-w.ensures.vars c.in_ok-context.ensures (omega arith)

pub returns-clause-checked : goal.returns-clause-checked
returns-clause-checked c =
    let a = c.writes_of-w.ensures in
    IfOk-weaker c.tree_of.result _ _
    (λ tree h. is_checked c.args.nest.now c.args.statement c.args.read c.args.writer c.args.level c.writes_of-w.result
    tree a.stands a.vars a.read a.write a.level
    (subst (λ context. IsAnswer c.writes_of-w.result context 3584 tree) c.in_ok-context.ensures h)) c.tree_of.ensures

pub returns-clause-simple : goal.returns-clause-simple
returns-clause-simple c =
    let a = c.writes_of-w.ensures in
    IfOk-weaker c.tree_of.result _ _
    (λ tree h. is_simple c.args.nest.now c.args.statement c.args.read c.args.writer c.args.level c.writes_of-w.result
    tree a.stands a.vars a.read a.write a.level
    (subst (λ context. IsAnswer c.writes_of-w.result context 3584 tree) c.in_ok-context.ensures h)) c.tree_of.ensures

pub returns-clause-greatest : goal.returns-clause-greatest
returns-clause-greatest c =
    let a = c.writes_of-w.ensures in
    IfOk-weaker c.tree_of.result _ _
    (λ tree h. is_greatest c.args.nest.now c.args.statement c.args.read c.args.writer c.args.level c.writes_of-w.result
    tree a.stands a.vars a.read a.write a.level
    (subst (λ context. IsAnswer c.writes_of-w.result context 3584 tree) c.in_ok-context.ensures h)) c.tree_of.ensures
