use Rattle.std.proofs.Common.{◌≡◌, sym, subst}
use Rattle.std.specs.Prelude.{Some}
use Rattle.std.proofs.lemmas.Result.{IfOk-weaker}
use Rattle.last_writer.proofs.ReadClass.{exact_of}
use Rattle.last_writer.proofs.RootContexts.{asked_read}
use Rattle.source_tree.specs.References.{occurrence_of}
use Rattle.source_tree.specs.Systems.{read_at}
use Rattle.tree_cuts.specs.Class.{IsInStrideClass}
use Rattle.last_writer.proofs.source.source_of.Goals as goal

pub tree_of-requires : goal.tree_of-requires
tree_of-requires c =
    let n = c.args.nest.now in
    let r = c.reference_of-reference.result in
    let is = c.reference_of-reference.ensures in
    asked_read n r c.args.read (subst (λ s. IsInStrideClass n s c.args.read) (sym is.number) c.requires)
    (subst (λ s. read_at n s c.args.read ≡ Some (occurrence_of r)) (sym is.number) is.read)

pub returns-clause-checked : goal.returns-clause-checked
returns-clause-checked c =
    let r = occurrence_of c.reference_of-reference.result in
    IfOk-weaker c.tree_of.result _ _ (λ tree checked. (r, c.reference_of-reference.ensures.read, checked)) c.tree_of.ensures

pub returns-clause-exact : goal.returns-clause-exact
returns-clause-exact c =
    let r = occurrence_of c.reference_of-reference.result in
    IfOk-weaker c.tree_of.result _ _
    (λ tree checked. exact_of c.args.nest.now c.args.statement c.args.read tree
    (r, c.reference_of-reference.ensures.read, checked)) c.tree_of.ensures
