use Rattle.std.proofs.Common.{pos, subst}
use Rattle.std.specs.Bool.{OnTrue}
use Rattle.int_polyhedra.specs.declared.system.Proof.TheVariants.{Sum}
use Rattle.int_polyhedra.specs.Rules.{ProvesEntailment}
use Rattle.tree_graphs.specs.Facts.{AreLight}
use Rattle.tree_sums.specs.Shown.{with_last}
use Rattle.tree_graphs.proofs.FactLemmas.{fact_is}
use Rattle.tree_graphs.proofs.facts.by_search.Goals as goal

pub returns : goal.returns
returns c =
    let context = c.args.context.now.system.now in
    let form = c.args.form.now in
    fact_is context form c.in-Some.terms c.args.context.now.fits c.requires
    (subst (λ n. AreLight n (pos 65536) c.in-Some.terms) c.len.ensures
    (subst (λ ts. AreLight c.len.result (pos 65536) ts) c.as_slice.ensures c.if-not-are_light.ensures))
    (subst (λ ts. ProvesEntailment context.vars context.rows form (Sum (with_last context.rows ts)))
    c.as_slice-2.ensures
    (subst (λ b. OnTrue b (ProvesEntailment context.vars context.rows form
    (Sum (with_last context.rows c.as_slice-2.result.now)))) c.if-not-branch.false c.in_ok-are_confirmed.ensures))
