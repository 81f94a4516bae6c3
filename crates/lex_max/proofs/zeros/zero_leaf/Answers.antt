use Rattle.std.proofs.Common.{[], ◌∷◌, ◌++◌, ap, ◌∙◌}
use Rattle.int_polyhedra.specs.declared.system.Proof.TheVariants.{Sum}
use Rattle.tree_graphs.specs.Paths.{terms_from}
use Rattle.lex_max.proofs.ZeroLeaves.{rows_fit}
use Rattle.lex_max.proofs.ZeroLeaves.{zero_answer}
use Rattle.source_tree.specs.declared.tree.Tree.TheVariants.{Zero}
use Rattle.lex_max.proofs.zeros.zero_leaf.Goals as goal

pub append_from-requires : goal.append_from-requires
append_from-requires c =
    let h = c.requires.refuted in
    rows_fit c.args.w.now c.args.context.now h.0 c.args.shown.now c.args.rows.now c.len.result h.1 c.requires.context
    h.2 c.len.ensures

pub returns : goal.returns
returns c =
    let h = c.requires.refuted in
    let shown = c.args.shown.now in
    let rows = c.args.rows.now in
    let terms = c.append_from.new.out in
    zero_answer c.args.w.now c.args.context.now h.0 shown rows terms (Zero c.push.new.self) h.1 c.requires.context h.2
    (c.in_ok-append_from.ensures ∙ ap (λ ts. ts ++ terms_from c.len.result rows)
    (c.in_ok-append.ensures ∙ ap (λ ts. ts ++ shown) c.new-terms.ensures)
    ∙ ap (λ n. shown ++ terms_from n rows) c.len.ensures)
    (ap Zero (c.in_ok-push.ensures.ok ∙ ap (λ proofs. proofs ++ Sum terms ∷ []) c.new-proofs.ensures))
