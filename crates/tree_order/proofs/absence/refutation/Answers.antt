use Rattle.std.proofs.Common.{◌+◌, ◌<◌, ◌^◌, ◌++◌, ap, ◌∙◌, sym, subst}
use Rattle.std.specs.Prelude.{All}
use Rattle.int_polyhedra.specs.declared.system.Term.{Term}
use Rattle.tree_graphs.specs.Paths.{terms_from}
use Rattle.tree_order.proofs.absence.refutation.Goals as goal

pub append_from-requires : goal.append_from-requires
append_from-requires c =
    subst (λ n. All (λ (t : Term). n + t.row < 2 ^ 32) c.args.rows.now) (sym c.len.ensures) c.requires

pub returns : goal.returns
returns c =
    c.in_ok-append_from.ensures ∙ ap (λ ts. ts ++ terms_from c.len.result c.args.rows.now) c.in_ok-terms.ensures
    ∙ ap (λ n. c.args.shown.now ++ terms_from n c.args.rows.now) c.len.ensures
