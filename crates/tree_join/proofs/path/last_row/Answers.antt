use Rattle.std.proofs.Common.{sym, ap, ◌∙◌}
use Rattle.std.proofs.lemmas.List.{same_from_push}
use Rattle.tree_join.proofs.Turning.{same_system}
use Rattle.tree_join.proofs.Walks.{not_empty}
use Rattle.int_polyhedra.specs.declared.system.System.{System}
use Rattle.tree_join.proofs.path.last_row.Goals as goal

pub returns : goal.returns
returns c = λ before row is.
    let rows = sym c.in-Some.ensures ∙ ap (λ (s : System). s.rows) is in
    let last = same_from_push c.pop.new.self before.rows c.in-Some.row row rows in
    (same_system _ before (ap (λ (s : System). s.vars) is) last.0, last.1)

pub unreachable-requires : goal.unreachable-requires
unreachable-requires c =
    let h = c.requires in
    not_empty h.0.rows h.1 (sym (ap (λ (s : System). s.rows) h.2) ∙ c.in-None.ensures.0)
