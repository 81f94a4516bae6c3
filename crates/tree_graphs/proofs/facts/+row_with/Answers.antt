use Rattle.std.proofs.Common.{◌≡◌, ◌∷◌, [], suc, length, sym, ap, ◌∙◌, subst, rules, arith}
use Rattle.std.specs.Prelude.{slice_get}
use Rattle.std.proofs.lemmas.List.{nil_from_length}
use Rattle.std.proofs.lemmas.List.Elements.{All-cons, All-nil}
use Rattle.std.proofs.lemmas.Option.{IfSome_then}
use Rattle.tree_graphs.specs.Facts.{NoRowTells, RowTells}
use Rattle.tree_graphs.proofs.FactLemmas.{none_then}
use Rattle.tree_graphs.proofs.facts.+row_with.Goals as goal

pub returns-in_default-clause-none : goal.returns-in_default-clause-none
returns-in_default-clause-none t c =
    let none : c.args.rows.now ≡ [] = nil_from_length c.args.rows.now c.in_default.ensures.cases in
    subst (λ rows. NoRowTells rows c.args.form.now) (sym none) (All-nil _)

pub returns-then-tells-clause-some : goal.returns-then-tells-clause-some
returns-then-tells-clause-some t c =
    let first : c.args.rows.now ≡ c.in-Some.row.now ∷ c.in-Some.rows.now = search rules in
    (0, c.in-Some.row.now, omega arith, ap (λ rows. slice_get rows 0) first, c.tells.ensures.yes c.if-tells.true)

pub row_with-requires : goal.row_with-requires
row_with-requires t c =
    let first : c.args.rows.now ≡ c.in-Some.row.now ∷ c.in-Some.rows.now = search rules in
    (omega (arith, ap length first), omega (arith, ap length first, c.requires))

pub returns-clause-some : goal.returns-clause-some
returns-clause-some t c =
    let first : c.args.rows.now ≡ c.in-Some.row.now ∷ c.in-Some.rows.now = search rules in
    IfSome_then c.row_with.result c.row_with.ensures.some
    (λ found h. (
      suc h.0,
      h.1,
      omega (arith, h.2),
      ap (λ rows. slice_get rows (suc h.0)) first ∙ h.3,
      h.4,
    ))

pub returns-clause-none : goal.returns-clause-none
returns-clause-none t c =
    let form = c.args.form.now in
    let row = c.in-Some.row.now in
    let rest = c.in-Some.rows.now in
    let first : c.args.rows.now ≡ row ∷ rest = search rules in
    none_then c.row_with.result _ _ c.row_with.ensures.none
    (λ told. subst (λ rows. NoRowTells rows form) (sym first)
    (All-cons (λ row. RowTells form row → ⊥) row rest (c.tells.ensures.no c.if-tells.false) told))
