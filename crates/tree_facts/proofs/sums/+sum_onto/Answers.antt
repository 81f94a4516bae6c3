use Rattle.std.proofs.Common.{◌≡◌, ◌≤ℤ◌, ◌∷◌, [], pos, length, refl, sym, subst, rules, FitsSigned, ltb-true}
use Rattle.std.specs.Int.{w128}
use Rattle.std.specs.Prelude.{Some, slice_get}
use Rattle.std.proofs.lemmas.Int.{to_z-of_z}
use Rattle.std.proofs.lemmas.List.{nil_from_length}
use Rattle.std.proofs.lemmas.Option.{IfSome_then, slice_get_read}
use Rattle.affine_core.proofs.Integers.{int_lt-false}
use Rattle.tree_facts.specs.Sums.{IsSumOnto}
use Rattle.tree_facts.proofs.Adding.{none_onto, one_onto}
use Rattle.tree_facts.proofs.sums.+sum_onto.Goals as goal

pub returns-in_default : goal.returns-in_default
returns-in_default t c =
    let none : c.args.terms.now ≡ [] = nil_from_length c.args.terms.now c.in_default.ensures.cases in
    subst (λ terms. IsSumOnto c.args.rows.now c.args.sum terms c.args.sum) (sym none)
    (none_onto c.args.rows.now c.args.sum)

pub returns-in-Ok : goal.returns-in-Ok
returns-in-Ok t c =
    let rows = c.args.rows.now in
    let term = c.in-Some.term.now in
    let terms = c.in-Some.terms.now in
    let row = c.in_ok-row.row.now in
    let first : c.args.terms.now ≡ term ∷ terms = search rules in
    let lookup = c.in_ok-row.ensures.lookup in
    let at : slice_get rows term.row ≡ Some row =
    slice_get_read rows (length rows) term.row row refl (ltb-true term.row (length rows) (sym lookup.0)) lookup.1 in
    let fits : FitsSigned w128 term.times = search rules in
    let positive : pos 0 ≤ℤ term.times = int_lt-false term.times (pos 0) (simp to_z-of_z at c.if-term-lt0.false) in
    let is = simp to_z-of_z at c.in-Ok.ensures in
    IfSome_then c.sum_onto.result c.sum_onto.ensures (λ total rest.
    subst (λ terms. IsSumOnto rows c.args.sum terms total) (sym first)
    (one_onto rows c.args.sum c.in-Ok.next total row term terms at positive is rest))
