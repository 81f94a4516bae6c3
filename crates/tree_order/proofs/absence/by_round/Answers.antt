use Rattle.std.proofs.Common.{◌≡◌, ◌+◌, ◌+ℤ◌, ◌^◌, ◌<◌, ◌++◌, ◌∷◌, [], List, ℤ, length, refl, sym, ap, ◌∙◌, subst}
use Rattle.std.proofs.Common.{arith}
use Rattle.std.specs.Prelude.{All, IfSome}
use Rattle.affine_core.specs.declared.form.Form.{Form}
use Rattle.affine_core.specs.Affine.{form_sum}
use Rattle.int_polyhedra.specs.declared.system.Term.{Term}
use Rattle.int_polyhedra.specs.Steps.{negation_of}
use Rattle.tree_graphs.specs.declared.closure.Bound.{Bound}
use Rattle.tree_graphs.specs.declared.edges.Edge.{Edge}
use Rattle.tree_graphs.specs.Facts.{form_parts, IsFact}
use Rattle.tree_graphs.specs.Paths.{term_of, terms_from}
use Rattle.tree_graphs.proofs.ZeroCycles.{round_form, round_terms}
use Rattle.tree_order.proofs.NextLoop.{negation_over}
use Rattle.tree_order.proofs.Rounds.{even, form_over, form_small, round_contradicts, rows_fit, rows_named}
use Rattle.tree_order.proofs.Rounds.{sum_small}
use Rattle.tree_sums.specs.Parts.{IsWithin}
use Rattle.tree_sums.proofs.Within.{IsWithin-weaker}
use Rattle.tree_order.proofs.absence.by_round.Goals as goal

pub sum-requires-clause-over : goal.sum-requires-clause-over
sum-requires-clause-over c =
    let a = c.requires in
    even a.0 c.args.context.now.system.now.vars c.args.out.now c.args.back.now c.args.bound.now c.args.out_number
    c.args.back_number a.2

pub sum-requires-clause-first : goal.sum-requires-clause-first
sum-requires-clause-first c = let a = c.requires
    in IsWithin-weaker (2 ^ 49) (2 ^ 60) c.args.out.now.weight (omega arith) a.2.out_near.within

pub sum-requires-clause-second : goal.sum-requires-clause-second
sum-requires-clause-second c = let a = c.requires
    in IsWithin-weaker (2 ^ 49) (2 ^ 60) c.args.back.now.weight (omega arith) a.2.back_near.within

pub form_beyond-form-requires-clause-form : goal.form_beyond-form-requires-clause-form
form_beyond-form-requires-clause-form c =
    let a = c.requires in
    subst (IsWithin (2 ^ 60)) (sym c.sum.ensures)
    (IsWithin-weaker (2 ^ 50) (2 ^ 60) _ (omega arith) (sum_small a.0 c.args.context.now.system.now.vars c.args.out.now
    c.args.back.now
    c.args.bound.now c.args.out_number c.args.back_number a.2))

pub form_beyond-form-requires-clause-bound : goal.form_beyond-form-requires-clause-bound
form_beyond-form-requires-clause-bound c = let a = c.requires in omega (arith, a.2.path.near)

-- the form of the round
abbrev raised_by : ℤ → Form → Form
raised_by by f = record f { constant = f.constant +ℤ by }

form_is : (out back : Edge) (bound : Bound) (total form : Form) → total ≡ form_sum out.weight back.weight → form
    ≡ raised_by bound.value total → form ≡ round_form out bound back
form_is out back bound total form e f = f ∙ ap (raised_by bound.value) e

pub opposite-requires : goal.opposite-requires
opposite-requires c =
    let a = c.requires in
    let is = form_is c.args.out.now c.args.back.now c.args.bound.now c.sum.result c.form_beyond-form.result
    c.sum.ensures c.form_beyond-form.ensures in
    subst (IsWithin (2 ^ 60)) (sym is) (form_small a.0 c.args.context.now.system.now.vars c.args.out.now c.args.back.now
    c.args.bound.now c.args.out_number c.args.back_number a.2)

pub known_by-requires : goal.known_by-requires
known_by-requires c =
    let a = c.requires in
    let is = form_is c.args.out.now c.args.back.now c.args.bound.now c.sum.result c.form_beyond-form.result
    c.sum.ensures c.form_beyond-form.ensures in
    let small = subst (IsWithin (2 ^ 60)) (sym is) (form_small a.0 c.args.context.now.system.now.vars c.args.out.now
    c.args.back.now c.args.bound.now c.args.out_number c.args.back_number a.2) in
    negation_over c.form_beyond-form.result c.opposite.result small c.opposite.ensures
    ∙ ap (λ (f : Form). length f.coefs) is
    ∙ form_over a.0 c.args.context.now.system.now.vars c.args.out.now c.args.back.now c.args.bound.now c.args.out_number
    c.args.back_number a.2

-- the rows of the round
rows_are : (first last : Term) (terms middle none one two three : List Term) → none ≡ [] → one ≡ none ++ first ∷ []
    → two ≡ one ++ middle → middle ≡ terms → three ≡ two ++ last ∷ []
    → three ≡ (first ∷ []) ++ (terms ++ last ∷ [])
rows_are first last terms middle none one two three e f g h i =
    i ∙ ap (λ ts. ts ++ last ∷ [])
    (g ∙ ap (λ ts. ts ++ middle) (f ∙ ap (λ ts. ts ++ first ∷ []) e) ∙ ap (λ ts. (first ∷ []) ++ ts) h)

pub refutation-requires : goal.refutation-requires
refutation-requires c =
    let a = c.requires in
    let bound = c.args.bound.now in
    let named = rows_named a.0 c.args.context.now.system.now.vars c.args.out.now c.args.back.now bound c.args.out_number
    c.args.back_number a.2 in
    let context = c.args.context.now.system.now in
    let is = rows_are (term_of c.args.out_number) (term_of c.args.back_number) bound.terms c.as_slice.result.now
    c.new-rows.result c.push.new.self c.append.new.out c.push-2.new.self c.new-rows.ensures
    c.in_ok-push.ensures.ok c.in_ok-append.ensures c.as_slice.ensures c.in_ok-push-2.ensures.ok in
    subst (All (λ (t : Term). length context.rows + t.row < 2 ^ 32)) (sym (c.as_slice-3.ensures ∙ is))
    (rows_fit context a.0 (round_terms c.args.out_number bound c.args.back_number) a.1 named)

pub returns : goal.returns
returns c = λ edges fit a.
    let context = c.args.context.now.system.now in
    let out = c.args.out.now in
    let back = c.args.back.now in
    let bound = c.args.bound.now in
    let shown = c.in-Some.shown in
    let fact : IsFact context 65536 (form_parts c.opposite.result) shown = subst
    (λ o. IfSome o (IsFact context 65536 (form_parts c.opposite.result))) c.in-Some.is c.in_ok-found.ensures.some in
    let form = form_is out back bound c.sum.result c.form_beyond-form.result c.sum.ensures c.form_beyond-form.ensures in
    let is = rows_are (term_of c.args.out_number) (term_of c.args.back_number) bound.terms c.as_slice.result.now
    c.new-rows.result c.push.new.self c.append.new.out c.push-2.new.self c.new-rows.ensures
    c.in_ok-push.ensures.ok c.in_ok-append.ensures c.as_slice.ensures c.in_ok-push-2.ensures.ok in
    round_contradicts edges context.vars out back bound c.args.out_number c.args.back_number a context c.opposite.result
    shown c.in_ok-refutation.field-0 refl
    (sym (ap negation_of form) ∙ c.opposite.ensures) fact
    (c.in_ok-refutation.ensures
    ∙ ap (λ us. us ++ terms_from (length context.rows) c.as_slice-3.result.now) c.as_slice-2.ensures
    ∙ ap (λ rows. shown ++ terms_from (length context.rows) rows) (c.as_slice-3.ensures ∙ is))
