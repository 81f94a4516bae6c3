use Rattle.std.proofs.Common.{◌≡◌, ◌∷◌, ◌++◌, [], true, sym, ap, ◌∙◌, rules, arith}
use Rattle.std.specs.List.{filter}
use Rattle.std.proofs.lemmas.List.{append-nil, append_assoc, nil_from_length}
use Rattle.std.proofs.lemmas.Result.{on_ok_weaker}
use Rattle.tree_join.proofs.PathSteps.{is_other, kept_other, left_itself}
use Rattle.tree_join.proofs.path.+push_others.Goals as goal

pub returns-in_default : goal.returns-in_default
returns-in_default t c =
    let none : c.args.left.now ≡ [] = nil_from_length c.args.left.now c.in_default.ensures.cases in
    sym (append-nil c.args.rest.now) ∙ ap (λ left. c.args.rest.now ++ filter (is_other c.args.number) left) (sym none)

pub returns-then-other-number : goal.returns-then-other-number
returns-then-other-number t c =
    let first : c.args.left.now ≡ c.in-Some.other.now ∷ c.in-Some.left.now = search rules in
    on_ok_weaker c.push_others.result
    (λ rest. rest ∙ ap (λ xs. c.args.rest.now ++ xs)
    (sym (ap (filter (is_other c.args.number)) first ∙ left_itself c.args.number c.in-Some.other.now c.in-Some.left.now
    (omega (arith, c.if-other-number.true))))) c.push_others.ensures

pub returns : goal.returns
returns t c =
    let other = c.in-Some.other.now in
    let left = c.in-Some.left.now in
    let old = c.args.rest.now in
    let first : c.args.left.now ≡ other ∷ left = search rules in
    on_ok_weaker c.push_others-2.result
    (λ rest. rest ∙ ap (λ xs. xs ++ filter (is_other c.args.number) left) c.in_ok-push.ensures.ok
    ∙ append_assoc old (other ∷ []) (filter (is_other c.args.number) left)
    ∙ ap (λ xs. old ++ xs) (sym (ap (filter (is_other c.args.number)) first
    ∙ kept_other c.args.number other left (search rules)))) c.push_others-2.ensures
