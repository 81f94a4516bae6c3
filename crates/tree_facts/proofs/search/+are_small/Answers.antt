use Rattle.std.proofs.Common.{◌≡◌, ◌≤◌, ◌∷◌, ◌^◌, [], sym, subst, rules, FitsSigned}
use Rattle.std.specs.Int.{w128}
use Rattle.std.specs.Prelude.{All, unsigned_abs}
use Rattle.std.proofs.lemmas.Int.{to_z-of_z}
use Rattle.std.proofs.lemmas.List.{nil_from_length}
use Rattle.std.proofs.lemmas.List.Elements.{All-cons, All-nil}
use Rattle.tree_facts.proofs.search.+are_small.Goals as goal

pub returns-in_default : goal.returns-in_default
returns-in_default t c =
    let none : c.args.values.now ≡ [] = nil_from_length c.args.values.now c.in_default.ensures.cases in
    λ _. subst (All (λ z. unsigned_abs z ≤ 2 ^ 41)) (sym none) (All-nil (λ z. unsigned_abs z ≤ 2 ^ 41))

pub returns-then-is_small : goal.returns-then-is_small
returns-then-is_small t c =
    let value = c.in-Some.value.now in
    let values = c.in-Some.values.now in
    let first : c.args.values.now ≡ value ∷ values = search rules in
    let fits : FitsSigned w128 value = search rules in
    let small = simp to_z-of_z at (c.is_small.ensures c.if-is_small.true) in
    λ all. subst (All (λ z. unsigned_abs z ≤ 2 ^ 41)) (sym first)
    (All-cons (λ z. unsigned_abs z ≤ 2 ^ 41) value values small (c.are_small.ensures all))
