-- The proofs that are added are those of the candidate, one by one and in their order, each with the terms in the
-- places of its rows: so what was added is a list beside the old proofs, and not a change of them. That each can be
-- carried is asked of the caller, as its multiples must stay within 128 bits.
use Rattle.std.proofs.Common.{◌≡◌, ◌∷◌, ◌++◌, [], sym, ap, ◌∙◌, subst, rules, length, arith}
use Rattle.std.specs.Prelude.{All}
use Rattle.std.proofs.lemmas.List.{append-nil, append_assoc, nil_from_length}
use Rattle.std.proofs.lemmas.List.Elements.{All-head, All-tail}
use Rattle.std.proofs.lemmas.Result.{on_ok_weaker}
use Rattle.std.specs.List.{AllZip}
use Rattle.tree_join.specs.Leaves.{CanBeCarried, IsCarried}
use Rattle.tree_join.proofs.leaf.+push_carried.Goals as goal

pub returns-in_default : goal.returns-in_default
returns-in_default t c =
    let none : c.args.own.now ≡ [] = nil_from_length c.args.own.now c.in_default.ensures.cases in
    ([], sym (append-nil c.args.proofs.now), subst (λ own. AllZip (IsCarried c.args.sums.now) own []) (sym none) tt)

pub carried-requires : goal.carried-requires
carried-requires t c =
    let P = CanBeCarried c.args.sums.now in
    let first : c.args.own.now ≡ c.in-Some.proof.now ∷ c.in-Some.own.now = search rules in
    All-head P c.in-Some.proof.now c.in-Some.own.now (subst (All P) first c.requires)

pub push_carried-requires : goal.push_carried-requires
push_carried-requires t c =
    let P = CanBeCarried c.args.sums.now in
    let first : c.args.own.now ≡ c.in-Some.proof.now ∷ c.in-Some.own.now = search rules in
    (omega (arith, ap length first), All-tail P c.in-Some.proof.now c.in-Some.own.now (subst (All P) first c.requires))

pub returns : goal.returns
returns t c =
    let old = c.args.proofs.now in
    let proof = c.in_ok-carried.field-0 in
    let first : c.args.own.now ≡ c.in-Some.proof.now ∷ c.in-Some.own.now = search rules in
    on_ok_weaker c.push_carried.result
    (λ rest. (
      proof ∷ rest.0,
      rest.1 ∙ ap (λ xs. xs ++ rest.0) c.in_ok-push.ensures.ok ∙ append_assoc old (proof ∷ []) rest.0,
      subst (λ own. AllZip (IsCarried c.args.sums.now) own (proof ∷ rest.0)) (sym first)
          (c.in_ok-carried.ensures.terms, rest.2),
    )) c.push_carried.ensures
