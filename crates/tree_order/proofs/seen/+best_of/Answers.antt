use Rattle.std.proofs.Common.{◌≡◌, ◌++◌, ◌∷◌, [], List, length, sym, ap, ◌∙◌, arith}
use Rattle.std.specs.Prelude.{Some}
use Rattle.std.proofs.lemmas.List.{length_push, nil_from_length}
use Rattle.tree_order.specs.Seen.{best_from, best_in}
use Rattle.tree_order.proofs.Outcomes.{last_kind, seen_after, seen_before, seen_first, seen_without}
use Rattle.tree_order.proofs.seen.+best_of.Goals as goal

pub returns-in_default : goal.returns-in_default
returns-in_default t c = sym (ap best_in (nil_from_length c.args.seen.now c.in_default.ensures.cases))

pub returns-in-First : goal.returns-in-First
returns-in-First t c = sym (seen_first c.args.seen.now c.in-Some.seen.now _ (last_kind _ _ _ _ c.in-Some.ensures.cases.0 c.in-First.is)).1

pub returns-in-After : goal.returns-in-After
returns-in-After t c =
    sym (seen_after c.args.seen.now c.in-Some.seen.now _ _ (last_kind _ _ _ _ c.in-Some.ensures.cases.0 c.in-After.is)).1

pub returns-in-Without : goal.returns-in-Without
returns-in-Without t c =
    c.best_of.ensures
    ∙ sym (seen_without c.args.seen.now c.in-Some.seen.now _ (last_kind _ _ _ _ c.in-Some.ensures.cases.0 c.in-Without.is)).1

pub returns-in-Before : goal.returns-in-Before
returns-in-Before t c =
    c.best_of-in-Before.ensures
    ∙ sym (seen_before c.args.seen.now c.in-Some.seen.now _ _ (last_kind _ _ _ _ c.in-Some.ensures.cases.0 c.in-Before.is)).1

pub best_of-requires : goal.best_of-requires
best_of-requires t c = omega (arith, ap length c.in-Some.ensures.cases.0, length_push c.in-Some.seen.now c.in-Some.last.now)

pub best_of-requires-in-Before : goal.best_of-requires-in-Before
best_of-requires-in-Before t c =
    omega (arith, ap length c.in-Some.ensures.cases.0, length_push c.in-Some.seen.now c.in-Some.last.now)
