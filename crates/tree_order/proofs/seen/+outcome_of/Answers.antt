use Rattle.std.proofs.Common.{◌≡◌, ◌++◌, ◌∷◌, [], false, List, length, sym, ap, ◌∙◌, arith}
use Rattle.std.specs.Prelude.{Some}
use Rattle.std.specs.Option.{option_copied}
use Rattle.std.proofs.lemmas.List.{length_push, nil_from_length}
use Rattle.std.proofs.lemmas.Result.{IfOk-weaker}
use Rattle.tree_order.specs.Seen.{absent_at, before, best_in, is_seen, passed, sightings_of, with_passed, without}
use Rattle.tree_order.proofs.Outcomes.{last_kind, none_past, none_there, not_here, seen_after, seen_before, seen_first}
use Rattle.tree_order.proofs.Outcomes.{seen_passed, seen_without, some_past, tells_before, tells_passed}
use Rattle.tree_order.proofs.Outcomes.{tells_past_before, tells_past_passed, tells_past_without, tells_same}
use Rattle.tree_order.proofs.Outcomes.{tells_without, Tells}
use Rattle.tree_order.proofs.seen.+outcome_of.Goals as goal

pub returns-in_default-clause-none : goal.returns-in_default-clause-none
returns-in_default-clause-none t c = ap (λ seen. is_seen c.args.writer c.args.level (sightings_of seen))
    (nil_from_length c.args.seen.now c.in_default.ensures.cases)

-- One without a point

pub returns-then-is_of-clause-some : goal.returns-then-is_of-clause-some
returns-then-is_of-clause-some t c =
    tells_without c.args.writer c.args.level (sightings_of c.in-Some.seen.now)
    (record { ref_ptr = (0, 0); now = c.in-Without.absence }) (option_copied c.args.further)
    (sightings_of c.args.seen.now)
    (seen_without c.args.seen.now c.in-Some.seen.now _ (last_kind _ _ _ _ c.in-Some.ensures.cases.0 c.in-Without.is)).0
    (sym c.is_of.ensures ∙ c.if-is_of.true)

pub returns-else-is_of-clause-none : goal.returns-else-is_of-clause-none
returns-else-is_of-clause-none t c =
    let seen = sightings_of c.args.seen.now in
    let rest = sightings_of c.in-Some.seen.now in
    IfOk-weaker c.outcome_of.result _ _
    (λ found. none_past found (is_seen c.args.writer c.args.level rest ≡ false)
    (is_seen c.args.writer c.args.level seen ≡ false)
    (not_here c.args.writer c.args.level seen rest (without (absent_at c.in-Without.absence)) c.is_of.result
    (seen_without c.args.seen.now c.in-Some.seen.now _ (last_kind _ _ _ _ c.in-Some.ensures.cases.0 c.in-Without.is)).0
    c.is_of.ensures c.if-is_of.false))
    c.outcome_of.ensures.none

pub returns-else-is_of-clause-some : goal.returns-else-is_of-clause-some
returns-else-is_of-clause-some t c =
    let u = c.args.writer in
    let p = c.args.level in
    let seen = sightings_of c.args.seen.now in
    let rest = sightings_of c.in-Some.seen.now in
    let further = option_copied c.args.further in
    IfOk-weaker c.outcome_of.result _ _
    (λ found. some_past found (Tells u p rest further) (Tells u p seen further)
    (λ out. tells_past_without u p rest (record { ref_ptr = (0, 0); now = c.in-Without.absence }) further seen out
    (seen_without c.args.seen.now c.in-Some.seen.now _ (last_kind _ _ _ _ c.in-Some.ensures.cases.0 c.in-Without.is)).0))
    c.outcome_of.ensures.some

-- The first point

pub returns-in-First-clause-none : goal.returns-in-First-clause-none
returns-in-First-clause-none t c =
    let seen = sightings_of c.args.seen.now in
    let rest = sightings_of c.in-Some.seen.now in
    IfOk-weaker c.outcome_of-in-First.result _ _
    (λ found. none_past found (is_seen c.args.writer c.args.level rest ≡ false)
    (is_seen c.args.writer c.args.level seen ≡ false)
    (λ none. ap (is_seen c.args.writer c.args.level)
    (seen_first c.args.seen.now c.in-Some.seen.now _ (last_kind _ _ _ _ c.in-Some.ensures.cases.0 c.in-First.is)).0 ∙ none))
    c.outcome_of-in-First.ensures.none

pub returns-in-First-clause-some : goal.returns-in-First-clause-some
returns-in-First-clause-some t c =
    let u = c.args.writer in
    let p = c.args.level in
    let seen = sightings_of c.args.seen.now in
    let rest = sightings_of c.in-Some.seen.now in
    let further = option_copied c.args.further in
    IfOk-weaker c.outcome_of-in-First.result _ _
    (λ found. some_past found (Tells u p rest further) (Tells u p seen further)
    (λ out. tells_same u p rest further seen out
    (seen_first c.args.seen.now c.in-Some.seen.now _ (last_kind _ _ _ _ c.in-Some.ensures.cases.0 c.in-First.is)).0))
    c.outcome_of-in-First.ensures.some

-- One before the best

pub returns-then-is_of-2-clause-some : goal.returns-then-is_of-2-clause-some
returns-then-is_of-2-clause-some t c =
    tells_before c.args.writer c.args.level (sightings_of c.in-Some.seen.now) _ c.in-Before.order
    (option_copied c.args.further) c.in_ok-order-in-Before.order c.in_ok-order-in-Before.ensures.alone
    c.in_ok-order-in-Before.ensures.further (sightings_of c.args.seen.now)
    (seen_before c.args.seen.now c.in-Some.seen.now _ _ (last_kind _ _ _ _ c.in-Some.ensures.cases.0 c.in-Before.is)).0
    (sym c.is_of-in-Before.ensures ∙ c.if-is_of-2.true)

pub returns-else-is_of-2-clause-none : goal.returns-else-is_of-2-clause-none
returns-else-is_of-2-clause-none t c =
    let seen = sightings_of c.args.seen.now in
    let rest = sightings_of c.in-Some.seen.now in
    IfOk-weaker c.outcome_of-in-Before.result _ _
    (λ found. none_past found (is_seen c.args.writer c.args.level rest ≡ false)
    (is_seen c.args.writer c.args.level seen ≡ false)
    (not_here c.args.writer c.args.level seen rest
    (before c.in-Before.at c.in-Before.order) c.is_of-in-Before.result
    (seen_before c.args.seen.now c.in-Some.seen.now _ _ (last_kind _ _ _ _ c.in-Some.ensures.cases.0 c.in-Before.is)).0
    c.is_of-in-Before.ensures c.if-is_of-2.false))
    c.outcome_of-in-Before.ensures.none

pub returns-else-is_of-2-clause-some : goal.returns-else-is_of-2-clause-some
returns-else-is_of-2-clause-some t c =
    let u = c.args.writer in
    let p = c.args.level in
    let seen = sightings_of c.args.seen.now in
    let rest = sightings_of c.in-Some.seen.now in
    let further = option_copied c.args.further in
    IfOk-weaker c.outcome_of-in-Before.result _ _
    (λ found. some_past found (Tells u p rest further) (Tells u p seen further)
    (λ out. tells_past_before u p rest (record { ref_ptr = (0, 0); now = c.in-Before.at }) c.in-Before.order further seen
    out (seen_before c.args.seen.now c.in-Some.seen.now _ _ (last_kind _ _ _ _ c.in-Some.ensures.cases.0 c.in-Before.is)).0))
    c.outcome_of-in-Before.ensures.some

-- A new best: the one before it was passed

pub returns-in_default-best_of-clause-none : goal.returns-in_default-best_of-clause-none
returns-in_default-best_of-clause-none t c =
    let seen = sightings_of c.args.seen.now in
    let rest = sightings_of c.in-Some.seen.now in
    IfOk-weaker c.outcome_of-in_default-best_of.result _ _
    (λ found. none_past found (is_seen c.args.writer c.args.level rest ≡ false)
    (is_seen c.args.writer c.args.level seen ≡ false)
    (λ none. ap (is_seen c.args.writer c.args.level)
    (none_there c.args.seen.now c.in-Some.seen.now _ _ (last_kind _ _ _ _ c.in-Some.ensures.cases.0 c.in-After.is)
    c.best_of.result c.best_of.ensures c.in_default-best_of.not-Some) ∙ none))
    c.outcome_of-in_default-best_of.ensures.none

pub returns-in_default-best_of-clause-some : goal.returns-in_default-best_of-clause-some
returns-in_default-best_of-clause-some t c =
    let u = c.args.writer in
    let p = c.args.level in
    let seen = sightings_of c.args.seen.now in
    let rest = sightings_of c.in-Some.seen.now in
    let further = option_copied c.args.further in
    IfOk-weaker c.outcome_of-in_default-best_of.result _ _
    (λ found. some_past found (Tells u p rest further) (Tells u p seen further)
    (λ out. tells_same u p rest further seen out
    (none_there c.args.seen.now c.in-Some.seen.now _ _ (last_kind _ _ _ _ c.in-Some.ensures.cases.0 c.in-After.is)
    c.best_of.result c.best_of.ensures c.in_default-best_of.not-Some)))
    c.outcome_of-in_default-best_of.ensures.some

pub returns-then-is_of-3-clause-some : goal.returns-then-is_of-3-clause-some
returns-then-is_of-3-clause-some t c =
    tells_passed c.args.writer c.args.level (sightings_of c.in-Some.seen.now) c.in-Some-best_of.passed c.in-After.order
    (option_copied c.args.further) c.in_ok-order-in-After.order
    c.in_ok-order-in-After.ensures.alone c.in_ok-order-in-After.ensures.further (sightings_of c.args.seen.now)
    (seen_passed c.args.seen.now c.in-Some.seen.now _ _ _ (last_kind _ _ _ _ c.in-Some.ensures.cases.0 c.in-After.is)
    (sym c.best_of.ensures ∙ ap option_copied c.in-Some-best_of.is))
    (sym c.is_of-in-After.ensures ∙ c.if-is_of-3.true)

pub returns-else-is_of-3-clause-none : goal.returns-else-is_of-3-clause-none
returns-else-is_of-3-clause-none t c =
    let seen = sightings_of c.args.seen.now in
    let rest = sightings_of c.in-Some.seen.now in
    IfOk-weaker c.outcome_of-in-After.result _ _
    (λ found. none_past found (is_seen c.args.writer c.args.level rest ≡ false)
    (is_seen c.args.writer c.args.level seen ≡ false)
    (not_here c.args.writer c.args.level seen rest
    (passed c.in-Some-best_of.passed.now c.in-After.order) c.is_of-in-After.result
    (seen_passed c.args.seen.now c.in-Some.seen.now _ _ _ (last_kind _ _ _ _ c.in-Some.ensures.cases.0 c.in-After.is)
    (sym c.best_of.ensures ∙ ap option_copied c.in-Some-best_of.is))
    c.is_of-in-After.ensures c.if-is_of-3.false))
    c.outcome_of-in-After.ensures.none

pub returns-else-is_of-3-clause-some : goal.returns-else-is_of-3-clause-some
returns-else-is_of-3-clause-some t c =
    let u = c.args.writer in
    let p = c.args.level in
    let seen = sightings_of c.args.seen.now in
    let rest = sightings_of c.in-Some.seen.now in
    let further = option_copied c.args.further in
    IfOk-weaker c.outcome_of-in-After.result _ _
    (λ found. some_past found (Tells u p rest (Some c.in_ok-order-in-After.order)) (Tells u p seen further)
    (λ out. tells_past_passed u p rest c.in-Some-best_of.passed c.in-After.order further c.in_ok-order-in-After.order
    c.in_ok-order-in-After.ensures.alone c.in_ok-order-in-After.ensures.further seen out
    (seen_passed c.args.seen.now c.in-Some.seen.now _ _ _ (last_kind _ _ _ _ c.in-Some.ensures.cases.0 c.in-After.is)
    (sym c.best_of.ensures ∙ ap option_copied c.in-Some-best_of.is))))
    c.outcome_of-in-After.ensures.some

pub outcome_of-requires : goal.outcome_of-requires
outcome_of-requires t c =
    omega (arith, ap length c.in-Some.ensures.cases.0, length_push c.in-Some.seen.now c.in-Some.last.now)

pub outcome_of-requires-in-First : goal.outcome_of-requires-in-First
outcome_of-requires-in-First t c =
    omega (arith, ap length c.in-Some.ensures.cases.0, length_push c.in-Some.seen.now c.in-Some.last.now)

pub outcome_of-requires-in-Before : goal.outcome_of-requires-in-Before
outcome_of-requires-in-Before t c =
    omega (arith, ap length c.in-Some.ensures.cases.0, length_push c.in-Some.seen.now c.in-Some.last.now)

pub outcome_of-requires-in_default-best_of : goal.outcome_of-requires-in_default-best_of
outcome_of-requires-in_default-best_of t c =
    omega (arith, ap length c.in-Some.ensures.cases.0, length_push c.in-Some.seen.now c.in-Some.last.now)

pub outcome_of-requires-in-After : goal.outcome_of-requires-in-After
outcome_of-requires-in-After t c =
    omega (arith, ap length c.in-Some.ensures.cases.0, length_push c.in-Some.seen.now c.in-Some.last.now)
