-- What is added from a loop on is `order_sums` of the loops that are left, at what is left of the level and two rows
-- further for each loop: each step adds the head of these sums. The loops end above the level only where the last one
-- is strict. The measure is the loops that are left, and not the level.
use Rattle.std.proofs.Common.{◌≡◌, ◌+◌, ◌-◌, ◌∷◌, ◌++◌, [], suc, length, refl, sym, ap, ◌∙◌, rules, arith}
use Rattle.std.proofs.lemmas.List.{nil_from_length}
use Rattle.std.proofs.lemmas.Result.{on_ok_weaker}
use Rattle.tree_join.specs.Leaves.{order_sums}
use Rattle.tree_join.proofs.Sums.{sums_first, sums_last, sums_next, two_and_more}
use Rattle.tree_graphs.specs.Paths.{term_of}
use Rattle.tree_join.proofs.leaf.+push_orders.Goals as goal

pub unreachable-requires : goal.unreachable-requires
unreachable-requires t c = omega (arith, c.requires.text c.in_default-strict.is, c.in_default.ensures.cases)

pub returns-then-level-eq0 : goal.returns-then-level-eq0
returns-then-level-eq0 t c =
    let none : c.args.equal.now ≡ [] = nil_from_length c.args.equal.now c.in_default.ensures.cases in
    let strict = c.in-Some-strict.strict in
    let old = c.args.sums.now in
    let start = c.args.start in
    let level = c.args.level in
    let whole : order_sums c.args.equal.now c.args.strict.now level start ≡ (term_of start ∷ strict) ∷ []
    = ap (λ equal. order_sums equal c.args.strict.now level start) none
    ∙ ap (λ o. order_sums [] o level start) c.in-Some-strict.is
    ∙ sums_last strict level start start (λ e. refl) (λ less e. absurd (omega (arith, e, c.if-level-eq0.true))) in
    on_ok_weaker c.push_sum.result
    (λ pushed. pushed ∙ ap (λ rest. old ++ (term_of start ∷ rest) ∷ []) c.as_slice.ensures
    ∙ ap (λ xs. old ++ xs) (sym whole))
    c.push_sum.ensures

pub returns-in_default : goal.returns-in_default
returns-in_default t c =
    let none : c.args.equal.now ≡ [] = nil_from_length c.args.equal.now c.in_default.ensures.cases in
    let strict = c.in-Some-strict.strict in
    let old = c.args.sums.now in
    let start = c.args.start in
    let level = c.args.level in
    let whole : order_sums c.args.equal.now c.args.strict.now level start ≡ (term_of (start + 1) ∷ strict) ∷ []
    = ap (λ equal. order_sums equal c.args.strict.now level start) none
    ∙ ap (λ o. order_sums [] o level start) c.in-Some-strict.is
    ∙ sums_last strict level start (start + 1) (λ e. absurd (c.if-level-eq0.false e)) (λ less e. refl) in
    on_ok_weaker c.push_sum-in_default.result
    (λ pushed. pushed ∙ ap (λ rest. old ++ (term_of (start + 1) ∷ rest) ∷ []) c.as_slice-in_default.ensures
    ∙ ap (λ xs. old ++ xs) (sym whole)) c.push_sum-in_default.ensures

pub returns-then-level-eq0-2 : goal.returns-then-level-eq0-2
returns-then-level-eq0-2 t c =
    let first : c.args.equal.now ≡ c.in-Some.equality.now ∷ c.in-Some.equal.now = search rules in
    let old = c.args.sums.now in
    let start = c.args.start in
    let level = c.args.level in
    let below = c.in-Some.equality.now.below in
    let whole : order_sums c.args.equal.now c.args.strict.now level start ≡ (term_of start ∷ below) ∷ []
    = ap (λ equal. order_sums equal c.args.strict.now level start) first
    ∙ sums_first c.in-Some.equality.now c.in-Some.equal.now c.args.strict.now level start
    (omega (arith, c.if-level-eq0-2.true)) in
    on_ok_weaker c.push_sum-then-level-eq0-2.result
    (λ pushed. pushed ∙ ap (λ rest. old ++ (term_of start ∷ rest) ∷ []) c.as_slice-then-level-eq0-2.ensures
    ∙ ap (λ xs. old ++ xs) (sym whole)) c.push_sum-then-level-eq0-2.ensures

pub push_orders-requires : goal.push_orders-requires
push_orders-requires t c =
    let first : c.args.equal.now ≡ c.in-Some.equality.now ∷ c.in-Some.equal.now = search rules in (
      omega (arith, ap length first),
      (
        omega (arith, c.requires.rows, c.if-level-eq0-2.false),
        λ none. omega (arith, c.requires.text none, ap length first, c.if-level-eq0-2.false),
      ),
    )

pub returns : goal.returns
returns t c =
    let e = c.in-Some.equality.now in
    let equal = c.in-Some.equal.now in
    let first : c.args.equal.now ≡ e ∷ equal = search rules in
    let old = c.args.sums.now in
    let start = c.args.start in
    let level = c.args.level in
    let strict = c.args.strict.now in
    let above : level ≡ suc (level - 1) = omega (arith, c.if-level-eq0-2.false) in
    let rest_sums = order_sums equal strict (level - 1) (start + 2) in
    let whole : order_sums c.args.equal.now strict level start ≡ (term_of start ∷ e.above)
    ∷ (term_of (start + 1) ∷ e.below) ∷ rest_sums
    = ap (λ equal. order_sums equal strict level start) first ∙ sums_next e equal strict level (level - 1) start above
    in
    on_ok_weaker c.push_orders.result
    (λ rest. two_and_more old c.push_sum-2.new.sums c.push_sum-3.new.sums c.push_orders.new.sums rest_sums
    (term_of start ∷ e.above) (term_of (start + 1) ∷ e.below)
    (c.in_ok-push_sum.ensures ∙ ap (λ ts. old ++ (term_of start ∷ ts) ∷ []) c.as_slice-2.ensures)
    (c.in_ok-push_sum-2.ensures
    ∙ ap (λ ts. c.push_sum-2.new.sums ++ (term_of (start + 1) ∷ ts) ∷ []) c.as_slice-3.ensures) rest
    ∙ ap (λ xs. old ++ xs) (sym whole)) c.push_orders.ensures
