-- The levels that are left come one after the other, each with all orders behind it.
use Rattle.std.proofs.Common.{◌≡◌, ◌+◌, ◌≤◌, ◌∷◌, ℕ, length, ap, subst, rules, arith}
use Rattle.std.specs.Prelude.{All}
use Rattle.std.proofs.lemmas.List.{nil_from_length}
use Rattle.std.proofs.lemmas.List.Elements.{All-head, All-tail, All-weaker}
use Rattle.std.proofs.lemmas.Result.{IfOk-weaker}
use Rattle.stride_trees.proofs.OrderSteps.{levels_none, levels_step}
use Rattle.stride_trees.proofs.leaves.+push_levels.Goals as goal

pub returns-in_default-clause-proofs : goal.returns-in_default-clause-proofs
returns-in_default-clause-proofs t c rest levels behind at more orders =
    levels_none c.args.w.now rest c.args.writer.now behind c.args.levels.now levels c.args.told.now c.args.proofs.now
    (nil_from_length c.args.levels.now c.in_default.ensures.cases) more

pub push_orders-requires-clause-orders : goal.push_orders-requires-clause-orders
push_orders-requires-clause-orders t c =
    let first : c.args.levels.now ≡ c.in-Some.level.now ∷ c.in-Some.levels.now = search rules in
    let few = λ (n : ℕ). n ≤ 32 in
    let level : c.in-Some.level.now ≤ 32 = All-head few c.in-Some.level.now c.in-Some.levels.now
    (subst (All few) first c.requires.levels) in
    All-weaker few (λ n. c.in-Some.level.now + n ≤ 64) (λ n h. omega (arith, level, h)) c.args.orders.now
    c.requires.orders

pub push_levels-requires : goal.push_levels-requires
push_levels-requires t c =
    let first : c.args.levels.now ≡ c.in-Some.level.now ∷ c.in-Some.levels.now = search rules in
    let few = λ (n : ℕ). n ≤ 32 in (
      omega (arith, ap length first),
      (
        c.requires.writer,
        (
          c.requires.leaf,
          (
            All-tail few c.in-Some.level.now c.in-Some.levels.now (subst (All few) first c.requires.levels),
            (c.requires.orders, c.in_ok-told.ensures.sums),
          ),
        ),
      ),
    )

pub returns-clause-proofs : goal.returns-clause-proofs
returns-clause-proofs t c =
    let w = c.args.w.now in
    let n = c.in-Some.level.now in
    let first : c.args.levels.now ≡ n ∷ c.in-Some.levels.now = search rules in
    IfOk-weaker c.push_levels.result _ _
    (λ left others rest levels behind at more orders.
    levels_step w rest c.args.writer.now behind c.args.levels.now n c.in-Some.levels.now levels c.args.told.now
    c.in_ok-told.told.now left.now c.args.proofs.now c.push_orders.new.proofs c.push_levels.new.proofs first more
    (λ level one. c.in_ok-told.ensures.proofs rest level behind at one orders)
    (λ those rows. others rest those behind at rows orders)) c.push_levels.ensures.proofs
