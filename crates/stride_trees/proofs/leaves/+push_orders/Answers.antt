-- Each number of order rows is that of the first order that is left: what is added for it comes before what is added for the others.
use Rattle.std.proofs.Common.{◌≡◌, ◌+◌, ◌≤◌, ◌∷◌, ◌++◌, ℕ, length, ap, subst, rules, arith}
use Rattle.std.specs.Prelude.{All}
use Rattle.std.proofs.lemmas.List.{nil_from_length}
use Rattle.std.proofs.lemmas.List.Elements.{All-tail}
use Rattle.std.proofs.lemmas.Result.{IfOk-weaker}
use Rattle.stride_trees.proofs.OrderSteps.{orders_none, orders_step, rows_both}
use Rattle.stride_trees.specs.Leaves.{write_vars}
use Rattle.stride_trees.proofs.leaves.+push_orders.Goals as goal

pub returns-in_default-clause-proofs : goal.returns-in_default-clause-proofs
returns-in_default-clause-proofs t c rest level behind at one more =
    orders_none c.args.w.now rest c.args.writer.now level c.args.orders.now behind c.args.told.now c.args.proofs.now
    (nil_from_length c.args.orders.now c.in_default.ensures.cases) more

pub push_orders-requires : goal.push_orders-requires
push_orders-requires t c =
    let first : c.args.orders.now ≡ c.in-Some.order.now ∷ c.in-Some.orders.now = search rules in
    let few = λ (n : ℕ). c.args.before + n ≤ 64 in (
      omega (arith, ap length first),
      (
        c.requires.writer,
        (
          c.requires.leaf,
          (
            All-tail few c.in-Some.order.now c.in-Some.orders.now (subst (All few) first c.requires.orders),
            c.in_ok-told.ensures.sums,
          ),
        ),
      ),
    )

pub returns-clause-proofs : goal.returns-clause-proofs
returns-clause-proofs t c =
    let w = c.args.w.now in
    let x = c.args.writer.now in
    let n = c.in-Some.order.now in
    let first : c.args.orders.now ≡ n ∷ c.in-Some.orders.now = search rules in
    IfOk-weaker c.push_orders.result _ _
    (λ left others rest level behind at one more.
    orders_step w rest x level c.args.orders.now n c.in-Some.orders.now behind c.args.told.now c.in_ok-told.told.now left.now
    c.args.proofs.now c.push_order.new.proofs c.push_orders.new.proofs first more
    (λ rows row. c.in_ok-told.ensures.proofs rest (level ++ rows) at
    (rows_both (write_vars w x) c.args.before n level rows one row))
    (λ those rows. others rest level those at one rows)) c.push_orders.ensures.proofs
