use Rattle.std.proofs.Common.{◌≡◌, ◌+◌, ◌^◌, ◌<◌, ◌≤◌, length, ap, ◌∙◌, sym, subst, arith}
use Rattle.std.specs.Prelude.{Some, IfSome}
use Rattle.std.proofs.lemmas.List.{length_push}
use Rattle.std.proofs.lemmas.Result.{IfOk-weaker}
use Rattle.affine_core.specs.declared.form.Form.{Form}
use Rattle.tree_order.specs.Comparisons.{facts_had, HasNextLoop, IsComparison, IsGap, IsHad}
use Rattle.tree_order.specs.Orders.{turned_equal, AreEqual}
use Rattle.tree_order.specs.declared.compare.Comparison.TheVariants.{Later}
use Rattle.tree_order.specs.declared.order.Equality.{Equality}
use Rattle.tree_order.proofs.NextLoop.{earlier_by_loop, few_had, later_by_loop, next_best, next_less, next_new}
use Rattle.tree_order.proofs.NextLoop.{none_had, one_more_equal}
use Rattle.tree_graphs.specs.Facts.{form_parts, IsFact}
use Rattle.tree_order.proofs.compare.+compare_points.Goals as goal
use Rattle.tree_sums.proofs.Within.{IsWithin-weaker}

pub gap-more-requires-clause-first : goal.gap-more-requires-clause-first
gap-more-requires-clause-first t c =
    let p = c.requires.points in
    next_best c.args.context.now.system.now.vars p.0 p.1 c.args.pair.now p.2 c.len-at.result (omega
    (arith, c.if-at-pair.false))

pub gap-more-requires-clause-second : goal.gap-more-requires-clause-second
gap-more-requires-clause-second t c =
    let p = c.requires.points in
    next_new c.args.context.now.system.now.vars p.0 p.1 c.args.pair.now p.2 c.len-at.result (omega
    (arith, c.if-at-pair.false))

pub gap-more-requires-clause-forms : goal.gap-more-requires-clause-forms
gap-more-requires-clause-forms t c = let p = c.requires.points
    in (c.args.context.now.system.now.vars, p.2.best_forms, p.2.new_forms)

pub gap-less-requires-clause-first : goal.gap-less-requires-clause-first
gap-less-requires-clause-first t c =
    let p = c.requires.points in
    next_new c.args.context.now.system.now.vars p.0 p.1 c.args.pair.now p.2 c.len-at.result (omega
    (arith, c.if-at-pair.false))

pub gap-less-requires-clause-second : goal.gap-less-requires-clause-second
gap-less-requires-clause-second t c =
    let p = c.requires.points in
    next_best c.args.context.now.system.now.vars p.0 p.1 c.args.pair.now p.2 c.len-at.result (omega
    (arith, c.if-at-pair.false))

pub gap-less-requires-clause-forms : goal.gap-less-requires-clause-forms
gap-less-requires-clause-forms t c = let p = c.requires.points
    in (c.args.context.now.system.now.vars, p.2.new_forms, p.2.best_forms)

pub less_one-requires : goal.less_one-requires
less_one-requires t c =
    let p = c.requires.points in
    let g = c.gap-more.ensures c.args.context.now.system.now.vars p.2.best_forms p.2.new_forms in
    IsWithin-weaker (2 ^ 49) (2 ^ 60) c.gap-more.result (omega arith) g.within

pub known-requires : goal.known-requires
known-requires t c =
    let p = c.requires.points in
    let g = c.gap-more.ensures c.args.context.now.system.now.vars p.2.best_forms p.2.new_forms in
    ap (λ (f : Form). length f.coefs) c.less_one.ensures ∙ g.over

pub less_one-requires-2 : goal.less_one-requires-2
less_one-requires-2 t c =
    let p = c.requires.points in
    let g = c.gap-less.ensures c.args.context.now.system.now.vars p.2.new_forms p.2.best_forms in
    IsWithin-weaker (2 ^ 49) (2 ^ 60) c.gap-less.result (omega arith) g.within

pub known-requires-2 : goal.known-requires-2
known-requires-2 t c =
    let p = c.requires.points in
    let g = c.gap-less.ensures c.args.context.now.system.now.vars p.2.new_forms p.2.best_forms in
    ap (λ (f : Form). length f.coefs) c.less_one-3.ensures ∙ g.over

pub had_or_known-requires : goal.had_or_known-requires
had_or_known-requires t c =
    let p = c.requires.points in
    (c.gap-more.ensures c.args.context.now.system.now.vars p.2.best_forms p.2.new_forms).over

pub had_or_known-requires-2 : goal.had_or_known-requires-2
had_or_known-requires-2 t c =
    let p = c.requires.points in
    (c.gap-less.ensures c.args.context.now.system.now.vars p.2.new_forms p.2.best_forms).over

pub returns-then-at-pair-clause-order : goal.returns-then-at-pair-clause-order
returns-then-at-pair-clause-order t c =
    IfOk-weaker c.by_text.result _ _
    (λ comparison h w u p. h c.args.context.now.system.now w u p c.requires.so_far.equal
    (omega (arith, c.if-at-pair.true, c.len-at.ensures, c.requires.so_far.few))) c.by_text.ensures.order

pub returns-in-Some-clause-order : goal.returns-in-Some-clause-order
returns-in-Some-clause-order t c = λ w u p.
    let context = c.args.context.now.system.now in
    let pair = c.args.pair.now in
    let equal = c.args.compared.equal in
    let lt : length equal < pair.common = omega (arith, c.if-at-pair.false, c.len-at.ensures) in
    let g : IsGap context.vars pair.best.now pair.new.now (length equal) c.gap-more.result
    = subst (λ n. IsGap context.vars pair.best.now pair.new.now n c.gap-more.result) c.len-at.ensures
    (c.gap-more.ensures context.vars p.best_forms p.new_forms) in
    let fact : IsFact context 65536 (form_parts c.less_one.result) c.in-Some.terms
    = subst (λ found. IfSome found (IsFact context 65536 (form_parts c.less_one.result))) c.in-Some.is
    c.in_ok-is_less.ensures.some in
    subst (IsComparison context w u pair) (sym c.earlier.ensures)
    (earlier_by_loop context w u pair p equal c.requires.so_far.equal lt c.gap-more.result c.in-Some.terms g
    (subst (λ f. IsFact context 65536 (form_parts f) c.in-Some.terms) c.less_one.ensures fact))

pub returns-in-Some-is_more-clause-order : goal.returns-in-Some-is_more-clause-order
returns-in-Some-is_more-clause-order t c =
    let context = c.args.context.now.system.now in
    let pair = c.args.pair.now in
    let equal = c.args.compared.equal in
    let terms = c.in-Some-is_more.terms in
    let lt : length equal < pair.common = omega (arith, c.if-at-pair.false, c.len-at.ensures) in
    let fact : IsFact context 65536 (form_parts c.less_one-3.result) terms
    = subst (λ found. IfSome found (IsFact context 65536 (form_parts c.less_one-3.result))) c.in-Some-is_more.is
    c.in_ok-is_more.ensures.some in
    IfOk-weaker c.later.result _ _
    (λ comparison is w u p.
    (let g : IsGap context.vars pair.new.now pair.best.now (length equal) c.gap-less.result
    = subst (λ n. IsGap context.vars pair.new.now pair.best.now n c.gap-less.result) c.len-at.ensures
    (c.gap-less.ensures context.vars p.new_forms p.best_forms) in
    subst (IsComparison context w u pair)
    (sym (is ∙ ap (λ e. Later (record { equal = turned_equal e; strict = Some terms })) c.as_slice.ensures))
    (later_by_loop context w u pair p equal c.requires.so_far.equal lt c.gap-less.result terms g
    (subst (λ f. IsFact context 65536 (form_parts f) terms) c.less_one-3.ensures fact))))
    c.later.ensures

-- The loop is open

pub returns-in_default-upper-clause-order : goal.returns-in_default-upper-clause-order
returns-in_default-upper-clause-order t c = λ w u p.
    let context = c.args.context.now.system.now in
    let pair = c.args.pair.now in
    let equal = c.args.compared.equal in
    let l = length equal in
    let lt : l < pair.common = omega (arith, c.if-at-pair.false, c.len-at.ensures) in
    let less : IsGap context.vars pair.new.now pair.best.now l c.gap-less.result
    = subst (λ n. IsGap context.vars pair.new.now pair.best.now n c.gap-less.result) c.len-at.ensures
    (c.gap-less.ensures context.vars p.new_forms p.best_forms) in
    record {
      few = omega (arith, lt);
      equal = c.requires.so_far.equal;
      upper = tt;
      lower = c.in_ok-lower.ensures.had pair.new.now pair.best.now l less c.requires.so_far.lower;
    }

pub returns-in_default-lower-clause-order : goal.returns-in_default-lower-clause-order
returns-in_default-lower-clause-order t c = λ w u p.
    let context = c.args.context.now.system.now in
    let pair = c.args.pair.now in
    let equal = c.args.compared.equal in
    let l = length equal in
    let lt : l < pair.common = omega (arith, c.if-at-pair.false, c.len-at.ensures) in
    let more : IsGap context.vars pair.best.now pair.new.now l c.gap-more.result
    = subst (λ n. IsGap context.vars pair.best.now pair.new.now n c.gap-more.result) c.len-at.ensures
    (c.gap-more.ensures context.vars p.best_forms p.new_forms) in
    let upper = subst (IsHad context l pair.best.now pair.new.now) c.in-Some-upper.is
    (c.in_ok-upper.ensures.had pair.best.now pair.new.now l more c.requires.so_far.upper) in
    record { few = omega (arith, lt); equal = c.requires.so_far.equal; upper = upper; lower = tt }

-- The loop is equal

pub compare_points-requires : goal.compare_points-requires
compare_points-requires t c =
    let q = c.requires.points in
    let p = q.2 in
    let context = c.args.context.now.system.now in
    let pair = c.args.pair.now in
    let equal = c.args.compared.equal in
    let l = length equal in
    let lt : l < pair.common = omega (arith, c.if-at-pair.false, c.len-at.ensures) in
    let more : IsGap context.vars pair.best.now pair.new.now l c.gap-more.result
    = subst (λ n. IsGap context.vars pair.best.now pair.new.now n c.gap-more.result) c.len-at.ensures
    (c.gap-more.ensures context.vars p.best_forms p.new_forms) in
    let less : IsGap context.vars pair.new.now pair.best.now l c.gap-less.result
    = subst (λ n. IsGap context.vars pair.new.now pair.best.now n c.gap-less.result) c.len-at.ensures
    (c.gap-less.ensures context.vars p.new_forms p.best_forms) in
    let upper = subst (IsHad context l pair.best.now pair.new.now) c.in-Some-upper.is
    (c.in_ok-upper.ensures.had pair.best.now pair.new.now l more c.requires.so_far.upper) in
    let lower = subst (IsHad context l pair.new.now pair.best.now) c.in-Some-lower.is
    (c.in_ok-lower.ensures.had pair.new.now pair.best.now l less c.requires.so_far.lower) in
    let next = c.in_ok-one_more.field-0 in
    let above = c.in-Some-lower.lower in
    let below = c.in-Some-upper.upper in
    let longer : length next.equal ≡ l + 1 = ap length c.in_ok-one_more.ensures.equal
    ∙ length_push equal (record { above = above; below = below }) in (
      omega (arith, lt, longer),
      (
        q,
        record {
          few = omega (arith, lt, longer);
          equal = subst (AreEqual context 65536 pair.new.now pair.best.now) (sym c.in_ok-one_more.ensures.equal)
              (one_more_equal context q.0 q.1 pair p equal c.requires.so_far.equal lt above below upper lower);
          upper = subst (IsHad context (length next.equal) pair.best.now pair.new.now)
              (sym c.in_ok-one_more.ensures.upper) tt;
          lower = subst (IsHad context (length next.equal) pair.new.now pair.best.now)
              (sym c.in_ok-one_more.ensures.lower) tt;
        },
      ),
    )

-- What is told further

pub returns-then-at-pair-clause-next : goal.returns-then-at-pair-clause-next
returns-then-at-pair-clause-next t c =
    IfOk-weaker c.by_text.result _ _ (λ comparison next. next (facts_had c.args.compared)) c.by_text.ensures.next

pub returns-in_default-upper-clause-next : goal.returns-in_default-upper-clause-next
returns-in_default-upper-clause-next t c =
    let none = none_had c.in_ok-upper.upper c.in_default-upper.not-Some in
    let few = few_had c.in_ok-lower.lower in (
      omega (arith, c.if-at-pair.false, c.len-at.ensures),
      omega (arith, none, c.in_ok-upper.ensures.kept, c.in_ok-lower.ensures.kept),
      omega (arith, few),
    )

pub returns-in_default-lower-clause-next : goal.returns-in_default-lower-clause-next
returns-in_default-lower-clause-next t c =
    let none = none_had c.in_ok-lower.lower c.in_default-lower.not-Some in
    let few = few_had c.args.compared.upper in (
      omega (arith, c.if-at-pair.false, c.len-at.ensures),
      omega (arith, none, few, c.in_ok-lower.ensures.kept),
      omega arith,
    )

pub returns-in-Some-clause-next : goal.returns-in-Some-clause-next
returns-in-Some-clause-next t c =
    subst (HasNextLoop c.args.pair.now (facts_had c.args.compared)) (sym c.earlier.ensures) tt

pub returns-in-Some-is_more-clause-next : goal.returns-in-Some-is_more-clause-next
returns-in-Some-is_more-clause-next t c = IfOk-weaker c.later.result _ _
    (λ comparison is. subst (HasNextLoop c.args.pair.now (facts_had c.args.compared)) (sym is) tt) c.later.ensures

pub returns-clause-next : goal.returns-clause-next
returns-clause-next t c =
    let equal = c.args.compared.equal in
    let next = c.in_ok-one_more.field-0 in
    let one : Equality = record { above = c.in-Some-lower.lower; below = c.in-Some-upper.upper } in
    let longer : length next.equal ≡ length equal + 1 = ap length c.in_ok-one_more.ensures.equal ∙ length_push equal one
    in
    let more : facts_had c.args.compared ≤ facts_had next = omega (
      arith,
      longer,
      few_had c.args.compared.upper,
      few_had c.args.compared.lower,
    ) in
    IfOk-weaker c.compare_points.result _ _ (λ comparison. next_less c.args.pair.now _ _ comparison more)
    c.compare_points.ensures.next
