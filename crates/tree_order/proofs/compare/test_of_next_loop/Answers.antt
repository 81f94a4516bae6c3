-- The next loop has no half that is had, or one; the Test asks for the half that is missing.
use Rattle.std.proofs.Common.{◌≡◌, ◌*◌, ◌^◌, ◌+ℤ◌, negsuc, [], ◌∷◌, length, sym, ap, ◌∙◌, subst, arith}
use Rattle.std.specs.Prelude.{Some, None}
use Rattle.tree_order.specs.Comparisons.{count_had, facts_had, IsGap, TellsMore}
use Rattle.tree_order.specs.Orders.{turned_equal}
use Rattle.tree_order.specs.declared.compare.Comparison.TheVariants.{Earlier, Later, Open}
use Rattle.tree_order.proofs.NextLoop.{asks_both, asks_lower, asks_upper, next_best, next_new}
use Rattle.tree_graphs.specs.Paths.{term_of}
use Rattle.tree_order.proofs.compare.test_of_next_loop.Goals as goal
use Rattle.tree_sums.proofs.Within.{IsWithin-weaker}

pub gap-requires-clause-first : goal.gap-requires-clause-first
gap-requires-clause-first c = let p = c.requires.points
    in next_best p.2 p.0 p.1 c.args.pair.now p.3 c.len-at.result (omega (arith, c.requires.next, c.len-at.ensures))

pub gap-requires-clause-second : goal.gap-requires-clause-second
gap-requires-clause-second c = let p = c.requires.points
    in next_new p.2 p.0 p.1 c.args.pair.now p.3 c.len-at.result (omega (arith, c.requires.next, c.len-at.ensures))

pub gap-requires-clause-forms : goal.gap-requires-clause-forms
gap-requires-clause-forms c = let p = c.requires.points in (p.2, p.3.best_forms, p.3.new_forms)

pub less_one-requires : goal.less_one-requires
less_one-requires c =
    let p = c.requires.points in
    let g = c.gap.ensures p.2 p.3.best_forms p.3.new_forms in
    IsWithin-weaker (2 ^ 49) (2 ^ 60) c.gap.result (omega arith) g.within

pub returns-in-Some-clause-question : goal.returns-in-Some-clause-question
returns-in-Some-clause-question c = λ context w u row_is p so_far.
    let pair = c.args.pair.now in
    let compared = c.args.compared in
    let equal = compared.equal in
    let g : IsGap context.vars pair.best.now pair.new.now (length equal) c.gap.result
    = subst (λ n. IsGap context.vars pair.best.now pair.new.now n c.gap.result) c.len-at.ensures
    (c.gap.ensures context.vars p.best_forms p.new_forms) in
    let own_is = c.in_ok-own.ensures ∙ ap (λ n. term_of n ∷ []) row_is in
    let also_is = c.in_ok-also.ensures ∙ ap (λ n. term_of n ∷ []) row_is in
    let copy_is = c.in_ok-copy.ensures ∙ c.as_slice.ensures in
    let upper = c.in-Some.upper in
    asks_lower context w u pair p compared so_far c.requires.next c.gap.result upper _ g c.in-Some.is
    (ap (λ f. record {
      form = f;
      above = c.earlier.result;
      below = Open (record { equal = equal; upper = Some upper; lower = Some c.in_ok-also.also });
    }) c.less_one.ensures
    ∙ ap (λ o. record {
      form = record c.gap.result { constant = c.gap.result.constant +ℤ negsuc 0 };
      above = o;
      below = Open (record { equal = equal; upper = Some upper; lower = Some c.in_ok-also.also });
    })
    (c.earlier.ensures ∙ ap (λ e. Earlier (record { equal = e; strict = Some c.in_ok-own.own })) copy_is
    ∙ ap (λ ts. Earlier (record { equal = equal; strict = Some ts })) own_is)
    ∙ ap (λ ts. record {
      form = record c.gap.result { constant = c.gap.result.constant +ℤ negsuc 0 };
      above = Earlier (record { equal = equal; strict = Some (term_of (length context.rows) ∷ []) });
      below = Open (record { equal = equal; upper = Some upper; lower = Some ts });
    }) also_is)

pub gap-requires-in-Some-lower-clause-first : goal.gap-requires-in-Some-lower-clause-first
gap-requires-in-Some-lower-clause-first c = let p = c.requires.points
    in next_new p.2 p.0 p.1 c.args.pair.now p.3 c.len-at.result (omega (arith, c.requires.next, c.len-at.ensures))

pub gap-requires-in-Some-lower-clause-second : goal.gap-requires-in-Some-lower-clause-second
gap-requires-in-Some-lower-clause-second c = let p = c.requires.points
    in next_best p.2 p.0 p.1 c.args.pair.now p.3 c.len-at.result (omega (arith, c.requires.next, c.len-at.ensures))

pub gap-requires-in-Some-lower-clause-forms : goal.gap-requires-in-Some-lower-clause-forms
gap-requires-in-Some-lower-clause-forms c = let p = c.requires.points in (p.2, p.3.new_forms, p.3.best_forms)

pub less_one-requires-in-Some-lower : goal.less_one-requires-in-Some-lower
less_one-requires-in-Some-lower c =
    let p = c.requires.points in
    let g = c.gap-in-Some-lower.ensures p.2 p.3.new_forms p.3.best_forms in
    IsWithin-weaker (2 ^ 49) (2 ^ 60) c.gap-in-Some-lower.result (omega arith) g.within

pub returns-in-Some-lower-clause-question : goal.returns-in-Some-lower-clause-question
returns-in-Some-lower-clause-question c = λ context w u row_is p so_far.
    let pair = c.args.pair.now in
    let compared = c.args.compared in
    let equal = compared.equal in
    let g : IsGap context.vars pair.new.now pair.best.now (length equal) c.gap-in-Some-lower.result
    = subst (λ n. IsGap context.vars pair.new.now pair.best.now n c.gap-in-Some-lower.result) c.len-at.ensures
    (c.gap-in-Some-lower.ensures context.vars p.new_forms p.best_forms) in
    let own_is = c.in_ok-own.ensures ∙ ap (λ n. term_of n ∷ []) row_is in
    let also_is = c.in_ok-also.ensures ∙ ap (λ n. term_of n ∷ []) row_is in
    let copy_is = c.as_slice-in-Some-lower.ensures ∙ c.in_ok-copy.ensures ∙ c.as_slice.ensures in
    let lower = c.in-Some-lower.lower in
    asks_upper context w u pair p compared so_far c.requires.next c.gap-in-Some-lower.result lower _ g
    c.in-Some-lower.is
    (ap (λ f. record {
      form = f;
      above = c.in_ok-later-in-Some-lower.field-0;
      below = Open (record { equal = equal; upper = Some c.in_ok-also.also; lower = Some lower });
    })
    c.less_one-in-Some-lower.ensures
    ∙ ap (λ o. record {
      form = record c.gap-in-Some-lower.result
          { constant = c.gap-in-Some-lower.result.constant +ℤ negsuc 0 };
      above = o;
      below = Open (record { equal = equal; upper = Some c.in_ok-also.also; lower = Some lower });
    })
    (c.in_ok-later-in-Some-lower.ensures ∙ ap (λ e. Later
    (record { equal = turned_equal e; strict = Some c.in_ok-own.own })) copy_is
    ∙ ap (λ ts. Later (record { equal = turned_equal equal; strict = Some ts })) own_is)
    ∙ ap (λ ts. record {
      form = record c.gap-in-Some-lower.result { constant = c.gap-in-Some-lower.result.constant +ℤ negsuc 0 };
      above = Later (record { equal = turned_equal equal; strict = Some (term_of (length context.rows) ∷ []) });
      below = Open (record { equal = equal; upper = Some ts; lower = Some lower });
    }) also_is)

pub gap-requires-in-None-lower-clause-first : goal.gap-requires-in-None-lower-clause-first
gap-requires-in-None-lower-clause-first c = let p = c.requires.points
    in next_best p.2 p.0 p.1 c.args.pair.now p.3 c.len-at.result (omega (arith, c.requires.next, c.len-at.ensures))

pub gap-requires-in-None-lower-clause-second : goal.gap-requires-in-None-lower-clause-second
gap-requires-in-None-lower-clause-second c = let p = c.requires.points
    in next_new p.2 p.0 p.1 c.args.pair.now p.3 c.len-at.result (omega (arith, c.requires.next, c.len-at.ensures))

pub gap-requires-in-None-lower-clause-forms : goal.gap-requires-in-None-lower-clause-forms
gap-requires-in-None-lower-clause-forms c = let p = c.requires.points in (p.2, p.3.best_forms, p.3.new_forms)

pub returns-clause-question : goal.returns-clause-question
returns-clause-question c = λ context w u row_is p so_far.
    let pair = c.args.pair.now in
    let compared = c.args.compared in
    let equal = compared.equal in
    let g : IsGap context.vars pair.best.now pair.new.now (length equal) c.gap-in-None-lower.result
    = subst (λ n. IsGap context.vars pair.best.now pair.new.now n c.gap-in-None-lower.result) c.len-at.ensures
    (c.gap-in-None-lower.ensures context.vars p.best_forms p.new_forms) in
    let own_is = c.in_ok-own.ensures ∙ ap (λ n. term_of n ∷ []) row_is in
    let also_is = c.in_ok-also.ensures ∙ ap (λ n. term_of n ∷ []) row_is in
    let copy_is = c.as_slice-in-None-lower.ensures ∙ c.in_ok-copy.ensures ∙ c.as_slice.ensures in
    asks_both context w u pair p compared so_far c.requires.next c.gap-in-None-lower.result _ g
    (ap (λ ts. record {
      form = c.gap-in-None-lower.result;
      above = Open (record { equal = equal; upper = Some ts; lower = None });
      below = c.in_ok-later-in-None-lower.field-0;
    })
    own_is
    ∙ ap (λ o. record {
      form = c.gap-in-None-lower.result;
      above =
          Open (record { equal = equal; upper = Some (term_of (length context.rows) ∷ []); lower = None });
      below = o;
    })
    (c.in_ok-later-in-None-lower.ensures ∙ ap (λ e. Later
    (record { equal = turned_equal e; strict = Some c.in_ok-also.also })) copy_is
    ∙ ap (λ ts. Later (record { equal = turned_equal equal; strict = Some ts })) also_is))

-- What is told further

pub returns-in-Some-clause-more : goal.returns-in-Some-clause-more
returns-in-Some-clause-more c = (
  subst (TellsMore (facts_had c.args.compared)) (sym c.earlier.ensures) tt,
  omega (arith, c.requires.half),
)

pub returns-in-Some-lower-clause-more : goal.returns-in-Some-lower-clause-more
returns-in-Some-lower-clause-more c = (
  subst (TellsMore (facts_had c.args.compared)) (sym c.in_ok-later-in-Some-lower.ensures) tt,
  omega (arith, c.requires.half),
)

pub returns-clause-more : goal.returns-clause-more
returns-clause-more c =
    let none : facts_had c.args.compared ≡ 2 * length c.args.compared.equal =
    omega (arith, ap count_had c.in-None.is, ap count_had c.in-None-lower.is) in (
      omega (arith, none),
      subst (TellsMore (facts_had c.args.compared)) (sym c.in_ok-later-in-None-lower.ensures) tt,
    )
