use Rattle.std.proofs.Common.{◌≡◌, ◌++◌, ◌∷◌, ◌+◌, [], ap, ◌∙◌, arith, length}
use Rattle.std.proofs.lemmas.List.{get_or_read}
use Rattle.std.proofs.lemmas.List.FromFn.{length-map-range_with_len}
use Rattle.source_tree.specs.Sources.{read_number}
use Rattle.network_numbers.proofs.ReadLists.{first_is, first_small, lists_more, plan_ends, read_small}
use Rattle.network_numbers.proofs.links.read_lists.Goals as goal

pub index-requires : goal.index-requires
index-requires c =
    let n = c.args.nest.now in
    let is = plan_ends n c.args.plans.now c.loop-plan.plan-index c.plan-item.result c.requires c.loop-plan-test.true
    c.plan-item.is in
    omega (
      arith,
      c.in_ok-firsts.firsts.ok.0,
      ap length c.in_ok-firsts.ensures,
      length-map-range_with_len (λ p. read_number n p 0) 0 (length n.statements),
      is.reader,
    )

pub overflow_add-index : goal.overflow_add-index
overflow_add-index c =
    let n = c.args.nest.now in
    let is = plan_ends n c.args.plans.now c.loop-plan.plan-index c.plan-item.result c.requires c.loop-plan-test.true
    c.plan-item.is in
    let count = ap length c.in_ok-firsts.ensures
    ∙ length-map-range_with_len (λ p. read_number n p 0) 0 (length n.statements) in
    omega (
      arith,
      get_or_read c.in_ok-firsts.firsts.items _ _ (omega (arith, count, is.reader)) c.index.ensures 0,
      first_is n c.in_ok-firsts.firsts.items c.plan-item.result.reader c.in_ok-firsts.ensures is.reader,
      first_small n c.plan-item.result.reader,
      read_small n c.plan-item.result is,
    )

pub loop-plan-preserved : goal.loop-plan-preserved
loop-plan-preserved c =
    let n = c.args.nest.now in
    let is = plan_ends n c.args.plans.now c.loop-plan.plan-index c.plan-item.result c.requires c.loop-plan-test.true
    c.plan-item.is in
    let count = ap length c.in_ok-firsts.ensures
    ∙ length-map-range_with_len (λ p. read_number n p 0) 0 (length n.statements) in
    let first : c.index.result.now ≡ read_number n c.plan-item.result.reader 0 =
    omega (
      arith,
      get_or_read c.in_ok-firsts.firsts.items _ _ (omega (arith, count, is.reader)) c.index.ensures 0,
      first_is n c.in_ok-firsts.firsts.items c.plan-item.result.reader c.in_ok-firsts.ensures is.reader,
    ) in
    c.in_ok-push.ensures.items
    ∙ ap (λ xs. xs ++ (c.index.result.now + c.plan-item.result.read) ∷ []) c.loop-plan.invariant
    ∙ lists_more n c.args.plans.now c.loop-plan.plan-index c.plan-item.result c.index.result.now c.loop-plan-test.true
    c.plan-item.is first
