use Rattle.std.proofs.Common.{◌+ℤ◌, ◌*ℤ◌, rules, length, ap, arith, length-append, FitsSigned, w64}
use Rattle.std.proofs.lemmas.Int.{ints, to_z-of_z}
use Rattle.tree_eval.proofs.Maps.{few_turns, moved_step, product_fits, small_parts, value_fits}
use Rattle.tree_eval.proofs.leaf.+append_values_at.Goals as goal

pub append_values_at-requires : goal.append_values_at-requires
append_values_at-requires t c =
    let parts =
    small_parts c.args.starts.now c.args.steps.now c.in-Some-Some.starts.now c.in-Some-Some.steps.now
    c.in-Some-Some.start.now c.in-Some-Some.step.now c.in-Some-Some.ensures.cases.0 c.in-Some-Some.ensures'.cases.0
    c.requires.small in (
      search rules,
      (
        omega (
          arith,
          c.requires.room,
          ap length c.in-Some-Some.ensures.cases.0,
          simp length-append at (ap length c.push.ensures),
        ),
        (parts.2, (omega (arith, ints), omega (arith, ints))),
      ),
    )

pub returns : goal.returns
returns t c =
    let parts =
    small_parts c.args.starts.now c.args.steps.now c.in-Some-Some.starts.now c.in-Some-Some.steps.now
    c.in-Some-Some.start.now c.in-Some-Some.step.now c.in-Some-Some.ensures.cases.0 c.in-Some-Some.ensures'.cases.0
    c.requires.small in
    let few = few_turns c.args.turn c.requires.not_negative c.requires.few in
    let start : FitsSigned w64 c.in-Some-Some.start.now = search rules in
    let step : FitsSigned w64 c.in-Some-Some.step.now = search rules in
    let turn : FitsSigned w64 c.args.turn = c.ranges.turn in
    let product : FitsSigned w64 (c.args.turn *ℤ c.in-Some-Some.step.now) =
    product_fits c.args.turn c.in-Some-Some.step.now few parts.1 in
    let value : FitsSigned w64 (c.in-Some-Some.start.now +ℤ (c.args.turn *ℤ c.in-Some-Some.step.now)) =
    value_fits c.in-Some-Some.start.now c.args.turn c.in-Some-Some.step.now parts.0 few parts.1 in
    moved_step c.args.turn c.args.starts.now c.args.steps.now c.in-Some-Some.starts.now c.in-Some-Some.steps.now
    c.in-Some-Some.start.now c.in-Some-Some.step.now c.args.out.now c.push.new.self c.append_values_at.new.out
    c.in-Some-Some.ensures.cases.0 c.in-Some-Some.ensures'.cases.0 (simp to_z-of_z at c.push.ensures)
    (simp to_z-of_z at c.append_values_at.ensures)
