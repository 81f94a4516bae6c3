use Rattle.std.proofs.Common.{◌+◌, ◌≤◌, ◌++◌, refl, sym, ap, ◌∙◌, subst, arith}
use Rattle.std.specs.Prelude.{IsTrue}
use Rattle.script_blocks.specs.Expansion.{parts_expansion}
use Rattle.script_blocks.specs.Labels.{items_or}
use Rattle.script_blocks.specs.Nesting.{are_proper, parts_nesting}
use Rattle.script_blocks.proofs.Builds.{repeat_expands}
use Rattle.script_blocks.proofs.Nestings.{nesting_with_repeat, not_empty, proper_with_repeat}
use Rattle.script_blocks.proofs.folding.+build.Goals as goal

pub build_repeat-returns-clause-expansion : goal.build_repeat-returns-clause-expansion
build_repeat-returns-clause-expansion g t c =
    repeat_expands c.args.kinds.now c.args.other c.args.parts.now c.push.new.self c.build.new.parts
    c.repetitions-times.result.0
    (record { parts = c.build.new.parts })
    c.in_ok-push.ensures.ok refl
    c.args.labels.now c.without_end-first.result.now c.in_ok-others.others.now c.repetitions-times.result.1.now
    (ap (λ ps. parts_expansion ps ++ items_or c.args.kinds.now c.args.other c.args.labels.now)
    (sym c.new-body.ensures) ∙ c.in_ok-others.ensures.expansion)
    c.without_end-first.ensures c.repetitions-times.ensures

pub build_repeat-returns-clause-shallow : goal.build_repeat-returns-clause-shallow
build_repeat-returns-clause-shallow g t c =
    subst (λ ps. parts_nesting ps ≤ c.args.depth + 1) (sym c.in_ok-push.ensures.ok)
    (nesting_with_repeat c.args.parts.now c.repetitions-times.result.0
    (record { parts = c.build.new.parts }) c.args.depth
    c.requires.shallow c.in_ok-others.ensures.shallow)

pub build_repeat-returns-clause-proper : goal.build_repeat-returns-clause-proper
build_repeat-returns-clause-proper g t c =
    subst (λ ps. IsTrue (are_proper ps)) (sym c.in_ok-push.ensures.ok)
    (proper_with_repeat c.args.parts.now c.repetitions-times.result.0 (record { parts = c.build.new.parts })
    c.requires.proper (omega arith)
    (not_empty c.build.new.parts c.is_empty.result c.is_empty.ensures c.if-is_empty.false)
    c.in_ok-others.ensures.proper)
