use Rattle.std.proofs.Common.{◌≤◌, ◌+ℤ◌, ℤ, [], ◌∷◌, ◌++◌, rules, length, ap, arith, length-append, FitsSigned, w64}
use Rattle.std.specs.Prelude.{unsigned_abs}
use Rattle.std.proofs.lemmas.Int.{ints, to_z-of_z}
use Rattle.affine_core.specs.Within.{value_in_128_bits}
use Rattle.tree_eval.specs.Stretches.{IsLine}
use Rattle.tree_eval.proofs.Maps.{lines_added, small_length, small_lines}
use Rattle.tree_eval.proofs.leaf.+append_lines.Goals as goal

pub append_line-requires-clause-steps : goal.append_line-requires-clause-steps
append_line-requires-clause-steps t c =
    omega (
      arith,
      c.requires.room,
      small_length c.args.starts.now c.args.steps.now c.requires.small,
      ap length c.in-Some.ensures.cases.0,
    )

pub append_lines-requires : goal.append_lines-requires
append_lines-requires t c =
    let first : FitsSigned w64 c.args.first = c.ranges.first in
    let line = c.in-Some-line_of.line in
    let is : IsLine (λ turn. value_in_128_bits c.in-Some.form.now (c.args.outer.now ++ (c.args.first +ℤ turn) ∷ []))
    c.in-Some-line_of.line = simp to_z-of_z at c.in-Some-line_of.ensures in
    let start : unsigned_abs c.in-Some-line_of.line.value ≤ 2305843009213693952 = omega (arith, ints) in (
      search rules,
      (
        omega (
          arith,
          c.requires.room,
          ap length c.in-Some.ensures.cases.0,
          simp length-append at (ap length c.append_line.ensures.starts),
        ),
        (
          small_lines c.args.starts.now c.args.steps.now c.append_line.new.starts c.append_line.new.steps
              c.in-Some-line_of.line.value c.in-Some-line_of.line.step c.requires.small start is.small
              c.append_line.ensures.starts c.append_line.ensures.steps,
          c.requires.short,
        ),
      ),
    )

pub returns : goal.returns
returns t c =
    let first : FitsSigned w64 c.args.first = c.ranges.first in
    let is : IsLine (λ turn. value_in_128_bits c.in-Some.form.now (c.args.outer.now ++ (c.args.first +ℤ turn) ∷ []))
    c.in-Some-line_of.line = simp to_z-of_z at c.in-Some-line_of.ensures in
    let start : unsigned_abs c.in-Some-line_of.line.value ≤ 2305843009213693952 = omega (arith, ints) in
    lines_added c.append_lines.result c.in-Some.form.now c.in-Some.forms.now c.args.forms.now
    (λ (turn : ℤ). c.args.outer.now ++ (c.args.first +ℤ turn) ∷ []) c.in-Some-line_of.line c.args.starts.now
    c.args.steps.now c.append_line.new.starts c.append_line.new.steps c.append_lines.new.starts
    c.append_lines.new.steps c.in-Some.ensures.cases.0 c.requires.small is start c.append_line.ensures.starts
    c.append_line.ensures.steps (simp to_z-of_z at c.append_lines.ensures)
