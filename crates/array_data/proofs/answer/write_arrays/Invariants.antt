use Rattle.std.proofs.Common.{◌≡◌, ◌++◌, drop}
use Rattle.array_data.specs.Answer.{answer_text}
use Rattle.array_data.proofs.answer.write_arrays.Given as goal

-- what was given, with the lines of the arrays that are left, is what was given before and all lines
abbrev pub invariant-loop-i : goal.invariant-loop-i
invariant-loop-i g l =
    let given = g.W.TextWriter.given in
    ((given l.out).start ≡ (given l.fn.out).start)
    × ((given l.out).text ++ answer_text (drop l.i l.arrays) (drop l.i l.lists)
    ≡ (given l.fn.out).text ++ answer_text l.arrays l.lists)
