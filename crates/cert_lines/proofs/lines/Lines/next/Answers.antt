use Rattle.std.proofs.Common.{arith}
use Rattle.cert_lines.proofs.Cuts.{cut_shorter}
use Rattle.cert_lines.proofs.lines.Lines.next.Goals as goal

pub invariant_of-self : goal.invariant_of-self
invariant_of-self c =
    omega (
      arith,
      c.self.invariant,
      cut_shorter 10 c.self.inside.rest.now c.in-Some.line.now c.in-Some.rest.now c.in-Some.ensures,
    )
