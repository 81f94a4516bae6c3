use Rattle.std.proofs.Common.{◌≡◌, length, reverse}
use Rattle.loop_parse.specs.SourceMachine.{landed}
use Rattle.loop_parse.proofs.statement.land.Given as goal

abbrev pub invariant-loop-statement : goal.invariant-loop-statement
invariant-loop-statement l =
    landed (reverse l.fn.enclosing) l.fn.parts l.fn.part ≡ landed (reverse l.enclosing) l.fn.parts l.part

abbrev pub decreases-loop-statement : goal.decreases-loop-statement
decreases-loop-statement l = length l.enclosing
