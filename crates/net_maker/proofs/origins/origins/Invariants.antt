use Rattle.std.specs.Prelude.{IfSome}
use Rattle.net_maker.specs.StatementPoints.{ArePoints}
use Rattle.net_maker.specs.Origins.{HasOrigins}
use Rattle.source_tree.specs.Sources.{read_number}
use Rattle.net_maker.proofs.origins.origins.Given as goal

abbrev pub invariant-loop-statement : goal.invariant-loop-statement
invariant-loop-statement l = record {
  points : IfSome l.points (ArePoints l.nest);
  origins : HasOrigins l.nest (read_number l.nest l.statement 0) l.sources;
}
