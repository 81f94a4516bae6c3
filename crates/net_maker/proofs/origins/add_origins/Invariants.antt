use Rattle.std.specs.Prelude.{IfSome}
use Rattle.net_maker.specs.StatementPoints.{ArePoints}
use Rattle.net_maker.specs.Origins.{HasOrigins}
use Rattle.source_tree.specs.Sources.{read_number}
use Rattle.net_maker.proofs.origins.add_origins.Given as goal

abbrev pub invariant-loop-read : goal.invariant-loop-read
invariant-loop-read l = record {
  points : IfSome l.points (ArePoints l.nest);
  origins : HasOrigins l.nest (read_number l.nest l.statement l.read) l.sources;
}
