-- The trace run by run: fires of one process in a row.
use Rattle.std.specs.Prelude.{ℕ, List, map, replicate}
use Rattle.std.specs.List.{flat_map}
use Rattle.fire_runs.specs.declared.runs.FireRun.{FireRun}
use Rattle.sanlp.specs.declared.nest.Point.{Point}

-- the process of each fire of these runs
abbrev pub processes_in : List FireRun → List ℕ
processes_in runs = flat_map (λ run. replicate run.count run.process) runs

-- the process of each of these points
abbrev pub processes_of : List Point → List ℕ
processes_of points = map (λ point. point.statement) points
