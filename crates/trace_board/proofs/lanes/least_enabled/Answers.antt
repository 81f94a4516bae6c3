use Rattle.std.proofs.Common.{inl, inr, arith}
use Rattle.std.proofs.lemmas.Bool.{cases_lt}
use Rattle.net_core.specs.Held.{run_of}
use Rattle.net_core.specs.Machine.{net_of}
use Rattle.trace_board.proofs.LaneAnswers.{enabled_past}
use Rattle.trace_board.proofs.lanes.least_enabled.Goals as goal

pub returns-clause-none : goal.returns-clause-none
returns-clause-none c p of =
    let n = net_of c.args.network.now in
    elim (cases_lt p n.processes) [
      | inl lt ↦ c.loop-at.invariant p (omega arith) of
      | inr past ↦ enabled_past n c.requires.state.wired (run_of c.args.state.now) p past
    ]
