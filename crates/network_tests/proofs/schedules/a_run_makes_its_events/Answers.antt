use Rattle.network_tests.proofs.HandOn.{reader_runs, writer_runs}
use Rattle.network_tests.proofs.schedules.a_run_makes_its_events.Goals as goal

pub run_by-requires-clause-run : goal.run_by-requires-clause-run
run_by-requires-clause-run g c = writer_runs c.in_ok-network.network _ c.in_ok-network.ensures c.in_ok-state.ensures.run

pub run_by-requires-2-clause-run : goal.run_by-requires-2-clause-run
run_by-requires-2-clause-run g c =
    reader_runs c.in_ok-network.network _ _ c.in_ok-network.ensures c.in_ok-state.ensures.run c.run_by.ensures.run
