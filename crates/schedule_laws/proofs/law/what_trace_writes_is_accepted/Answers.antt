use Rattle.witness_plan.specs.Schedules.{planned_network}
use Rattle.schedule_laws.proofs.TraceTexts.{accepts_traced, traces_full_run}
use Rattle.schedule_laws.proofs.law.what_trace_writes_is_accepted.Goals as goal

pub returns : goal.returns
returns c =
    let laws = c.has_fitting_certificate_with_run.ensures in
    record {
      run = traces_full_run c.one_tree.ensures;
      accepted = λ check trace check_bundle trace_bundle text nest cert trace_outcome gives writes accepts stands.
          let found = traces_full_run c.one_tree.ensures trace trace_bundle nest trace_outcome gives writes in (
            found.0,
            found.1,
            c.any_full_run_is_accepted.ensures.bytes check check_bundle text found.0
                (planned_network nest trace.policy) cert accepts stands found.2,
          );
      cert = λ cert trace check bundle network certificate cert_outcome trace_outcome policies traces checks certifies
          writes stands.
          accepts_traced c.what_fits_is_accepted.ensures.fitting laws.parts laws.bytes c.one_tree.ensures
          c.reads_what_is_written.ensures.back cert trace check bundle cert_outcome.output network certificate
          trace_outcome policies traces checks
          (c.what_cert_writes_is_accepted.ensures.stands cert bundle cert_outcome certifies) writes stands;
    }
