use Rattle.schedule_laws.proofs.WithRun.{accepted_pair, accepts_own, accepts_pair}
use Rattle.schedule_laws.proofs.law.any_full_run_is_accepted.Goals as goal

pub returns : goal.returns
returns c =
    let laws = c.has_fitting_certificate_with_run.ensures in
    let reads = c.reads_what_is_written.ensures in
    record {
      parts = λ check bundle other text run network cert accepts stands whole has.
          accepts_pair c.what_fits_is_accepted.ensures.fitting laws.parts check bundle other text run network cert
          (accepted_pair c.accepts_what_fits.ensures reads.forth reads.back check bundle text network cert accepts stands)
          stands whole has;
      bytes = λ check bundle text run network cert accepts stands whole.
          accepts_own c.what_fits_is_accepted.ensures.fitting laws.parts laws.bytes check bundle text run network cert
          (accepted_pair c.accepts_what_fits.ensures reads.forth reads.back check bundle text network cert accepts stands)
          stands whole;
      stands = λ check bundle text run network cert accepts stands whole.
          let pair =
          accepted_pair c.accepts_what_fits.ensures reads.forth reads.back check bundle text network cert accepts
          stands in
          c.any_full_run_has_a_text.ensures.stands pair.nest network cert text run stands pair.fits whole;
      only = λ check bundle text network cert accepts stands.
          let pair =
          accepted_pair c.accepts_what_fits.ensures reads.forth reads.back check bundle text network cert accepts
          stands in
          pair.fits.ends;
    }
