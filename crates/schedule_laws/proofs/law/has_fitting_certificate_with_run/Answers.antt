use Rattle.schedule_laws.proofs.Sources.{has_own_parts}
use Rattle.schedule_laws.proofs.WithRun.{fitting_with_run}
use Rattle.schedule_laws.proofs.law.has_fitting_certificate_with_run.Goals as goal

pub returns : goal.returns
returns c =
    record {
      parts =
          fitting_with_run c.any_full_run_is_a_schedule.ensures.tags c.any_full_run_has_a_text.ensures.stands
          c.line_end_changes_no_token.ensures.tokens c.line_end_changes_no_token.ensures.sentence;
      bytes =
          has_own_parts c.source_part_has_no_separator.ensures c.line_end_makes_no_separator.ensures
          c.certified_bundle_has_its_parts.ensures.source c.certified_bundle_has_its_parts.ensures.certificate;
    }
