use Rattle.compaan_top.proofs.CertVerdict.{accepts_bytes, accepts_calls, accepts_parts, stands_planned}
use Rattle.compaan_top.proofs.law.what_cert_writes_is_accepted.Goals as goal

pub returns-clause-stands : goal.returns-clause-stands
returns-clause-stands c =
    stands_planned (λ n policy cert text sized certificate written. c.what_is_written_stands.ensures text _ _ written
    (c.certificate_has_text.ensures n policy cert certificate sized))

pub returns-clause-parts : goal.returns-clause-parts
returns-clause-parts c =
    accepts_parts c.what_fits_is_accepted.ensures.fitting
    (λ n policy cert text sized certificate written. c.what_is_written_stands.ensures text _ _ written
    (c.certificate_has_text.ensures n policy cert certificate sized))
    c.line_end_changes_no_token.ensures.tokens c.line_end_changes_no_token.ensures.sentence

pub returns-clause-bytes : goal.returns-clause-bytes
returns-clause-bytes c =
    accepts_bytes c.what_fits_is_accepted.ensures.fitting
    (λ n policy cert text sized certificate written. c.what_is_written_stands.ensures text _ _ written
    (c.certificate_has_text.ensures n policy cert certificate sized))
    c.line_end_changes_no_token.ensures.tokens c.line_end_changes_no_token.ensures.sentence
    c.source_part_has_no_separator.ensures c.line_end_makes_no_separator.ensures
    c.certified_bundle_has_its_parts.ensures.source c.certified_bundle_has_its_parts.ensures.certificate

pub returns-clause-calls : goal.returns-clause-calls
returns-clause-calls c =
    accepts_calls c.what_fits_is_accepted.ensures.fitting
    (λ n policy cert text sized certificate written. c.what_is_written_stands.ensures text _ _ written
    (c.certificate_has_text.ensures n policy cert certificate sized))
    c.line_end_changes_no_token.ensures.tokens c.line_end_changes_no_token.ensures.sentence
    c.source_part_has_no_separator.ensures c.line_end_makes_no_separator.ensures
    c.certified_bundle_has_its_parts.ensures.source c.certified_bundle_has_its_parts.ensures.certificate
