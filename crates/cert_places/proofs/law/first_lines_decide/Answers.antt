use Rattle.cert_places.proofs.RefusalLines.{deep_decided, line_decided, number_decided}
use Rattle.cert_places.proofs.law.first_lines_decide.Goals as goal

pub returns : goal.returns
returns c =
    let back = c.reads_what_is_written.ensures.back in
    record { line = line_decided back; number = number_decided back; deep = deep_decided back }
