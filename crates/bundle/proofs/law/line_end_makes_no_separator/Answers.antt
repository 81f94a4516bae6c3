use Rattle.bundle.proofs.Separators.{no_late_separator}
use Rattle.bundle.proofs.law.line_end_makes_no_separator.Goals as goal

pub returns : goal.returns
returns c = no_late_separator
