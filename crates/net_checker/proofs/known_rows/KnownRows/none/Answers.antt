use Rattle.net_checker.proofs.KnownRows.{nothing_kept}
use Rattle.net_checker.proofs.known_rows.KnownRows.none.Goals as goal

pub returns : goal.returns
returns c points k row is = absurd (nothing_kept 256 k row is)
