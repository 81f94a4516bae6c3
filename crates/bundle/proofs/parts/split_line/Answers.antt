use Rattle.std.proofs.Common.{add-one, arith}
use Rattle.bundle.proofs.Lines.{lines_of-line, lines_of-last}
use Rattle.bundle.proofs.Positions.{position_or_len-found, position_or_len-none}
use Rattle.bundle.proofs.parts.split_line.Goals as goal

pub returns-in-Some-clause-lines : goal.returns-in-Some-clause-lines
returns-in-Some-clause-lines c =
    let bytes = c.args.bytes.now in
    let found = position_or_len-found _ bytes c.in-Some.at (c.in-Some.ensures) in
    let line = lines_of-line bytes (omega (arith, found.0, found.1)) in
    rw (c.split_at.ensures.front, c.split_at.ensures.back, add-one) (rw found.0 at line)

pub returns-in-None-clause-lines : goal.returns-in-None-clause-lines
returns-in-None-clause-lines c =
    let bytes = c.args.bytes.now in
    lines_of-last bytes c.requires (position_or_len-none _ bytes (c.in-None.ensures))
