use Rattle.ruled_links.specs.Ports.{stream_at}
use Rattle.ruled_links.proofs.link.Given as goal

-- the list that the plan has for the channel
abbrev pub ghosts-linked : goal.ghosts-linked
ghosts-linked g a = record { values = stream_at g.P.Plan.streams a._channel; capacity = a.capacity }
