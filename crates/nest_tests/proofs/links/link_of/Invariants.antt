use Rattle.std.proofs.Common.{[], ◌∷◌}
use Rattle.nest_tests.proofs.links.link_of.Given as goal

abbrev pub ghosts-planned : goal.ghosts-planned
ghosts-planned a = record { streams = a.xs.now ∷ [] }
