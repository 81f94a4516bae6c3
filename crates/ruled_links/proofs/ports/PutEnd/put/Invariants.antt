use Rattle.std.proofs.Common.{◌≡◌}
use Rattle.crossbeam_channel.specs.Claims.{view, IsSeatAt}
use Rattle.crossbeam_channel.specs.Ends.{sends_on}
use Rattle.ruled_links.proofs.ports.PutEnd.put.Given as goal

abbrev pub invariant-loop : goal.invariant-loop
invariant-loop g l =
    IsSeatAt (sends_on l.self-inside.line) l.self-inside.pass
    × (view l.self-inside.pass ≡ view l.initial.self-inside.pass)
    × (l.self-inside.line ≡ l.initial.self-inside.line)
