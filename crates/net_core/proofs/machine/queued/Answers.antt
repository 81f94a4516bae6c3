use Rattle.net_core.specs.Held.{held_of}
use Rattle.net_core.proofs.Ready.{reached_short}
use Rattle.net_core.proofs.machine.queued.Goals as goal

pub short_length-requires-clause-short : goal.short_length-requires-clause-short
short_length-requires-clause-short g c = reached_short (held_of c.args.state.now) c.requires.reached c.args.channel
