use Rattle.std.proofs.Common.{ap, ◌∙◌, arith, ◌+◌}
use Rattle.std.specs.Prelude.{nat_lt}
use Rattle.net_core.specs.declared.progress.TokenCounts.{TokenCounts}
use Rattle.net_core.specs.Machine.{net_of}
use Rattle.net_core.proofs.ProgressLemmas.{counts_found, counts_long}
use Rattle.net_core.proofs.progress.Progress.has_place.Goals as goal

pub index-requires : goal.index-requires
index-requires c =
    omega (
      arith,
      c.args.self.now.counts.ok.0,
      c.requires.channel,
      counts_long (net_of c.args.network.now) c.args.self.now c.requires.progress,
    )

pub returns : goal.returns
returns c =
    c.has_place.ensures
    ∙ ap (λ (counts : TokenCounts). nat_lt counts.puts (counts.gets + c.args.capacity))
    (counts_found (net_of c.args.network.now) c.args.self.now c.requires.progress c.args.channel c.requires.channel
    c.index.result.now c.index.ensures)
