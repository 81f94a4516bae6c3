use Rattle.std.proofs.Common.{ap, subst, ◌∙◌, ◌≡◌, ◌+◌, length}
use Rattle.net_core.specs.Machine.{start}
use Rattle.net_core.specs.Cuts.{enabled_at, gets_at, puts_at}
use Rattle.net_core.specs.Orders.{reached}
use Rattle.net_core.proofs.Positions.{enabled_as_cut, run_counted, run_ends, start_counted}
use Rattle.net_core.proofs.laws.cuts.Goals as goal

pub returns : goal.returns
returns g c =
    record {
      positions = λ n rule run is p. ap (λ k. k p) (run_ends n rule run (start n) is);
      enabled = λ n rule run wired is p.
          enabled_as_cut n (reached n rule run) (run_counted n rule wired run (start n) (start_counted n) is) p
          ∙ ap (λ k. enabled_at n k p) (run_ends n rule run (start n) is);
      queues = λ n rule run wired is b.
          subst (λ k. length ((reached n rule run).queue b) + gets_at n k b ≡ puts_at n k b)
          (run_ends n rule run (start n) is)
          ((run_counted n rule wired run (start n) (start_counted n) is).queues b);
    }
