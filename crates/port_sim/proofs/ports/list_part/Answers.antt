use Rattle.std.proofs.Common.{◌++◌, List, filter, ap, sym, ◌∙◌}
use Rattle.net_core.specs.Machine.{net_of}
use Rattle.port_runs.specs.Ports.{EventPlace}
use Rattle.port_clocks.specs.PortClocks.{comes, places_of}
use Rattle.port_sim.specs.Windows.{is_of_kind}
use Rattle.port_sim.proofs.PartLists.{all_more}
use Rattle.port_sim.proofs.ports.list_part.Goals as goal

pub loop-process-preserved : goal.loop-process-preserved
loop-process-preserved c =
    λ clock s q at.
    let n = net_of c.args.network.now in
    let test = comes n (is_of_kind c.args.kind) clock s in
    let p = c.loop-process.process in
    c.in_ok-list_window.ensures clock s q at
    ∙ ap (λ (l : List EventPlace). l ++ filter test (places_of n p)) (c.loop-process.invariant clock s q at)
    ∙ sym (all_more n test p)
