use Rattle.std.proofs.Common.{ℕ, List, sym, subst, ◌∙◌}
use Rattle.net_core.specs.Machine.{net_of}
use Rattle.net_core.specs.Rules.{tags}
use Rattle.port_clocks.specs.PortClocks.{after_fires, after_puts}
use Rattle.port_sim.specs.Windows.{HasQueues}
use Rattle.port_sim.proofs.Clocks.{clock_done}
use Rattle.port_sim.proofs.counting.make_clock.Goals as goal

pub make_part-requires-2-clause-reached : goal.make_part-requires-2-clause-reached
make_part-requires-2-clause-reached c =
    let n = net_of c.args.network.now in
    let s = c.requires.reached.0 in
    let at = c.requires.reached.1 in
    let q : HasQueues n s c.copy_from_slice.new.self =
    subst (λ (l : List ℕ). HasQueues n s l) (sym (c.copy_from_slice.ensures.after ∙ c.deref.ensures.value)) at.queues in
    (after_puts n tags s, (c.in_ok-puts.ensures s s q at).0)

pub make_part-requires-3-clause-reached : goal.make_part-requires-3-clause-reached
make_part-requires-3-clause-reached c =
    let n = net_of c.args.network.now in
    let s = c.requires.reached.0 in
    let at = c.requires.reached.1 in
    let q : HasQueues n s c.copy_from_slice.new.self =
    subst (λ (l : List ℕ). HasQueues n s l) (sym (c.copy_from_slice.ensures.after ∙ c.deref.ensures.value)) at.queues in
    let first = c.in_ok-puts.ensures s s q at in
    (after_fires n tags s, (c.in_ok-fires.ensures s (after_puts n tags s) q first.0).0)

pub returns-clause-clock : goal.returns-clause-clock
returns-clause-clock c =
    λ s at.
    let n = net_of c.args.network.now in
    let q : HasQueues n s c.copy_from_slice.new.self =
    subst (λ (l : List ℕ). HasQueues n s l) (sym (c.copy_from_slice.ensures.after ∙ c.deref.ensures.value)) at.queues in
    let first = c.in_ok-puts.ensures s s q at in
    let second = c.in_ok-fires.ensures s (after_puts n tags s) q first.0 in
    let third = c.in_ok-gets.ensures s (after_fires n tags s) q second.0 in
    let whole =
    clock_done n s c.args.ports.now c.make_part-3.new.ports c.in_ok-puts.puts c.in_ok-fires.fires c.in_ok-gets.gets at
    first.1 second.1 third in
    (whole.0, c.any.ensures ∙ whole.1)
