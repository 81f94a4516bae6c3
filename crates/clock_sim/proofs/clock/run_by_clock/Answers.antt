use Rattle.std.proofs.Common.{◌≡◌, ◌∙◌, ◌<◌, List, ℕ, vec_len, ap, sym, arith}
use Rattle.std.proofs.lemmas.Bool.{eqb-false}
use Rattle.net_core.specs.Held.{run_of}
use Rattle.net_core.specs.Machine.{net_of, after}
use Rattle.clock_sim.specs.Clocks.{clocks}
use Rattle.clock_sim.proofs.ClockSteps.{clock_left, clock_more}
use Rattle.clock_sim.proofs.clock.run_by_clock.Goals as goal

pub loop-state-smaller : goal.loop-state-smaller
loop-state-smaller g c =
    let i = c.loop-state.invariant in
    let n = net_of c.args.network.now in
    let list = c.loop-state.list in
    let some : vec_len list ≡ 0 → ⊥ = eqb-false (vec_len list) 0 (sym c.is_empty.ensures ∙ c.loop-state-test.true) in
    let left : c.loop-state.clocks < clocks n =
    clock_left n (g.F.Firing.meaning c.args.rule.now) c.requires.ends c.loop-state.clocks
    (run_of c.loop-state.state) list.items i.run i.next i.few (omega (arith, list.ok.0)) in
    omega arith

pub loop-state-preserved : goal.loop-state-preserved
loop-state-preserved g c =
    let i = c.loop-state.invariant in
    let n = net_of c.args.network.now in
    let rule = g.F.Firing.meaning c.args.rule.now in
    let list = c.loop-state.list in
    let s = run_of c.loop-state.state in
    let some : vec_len list ≡ 0 → ⊥ = eqb-false (vec_len list) 0 (sym c.is_empty.ensures ∙ c.loop-state-test.true) in
    let left : c.loop-state.clocks < clocks n =
    clock_left n rule c.requires.ends c.loop-state.clocks s list.items i.run i.next i.few (omega (arith, list.ok.0)) in
    record {
      run = clock_more n rule c.requires.ends c.loop-state.clocks s list.items i.run i.next (run_of c.run_by.new.state)
          (c.run_by.ensures.run ∙ ap (λ (l : List ℕ). after n rule s l) c.deref.ensures.value);
      state = c.run_by.ensures.state;
      next = c.list_enabled-in-loop-state.ensures.enabled;
      few = omega arith;
      room = omega (arith, i.room, c.list_enabled-in-loop-state.ensures.room);
    }
