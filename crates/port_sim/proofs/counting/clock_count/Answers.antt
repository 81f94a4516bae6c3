use Rattle.std.proofs.Common.{◌≡◌, ◌+◌, ◌<◌, suc, not, drop, length, true, ap, sym, subst, inl, inr, ◌∙◌, arith}
use Rattle.std.proofs.lemmas.Bool.{cases_lt, eqb-true, not-false}
use Rattle.std.proofs.lemmas.List.{take_at}
use Rattle.net_core.specs.Machine.{net_of}
use Rattle.net_core.specs.Rules.{tags}
use Rattle.clock_sim.proofs.ClockRuns.{few_clocks}
use Rattle.port_clocks.specs.PortClocks.{after_port_clocks, events_of_clock, is_still_after, port_clocks}
use Rattle.port_clocks.proofs.NotBehind.{next_clock}
use Rattle.port_sim.specs.Windows.{IsAt}
use Rattle.port_sim.proofs.Clocks.{clock_before}
use Rattle.port_sim.proofs.counting.clock_count.Goals as goal

pub overflow_add-clocks : goal.overflow_add-clocks
overflow_add-clocks c =
    let n = net_of c.args.wired.now.network.now in
    omega (arith, c.loop-more.invariant.few, c.requires.few, few_clocks n, c.args.wired.now.numbers.events)

pub loop-more-smaller : goal.loop-more-smaller
loop-more-smaller c =
    let n = net_of c.args.wired.now.network.now in
    let i = c.loop-more.invariant in
    let left : c.loop-more.clocks < port_clocks n =
    clock_before n c.requires c.loop-more.clocks i.few (sym i.more ∙ c.loop-more-test.true) in
    omega (arith, left)

pub loop-more-preserved : goal.loop-more-preserved
loop-more-preserved c =
    let n = net_of c.args.wired.now.network.now in
    let i = c.loop-more.invariant in
    let k = c.loop-more.clocks in
    let left : k < port_clocks n =
    clock_before n c.requires k i.few (sym i.more ∙ c.loop-more-test.true) in
    let made = c.in_ok-more-2.ensures.clock (after_port_clocks n tags (suc k)) i.at in
    let ports = c.make_clock-in-loop-more.new.ports in
    let next : suc k ≡ k + 1 = omega arith in
    let before = c.make_clock-in-loop-more.new.before in
    let many : length before ≡ length c.loop-more.before.items =
    c.in_ok-more-2.ensures.number ∙ ap length c.deref_mut-in-loop-more.ensures.value in
    record {
      at = subst (λ j. IsAt n (after_port_clocks n tags (suc j)) ports) next
          (subst (λ t. IsAt n t ports) (sym (next_clock n tags c.args.wired.now.wired (suc k))) made.0);
      more = made.1 ∙ ap (λ j. not (is_still_after n j)) next;
      few = omega (arith, left);
      before =
          ap length (take_at before (drop (length before) c.loop-more.before.items) c.loop-more.before.len
          (omega (arith, many, c.loop-more.before.ok.0)))
          ∙ many
          ∙ i.before;
    }

-- an earlier clock would have an event
pub returns : goal.returns
returns c =
    let n = net_of c.args.wired.now.network.now in
    let i = c.loop-more.invariant in
    let k = c.loop-more.clocks in
    let still : is_still_after n k ≡ true = not-false (is_still_after n k) (sym i.more ∙ c.loop-more-test.false) in
    let none : length (events_of_clock n tags (after_port_clocks n tags k)) ≡ 0 =
    eqb-true (length (events_of_clock n tags (after_port_clocks n tags k))) 0 still in
    elim (cases_lt k (port_clocks n)) [
      | inl lt ↦ absurd (omega (arith, none, c.requires.events k lt))
      | inr ge ↦ omega (arith, ge, i.few)
    ]
