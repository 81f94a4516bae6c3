use Rattle.std.proofs.Common.{◌≡◌, ◌<◌, ◌≤◌, ◌+◌, ◌∙◌, [], ◌++◌, ℕ, suc, length, take, drop, slice_get, slice_index}
use Rattle.std.proofs.Common.{count_by, ap, sym, add-one, arith}
use Rattle.std.specs.Option.{option_map_or}
use Rattle.net_core.specs.declared.network.Process.{Process}
use Rattle.net_core.specs.Machine.{net_of}
use Rattle.net_core.specs.Shape.{is_put, events_below}
use Rattle.net_core.proofs.Fresh.{written_back}
use Rattle.net_core.proofs.PutCounts.{puts_below, puts_within, events_grow, all_puts}
use Rattle.net_core.proofs.opening.put_counts.Goals as goal
use Rattle.plain_data.proofs.Lists.{slice_get_read_same}

pub count_puts-requires-clause-channels : goal.count_puts-requires-clause-channels
count_puts-requires-clause-channels c k d is =
    let network = c.args.wired.now.network.now in
    let n = net_of network in
    let i = c.loop-process.process-index in
    let found =
    slice_get_read_same network.processes c.as_slice-process-items.result.now i c.process-item.result
    c.as_slice-process-items.ensures c.loop-process-test.true c.process-item.is in
    let script : n.script i ≡ c.process-item.result.script =
    ap (λ o. option_map_or (λ (process : Process). process.script) o []) found in
    let there : d < length network.channels =
    c.args.wired.now.wired.put_channel i k d (ap (λ list. slice_get list k) script ∙ is) in
    omega (arith, there, c.loop-process.invariant.0, ap length c.deref_mut.ensures.value)

pub count_puts-requires-clause-room : goal.count_puts-requires-clause-room
count_puts-requires-clause-room c d lt =
    let network = c.args.wired.now.network.now in
    let n = net_of network in
    let i = c.loop-process.process-index in
    let found =
    slice_get_read_same network.processes c.as_slice-process-items.result.now i c.process-item.result
    c.as_slice-process-items.ensures c.loop-process-test.true c.process-item.is in
    let script : n.script i ≡ c.process-item.result.script =
    ap (λ o. option_map_or (λ (process : Process). process.script) o []) found in
    let there : d < length network.channels =
    omega (arith, lt, c.loop-process.invariant.0, ap length c.deref_mut.ensures.value) in
    let before : slice_index c.deref_mut.result.now d ≡ puts_below n d i =
    ap (λ list. slice_index list d) c.deref_mut.ensures.value ∙ c.loop-process.invariant.1 d there in
    let here : count_by (is_put d) c.process-item.result.script ≡ count_by (is_put d) (n.script i) =
    ap (count_by (is_put d)) (sym script) in
    let within : puts_below n d i + count_by (is_put d) (n.script i) ≤ events_below n (suc i) =
    puts_within n d (suc i) in
    let inside : suc i ≤ n.processes =
    omega (arith, c.loop-process-test.true, ap length c.as_slice-process-items.ensures) in
    let below : events_below n (suc i) ≤ events_below n n.processes = events_grow n (suc i) n.processes inside in
    omega (arith, before, here, within, below, c.args.wired.now.numbers.events)

pub loop-process-preserved : goal.loop-process-preserved
loop-process-preserved c =
    let network = c.args.wired.now.network.now in
    let n = net_of network in
    let i = c.loop-process.process-index in
    let found =
    slice_get_read_same network.processes c.as_slice-process-items.result.now i c.process-item.result
    c.as_slice-process-items.ensures c.loop-process-test.true c.process-item.is in
    let script : n.script i ≡ c.process-item.result.script =
    ap (λ o. option_map_or (λ (process : Process). process.script) o []) found in
    let counts = c.count_puts.new.counts in
    let items = c.loop-process.counts.items in
    let lengths : length counts ≡ length items = omega (arith, ap length c.deref_mut.ensures.value) in
    let back : take c.loop-process.counts.len (counts ++ drop (length counts) items) ≡ counts =
    written_back counts items c.loop-process.counts.len (omega (arith, c.loop-process.counts.ok.0)) lengths in
    let here : (d : ℕ) → count_by (is_put d) c.process-item.result.script ≡ count_by (is_put d) (n.script i) =
    λ d. ap (count_by (is_put d)) (sym script) in
    let before : (d : ℕ) → d < length network.channels → slice_index c.deref_mut.result.now d ≡ puts_below n d i =
    λ d lt. ap (λ list. slice_index list d) c.deref_mut.ensures.value ∙ c.loop-process.invariant.1 d lt in
    let next : (d : ℕ) → puts_below n d i + count_by (is_put d) (n.script i) ≡ puts_below n d (i + 1) =
    λ d. sym (ap (puts_below n d) (add-one i)) in (
      ap length back ∙ lengths ∙ c.loop-process.invariant.0,
      λ d lt.
          let there : d < length c.deref_mut.result.now =
          omega (arith, lt, c.loop-process.invariant.0, ap length c.deref_mut.ensures.value) in
          let more : slice_index counts d
          ≡ slice_index c.deref_mut.result.now d + count_by (is_put d) c.process-item.result.script =
          c.count_puts.ensures d there in
          ap (λ list. slice_index list d) back ∙ omega (arith, more, before d lt, here d, next d),
    )

pub returns-clause-counts : goal.returns-clause-counts
returns-clause-counts c d lt =
    let network = c.args.wired.now.network.now in
    let all : c.loop-process.process-index ≡ length network.processes =
    omega (arith, ap length c.as_slice-process-items.ensures) in
    c.loop-process.invariant.1 d lt ∙ ap (puts_below (net_of network) d) all
    ∙ all_puts (net_of network) c.args.wired.now.wired d lt
