use Rattle.std.proofs.Common.{◌+◌, ◌<◌, ◌≤◌, ℕ, Some, length, take, sym, ap, ◌∙◌, arith, lt-ltb}
use Rattle.std.proofs.Common.{le-ltb}
use Rattle.std.specs.List.{sum_by}
use Rattle.cert_text.specs.Folding.{most_events}
use Rattle.cert_text.specs.Kept.{scripts_of}
use Rattle.cert_text.proofs.Shortness.{long_here, long_later, long_none, more_events, scripts_count}
use Rattle.cert_text.proofs.kept.long_process.Goals as goal

pub returns-then-len-events : goal.returns-then-len-events
returns-then-len-events c =
    let ps = c.args.processes.now in
    let i = c.loop-process.process-index in
    let p = c.process-item.result in
    let more = more_events ps i p (omega arith) c.process-item.is in
    let inside : i < length (scripts_of ps) = omega (arith, scripts_count ps) in
    let many : most_events < sum_by length (take (i + 1) (scripts_of ps)) =
    omega (arith, more, c.loop-process.invariant.events, c.loop-process.invariant.few, c.capped_len-len.ensures) in
    ap (λ (n : ℕ). Some n) c.loop-process.invariant.place
    ∙ sym (long_here (scripts_of ps) i inside (lt-ltb most_events (sum_by length (take (i + 1) (scripts_of ps))) many))
    ∙ c.loop-process.invariant.later

pub loop-process-preserved : goal.loop-process-preserved
loop-process-preserved c =
    let ps = c.args.processes.now in
    let i = c.loop-process.process-index in
    let p = c.process-item.result in
    let more = more_events ps i p (omega arith) c.process-item.is in
    let inside : i < length (scripts_of ps) = omega (arith, scripts_count ps) in
    let few : sum_by length (take (i + 1) (scripts_of ps)) ≤ most_events =
    omega (arith, more, c.loop-process.invariant.events, c.loop-process.invariant.few, c.capped_len-len.ensures) in
    record {
      place = omega (arith, c.loop-process.invariant.place);
      events = omega
          (arith, more, c.loop-process.invariant.events, c.loop-process.invariant.few, c.capped_len-len.ensures);
      few = omega (arith, c.loop-process.invariant.few);
      later =
          long_later (scripts_of ps) i inside (le-ltb most_events (sum_by length (take (i + 1) (scripts_of ps))) few)
          ∙ c.loop-process.invariant.later;
    }

pub returns : goal.returns
returns c =
    let ps = c.args.processes.now in
    let i = c.loop-process.process-index in
    let past_all : length (scripts_of ps) ≤ i = omega (arith, scripts_count ps) in
    sym (long_none (scripts_of ps) i past_all) ∙ c.loop-process.invariant.later
