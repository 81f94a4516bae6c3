use Rattle.std.proofs.Common.{sym, ◌∙◌, arith}
use Rattle.net_core.specs.Machine.{net_of}
use Rattle.net_checker.proofs.FirstFault.{script_short, firing_found, firing_fine}
use Rattle.net_checker.proofs.firings.firing_refusal.Goals as goal

pub process_firing-requires-clause-short : goal.process_firing-requires-clause-short
process_firing-requires-clause-short c =
    let candidate = c.args.candidate.now in
    script_short (net_of candidate.network.now) c.loop-process.process candidate.numbers (omega arith)

pub returns-in-Some : goal.returns-in-Some
returns-in-Some c =
    let candidate = c.args.candidate.now in
    firing_found candidate.nest.now candidate.network.now c.loop-process.process c.in-Some.refusal
    (omega arith) c.loop-process.invariant (sym c.process_firing.ensures ∙ c.in-Some.is)

pub returns : goal.returns
returns c =
    firing_fine c.args.candidate.now.nest.now c.args.candidate.now.network.now (λ q lt. c.loop-process.invariant q
    (omega arith))
