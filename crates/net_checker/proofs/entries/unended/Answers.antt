use Rattle.std.proofs.Common.{sym, arith, below_more}
use Rattle.net_core.specs.Machine.{net_of}
use Rattle.net_checker.proofs.Choices.{first_found, first_none}
use Rattle.net_checker.proofs.Walk.{ended_there, unended_there}
use Rattle.net_checker.specs.Entries.{unended}
use Rattle.net_checker.specs.TagStates.{cut_in}
use Rattle.net_checker.specs.declared.verdict.Refusal.TheVariants as refusal
use Rattle.net_checker.proofs.entries.unended.Goals as goal

pub returns-in-Some : goal.returns-in-Some
returns-in-Some c =
    let n = net_of c.args.network.now in
    let k = cut_in c.args.state.now in
    let p = c.loop-process.process in
    sym (first_found (unended n k) _ p (refusal.Unended p) c.loop-process.invariant (omega arith)
    (unended_there n k p _ (sym c.in-Some.ensures)))

pub loop-process-preserved : goal.loop-process-preserved
loop-process-preserved c =
    let n = net_of c.args.network.now in
    let k = cut_in c.args.state.now in
    let p = c.loop-process.process in
    below_more _ _ c.loop-process.invariant
    (ended_there n k p (c.requires.progress.inside p) (sym c.in_default.ensures))

pub returns : goal.returns
returns c =
    sym (first_none (unended (net_of c.args.network.now) (cut_in c.args.state.now)) _
    (λ q lt. c.loop-process.invariant q (omega arith)))
