use Rattle.std.proofs.Common.{sym, ap, ◌∙◌}
use Rattle.net_checker.specs.declared.verdict.Verdict.TheVariants.{Accepted, Refused}
use Rattle.net_checker.specs.Fits.{verdict_of, with_entries}
use Rattle.net_checker.specs.Schedules.{entries_in}
use Rattle.net_checker.proofs.CertParts.{first_same}
use Rattle.net_checker.proofs.Verdicts.{verdict_fits, verdict_sound}
use Rattle.net_checker.proofs.checker.judge.Goals as goal

pub returns-in-Some-clause-exact : goal.returns-in-Some-clause-exact
returns-in-Some-clause-exact c =
    let candidate = c.args.candidate.now in
    let same = first_same candidate.nest.now candidate.network.now c.args.cert.now (entries_in c.args.schedule.now) in
    ap verdict_of (sym c.in-Some.is ∙ c.in_ok-refusal.ensures ∙ same)

pub returns-in-Some-clause-fits : goal.returns-in-Some-clause-fits
returns-in-Some-clause-fits c =
    let candidate = c.args.candidate.now in
    let entries = entries_in c.args.schedule.now in
    let same = first_same candidate.nest.now candidate.network.now c.args.cert.now entries in
    verdict_fits candidate.nest.now candidate.network.now (with_entries c.args.cert.now entries)
    (Refused c.in-Some.refusal)
    (ap verdict_of (sym c.in-Some.is ∙ c.in_ok-refusal.ensures ∙ same))

pub returns-in-None-clause-exact : goal.returns-in-None-clause-exact
returns-in-None-clause-exact c =
    let candidate = c.args.candidate.now in
    let same = first_same candidate.nest.now candidate.network.now c.args.cert.now (entries_in c.args.schedule.now) in
    ap verdict_of (sym c.in-None.is ∙ c.in_ok-refusal.ensures ∙ same)

pub returns-in-None-clause-fits : goal.returns-in-None-clause-fits
returns-in-None-clause-fits c =
    let candidate = c.args.candidate.now in
    let entries = entries_in c.args.schedule.now in
    let same = first_same candidate.nest.now candidate.network.now c.args.cert.now entries in
    verdict_fits candidate.nest.now candidate.network.now (with_entries c.args.cert.now entries) Accepted
    (ap verdict_of (sym c.in-None.is ∙ c.in_ok-refusal.ensures ∙ same))

pub returns-in-None-clause-sound : goal.returns-in-None-clause-sound
returns-in-None-clause-sound c =
    let candidate = c.args.candidate.now in
    let entries = entries_in c.args.schedule.now in
    let same = first_same candidate.nest.now candidate.network.now c.args.cert.now entries in
    verdict_sound candidate.nest.now candidate.network.now (with_entries c.args.cert.now entries) Accepted
    (ap verdict_of (sym c.in-None.is ∙ c.in_ok-refusal.ensures ∙ same))
