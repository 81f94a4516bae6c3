use Rattle.std.specs.Prelude.{Result, Ok, Err, IfOk}
use Rattle.net_checker.proofs.Usable.{accepted_judged, refused_judged}
use Rattle.net_checker.proofs.sources.tree_refusal.Goals as goal

if_ok : {T E : Type 0} {P Q : T → Type 0} (r : Result T E) → ((x : T) → P x → Q x) → IfOk r P → IfOk r Q
if_ok (Ok x) f p = f x p
if_ok (Err e) f p = p

pub returns-in-Refused-clause-refusal : goal.returns-in-Refused-clause-refusal
returns-in-Refused-clause-refusal c =
    refused_judged c.args.candidate.now.nest.now c.args.statement c.args.read c.args.tree.now c.requires.read
    c.in_ok-rule.field-0
    c.in_ok-rule.ensures.exact c.in-Refused.rule c.in-Refused.is

pub add_sources-requires-clause-checked : goal.add_sources-requires-clause-checked
add_sources-requires-clause-checked c = (c.args.read, c.in_ok-rule.ensures.checked.0 c.in-Accepted.is)

pub returns-in-Accepted-clause-refusal : goal.returns-in-Accepted-clause-refusal
returns-in-Accepted-clause-refusal c =
    if_ok c.add_sources.result
    (λ o. accepted_judged c.args.candidate.now.nest.now c.args.statement c.args.read c.args.tree.now c.requires.read
    c.in_ok-rule.field-0 c.in_ok-rule.ensures.exact o c.in-Accepted.is) c.add_sources.ensures.overflow

pub returns-in-Accepted-clause-sources : goal.returns-in-Accepted-clause-sources
returns-in-Accepted-clause-sources c =
    if_ok c.add_sources.result
    (λ o row none. row none c.args.read (c.in_ok-rule.ensures.checked.0 c.in-Accepted.is))
    c.add_sources.ensures.sources
