use Rattle.std.proofs.Common.{rules, FitsSigned}
use Rattle.std.specs.Int.{w128}
use Rattle.std.proofs.lemmas.Int.{to_z-of_z}
use Rattle.std.proofs.lemmas.Result.{IfOk-weaker}
use Rattle.source_check.specs.Paths.{path_rows}
use Rattle.source_check.proofs.Contexts.{context_root, context_test, context_divides}
use Rattle.source_check.proofs.SystemRows.{system_over}
use Rattle.source_check.proofs.systems.+context.Goals as goal

pub returns-in-Root-clause-value : goal.returns-in-Root-clause-value
returns-in-Root-clause-value t c =
    IfOk-weaker c.with_taken.result _ _
    (λ more is. context_root c.args.space.now.vars c.args.reader.now c.args.path.now c.no_rows.result more c.in-Root.is
    c.no_rows.ensures.value is) c.with_taken.ensures

pub returns-in-Root-clause-over : goal.returns-in-Root-clause-over
returns-in-Root-clause-over t c =
    IfOk-weaker c.with_taken.result _ _
    (λ more is. system_over c.args.space.now.vars (path_rows c.args.reader.now c.args.path.now) more
    (context_root c.args.space.now.vars c.args.reader.now c.args.path.now c.no_rows.result more c.in-Root.is
    c.no_rows.ensures.value is)) c.with_taken.ensures

pub returns-in_ok-system-in-Test-clause-value : goal.returns-in_ok-system-in-Test-clause-value
returns-in_ok-system-in-Test-clause-value t c =
    IfOk-weaker c.with_test.result _ _
    (λ more is. context_test c.args.space.now.vars c.args.reader.now c.args.path.now c.in-Test.above c.in-Test.form
    c.in-Test.yes c.in_ok-system-in-Test.system more c.in-Test.is c.in_ok-system-in-Test.ensures.value is)
    c.with_test.ensures

pub returns-in_ok-system-in-Test-clause-over : goal.returns-in_ok-system-in-Test-clause-over
returns-in_ok-system-in-Test-clause-over t c =
    IfOk-weaker c.with_test.result _ _
    (λ more is. system_over c.args.space.now.vars (path_rows c.args.reader.now c.args.path.now) more
    (context_test c.args.space.now.vars c.args.reader.now c.args.path.now c.in-Test.above c.in-Test.form c.in-Test.yes
    c.in_ok-system-in-Test.system more c.in-Test.is c.in_ok-system-in-Test.ensures.value is)) c.with_test.ensures

pub returns-in_ok-system-in-Divides-clause-value : goal.returns-in_ok-system-in-Divides-clause-value
returns-in_ok-system-in-Divides-clause-value t c =
    let fits : FitsSigned w128 c.in-Divides.divisor = search rules in
    IfOk-weaker c.with_quotient.result _ _
    (λ more is. context_divides c.args.space.now.vars c.args.reader.now c.args.path.now c.in-Divides.above
    c.in-Divides.form c.in-Divides.divisor _ c.in-Divides.quotient c.in-Divides.yes c.in_ok-system-in-Divides.system
    more c.in-Divides.is
    (to_z-of_z w128 c.in-Divides.divisor fits) c.in_ok-system-in-Divides.ensures.value is) c.with_quotient.ensures

pub returns-in_ok-system-in-Divides-clause-over : goal.returns-in_ok-system-in-Divides-clause-over
returns-in_ok-system-in-Divides-clause-over t c =
    let fits : FitsSigned w128 c.in-Divides.divisor = search rules in
    IfOk-weaker c.with_quotient.result _ _
    (λ more is. system_over c.args.space.now.vars (path_rows c.args.reader.now c.args.path.now) more
    (context_divides c.args.space.now.vars c.args.reader.now c.args.path.now c.in-Divides.above c.in-Divides.form
    c.in-Divides.divisor _ c.in-Divides.quotient c.in-Divides.yes c.in_ok-system-in-Divides.system more
    c.in-Divides.is
    (to_z-of_z w128 c.in-Divides.divisor fits) c.in_ok-system-in-Divides.ensures.value is)) c.with_quotient.ensures
