use Rattle.std.proofs.Common.{◌≡◌, sym, ap, ◌∙◌, arith, inl, inr}
use Rattle.std.proofs.lemmas.Bool.{cases_lt}
use Rattle.net_checker.specs.Sources.{reads_refusal}
use Rattle.net_checker.proofs.Tables.{rows_more, rows_whole}
use Rattle.net_checker.proofs.Usable.{sources_fine, sources_found}
use Rattle.net_checker.proofs.sources.source_refusal.Goals as goal

pub returns-in-Some-clause-refusal : goal.returns-in-Some-clause-refusal
returns-in-Some-clause-refusal c =
    sources_found c.args.candidate.now.nest.now c.args.cert.now c.loop-statement.statement c.in-Some.refusal
    (omega (arith, c.len-statement-end.ensures)) c.loop-statement.invariant.passed
    (sym c.in-Some.is ∙ c.in_ok-refusal.ensures.refusal)

pub loop-statement-preserved : goal.loop-statement-preserved
loop-statement-preserved c =
    let n = c.args.candidate.now.nest.now in
    let statement = c.loop-statement.statement in
    record {
      passed = λ s lt. elim (cases_lt s statement) [
        | inl before ↦ c.loop-statement.invariant.passed s before
        | inr after ↦
            let e : s ≡ statement = omega arith in
            ap (reads_refusal n c.args.cert.now) e ∙ sym c.in_ok-refusal.ensures.refusal ∙ c.in_default.is
      ];
      added = λ trees. rows_more n statement c.loop-statement.rows c.reads_refusal.new.rows
          (omega (arith, c.len-statement-end.ensures)) (c.loop-statement.invariant.added trees)
          (c.in_ok-refusal.ensures.rows c.in_default.is trees);
    }

pub returns-clause-refusal : goal.returns-clause-refusal
returns-clause-refusal c = sources_fine c.args.candidate.now.nest.now c.args.cert.now
    (λ s lt. c.loop-statement.invariant.passed s (omega (arith, c.len-statement-end.ensures)))

pub returns-clause-rows : goal.returns-clause-rows
returns-clause-rows c _ trees = c.loop-statement.invariant.added trees
    ∙ rows_whole c.args.candidate.now.nest.now c.loop-statement.statement (omega (arith, c.len-statement-end.ensures))
