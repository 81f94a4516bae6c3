use Rattle.std.proofs.Common.{◌≡◌, ◌+◌, ◌<◌, ℕ, List, Some, None, length, get_or, slice_get, refl, sym, ap, ◌∙◌, arith}
use Rattle.std.proofs.Common.{inl, inr}
use Rattle.std.proofs.lemmas.Bool.{cases_lt}
use Rattle.std.proofs.lemmas.Option.{slice_get_read}
use Rattle.sanlp.specs.Trace.{trace}
use Rattle.sanlp.proofs.NestFacts.{few_read_count, few_statements}
use Rattle.source_tree.specs.declared.cert.Origin.{Origin}
use Rattle.source_tree.specs.Sources.{read_sources}
use Rattle.net_checker.specs.Tables.{is_tree}
use Rattle.net_checker.proofs.FitsNames.{read_within}
use Rattle.net_checker.proofs.Lists.{all_at}
use Rattle.net_checker.proofs.Tables.{reads_more}
use Rattle.net_checker.proofs.Usable.{at_read, read_judged, reads_fine, reads_found}
use Rattle.net_checker.proofs.sources.reads_refusal.Goals as goal

here : (sources items : List Origin) (i : ℕ) (o : Origin) → items ≡ sources → i < length items → o ≡ get_or items i o
    → slice_get sources i ≡ Some o
here sources items i o same lt is =
    ap (λ xs. slice_get xs i) (sym same) ∙ slice_get_read items (length items) i o refl lt is

pub overflow_add-origin : goal.overflow_add-origin
overflow_add-origin c =
    omega (
      arith,
      c.requires.small,
      c.requires.statement,
      few_statements c.args.candidate.now.nest.now,
      c.reads_of-read-end.ensures,
      few_read_count c.args.candidate.now.nest.now c.args.statement,
    )

pub offset_bounds-as_slice-first : goal.offset_bounds-as_slice-first
offset_bounds-as_slice-first c =
    omega (
      arith,
      c.requires.small,
      c.requires.statement,
      few_statements c.args.candidate.now.nest.now,
      c.reads_of-read-end.ensures,
      few_read_count c.args.candidate.now.nest.now c.args.statement,
    )

pub bounds-as_slice-first : goal.bounds-as_slice-first
bounds-as_slice-first c =
    omega (
      arith,
      c.requires.first,
      c.requires.sources,
      ap length c.as_slice.ensures,
      read_within c.args.candidate.now.nest.now c.args.statement c.loop-read.read (omega
          (arith, c.reads_of-read-end.ensures)),
    )

pub overflow_cast-number : goal.overflow_cast-number
overflow_cast-number c =
    omega (arith, c.reads_of-read-end.ensures, few_read_count c.args.candidate.now.nest.now c.args.statement)

pub returns-in-Some-clause-refusal : goal.returns-in-Some-clause-refusal
returns-in-Some-clause-refusal c =
    let n = c.args.candidate.now.nest.now in
    let cert = c.args.cert.now in
    let s = c.args.statement in
    let k = c.loop-read.read in
    let lt = read_within n s k (omega (arith, c.reads_of-read-end.ensures)) in
    let origin = c.index-as_slice-first.result in
    let said = here cert.sources c.as_slice.result.now (c.args.first + k) origin c.as_slice.ensures
    (omega (arith, c.requires.first, c.requires.sources, ap length c.as_slice.ensures, lt))
    c.index-as_slice-first.is in
    reads_found n cert s k c.in-Some.refusal (omega (arith, c.reads_of-read-end.ensures)) c.loop-read.invariant.passed
    (read_judged n cert s k (c.args.first + k) origin (Some c.in-Some.refusal) (omega (arith, c.requires.first)) said
    (sym c.in-Some.is ∙ c.in_ok-refusal.ensures.refusal))

pub loop-read-preserved : goal.loop-read-preserved
loop-read-preserved c =
    let n = c.args.candidate.now.nest.now in
    let cert = c.args.cert.now in
    let s = c.args.statement in
    let k = c.loop-read.read in
    let lt = read_within n s k (omega (arith, c.reads_of-read-end.ensures)) in
    let origin = c.index-as_slice-first.result in
    let said = here cert.sources c.as_slice.result.now (c.args.first + k) origin c.as_slice.ensures
    (omega (arith, c.requires.first, c.requires.sources, ap length c.as_slice.ensures, lt))
    c.index-as_slice-first.is in
    record {
      passed = λ j below. elim (cases_lt j k) [
        | inl before ↦ c.loop-read.invariant.passed j before
        | inr after ↦
            let e : j ≡ k = omega arith in
            ap (at_read n cert s) e
            ∙ read_judged n cert s k (c.args.first + k) origin None (omega (arith, c.requires.first)) said
            (sym c.in_default.is ∙ c.in_ok-refusal.ensures.refusal)
      ];
      added = λ trees. reads_more n s k c.args.rows.now c.loop-read.rows c.origin_refusal.new.rows
          (read_sources n (trace n) s k) (c.loop-read.invariant.added trees) refl
          (c.in_ok-refusal.ensures.row c.in_default.is
          (all_at is_tree cert.sources (c.args.first + k) origin trees said));
    }

pub returns-clause-refusal : goal.returns-clause-refusal
returns-clause-refusal c = reads_fine c.args.candidate.now.nest.now c.args.cert.now c.args.statement
    (λ k lt. c.loop-read.invariant.passed k (omega (arith, c.reads_of-read-end.ensures)))
