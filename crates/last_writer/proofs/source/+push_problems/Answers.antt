-- The first writer is the problem of the first that is told, where none of its tests says no: its pair is then the first of
-- those that are told, and behind it stand those of the other writers.
use Rattle.std.proofs.Common.{◌≡◌, ◌∷◌, ◌++◌, [], length, sym, ap, ◌∙◌, subst, rules, arith}
use Rattle.std.specs.Prelude.{All}
use Rattle.std.proofs.lemmas.List.{append-nil, nil_from_length}
use Rattle.std.proofs.lemmas.List.Elements.{All-head, All-tail}
use Rattle.std.proofs.lemmas.Result.{on_ok_weaker}
use Rattle.tree_order.specs.Reads.{pair_in, pairs_with}
use Rattle.last_writer.proofs.JointTrees.{told_places}
use Rattle.stride_trees.proofs.LeafConversion.{refused, zip_count}
use Rattle.last_writer.proofs.QuotientWrites.{one_more, pairs_refused, pairs_told, problem_pair}
use Rattle.stride_trees.specs.Leaves.{told_pair, told_pairs, vars_of}
use Rattle.stride_trees.specs.Writers.{IsPlaceOf, IsWriterOf}
use Rattle.stride_trees.specs.declared.leaves.Answered.{Answered}
use Rattle.stride_trees.specs.declared.writers.Writer.{Writer}
use Rattle.stride_trees.specs.Problem.{IsToldProblem}
use Rattle.stride_trees.specs.Strides.{ArePlaces}
use Rattle.last_writer.proofs.source.+push_problems.Goals as goal
use Rattle.source_tree.specs.References.{occurrence_of}

abbrev IsOf : Answered → Writer → Type 0
IsOf w = IsWriterOf w.nest.now (occurrence_of w.read) w.tests.now

pub returns-in_default : goal.returns-in_default
returns-in_default t c r same =
    let w = c.args.w.now in
    let none : c.args.writers.now ≡ [] = nil_from_length c.args.writers.now c.in_default.ensures.cases in
    sym (append-nil (pairs_with r c.args.problems.now))
    ∙ ap (λ ws. pairs_with r c.args.problems.now ++ told_pairs (vars_of w) w.answers.now ws) (sym none)

pub refusal_of-requires : goal.refusal_of-requires
refusal_of-requires t c =
    let P = IsOf c.args.w.now in
    let x = c.in-Some.writer.now in
    let first : c.args.writers.now ≡ x ∷ c.in-Some.writers.now = search rules in
    zip_count (IsPlaceOf c.args.w.now.tests.now) x.divisions x.places
    (All-head P x c.in-Some.writers.now (subst (All P) first c.requires.writers)).places

pub push_problems-requires : goal.push_problems-requires
push_problems-requires t c =
    let P = IsOf c.args.w.now in
    let first : c.args.writers.now ≡ c.in-Some.writer.now ∷ c.in-Some.writers.now = search rules in (
      omega (arith, ap length first),
      (
        c.requires.answered,
        All-tail P c.in-Some.writer.now c.in-Some.writers.now (subst (All P) first c.requires.writers),
      ),
    )

pub push_problems-requires-in-None : goal.push_problems-requires-in-None
push_problems-requires-in-None t c =
    let P = IsOf c.args.w.now in
    let first : c.args.writers.now ≡ c.in-Some.writer.now ∷ c.in-Some.writers.now = search rules in (
      omega (arith, ap length first),
      (
        c.requires.answered,
        All-tail P c.in-Some.writer.now c.in-Some.writers.now (subst (All P) first c.requires.writers),
      ),
    )

pub problem_of-requires-clause-strided : goal.problem_of-requires-clause-strided
problem_of-requires-clause-strided t c =
    let P = IsOf c.args.w.now in
    let first : c.args.writers.now ≡ c.in-Some.writer.now ∷ c.in-Some.writers.now = search rules in
    (All-head P c.in-Some.writer.now c.in-Some.writers.now (subst (All P) first c.requires.writers)).strided

pub problem_of-requires-clause-places : goal.problem_of-requires-clause-places
problem_of-requires-clause-places t c =
    let w = c.args.w.now in
    let x = c.in-Some.writer.now in
    let P = IsOf w in
    let first : c.args.writers.now ≡ x ∷ c.in-Some.writers.now = search rules in
    subst (ArePlaces x.strides c.vars_in.result) (sym c.as_slice.ensures)
    (subst (λ vars. ArePlaces x.strides vars x.places) (sym c.vars_in.ensures)
    (told_places w c.requires.answered x (All-head P x c.in-Some.writers.now (subst (All P) first c.requires.writers))
    c.in-None.ensures))

pub returns-in-Some-refusal_of : goal.returns-in-Some-refusal_of
returns-in-Some-refusal_of t c =
    let w = c.args.w.now in
    let x = c.in-Some.writer.now in
    let xs = c.in-Some.writers.now in
    let answers = w.answers.now in
    let first : c.args.writers.now ≡ x ∷ xs = search rules in
    on_ok_weaker c.push_problems.result
    (λ rest r same. rest r same
    ∙ ap (λ ps. pairs_with r c.args.problems.now ++ ps)
    (sym (ap (told_pairs (vars_of w) answers) first
    ∙ pairs_refused (vars_of w) answers x xs
    (refused answers x c.in-Some-refusal_of.field-0 c.in-Some-refusal_of.ensures))))
    c.push_problems.ensures

pub returns-in_ok-push-in-None : goal.returns-in_ok-push-in-None
returns-in_ok-push-in-None t c =
    let w = c.args.w.now in
    let x = c.in-Some.writer.now in
    let xs = c.in-Some.writers.now in
    let answers = w.answers.now in
    let vars = vars_of w in
    let P = IsOf w in
    let first : c.args.writers.now ≡ x ∷ xs = search rules in
    let of = All-head P x xs (subst (All P) first c.requires.writers) in
    on_ok_weaker c.push_problems-in-None.result
    (λ rest r same.
    one_more (pair_in r) c.args.problems.now c.push.new.self c.push_problems-in-None.new.problems
    c.in_ok-problem-in-None.problem (told_pair vars x) (told_pairs vars answers xs)
    (told_pairs vars answers c.args.writers.now) c.in_ok-push-in-None.ensures.ok
    (problem_pair r c.in_ok-problem-in-None.problem vars x (of.read ∙ ap occurrence_of (sym same))
    (subst (λ places. IsToldProblem x.strides vars places c.in_ok-problem-in-None.problem) c.as_slice.ensures
    (subst (λ v. IsToldProblem x.strides v c.as_slice.result.now c.in_ok-problem-in-None.problem) c.vars_in.ensures
    c.in_ok-problem-in-None.ensures)))
    (rest r same) (ap (told_pairs vars answers) first ∙ pairs_told vars answers x xs c.in-None.ensures))
    c.push_problems-in-None.ensures
