-- Each number is that of the rows of the first order that is left, and the first Sum that is left is for it.
use Rattle.std.proofs.Common.{◌≡◌, ◌≤◌, ◌∷◌, ℕ, length, sym, ap, ◌∙◌, subst, rules, arith}
use Rattle.std.specs.Prelude.{All}
use Rattle.std.proofs.lemmas.List.{nil_from_length}
use Rattle.std.proofs.lemmas.List.Elements.{All-head, All-tail}
use Rattle.std.proofs.lemmas.Result.{IfOk-weaker}
use Rattle.tree_graphs.specs.Simple.{IsLightSum}
use Rattle.int_polyhedra.specs.declared.system.Proof.TheVariants.{Sum}
use Rattle.stride_trees.proofs.FactLeaves.{order_away}
use Rattle.stride_trees.proofs.OrderSteps.{after_none, after_step, none_left}
use Rattle.stride_trees.proofs.ProofSteps.{sum_is_cut}
use Rattle.stride_trees.specs.Leaves.{fact_context, own_context, IsToldSum}
use Rattle.source_tree.specs.Checked.{IsRefuted}
use Rattle.source_tree.specs.Systems.{with_rows}
use Rattle.stride_trees.proofs.leaves.+push_sums.Goals as goal

pub returns-in_default-clause-proofs : goal.returns-in_default-clause-proofs
returns-in_default-clause-proofs t c rest orders at rows =
    after_none c.args.w.now rest c.args.counts.now orders c.args.told.now c.args.proofs.now
    (nil_from_length c.args.counts.now c.in_default.ensures.cases) rows

pub returns-in_default-split_first-clause-proofs : goal.returns-in_default-split_first-clause-proofs
returns-in_default-split_first-clause-proofs t c rest orders at rows =
    let w = c.args.w.now in
    none_left w (length (own_context w rest).rows) (with_rows (fact_context w rest)) (with_rows (own_context w rest)) orders
    c.args.told.now c.args.proofs.now (nil_from_length c.args.told.now c.in_default-split_first.ensures.cases)

pub sum_terms-requires : goal.sum_terms-requires
sum_terms-requires t c =
    let first : c.args.told.now ≡ c.in-Some-split_first.proof.now ∷ c.in-Some-split_first.told.now = search rules in
    let told = IsToldSum c.args.w.now in
    (All-head told c.in-Some-split_first.proof.now c.in-Some-split_first.told.now (subst (All told) first c.requires.sums)).sum

pub push_own-requires-clause-more : goal.push_own-requires-clause-more
push_own-requires-clause-more t c =
    let first : c.args.counts.now ≡ c.in-Some.count.now ∷ c.in-Some.counts.now = search rules in
    let few = λ (n : ℕ). n ≤ 32 in
    let le : c.in-Some.count.now ≤ 32 = All-head few c.in-Some.count.now c.in-Some.counts.now
    (subst (All few) first c.requires.counts) in
    omega (arith, le)

pub push_sums-requires : goal.push_sums-requires
push_sums-requires t c =
    let first : c.args.told.now ≡ c.in-Some-split_first.proof.now ∷ c.in-Some-split_first.told.now = search rules in
    let count : c.args.counts.now ≡ c.in-Some.count.now ∷ c.in-Some.counts.now = search rules in
    let told = IsToldSum c.args.w.now in
    let few = λ (n : ℕ). n ≤ 32 in (
      omega (arith, ap length count),
      (
        c.requires.leaf,
        (
          All-tail few c.in-Some.count.now c.in-Some.counts.now (subst (All few) count c.requires.counts),
          All-tail told c.in-Some-split_first.proof.now c.in-Some-split_first.told.now (subst (All told) first c.requires.sums),
        ),
      ),
    )

pub returns-clause-proofs : goal.returns-clause-proofs
returns-clause-proofs t c =
    let w = c.args.w.now in
    let n = c.in-Some.count.now in
    let proof = c.in-Some-split_first.proof.now in
    let copy = Sum c.in_ok-terms.terms in
    let added = c.in_ok-push_own.ensures in
    let first : c.args.told.now ≡ proof ∷ c.in-Some-split_first.told.now = search rules in
    let count : c.args.counts.now ≡ n ∷ c.in-Some.counts.now = search rules in
    let same : copy ≡ proof = ap Sum c.in_ok-terms.ensures ∙ sym c.sum_terms.ensures in
    let light = (All-head (IsToldSum w) proof c.in-Some-split_first.told.now
    (subst (All (IsToldSum w)) first c.requires.sums)).light in
    IfOk-weaker c.push_sums.result _ _
    (λ left others rest orders at rows.
    after_step w rest c.args.counts.now n c.in-Some.counts.now orders proof added.0 c.args.told.now
    c.in-Some-split_first.told.now left.now c.args.proofs.now c.push_own.new.proofs c.push_sums.new.proofs count rows first
    added.1
    (λ order long refuted.
    (let own = order_away w c.args.here n rest order copy added.0 added.2 at long
    (subst (IsRefuted (with_rows (fact_context w rest) order)) (sym same) refuted) in (
      own,
      λ single. sum_is_cut (length (own_context w rest).rows) (with_rows (own_context w rest) order) added.0 own
          (subst IsLightSum (sym (added.2.same (c.requires.leaf.answered.without single) ∙ same)) (light single)),
    )))
    (λ those long. others rest those at long)) c.push_sums.ensures.proofs
