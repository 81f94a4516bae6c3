use Rattle.std.proofs.Common.{◌≡◌, ◌^◌, ◌∷◌, length, ap, subst, arith, rules}
use Rattle.std.specs.Prelude.{All}
use Rattle.std.proofs.lemmas.List.{nil_from_length}
use Rattle.std.proofs.lemmas.List.Elements.{All-head, All-tail}
use Rattle.std.proofs.lemmas.Result.{on_ok_weaker}
use Rattle.tree_sums.specs.Parts.{IsWithin}
use Rattle.tree_graphs.specs.Joint.{IsSum}
use Rattle.stride_trees.proofs.ProofConversion.{outside_end, outside_next, outside_odd}
use Rattle.stride_trees.proofs.convert.+push_outside.Goals as goal

pub returns-in_default : goal.returns-in_default
returns-in_default t c =
    outside_end c.args.here c.args.rows.now c.args.told.now c.args.proofs.now
    (nil_from_length c.args.rows.now c.in_default.ensures.cases)

pub returns-in_default-split_first : goal.returns-in_default-split_first
returns-in_default-split_first t c =
    let first : c.args.rows.now ≡ c.in-Some.row.now ∷ c.in-Some.rows.now = search rules in
    outside_odd c.args.here c.args.rows.now c.in-Some.row.now c.in-Some.rows.now c.args.told.now c.args.proofs.now first
    (nil_from_length c.args.told.now c.in_default-split_first.ensures.cases)

pub row_source-requires : goal.row_source-requires
row_source-requires t c =
    let first : c.args.rows.now ≡ c.in-Some.row.now ∷ c.in-Some.rows.now = search rules in
    All-head (IsWithin (2 ^ 32)) c.in-Some.row.now c.in-Some.rows.now
    (subst (All (IsWithin (2 ^ 32))) first c.requires.rows)

pub with_last-requires-clause-sum : goal.with_last-requires-clause-sum
with_last-requires-clause-sum t c =
    let second : c.args.told.now ≡ c.in-Some-split_first.proof.now ∷ c.in-Some-split_first.told.now = search rules in
    All-head IsSum c.in-Some-split_first.proof.now c.in-Some-split_first.told.now
    (subst (All IsSum) second c.requires.sums)

pub push_outside-requires : goal.push_outside-requires
push_outside-requires t c =
    let first : c.args.rows.now ≡ c.in-Some.row.now ∷ c.in-Some.rows.now = search rules in
    let second : c.args.told.now ≡ c.in-Some-split_first.proof.now ∷ c.in-Some-split_first.told.now = search rules in (
      omega (arith, ap length first),
      (
        c.requires.here,
        (
          All-tail (IsWithin (2 ^ 32)) c.in-Some.row.now c.in-Some.rows.now
              (subst (All (IsWithin (2 ^ 32))) first c.requires.rows),
          All-tail IsSum c.in-Some-split_first.proof.now c.in-Some-split_first.told.now
              (subst (All IsSum) second c.requires.sums),
        ),
      ),
    )

pub returns : goal.returns
returns t c =
    let first : c.args.rows.now ≡ c.in-Some.row.now ∷ c.in-Some.rows.now = search rules in
    let second : c.args.told.now ≡ c.in-Some-split_first.proof.now ∷ c.in-Some-split_first.told.now = search rules in
    on_ok_weaker c.push_outside.result
    (λ h. outside_next c.args.here c.args.rows.now c.in-Some.row.now c.in-Some.rows.now c.args.told.now
    c.in-Some-split_first.proof.now c.in-Some-split_first.told.now c.in_ok-last.last c.in_ok-own.own c.args.proofs.now
    c.push.new.self c.push_outside.new.proofs first second
    (All-head IsSum c.in-Some-split_first.proof.now c.in-Some-split_first.told.now
    (subst (All IsSum) second c.requires.sums)) c.in_ok-last.ensures c.in_ok-own.ensures c.in_ok-push.ensures.ok h)
    c.push_outside.ensures
