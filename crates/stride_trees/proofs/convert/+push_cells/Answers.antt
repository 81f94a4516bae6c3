use Rattle.std.proofs.Common.{◌≡◌, ◌^◌, ◌<◌, ◌∷◌, [], length, sym, ap, subst, arith, rules}
use Rattle.std.specs.Prelude.{All}
use Rattle.std.proofs.lemmas.List.{nil_from_length}
use Rattle.std.proofs.lemmas.List.Elements.{All-head, All-tail}
use Rattle.std.proofs.lemmas.Result.{on_ok_weaker}
use Rattle.tree_sums.specs.Parts.{IsWithin}
use Rattle.tree_cuts.proofs.Places.{behind_kept, next_below}
use Rattle.tree_graphs.specs.Joint.{IsSum}
use Rattle.stride_trees.proofs.ProofConversion.{cells_end, cells_next, cells_odd}
use Rattle.stride_trees.proofs.convert.+push_cells.Goals as goal

pub returns-in_default : goal.returns-in_default
returns-in_default t c =
    cells_end c.args.here c.args.root c.args.places.now c.args.writes.now c.args.told.now c.args.proofs.now
    (nil_from_length c.args.writes.now c.in_default.ensures.cases)

pub returns-in_default-split_first : goal.returns-in_default-split_first
returns-in_default-split_first t c =
    let first : c.args.writes.now ≡ c.in-Some.write.now ∷ c.in-Some.writes.now = search rules in
    let none : c.args.told.now ≡ [] = nil_from_length c.args.told.now c.in_default-split_first.ensures.cases in
    cells_odd c.args.here c.args.root c.args.places.now c.args.writes.now c.in-Some.write.now c.in-Some.writes.now
    c.args.told.now c.args.proofs.now first (omega (arith, ap length none))

pub returns-in_default-split_first-2 : goal.returns-in_default-split_first-2
returns-in_default-split_first-2 t c =
    let first : c.args.writes.now ≡ c.in-Some.write.now ∷ c.in-Some.writes.now = search rules in
    let second : c.args.told.now ≡ c.in-Some-split_first.high.now ∷ c.in-Some-split_first.told.now = search rules in
    let none : c.in-Some-split_first.told.now ≡ [] =
    nil_from_length c.in-Some-split_first.told.now c.in_default-split_first-2.ensures.cases in
    cells_odd c.args.here c.args.root c.args.places.now c.args.writes.now c.in-Some.write.now c.in-Some.writes.now
    c.args.told.now c.args.proofs.now first (omega (arith, ap length second, ap length none))

pub push_subscript-requires-clause-test : goal.push_subscript-requires-clause-test
push_subscript-requires-clause-test t c =
    omega (
      arith,
      c.requires.root,
      c.next_test.ensures,
      next_below 6 c.args.places.now (omega arith) c.requires.places,
    )

pub push_subscript-requires-clause-write : goal.push_subscript-requires-clause-write
push_subscript-requires-clause-write t c =
    let first : c.args.writes.now ≡ c.in-Some.write.now ∷ c.in-Some.writes.now = search rules in
    All-head (IsWithin (2 ^ 32)) c.in-Some.write.now c.in-Some.writes.now
    (subst (All (IsWithin (2 ^ 32))) first c.requires.writes)

pub push_subscript-requires-clause-high : goal.push_subscript-requires-clause-high
push_subscript-requires-clause-high t c =
    let second : c.args.told.now ≡ c.in-Some-split_first.high.now ∷ c.in-Some-split_first.told.now = search rules in
    All-head IsSum c.in-Some-split_first.high.now c.in-Some-split_first.told.now
    (subst (All IsSum) second c.requires.sums)

pub push_subscript-requires-clause-low : goal.push_subscript-requires-clause-low
push_subscript-requires-clause-low t c =
    let second : c.args.told.now ≡ c.in-Some-split_first.high.now ∷ c.in-Some-split_first.told.now = search rules in
    let third : c.in-Some-split_first.told.now ≡ c.in-Some-split_first-2.low.now ∷ c.in-Some-split_first-2.told.now =
    search rules in
    All-head IsSum c.in-Some-split_first-2.low.now c.in-Some-split_first-2.told.now
    (subst (All IsSum) third (All-tail IsSum c.in-Some-split_first.high.now c.in-Some-split_first.told.now
    (subst (All IsSum) second c.requires.sums)))

pub push_cells-requires : goal.push_cells-requires
push_cells-requires t c =
    let first : c.args.writes.now ≡ c.in-Some.write.now ∷ c.in-Some.writes.now = search rules in
    let second : c.args.told.now ≡ c.in-Some-split_first.high.now ∷ c.in-Some-split_first.told.now = search rules in
    let third : c.in-Some-split_first.told.now ≡ c.in-Some-split_first-2.low.now ∷ c.in-Some-split_first-2.told.now =
    search rules in (
      omega (arith, ap length first),
      (
        c.requires.here,
        (
          c.requires.root,
          (
            subst (All (λ i. i < 6)) (sym c.places_behind-behind.ensures)
                (behind_kept (λ i. i < 6) c.in-Some.write.now c.args.places.now c.requires.places),
            (
              All-tail (IsWithin (2 ^ 32)) c.in-Some.write.now c.in-Some.writes.now
                  (subst (All (IsWithin (2 ^ 32))) first c.requires.writes),
              All-tail IsSum c.in-Some-split_first-2.low.now c.in-Some-split_first-2.told.now
                  (subst (All IsSum) third (All-tail IsSum c.in-Some-split_first.high.now c.in-Some-split_first.told.now
                  (subst (All IsSum) second c.requires.sums))),
            ),
          ),
        ),
      ),
    )

pub returns : goal.returns
returns t c =
    let first : c.args.writes.now ≡ c.in-Some.write.now ∷ c.in-Some.writes.now = search rules in
    let second : c.args.told.now ≡ c.in-Some-split_first.high.now ∷ c.in-Some-split_first.told.now = search rules in
    let third : c.in-Some-split_first.told.now ≡ c.in-Some-split_first-2.low.now ∷ c.in-Some-split_first-2.told.now =
    search rules in
    let sums : All IsSum c.in-Some-split_first.told.now =
    All-tail IsSum c.in-Some-split_first.high.now c.in-Some-split_first.told.now
    (subst (All IsSum) second c.requires.sums) in
    on_ok_weaker c.push_cells.result
    (λ h. cells_next c.args.here c.args.root c.args.places.now c.places_behind-behind.result.now c.args.writes.now
    c.in-Some.write.now c.in-Some.writes.now c.args.told.now c.in-Some-split_first.high.now c.in-Some-split_first-2.low.now
    c.in-Some-split_first.told.now c.in-Some-split_first-2.told.now c.next_test.result c.args.proofs.now
    c.push_subscript.new.proofs c.push_cells.new.proofs first second third
    (All-head IsSum c.in-Some-split_first.high.now c.in-Some-split_first.told.now
    (subst (All IsSum) second c.requires.sums))
    (All-head IsSum c.in-Some-split_first-2.low.now c.in-Some-split_first-2.told.now (subst (All IsSum) third sums))
    c.next_test.ensures c.places_behind-behind.ensures c.in_ok-push_subscript.ensures h)
    c.push_cells.ensures
