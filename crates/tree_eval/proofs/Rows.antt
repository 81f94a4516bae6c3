-- What a tree gives along the innermost loop. While the forms of the path's tests stay on their side of zero, the path
-- is the same at each turn: a test gives there what the tree below it gives, by the side where its form begins. At the
-- end of the path, a writer's values are those of the lines of its map. A row is shortened at each test to the turns
-- before its form changes sides, and nothing is said of those after that.
use Rattle.std.proofs.Common.{◌≡◌, ℤ, pos, ◌+ℤ◌, ◌-ℤ◌, ◌≤ℤ◌, List, [], ◌∷◌, ◌++◌, refl, sym, ap, ◌∙◌, subst}
use Rattle.std.proofs.Common.{Bool, cond, arith}
use Rattle.std.specs.Prelude.{Option, Some, None, IfSome}
use Rattle.std.specs.Int.RustNames.{int_le}
use Rattle.std.proofs.lemmas.Int.{ints}
use Rattle.affine_core.specs.declared.form.Form.{Form}
use Rattle.affine_core.specs.Within.{value_in_128_bits}
use Rattle.source_tree.specs.declared.tree.Tree.{Tree}
use Rattle.source_tree.specs.declared.tree.Tree.TheViews.{Test}
use Rattle.source_tree.specs.Walk.{outcome_of}
use Rattle.source_tree.proofs.WalkOutcomes.{test_taken}
use Rattle.tree_eval.specs.declared.leaf.Leaf.{Leaf}
use Rattle.tree_eval.specs.declared.line.Line.{Line}
use Rattle.tree_eval.specs.declared.row.Row.{Row}
use Rattle.tree_eval.specs.Stretches.{GivesAlong, IsLine, IsRow, IsSmall, line_at, found_at, turn_limit}

-- the row of the tree that a test takes
pub test_row : (p : Tree) (form : Form) (a b chosen : Tree) (outer : List ℤ) (first limit turns : ℤ) (line : Line)
    (t : Bool) (r : Option Row)
    → p ≡ Test form a b → IsLine (λ turn. value_in_128_bits form (outer ++ (first +ℤ turn) ∷ [])) line
    → turns ≤ℤ limit → limit ≤ℤ pos turn_limit
    → ((turn : ℤ) → pos 0 ≤ℤ turn → turn ≤ℤ turns → int_le (pos 0) (line_at line turn) ≡ int_le (pos 0) line.value)
    → int_le (pos 0) line.value ≡ t → chosen ≡ cond t a b
    → IfSome r (IsRow chosen outer first turns) → IfSome r (IsRow p outer first limit)
test_row p form a b chosen outer first limit turns line t None e is fewer few side sign choice row = tt
test_row p form a b chosen outer first limit turns line t (Some r) e is fewer few side sign choice row = record {
  not_negative = row.not_negative;
  few = (let h = row.few in omega (arith, ints));
  along = record {
    small = row.along.small;
    few = row.along.few;
    gives = λ turn from to.
        let here : turn ≤ℤ turns = (let h = row.few in omega (arith, ints)) in
        let there : turn ≤ℤ pos turn_limit = omega (arith, ints) in
        let at : List ℤ = outer ++ (first +ℤ turn) ∷ [] in
        sym (test_taken at at p form a b chosen (line_at line turn) t (Some (found_at r.leaf turn)) e refl
        (sym (is.is turn from there)) (side turn from here ∙ sign) choice (sym (row.along.gives turn from to)));
  };
}

-- the row of a leaf
pub leaf_row : (p : Tree) (outer : List ℤ) (first turns : ℤ) (leaf : Leaf) → IsSmall leaf → pos 0 ≤ℤ turns
    → turns ≤ℤ pos turn_limit
    → ((turn : ℤ) → pos 0 ≤ℤ turn → turn ≤ℤ pos turn_limit
    → outcome_of p (outer ++ (first +ℤ turn) ∷ []) ≡ Some (found_at leaf turn))
    → IsRow p outer first turns (record { turns = turns; leaf = leaf })
leaf_row p outer first turns leaf small not_negative few found = record {
  not_negative = not_negative;
  few = omega (arith, ints);
  along = record {
    small = small;
    few = few;
    gives = λ turn from to. (let there : turn ≤ℤ pos turn_limit = omega (arith, ints) in found turn from there);
  };
}

-- the stretch of a row
pub row_stretch : (tree : Tree) (outer outer' : List ℤ) (first limit last : ℤ) (row : Row) → IsRow tree outer first limit row
    → outer' ≡ outer → last ≡ first +ℤ row.turns → GivesAlong tree outer' first (last -ℤ first) row.leaf
row_stretch tree outer outer' first limit last row is same end =
    let turns : row.turns ≡ last -ℤ first = omega (arith, ints) in
    subst (λ o. GivesAlong tree o first (last -ℤ first) row.leaf) (sym same)
    (subst (λ t. GivesAlong tree outer first t row.leaf) turns is.along)

-- a value of a stretch
pub along_at : (tree : Tree) (outer : List ℤ) (first turns value : ℤ) (leaf : Leaf) → GivesAlong tree outer first turns leaf
    → first ≤ℤ value → (value -ℤ first) ≤ℤ turns
    → outcome_of tree (outer ++ value ∷ []) ≡ Some (found_at leaf (value -ℤ first))
along_at tree outer first turns value leaf along from to =
    let not_negative : pos 0 ≤ℤ (value -ℤ first) = omega (arith, ints) in
    let same : first +ℤ (value -ℤ first) ≡ value = omega (arith, ints) in
    ap (λ v. outcome_of tree (outer ++ v ∷ [])) (sym same) ∙ along.gives (value -ℤ first) not_negative to
