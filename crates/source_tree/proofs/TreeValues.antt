-- What a tree gives within the machine's numbers is what it gives.
use Rattle.std.proofs.Common.{◌≡◌, ℤ, pos, List, [], ◌∷◌, Bool, true, false, cond, refl, sym, ap}
use Rattle.std.proofs.Common.{◌∙◌, subst}
use Rattle.std.specs.Prelude.{Option, Some, None, Result, Ok, Err, IfOk}
use Rattle.std.specs.Result.{result_ok}
use Rattle.std.specs.Option.{option_map}
use Rattle.std.specs.Int.RustNames.{int_le}
use Rattle.std.proofs.lemmas.Option.{same_Some, option_and_then_some, cond_some}
use Rattle.affine_core.specs.declared.form.Form.{Form}
use Rattle.affine_core.specs.Affine.{form_at}
use Rattle.affine_core.specs.Within.{fits_64_bits, number_in_64_bits, value_in_128_bits}
use Rattle.affine_core.proofs.Linear.{combined_in_128_bits_is}
use Rattle.source_tree.specs.Gives.{values, gives, gives_step}
use Rattle.source_tree.specs.Walk.{Walks, walk_step, outcome_of, map_values, mapped_value}
use Rattle.source_tree.specs.Walk.{divides, with_quotient}
use Rattle.source_tree.specs.declared.tree.Found.{Found}
use Rattle.source_tree.specs.declared.tree.Found.TheVariants as found
use Rattle.source_tree.specs.declared.tree.Tree.{Tree}
use Rattle.source_tree.specs.declared.tree.Tree.TheOpen.{Tree-F, Test, Divides, Writer, Zero, Dead}
use Rattle.source_tree.specs.declared.tree.Tree.TheFolds.{map-Tree, fold-roll-Tree, ind-Tree}
use Rattle.source_tree.specs.declared.tree.Tree.TheViews.{roll-Tree}

map_some : {A B C : Type 0} (f : A → B) (o : Option A) (y : B) → option_map f o ≡ Some y
    → ((x : A) → o ≡ Some x → f x ≡ y → C) → C
map_some f None y e go = absurd (let g : None ≡ Some y = e in cc)
map_some f (Some x) y e go = go x refl (same_Some (f x) y e)

value_is : (form : Form) (at : List ℤ) (v : ℤ) → value_in_128_bits form at ≡ Some v → v ≡ form_at form at
value_is form at v e = combined_in_128_bits_is form.constant form.coefs at v e

mapped_is : (forms : List Form) (at vs : List ℤ) → map_values forms at ≡ Some vs → vs ≡ values forms at
mapped_is [] at vs e = sym (same_Some [] vs e)
mapped_is (form ∷ forms) at vs e =
    option_and_then_some (λ v. option_map (λ rest. v ∷ rest) (map_values forms at)) (mapped_value form at) vs e
    (λ v is is'. map_some (λ rest. v ∷ rest) (map_values forms at) vs is'
    (λ rest more whole.
    option_and_then_some number_in_64_bits (value_in_128_bits form at) v is
    (λ z value short.
    let first : v ≡ form_at form at = sym ((cond_some (fits_64_bits z) z v short).1) ∙ value_is form at z value in
    sym whole ∙ ap (λ v. v ∷ rest) first ∙ ap (λ rest. form_at form at ∷ rest) (mapped_is forms at rest more))))

IsGiven : Tree → Type 0
IsGiven tree = (at : List ℤ) (outcome : Found) → outcome_of tree at ≡ Some outcome → outcome ≡ gives tree at

abbrev Given : Type 0
Given = (tree : Tree) × IsGiven tree

layer_given : (y : Tree-F Given) → IsGiven (roll-Tree (map-Tree Given Tree (λ e. e.0) y))
unfolding outcome_of gives IsGiven
layer_given (Test form a b) at outcome e =
    option_and_then_some (λ v. cond (int_le (pos 0) v) (outcome_of a.0 at) (outcome_of b.0 at))
    (value_in_128_bits form at) outcome
    (ap (λ (k : Walks). k at) (sym (fold-roll-Tree Walks walk_step (Test form a.0 b.0))) ∙ e)
    (λ v is end.
    go (int_le (pos 0) v) end ∙ ap (λ v. cond (int_le (pos 0) v) (gives a.0 at) (gives b.0 at)) (value_is form at v is)
    ∙ ap (λ (k : List ℤ → Found). k at) (sym (fold-roll-Tree (List ℤ → Found) gives_step (Test form a.0 b.0)))) where
      go : (t : Bool) → cond t (outcome_of a.0 at) (outcome_of b.0 at) ≡ Some outcome
          → outcome ≡ cond t (gives a.0 at) (gives b.0 at)
      go true e = a.1 at outcome e
      go false e = b.1 at outcome e
layer_given (Divides form d a b) at outcome e =
    option_and_then_some
    (λ v. cond (divides v d) (outcome_of a.0 (with_quotient at v d)) (outcome_of b.0 (with_quotient at v d)))
    (value_in_128_bits form at) outcome
    (ap (λ (k : Walks). k at) (sym (fold-roll-Tree Walks walk_step (Divides form d a.0 b.0))) ∙ e)
    (λ v is end.
    go (divides v d) (with_quotient at v d) end
    ∙ ap (λ v. cond (divides v d) (gives a.0 (with_quotient at v d)) (gives b.0 (with_quotient at v d)))
    (value_is form at v is)
    ∙ ap (λ (k : List ℤ → Found). k at)
    (sym (fold-roll-Tree (List ℤ → Found) gives_step (Divides form d a.0 b.0)))) where
      go : (t : Bool) (more : List ℤ) → cond t (outcome_of a.0 more) (outcome_of b.0 more) ≡ Some outcome
          → outcome ≡ cond t (gives a.0 more) (gives b.0 more)
      go true more e = a.1 more outcome e
      go false more e = b.1 more outcome e
layer_given (Writer s forms proofs) at outcome e =
    map_some (λ vs. found.At (record { statement = s; at = vs })) (map_values forms at) outcome
    (ap (λ (k : Walks). k at) (sym (fold-roll-Tree Walks walk_step (Writer s forms proofs))) ∙ e)
    (λ vs is end.
    sym end ∙ ap (λ vs. found.At (record { statement = s; at = vs })) (mapped_is forms at vs is)
    ∙ ap (λ (k : List ℤ → Found). k at) (sym (fold-roll-Tree (List ℤ → Found) gives_step (Writer s forms proofs))))
layer_given (Zero proofs) at outcome e =
    sym (same_Some found.Zero outcome
    (ap (λ (k : Walks). k at) (sym (fold-roll-Tree Walks walk_step (Zero proofs))) ∙ e))
    ∙ ap (λ (k : List ℤ → Found). k at) (sym (fold-roll-Tree (List ℤ → Found) gives_step (Zero proofs)))
layer_given (Dead proof) at outcome e =
    sym (same_Some found.Dead outcome
    (ap (λ (k : Walks). k at) (sym (fold-roll-Tree Walks walk_step (Dead proof))) ∙ e))
    ∙ ap (λ (k : List ℤ → Found). k at) (sym (fold-roll-Tree (List ℤ → Found) gives_step (Dead proof)))

-- what a tree gives within the machine's numbers is what it gives over unbounded ones
pub walked_is_given : (tree : Tree) (at : List ℤ) (outcome : Found) → outcome_of tree at ≡ Some outcome
    → outcome ≡ gives tree at
unfolding IsGiven
walked_is_given = ind-Tree IsGiven (λ x y is. subst (λ z. IsGiven (roll-Tree z)) is (layer_given y))

-- so the result of the walk is what the tree gives
pub eval_gives : {E : Type 0} (tree : Tree) (at : List ℤ) (r : Result Found E) → result_ok r ≡ outcome_of tree at
    → IfOk r (λ outcome. outcome ≡ gives tree at)
eval_gives tree at (Ok outcome) e = walked_is_given tree at outcome (sym e)
eval_gives tree at (Err x) e = tt
