-- The tests of an order, level by level.
--
-- Where loops are left and both places have one, the tests of that level come first, and then those of the inner loops
-- over the system where these loops are equal. Where none is left, there is one more level exactly where the first
-- statement comes first. So a recursion over the common loops tests each level once, the outermost first.
use Rattle.std.proofs.Common.{◌≡◌, ◌-◌, ℕ, zero, suc, List, ◌∷◌, ◌++◌, Bool, refl, sym, ap}
use Rattle.std.proofs.Common.{◌∙◌, arith}
use Rattle.std.specs.Prelude.{Option}
use Rattle.affine_core.specs.declared.form.Form.{Form}
use Rattle.int_polyhedra.specs.declared.system.System.{System}
use Rattle.source_check.specs.declared.reference.Order.{Order}
use Rattle.source_check.specs.declared.tested.Leaf.{Leaf}
use Rattle.source_check.specs.declared.tested.Tested.{Tested}
use Rattle.source_check.specs.Making.{less_of, system_with}
use Rattle.source_check.specs.Tests.{after_one, after_all, made_levels, made_order, made_both, earlier_at, with_loop}
use Rattle.source_check.proofs.Outcomes.{after_append}
use Rattle.source_tree.specs.Rows.{Take, row_form}

module _ (vars : ℕ) (s : Option System) where
  level_next : (m : ℕ) (less : Bool) (a b a' b' : List Form) (v w : Form) → (m ≡ 0 → ⊥) → a ≡ v ∷ a' → b ≡ w ∷ b'
      → made_levels vars s m less a b
      ≡ earlier_at vars s v w ∷ made_levels vars (with_loop vars s v w) (m - 1) less a' b'
  level_next zero less a b a' b' v w h e f = absurd (h refl)
  level_next (suc m) less a b a' b' v w h e f =
      ap (λ a. made_levels vars s (suc m) less a b) e ∙ ap (λ b. made_levels vars s (suc m) less (v ∷ a') b) f
      ∙ ap (λ k. earlier_at vars s v w ∷ made_levels vars (with_loop vars s v w) k less a' b')
      (let k : m ≡ suc m - 1 = omega arith in k)

  both_next : (m : ℕ) (less : Bool) (a b a' b' : List Form) (v w : Form) (further : Order) → (m ≡ 0 → ⊥) → a ≡ v ∷ a'
      → b ≡ w ∷ b'
      → made_both vars s m less a b further
      ≡ made_order vars (earlier_at vars s v w) further
      ++ made_both vars (with_loop vars s v w) (m - 1) less a' b' further
  both_next zero less a b a' b' v w further h e f = absurd (h refl)
  both_next (suc m) less a b a' b' v w further h e f =
      ap (λ a. made_both vars s (suc m) less a b further) e
      ∙ ap (λ b. made_both vars s (suc m) less (v ∷ a') b further) f
      ∙ ap (λ k. made_order vars (earlier_at vars s v w) further
      ++ made_both vars (with_loop vars s v w) k less a' b' further) (let k : m ≡ suc m - 1 = omega arith in k)

-- one level was tested, and then those of the inner loops
module _ (leaf : Leaf) (vars : ℕ) (s level rest : Option System) (m : ℕ) (less : Bool) (a b a' b' : List Form)
    (v w : Form) (t : Tested)
    (more : m ≡ 0 → ⊥) (first : a ≡ v ∷ a') (second : b ≡ w ∷ b') (least most : Option Form)
    (least_is : least ≡ row_form vars (Take v)) (most_is : most ≡ row_form vars (Take w))
    (made : level ≡ system_with s (less_of vars least most)) (rest_is : rest ≡ with_loop vars s v w) where
  level_is : level ≡ earlier_at vars s v w
  level_is =
      made ∙ ap (λ f. system_with s (less_of vars f most)) least_is
      ∙ ap (λ f. system_with s (less_of vars (row_form vars (Take v)) f)) most_is

  pub levels_tested : (next end : Tested) → next ≡ after_one leaf t level
      → end ≡ after_all leaf next (made_levels vars rest (m - 1) less a' b')
      → end ≡ after_all leaf t (made_levels vars s m less a b)
  levels_tested next end next_is end_is =
      end_is ∙ ap (λ t. after_all leaf t (made_levels vars rest (m - 1) less a' b'))
      (next_is ∙ ap (after_one leaf t) level_is)
      ∙ ap (λ s'. after_all leaf (after_one leaf t (earlier_at vars s v w))
      (made_levels vars s' (m - 1) less a' b')) rest_is
      ∙ ap (after_all leaf t) (sym (level_next vars s m less a b a' b' v w more first second))

  pub both_tested : (further : Order) (next end : Tested) → next ≡ after_all leaf t (made_order vars level further)
      → end ≡ after_all leaf next (made_both vars rest (m - 1) less a' b' further)
      → end ≡ after_all leaf t (made_both vars s m less a b further)
  both_tested further next end next_is end_is =
      end_is
      ∙ ap (λ t. after_all leaf t (made_both vars rest (m - 1) less a' b' further))
      (next_is ∙ ap (λ s. after_all leaf t (made_order vars s further)) level_is)
      ∙ ap (λ s'. after_all leaf (after_all leaf t (made_order vars (earlier_at vars s v w) further))
      (made_both vars s' (m - 1) less a' b' further)) rest_is
      ∙ sym (after_append leaf t (made_order vars (earlier_at vars s v w) further)
      (made_both vars (with_loop vars s v w) (m - 1) less a' b' further))
      ∙ ap (after_all leaf t) (sym (both_next vars s m less a b a' b' v w further more first second))
