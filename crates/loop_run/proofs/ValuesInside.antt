-- The values of an array's cells are those at all subscripts.
use Rattle.std.proofs.Common.{◌≡◌, ℕ, ℤ, pos, ◌+ℤ◌, ◌-ℤ◌, ◌<ℤ◌, List, [], ◌∷◌, ◌++◌, map, refl, sym, ap, ◌∙◌}
use Rattle.std.proofs.Common.{append_assoc}
use Rattle.std.specs.List.{flat_map}
use Rattle.std.proofs.lemmas.List.{append-nil, map-append}
use Rattle.sanlp.specs.Cells.{all_subscripts, counted, natural}
use Rattle.sanlp.specs.Memory.{Memory, cell_value}
use Rattle.loop_run.specs.Outputs.{values_inside}
use Rattle.loop_run.proofs.HalfOpen.{counted_step}

module _ (m : Memory) (array : ℕ) where
  -- the cells whose first subscripts are given
  abbrev cells_inside : List (List ℤ) → List ℤ → List ℤ
  cells_inside rests at = map (λ rest. cell_value m (array, at ++ rest)) rests

  shifted : (v : ℤ) (at : List ℤ) (rests : List (List ℤ))
      → cells_inside rests (at ++ v ∷ []) ≡ cells_inside (map (λ rest. v ∷ rest) rests) at
  shifted v at [] = refl
  shifted v at (rest ∷ rests) =
      ap (λ l. cell_value m (array, l) ∷ cells_inside rests (at ++ v ∷ [])) (append_assoc at (v ∷ []) rest)
      ∙ ap (λ vs. cell_value m (array, at ++ v ∷ rest) ∷ vs) (shifted v at rests)

  spread : (inner : List ℤ) → ((at : List ℤ) → values_inside m array inner at ≡ cells_inside (all_subscripts inner) at)
      → (at vs : List ℤ)
      → flat_map (λ v. values_inside m array inner (at ++ v ∷ [])) vs
      ≡ cells_inside (flat_map (λ v. map (λ rest. v ∷ rest) (all_subscripts inner)) vs) at
  spread inner each at [] = refl
  spread inner each at (v ∷ vs) =
      ap (λ ps. ps ++ flat_map (λ v. values_inside m array inner (at ++ v ∷ [])) vs)
      (each (at ++ v ∷ []) ∙ shifted v at (all_subscripts inner))
      ∙ ap (λ ps. cells_inside (map (λ rest. v ∷ rest) (all_subscripts inner)) at ++ ps) (spread inner each at vs)
      ∙ sym (map-append (λ rest. cell_value m (array, at ++ rest)) (map (λ rest. v ∷ rest) (all_subscripts inner))
      (flat_map (λ v. map (λ rest. v ∷ rest) (all_subscripts inner)) vs))

  pub values_are : (extents at : List ℤ)
      → values_inside m array extents at ≡ map (λ rest. cell_value m (array, at ++ rest)) (all_subscripts extents)
  values_are [] at = ap (λ l. cell_value m (array, l) ∷ []) (sym (append-nil at))
  values_are (e ∷ extents) at = spread extents (values_are extents) at (counted (pos 0) (natural e))

-- one subscript more
pub values_more : (f : ℤ → List ℤ) (v end : ℤ) (before after all : List ℤ) → v <ℤ end → after ≡ before ++ f v
    → before ++ flat_map f (counted v (natural (end -ℤ v))) ≡ all
    → after ++ flat_map f (counted (v +ℤ pos 1) (natural (end -ℤ (v +ℤ pos 1)))) ≡ all
values_more f v end before after all lt e h =
    ap (λ values. values ++ flat_map f (counted (v +ℤ pos 1) (natural (end -ℤ (v +ℤ pos 1))))) e
    ∙ append_assoc before (f v) (flat_map f (counted (v +ℤ pos 1) (natural (end -ℤ (v +ℤ pos 1)))))
    ∙ ap (λ vs. before ++ flat_map f vs) (sym (counted_step v end lt))
    ∙ h
