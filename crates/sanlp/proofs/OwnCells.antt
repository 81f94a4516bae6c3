-- The cell that a source or sink accesses is the one of its loop values.
use Rattle.std.proofs.Common.{◌≡◌, ℕ, ℤ, pos, List, [], ◌∷◌, map, length, refl, sym, ap, ◌∙◌, suc}
use Rattle.std.specs.Prelude.{slice_index_or}
use Rattle.std.specs.List.{flat_map, range_with_len}
use Rattle.affine_core.proofs.Linear.{variable_at}
use Rattle.affine_core.specs.Affine.{form_at, variable_form}
use Rattle.sanlp.specs.Cells.{natural, counted, all_subscripts}
use Rattle.sanlp.specs.Access.{cell_at}
use Rattle.sanlp.specs.WellFormed.{own_cell}
use Rattle.sanlp.proofs.Each.{Each, each_append, each_map, each_then}
use Rattle.sanlp.proofs.Lists.{all_elements}

variables_at : (depth : ℕ) (at : List ℤ) (vs : List ℕ)
    → map (λ form. form_at form at) (map (variable_form depth) vs) ≡ map (λ v. slice_index_or at v (pos 0)) vs
variables_at depth at [] = refl
variables_at depth at (v ∷ vs) =
    ap (λ x. x ∷ map (λ form. form_at form at) (map (variable_form depth) vs)) (variable_at depth v at)
    ∙ ap (λ xs. slice_index_or at v (pos 0) ∷ xs) (variables_at depth at vs)

pub own_cell_at : (depth a : ℕ) (at : List ℤ) → length at ≡ depth → cell_at at (own_cell depth a) ≡ (a, at)
own_cell_at depth a at e =
    ap (λ subscripts. (a, subscripts))
    (variables_at depth at (range_with_len 0 depth)
    ∙ ap (λ k. map (λ v. slice_index_or at v (pos 0)) (range_with_len 0 k)) (sym e) ∙ all_elements at)

-- an array's subscripts are as many as its extents
subscripts_from : (extents : List ℤ) (values : List ℤ)
    → Each (λ at. length at ≡ length extents) (all_subscripts extents)
    → Each (λ at. length at ≡ suc (length extents)) (flat_map (λ v. map (λ at. v ∷ at) (all_subscripts extents)) values)
subscripts_from extents [] h = tt
subscripts_from extents (v ∷ values) h =
    each_append (λ at. length at ≡ suc (length extents)) (map (λ at. v ∷ at) (all_subscripts extents)) _
    (each_map (λ at. length at ≡ suc (length extents)) (λ at. v ∷ at) (all_subscripts extents)
    (each_then _ _ (all_subscripts extents) (λ at e. ap suc e) h))
    (subscripts_from extents values h)

pub length_subscripts : (extents : List ℤ) → Each (λ at. length at ≡ length extents) (all_subscripts extents)
length_subscripts [] = (refl, tt)
length_subscripts (e ∷ extents) = subscripts_from extents (counted (pos 0) (natural e)) (length_subscripts extents)
