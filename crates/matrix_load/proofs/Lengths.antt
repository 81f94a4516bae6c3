-- The inputs have the lengths that the nest wants.
use Rattle.std.proofs.Common.{◌≡◌, ◌≤◌, ◌*◌, ℕ, ℤ, List, [], ◌∷◌, length, map, sym, ap, ◌∙◌, arith}
use Rattle.std.proofs.lemmas.List.FromFn.{length-map-range_with_len}
use Rattle.sanlp.specs.Cells.{input_count}
use Rattle.sanlp.specs.declared.nest.Nest.{Nest}
use Rattle.loop_grammar.specs.declared.tree.Tree.{Tree}
use Rattle.loop_class.specs.Binding.{nest_of}
use Rattle.matrix_load.specs.Cells.{matrix_inputs}
use Rattle.matrix_load.specs.Product.{IsMatrixNest, size_given}
use Rattle.matrix_load.proofs.Binding.{input_counts}
use Rattle.matrix_load.proofs.NoRefusal.{same_tree}

lengths : (count : ℕ) → map length (matrix_inputs count) ≡ count * (count * 1) ∷ count * (count * 1) ∷ 0 ∷ []
lengths count =
    let once : count * count ≡ count * (count * 1) = omega arith in
    simp (length-map-range_with_len, once)

pub lengths_fit : (count : ℕ) (lists : List (List ℤ)) (nest : Nest) → count ≤ 2147483647 → lists ≡ matrix_inputs count
    → IsMatrixNest count nest
    → map length lists ≡ map input_count nest.arrays
lengths_fit count lists nest small are is =
    let tree = same_tree is.found is.tree is.has_tokens is.has_tree in
    let declared : map input_count nest.arrays ≡ count * (count * 1) ∷ count * (count * 1) ∷ 0 ∷ [] =
    ap (map input_count) (is.is_bound.arrays ∙ ap (λ (t : Tree). (nest_of t (size_given count)).arrays) tree)
    ∙ input_counts count small in
    ap (map length) are ∙ lengths count ∙ sym declared
