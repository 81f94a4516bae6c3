use Rattle.std.proofs.Common.{◌≡◌, ◌-◌, ◌*◌, ◌∙◌, sym, ap, subst, arith}
use Rattle.std.specs.Prelude.{Some, None, unsigned_abs}
use Rattle.std.specs.Int.{w128}
use Rattle.std.specs.Result.{result_ok}
use Rattle.std.proofs.lemmas.Int.{to_z-of_z}
use Rattle.affine_core.specs.Affine.{form_product}
use Rattle.affine_core.specs.Within.{form_in_128_bits}
use Rattle.tree_graphs.proofs.OrderEdges.{variable_within}
use Rattle.tree_sums.specs.Parts.{IsWithin}
use Rattle.tree_sums.proofs.Bound.{in_bits_within, product_within}
use Rattle.stride_trees.proofs.contexts.multiple.Goals as goal

pub unreachable-requires : goal.unreachable-requires
unreachable-requires c =
    let v = c.variable.result in
    let k = c.args.times in
    let small : IsWithin 1 v = subst (IsWithin 1) (sym c.variable.ensures.form)
    (variable_within c.args.vars (c.args.vars - 1)) in
    let fits : form_in_128_bits (form_product k v) ≡ Some (form_product k v)
    = in_bits_within (unsigned_abs k * 1) (form_product k v) (product_within 1 k v small)
    (omega (arith, c.requires.small)) in
    let none : None ≡ Some (form_product k v) = sym (ap result_ok c.in-Err.is)
    ∙ c.scale.ensures.exact ∙ ap (λ k. form_in_128_bits (form_product k v)) (to_z-of_z w128 k c.ranges.times)
    ∙ fits in
    cc
