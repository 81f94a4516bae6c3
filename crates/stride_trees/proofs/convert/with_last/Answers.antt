use Rattle.std.proofs.Common.{◌≡◌, ◌++◌, ◌∷◌, [], length, ap, ◌∙◌, arith}
use Rattle.stride_trees.proofs.convert.with_last.Goals as goal

pub converted-requires : goal.converted-requires
converted-requires c =
    let is : c.push.new.self ≡ c.args.last ∷ [] =
    c.in_ok-push.ensures.ok ∙ ap (λ xs. xs ++ c.args.last ∷ []) c.new-sources.ensures in
    omega (arith, c.requires.here, ap length c.as_slice.ensures, ap length is)
