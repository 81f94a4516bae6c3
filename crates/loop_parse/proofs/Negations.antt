-- Signs before a factor.
use Rattle.std.proofs.Common.{◌≡◌, ℕ, List, [], ◌∷◌, ◌++◌, refl, ap}
use Rattle.loop_grammar.specs.declared.tree.Operand.{Operand}
use Rattle.loop_grammar.specs.declared.tree.Operand as operand
use Rattle.loop_parse.specs.ExpressionMachine.{negated}

pub negated_append : (ps : List ℕ) (p : ℕ) (v : Operand) → negated (ps ++ p ∷ []) v ≡ negated ps (operand.Neg p v)
negated_append [] p v = refl
negated_append (q ∷ ps) p v = ap (λ (x : Operand). operand.Neg q x) (negated_append ps p v)
