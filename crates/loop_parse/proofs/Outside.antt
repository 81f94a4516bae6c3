-- Whether brackets are open.
use Rattle.std.proofs.Common.{◌≡◌, Bool, true, false, List, [], ◌∷◌, ◌++◌, refl, sym, ap, ◌∙◌, reverse}
use Rattle.std.specs.Prelude.{IsTrue, ◌↔◌}
use Rattle.std.proofs.lemmas.Grind.{reverse_onto}
use Rattle.loop_parse.specs.declared.expression.Frame.{Frame}
use Rattle.loop_parse.specs.declared.expression.Reading.{Reading}
use Rattle.loop_parse.specs.ExpressionMachine.{has_no_bracket}

some_bracket : (k : List Frame) (f : Frame) (r : Reading) → has_no_bracket (k ++ f ∷ [], r) ≡ false
some_bracket [] f r = refl
some_bracket (g ∷ k) f r = refl

pub no_bracket : (b : Bool) (outer : List Frame) (r : Reading) → (IsTrue b ↔ (outer ≡ []))
    → b ≡ has_no_bracket (reverse outer, r)
no_bracket true [] r h = refl
no_bracket false [] r h = absurd (no_truth (h.1 refl))
  where
    no_truth : IsTrue false → ⊥
    no_truth e = cc
no_bracket true (f ∷ outer) r h = absurd (absent (h.0 refl))
  where
    absent : f ∷ outer ≡ [] → ⊥
    absent e = cc
no_bracket false (f ∷ outer) r h =
    sym (ap (λ (k : List Frame). has_no_bracket (k, r)) (reverse_onto outer f []) ∙ some_bracket (reverse outer) f r)
