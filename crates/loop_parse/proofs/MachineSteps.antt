-- Machines that are fed token by token.
use Rattle.std.proofs.Common.{◌≡◌, List, [], ◌∷◌, ◌++◌, refl, Option, Some, None}
use Rattle.loop_grammar.specs.Grammar.{Tok}
use Rattle.loop_parse.specs.Feeding.{fed_by}

pub fed_none : {S : Type 0} (step : S → Tok → Option S) (b : List Tok) → fed_by step None b ≡ None
fed_none step [] = refl
fed_none step (t ∷ b) = refl

pub fed_append : {S : Type 0} (step : S → Tok → Option S) (s : Option S) (a b : List Tok)
    → fed_by step s (a ++ b) ≡ fed_by step (fed_by step s a) b
fed_append step s [] b = refl
fed_append {S} step None (t ∷ a) b = none b
  where
    none : (b : List Tok) → None ≡ fed_by step None b
    none [] = refl
    none (t ∷ b) = refl
fed_append step (Some s) (t ∷ a) b = fed_append step (step s t) a b

pub some_is : {A : Type 0} (x y : A) → ◌≡◌ {A = Option A} (Some x) (Some y) → x ≡ y
some_is x y e = cc

pub none_is : {A : Type 0} (x : A) → ◌≡◌ {A = Option A} None (Some x) → ⊥
none_is x e = cc
