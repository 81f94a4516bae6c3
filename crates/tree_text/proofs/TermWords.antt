-- Terms that are gathered two words at a time.
use Rattle.std.proofs.Common.{◌≡◌, ◌∙◌, ℕ, List, [], ◌∷◌, ◌++◌, Result, sym, ap}
use Rattle.int_polyhedra.specs.declared.system.Term.{Term}
use Rattle.cert_lines.specs.declared.error.Fault.{Fault}
use Rattle.cert_lines.specs.Words.{both, made}
use Rattle.cert_lines.proofs.WordLists.{gathered, one_gathered}
use Rattle.tree_text.specs.Lines.{term, terms}

abbrev with_one : Result (List Term) Fault → Result Term Fault → Result (List Term) Fault
with_one said one = made (λ pair. pair.0 ++ pair.1 ∷ []) (both said one)

pub next_terms : (said more : Result (List Term) Fault) (one : Result Term Fault) (words others rest : List (List ℕ))
    (row times : List ℕ) (all : Result (List Term) Fault)
    → words ≡ row ∷ others → others ≡ times ∷ rest → one ≡ term row times → more ≡ with_one said one
    → gathered said (terms words) ≡ all → gathered more (terms rest) ≡ all
next_terms said more one words others rest row times all first second is joined before =
    let words_are : words ≡ row ∷ (times ∷ rest) = first ∙ ap (λ (ws : List (List ℕ)). row ∷ ws) second in
    ap (λ (front : Result (List Term) Fault). gathered front (terms rest)) (joined ∙ ap (with_one said) is)
    ∙ one_gathered said (term row times) (terms rest)
    ∙ ap (λ (ws : List (List ℕ)). gathered said (terms ws)) (sym words_are) ∙ before
