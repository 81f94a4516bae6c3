-- Coefficients that are gathered word by word, with their number.
use Rattle.std.proofs.Common.{◌≡◌, ◌∙◌, ◌+◌, ℕ, ℤ, List, [], ◌∷◌, ◌++◌, Result, Ok, Err, length, length-append, sym, ap}
use Rattle.std.proofs.Common.{arith, subst}
use Rattle.std.specs.Prelude.{IfOk}
use Rattle.cert_lines.specs.declared.error.Fault.{Fault}
use Rattle.cert_lines.specs.declared.error.Fault.TheVariants.{Words, Range}
use Rattle.cert_lines.specs.Words.{both, integer, made}
use Rattle.cert_lines.proofs.WordLists.{gathered, one_gathered}
use Rattle.tree_text.specs.Lines.{integers}

abbrev with_one : Result (List ℤ) Fault → Result ℤ Fault → Result (List ℤ) Fault
with_one said one = made (λ pair. pair.0 ++ pair.1 ∷ []) (both said one)

pub next_integer : (said more : Result (List ℤ) Fault) (one : Result ℤ Fault) (words rest : List (List ℕ))
    (word : List ℕ) (all : Result (List ℤ) Fault)
    → words ≡ word ∷ rest → one ≡ integer word → more ≡ with_one said one
    → gathered said (integers words) ≡ all → gathered more (integers rest) ≡ all
next_integer said more one words rest word all first is joined before =
    ap (λ (front : Result (List ℤ) Fault). gathered front (integers rest)) (joined ∙ ap (with_one said) is)
    ∙ one_gathered said (integer word) (integers rest)
    ∙ ap (λ (ws : List (List ℕ)). gathered said (integers ws)) (sym first) ∙ before

longer : (said : Result (List ℤ) Fault) (one : Result ℤ Fault) (count : ℕ) → IfOk said (λ coefs. length coefs ≡ count)
    → IfOk (with_one said one) (λ coefs. length coefs ≡ count + 1)
longer (Ok coefs) (Ok coef) count is =
    let last : length (coefs ++ coef ∷ []) ≡ length coefs + 1 = length-append coefs (coef ∷ []) in
    omega (arith, last, is)
longer (Ok coefs) (Err fault) count is = tt
longer (Err Words) one count is = tt
longer (Err Range) (Ok coef) count is = tt
longer (Err Range) (Err Words) count is = tt
longer (Err Range) (Err Range) count is = tt

pub one_more : (said more : Result (List ℤ) Fault) (one : Result ℤ Fault) (count : ℕ) → more ≡ with_one said one
    → IfOk said (λ coefs. length coefs ≡ count) → IfOk more (λ coefs. length coefs ≡ count + 1)
one_more said more one count joined before =
    subst (λ (coefs : Result (List ℤ) Fault). IfOk coefs (λ all. length all ≡ count + 1)) (sym joined)
    (longer said one count before)
