-- Words that are taken one by one.
use Rattle.std.proofs.Common.{◌≡◌, ℕ, suc, ◌+◌, Bool, true, false, not, List, ◌∷◌, length, refl, ap, ◌∙◌, arith}
use Rattle.std.specs.Prelude.{bytes_eq}

-- one word, and those that were taken then
pub one_before : (all rest words : List (List ℕ)) (word : List ℕ) → all ≡ word ∷ rest → rest ≡ words
    → all ≡ word ∷ words
one_before all rest words word first others = first ∙ ap (λ (more : List (List ℕ)). word ∷ more) others

-- one counted more, and the words behind it one less
pub one_counted : (count all : ℕ) (words rest : List (List ℕ)) (word : List ℕ) → words ≡ word ∷ rest
    → count + length words ≡ all → count + 1 + length rest ≡ all
one_counted count all words rest word first before =
    let longer : length words ≡ suc (length rest) = ap (λ (ws : List (List ℕ)). length ws) first in
    omega (arith, longer, before)

-- a word that doesn't differ from this text is it
pub is_keyword : (word text wanted : List ℕ) → false ≡ not (bytes_eq word text) → text ≡ wanted
    → bytes_eq word wanted ≡ true
is_keyword word text wanted e same = rw (← same) (passed (bytes_eq word text) e)
  where
    passed : (test : Bool) → false ≡ not test → test ≡ true
    passed true e = refl
    passed false e = cc
