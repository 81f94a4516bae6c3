-- The references of a fire, word by word.
use Rattle.std.proofs.Common.{◌≡◌, ◌∙◌, ◌+◌, ℕ, List, [], ◌∷◌, ◌++◌, Result, Ok, Err, length, length-append, sym, ap}
use Rattle.std.proofs.Common.{arith, subst}
use Rattle.std.specs.Prelude.{IfOk}
use Rattle.net_core.specs.declared.refs.Ref.{Ref}
use Rattle.cert_lines.specs.declared.error.Fault.{Fault}
use Rattle.cert_lines.specs.declared.error.Fault.TheVariants.{Words, Range}
use Rattle.cert_lines.specs.Words.{both, made}
use Rattle.cert_lines.proofs.WordLists.{gathered, one_gathered}
use Rattle.cert_text.specs.Words.{reference, references}

-- these references, and then those of the words
abbrev pub all_behind : Result (List Ref) Fault → List (List ℕ) → Result (List Ref) Fault
all_behind refs words = gathered refs (references words)

abbrev with_one : Result (List Ref) Fault → Result Ref Fault → Result (List Ref) Fault
with_one refs one = made (λ pair. pair.0 ++ pair.1 ∷ []) (both refs one)

pub one_more : (refs : Result (List Ref) Fault) (word : List ℕ) (words : List (List ℕ))
    → all_behind (made (λ pair. pair.0 ++ pair.1 ∷ []) (both refs (reference word))) words
    ≡ all_behind refs (word ∷ words)
one_more refs word words = one_gathered refs (reference word) (references words)

pub next_reference : (refs more : Result (List Ref) Fault) (one : Result Ref Fault) (words rest : List (List ℕ))
    (word : List ℕ) (all : Result (List Ref) Fault)
    → words ≡ word ∷ rest → one ≡ reference word → more ≡ with_one refs one
    → all_behind refs words ≡ all → all_behind more rest ≡ all
next_reference refs more one words rest word all first is joined before =
    ap (λ (front : Result (List Ref) Fault). all_behind front rest) (joined ∙ ap (with_one refs) is)
    ∙ one_more refs word rest
    ∙ ap (λ (ws : List (List ℕ)). all_behind refs ws) (sym first) ∙ before

longer : (refs : Result (List Ref) Fault) (one : Result Ref Fault) (count : ℕ) → IfOk refs (λ refs. length refs ≡ count)
    → IfOk (with_one refs one) (λ refs. length refs ≡ count + 1)
longer (Ok refs) (Ok one) count is =
    let last : length (refs ++ one ∷ []) ≡ length refs + 1 = length-append refs (one ∷ []) in
    omega (arith, last, is)
longer (Ok refs) (Err fault) count is = tt
longer (Err Words) one count is = tt
longer (Err Range) (Ok one) count is = tt
longer (Err Range) (Err Words) count is = tt
longer (Err Range) (Err Range) count is = tt

pub one_longer : (refs more : Result (List Ref) Fault) (one : Result Ref Fault) (count : ℕ) → more ≡ with_one refs one
    → IfOk refs (λ refs. length refs ≡ count) → IfOk more (λ refs. length refs ≡ count + 1)
one_longer refs more one count joined before =
    subst (λ (all : Result (List Ref) Fault). IfOk all (λ refs. length refs ≡ count + 1)) (sym joined)
    (longer refs one count before)
