-- What was judged of words, taken apart.
use Rattle.std.proofs.Common.{◌≡◌, ◌⊎◌, inl, inr, ℕ, ◌<◌, true, if◌then◌else◌, List, ◌∷◌, Result, Ok, Err, decimal}
use Rattle.std.proofs.Common.{length, refl, ap}
use Rattle.std.specs.Prelude.{bytes_eq}
use Rattle.std.specs.List.{join_with_byte, list_all}
use Rattle.std.proofs.lemmas.Bool.{cases_Bool}
use Rattle.std.proofs.lemmas.Slice.Eq.{bytes_eq-Decides}
use Rattle.cert_lines.specs.declared.error.Fault.{Fault}
use Rattle.cert_lines.specs.declared.error.Fault.TheVariants.{Words, Range}
use Rattle.cert_lines.specs.Words.{IsInRange, both, just, made, number}
use Rattle.cert_lines.proofs.Codecs.{IsSpelled}
use Rattle.cert_lines.proofs.Numerals.{decimal_of_number}
use Rattle.cert_lines.proofs.LineWords.{is_word}

-- Values that come of others

pub made_ok : {A B : Type 0} (f : A → B) (said : Result A Fault) (y : B) → made f said ≡ Ok y → (x : A) × (said ≡ Ok x)
    × (f x ≡ y)
made_ok f (Ok x) y e = (x, refl, cc)
made_ok f (Err fault) y e = absurd (cc e)

pub both_ok : {A B : Type 0} (a : Result A Fault) (b : Result B Fault) (p : A × B) → both a b ≡ Ok p → (a ≡ Ok p.0)
    × (b ≡ Ok p.1)
both_ok (Ok x) (Ok y) p e =
    let same : (x, y) ≡ p = cc in
    (ap (λ (q : _ × _). Ok q.0) same, ap (λ (q : _ × _). Ok q.1) same)
both_ok (Ok x) (Err fault) p e = absurd (cc e)
both_ok (Err Words) b p e = absurd (cc e)
both_ok (Err Range) (Ok y) p e = absurd (cc e)
both_ok (Err Range) (Err Words) p e = absurd (cc e)
both_ok (Err Range) (Err Range) p e = absurd (cc e)

-- what was said behind a keyword
pub behind_keyword : {A : Type 0} (word wanted : List ℕ) (said : Result A Fault) (x : A)
    → (if bytes_eq word wanted then said else Err Words) ≡ Ok x → (word ≡ wanted) × (said ≡ Ok x)
behind_keyword word wanted said x e = elim (cases_Bool (bytes_eq word wanted)) [
  | inl same ↦ ((bytes_eq-Decides word wanted).0 same, rw same at e)
  | inr other ↦ let f : ◌≡◌ {A = Result _ Fault} (Err Words) (Ok x) = rw other at e in absurd (cc f)
]

-- what was said at one of several keywords
pub at_keyword : {A : Type 0} (word wanted : List ℕ) (said others : Result A Fault) (x : A)
    → (if bytes_eq word wanted then said else others) ≡ Ok x
    → ((word ≡ wanted) × (said ≡ Ok x)) ⊎ (others ≡ Ok x)
at_keyword word wanted said others x e = elim (cases_Bool (bytes_eq word wanted)) [
  | inl same ↦ inl ((bytes_eq-Decides word wanted).0 same, rw same at e)
  | inr other ↦ inr (rw other at e)
]

-- two numbers that are read together
pub two_numbers : (v w : List ℕ) (p : ℕ × ℕ) → both (number v) (number w) ≡ Ok p → ((v ≡ decimal p.0) × IsInRange p.0)
    × ((w ≡ decimal p.1) × IsInRange p.1)
two_numbers v w p e = let k = both_ok (number v) (number w) p e
    in (decimal_of_number v p.0 k.0, decimal_of_number w p.1 k.1)

-- what holds of a value holds of the one that it is
pub of_equal : {A : Type 0} (words : A → List (List ℕ)) (P : A → Type 0) (read : List (List ℕ)) (x y : A) → x ≡ y
    → (read ≡ words x) × P x → (read ≡ words y) × P y
of_equal words P read x y same h = rw (← same) h

pub same_words : (word other : List ℕ) (words others : List (List ℕ)) → word ≡ other → words ≡ others → word ∷ words
    ≡ other ∷ others
same_words word other words others first rest = cc

-- Lines of one text

pub just_spelled : (words : List (List ℕ)) → 0 < length words → list_all is_word words ≡ true
    → IsSpelled (just (join_with_byte 32 words)) (λ (u : Unit). words) (λ u. Unit {0})
just_spelled words some spelled = record {
  some = λ u. some;
  spelled = λ u k. spelled;
  back = λ u k. just_back (join_with_byte 32 words) u;
  forth = λ read u e. (just_forth (join_with_byte 32 read) (join_with_byte 32 words) u e, tt);
}
  where
    just_back : (text : List ℕ) (u : Unit)
        → ◌≡◌ {A = Result Unit Fault} (if bytes_eq text text then Ok tt else Err Words) (Ok u)
    just_back text u = rw ((bytes_eq-Decides text text).1 refl) refl

    just_forth : (read text : List ℕ) (u : Unit)
        → ◌≡◌ {A = Result Unit Fault} (if bytes_eq read text then Ok tt else Err Words) (Ok u) → read ≡ text
    just_forth read text u e = (behind_keyword read text (Ok tt) u e).0
