-- The lines of trees and proofs are read as they are written.
--
-- For each kind of line `IsSpelled` joins four facts: it has a word at least, its words are words, they are judged as
-- the value (`back`), and a line that is judged as a value is that value's, which is in range (`forth`). The first word
-- tells the kind; behind it lists of coefficients and of terms are read by induction, up to 18 coefficients, all of
-- them in 128 bits, and the other words one by one. How lines make trees and proofs isn't treated here.
use Rattle.std.proofs.Common.{◌≡◌, inl, inr, ℕ, ◌<◌, ◌≤◌, ℤ, true, nat_le, List, [], ◌∷◌, All, Result, Ok}
use Rattle.std.proofs.Common.{Err, codes, decimal, map, length, refl, ap, ◌∙◌, arith}
use Rattle.std.specs.Prelude.{IsTrue}
use Rattle.std.specs.Fmt.{signed_decimal}
use Rattle.std.specs.List.{flat_map, list_all}
use Rattle.std.proofs.lemmas.Bool.{cases_Bool, and_from, and_parts}
use Rattle.std.proofs.lemmas.Bool.Decides.{nat_tests}
use Rattle.std.proofs.lemmas.List.{length-map}
use Rattle.std.proofs.lemmas.List.Elements.{All-nil, All-cons, All-head, All-tail}
use Rattle.affine_core.specs.declared.form.Form.{Form}
use Rattle.affine_core.specs.Within.{fits_128_bits}
use Rattle.int_polyhedra.specs.declared.system.Term.{Term}
use Rattle.cert_lines.specs.declared.error.Fault.{Fault}
use Rattle.cert_lines.specs.declared.error.Fault.TheVariants.{Words}
use Rattle.cert_lines.specs.Words.{IsInRange, both, integer, made, number}
use Rattle.cert_lines.proofs.Codecs.{IsSpelled, by_words}
use Rattle.cert_lines.proofs.Verdicts.{at_keyword, behind_keyword, both_ok, made_ok, of_equal, same_words, two_numbers}
use Rattle.cert_lines.proofs.Numerals.{decimal_of_integer, decimal_of_number, integer_of_decimal, number_of_decimal}
use Rattle.cert_lines.proofs.LineWords.{is_word, word_of_integer, word_of_number}
use Rattle.tree_text.specs.declared.lines.ProofLine.{ProofLine}
use Rattle.tree_text.specs.declared.lines.ProofLine.TheVariants as of_proof
use Rattle.tree_text.specs.declared.lines.TreeLine.{TreeLine}
use Rattle.tree_text.specs.declared.lines.TreeLine.TheVariants as of_tree
use Rattle.tree_text.specs.Lines.{coefficients, cut_words, dead_words, divides_words, form, integers, map_line}
use Rattle.tree_text.specs.Lines.{proof_line, term, terms, tree_line, writer_words, zero_words}
use Rattle.tree_text.specs.TreeText.{FormIsInRange, TermIsInRange, form_words, term_words}

-- Forms

integers_back : (zs : List ℤ) → list_all fits_128_bits zs ≡ true → integers (map signed_decimal zs) ≡ Ok zs
integers_back [] fit = refl
integers_back (z ∷ zs) fit =
    let parts = and_parts (fits_128_bits z) (list_all fits_128_bits zs) fit in
    rw (integer_of_decimal z parts.0, integers_back zs parts.1) refl

integers_forth : (words : List (List ℕ)) (zs : List ℤ) → integers words ≡ Ok zs → (words ≡ map signed_decimal zs)
    × (list_all fits_128_bits zs ≡ true)
integers_forth [] zs e = let none : [] ≡ zs = cc in rw (← none) (refl, refl)
integers_forth (word ∷ words) zs e =
    let k = made_ok (λ (n : ℤ × List ℤ). n.0 ∷ n.1) (both (integer word) (integers words)) zs e in
    let p = both_ok (integer word) (integers words) k.0 k.1 in
    let first = decimal_of_integer word k.0.0 p.0 in
    let more = integers_forth words k.0.1 p.1 in
    let list : k.0.0 ∷ k.0.1 ≡ zs = k.2 in
    let same : word ∷ words ≡ map signed_decimal (k.0.0 ∷ k.0.1) = same_words _ _ _ _ first.0 more.0 in
    rw (← list) (same, and_from (fits_128_bits k.0.0) (list_all fits_128_bits k.0.1) first.1 more.1)

integers_are_words : (zs : List ℤ) → list_all fits_128_bits zs ≡ true → list_all is_word (map signed_decimal zs) ≡ true
integers_are_words [] fit = refl
integers_are_words (z ∷ zs) fit =
    let parts = and_parts (fits_128_bits z) (list_all fits_128_bits zs) fit in
    and_from (is_word (signed_decimal z)) (list_all is_word (map signed_decimal zs)) (word_of_integer z parts.0)
    (integers_are_words zs parts.1)

few_test : (n : ℕ) → n ≤ 18 → nat_le n 18 ≡ true
few_test n few = grind (arith, nat_tests)

few_words : (n : ℕ) → nat_le n 18 ≡ true → n ≤ 18
few_words n test = grind (arith, nat_tests)

coefficients_back : (zs : List ℤ) → list_all fits_128_bits zs ≡ true → length zs ≤ 18
    → coefficients (map signed_decimal zs) ≡ Ok zs
coefficients_back zs fit few =
    let count : length (map signed_decimal zs) ≤ 18 = omega (arith, few, length-map zs signed_decimal) in
    rw (few_test (length (map signed_decimal zs)) count, integers_back zs fit) refl

coefficients_forth : (words : List (List ℕ)) (zs : List ℤ) → coefficients words ≡ Ok zs
    → (words ≡ map signed_decimal zs) × ((list_all fits_128_bits zs ≡ true) × (length zs ≤ 18))
coefficients_forth words zs e = elim (cases_Bool (nat_le (length words) 18)) [
  | inl few ↦
      let k = integers_forth words zs (rw few at e) in
      let count : length zs ≤ 18 =
      omega (arith, few_words (length words) few, ap length k.0, length-map zs signed_decimal) in
      (k.0, (k.1, count))
  | inr many ↦ let wrong : ◌≡◌ {A = Result (List ℤ) Fault} (Err Words) (Ok zs) = rw many at e in absurd (cc wrong)
]

pub form_back : (f : Form) → FormIsInRange f → form (form_words f) ≡ Ok f
form_back f k =
    let parts = and_parts (fits_128_bits f.constant) (list_all fits_128_bits f.coefs) k.numbers in
    rw (integer_of_decimal f.constant parts.0, coefficients_back f.coefs parts.1 k.variables) refl

pub form_forth : (words : List (List ℕ)) (f : Form) → form words ≡ Ok f → (words ≡ form_words f) × FormIsInRange f
form_forth [] f e = absurd (cc e)
form_forth (word ∷ words) f e =
    let k = made_ok _ (both (integer word) (coefficients words)) f e in
    let p = both_ok (integer word) (coefficients words) k.0 k.1 in
    let first = decimal_of_integer word k.0.0 p.0 in
    let more = coefficients_forth words k.0.1 p.1 in
    let whole : record { constant = k.0.0; coefs = k.0.1 } ≡ f = k.2 in
    let same : word ∷ words ≡ form_words (record { constant = k.0.0; coefs = k.0.1 }) =
    same_words _ _ _ _ first.0 more.0 in
    of_equal form_words FormIsInRange (word ∷ words) _ f whole (
      same,
      record {
        numbers =
            and_from (fits_128_bits k.0.0) (list_all fits_128_bits k.0.1) first.1 more.1.0;
        variables = more.1.1;
      },
    )

form_are_words : (f : Form) → FormIsInRange f → list_all is_word (form_words f) ≡ true
form_are_words f k =
    let parts = and_parts (fits_128_bits f.constant) (list_all fits_128_bits f.coefs) k.numbers in
    and_from (is_word (signed_decimal f.constant)) (list_all is_word (map signed_decimal f.coefs))
    (word_of_integer f.constant parts.0) (integers_are_words f.coefs parts.1)

-- Terms

term_back : (t : Term) → TermIsInRange t → term (decimal t.row) (signed_decimal t.times) ≡ Ok t
term_back t k = rw (number_of_decimal t.row k.row, integer_of_decimal t.times k.times) refl

terms_back : (ts : List Term) → All TermIsInRange ts → terms (flat_map term_words ts) ≡ Ok ts
terms_back [] all = refl
terms_back (t ∷ ts) all =
    rw (term_back t (All-head TermIsInRange t ts all), terms_back ts (All-tail TermIsInRange t ts all)) refl

abbrev IsTerms : List (List ℕ) → List Term → Type 0
IsTerms words ts = (words ≡ flat_map term_words ts) × All TermIsInRange ts

terms_forth : (words : List (List ℕ)) (ts : List Term) → terms words ≡ Ok ts → IsTerms words ts
terms_forth [] ts e = let none : [] ≡ ts = cc in rw (← none) (refl, All-nil TermIsInRange)
terms_forth (row ∷ []) ts e = absurd (cc e)
terms_forth (row ∷ (times ∷ words)) ts e =
    let k = made_ok (λ (t : Term × List Term). t.0 ∷ t.1) (both (term row times) (terms words)) ts e in
    let p = both_ok (term row times) (terms words) k.0 k.1 in
    let n = made_ok _ (both (number row) (integer times)) k.0.0 p.0 in
    let q = both_ok (number row) (integer times) n.0 n.1 in
    let first = decimal_of_number row n.0.0 q.0 in
    let second = decimal_of_integer times n.0.1 q.1 in
    let more = terms_forth words k.0.1 p.1 in
    let one : record { row = n.0.0; times = n.0.1 } ≡ k.0.0 = n.2 in
    let list : record { row = n.0.0; times = n.0.1 } ∷ k.0.1 ≡ ts = ap (λ (t : Term). t ∷ k.0.1) one ∙ k.2 in
    let same : row ∷ (times ∷ words) ≡ flat_map term_words (record { row = n.0.0; times = n.0.1 } ∷ k.0.1) =
    same_words _ _ _ _ first.0 (same_words _ _ _ _ second.0 more.0) in
    rw (← list) (
      same,
      All-cons TermIsInRange (record { row = n.0.0; times = n.0.1 }) k.0.1
          (record { row = first.1; times = second.1 }) more.1,
    )

terms_are_words : (ts : List Term) → All TermIsInRange ts → list_all is_word (flat_map term_words ts) ≡ true
terms_are_words [] all = refl
terms_are_words (t ∷ ts) all =
    let here = All-head TermIsInRange t ts all in
    and_from (is_word (decimal t.row)) (list_all is_word (signed_decimal t.times ∷ flat_map term_words ts))
    (word_of_number t.row here.row)
    (and_from (is_word (signed_decimal t.times)) (list_all is_word (flat_map term_words ts))
    (word_of_integer t.times here.times) (terms_are_words ts (All-tail TermIsInRange t ts all)))

-- Lines of proofs

abbrev pub proof_words : ProofLine → List (List ℕ)
proof_words (of_proof.Sum terms) = codes "s" ∷ flat_map term_words terms
proof_words (of_proof.Cut divisor terms) = codes "c" ∷ signed_decimal divisor ∷ flat_map term_words terms
proof_words (of_proof.Split form) = codes "b" ∷ form_words form

abbrev pub ProofLineIsInRange : ProofLine → Type 0
ProofLineIsInRange (of_proof.Sum terms) = All TermIsInRange terms
ProofLineIsInRange (of_proof.Cut divisor terms) = IsTrue (fits_128_bits divisor) × All TermIsInRange terms
ProofLineIsInRange (of_proof.Split form) = FormIsInRange form

abbrev IsProofLine : List (List ℕ) → ProofLine → Type 0
IsProofLine words l = (words ≡ proof_words l) × ProofLineIsInRange l

of_proof_line : (words : List (List ℕ)) (x y : ProofLine) → x ≡ y → IsProofLine words x → IsProofLine words y
of_proof_line words x y same h = of_equal proof_words ProofLineIsInRange words x y same h

keyed_proof : (word key : List ℕ) (words : List (List ℕ)) (l : ProofLine) → word ≡ key → IsProofLine (key ∷ words) l
    → IsProofLine (word ∷ words) l
keyed_proof word key words l same h = rw same h

sum_forth : (words : List (List ℕ)) (l : ProofLine) → made of_proof.Sum (terms words) ≡ Ok l
    → IsProofLine (codes "s" ∷ words) l
sum_forth words l e =
    let k = made_ok of_proof.Sum (terms words) l e in
    let t = terms_forth words k.0 k.1 in
    of_proof_line (codes "s" ∷ words) (of_proof.Sum k.0) l k.2 (same_words _ _ _ _ refl t.0, t.1)

cut_forth : (words : List (List ℕ)) (l : ProofLine) → cut_words words ≡ Ok l → IsProofLine (codes "c" ∷ words) l
cut_forth [] l e = absurd (cc e)
cut_forth (divisor ∷ words) l e =
    let k = made_ok (λ (c : ℤ × List Term). of_proof.Cut c.0 c.1) (both (integer divisor) (terms words)) l e in
    let p = both_ok (integer divisor) (terms words) k.0 k.1 in
    let d = decimal_of_integer divisor k.0.0 p.0 in
    let t = terms_forth words k.0.1 p.1 in
    of_proof_line (codes "c" ∷ (divisor ∷ words)) (of_proof.Cut k.0.0 k.0.1) l k.2
    (same_words _ _ _ _ refl (same_words _ _ _ _ d.0 t.0), (d.1, t.1))

split_forth : (words : List (List ℕ)) (l : ProofLine) → made of_proof.Split (form words) ≡ Ok l
    → IsProofLine (codes "b" ∷ words) l
split_forth words l e =
    let k = made_ok of_proof.Split (form words) l e in
    let f = form_forth words k.0 k.1 in
    of_proof_line (codes "b" ∷ words) (of_proof.Split k.0) l k.2 (same_words _ _ _ _ refl f.0, f.1)

proof_line_forth : (read : List (List ℕ)) (l : ProofLine) → proof_line read ≡ Ok l → IsProofLine read l
proof_line_forth [] l e = absurd (cc e)
proof_line_forth (word ∷ words) l e = elim (at_keyword word (codes "s") _ _ l e) [
  | inl here ↦ keyed_proof word (codes "s") words l here.0 (sum_forth words l here.1)
  | inr e2 ↦ elim (at_keyword word (codes "c") _ _ l e2) [
    | inl here ↦ keyed_proof word (codes "c") words l here.0 (cut_forth words l here.1)
    | inr e3 ↦
        let said = behind_keyword word (codes "b") _ l e3 in
        keyed_proof word (codes "b") words l said.0 (split_forth words l said.1)
  ]
]

proof_line_back : (l : ProofLine) → ProofLineIsInRange l → proof_line (proof_words l) ≡ Ok l
proof_line_back (of_proof.Sum ts) k = rw (terms_back ts k) refl
proof_line_back (of_proof.Cut divisor ts) k = rw (integer_of_decimal divisor k.0, terms_back ts k.1) refl
proof_line_back (of_proof.Split f) k = rw (form_back f k) refl

proof_line_some : (l : ProofLine) → 0 < length (proof_words l)
proof_line_some (of_proof.Sum ts) = omega arith
proof_line_some (of_proof.Cut divisor ts) = omega arith
proof_line_some (of_proof.Split f) = omega arith

proof_line_are_words : (l : ProofLine) → ProofLineIsInRange l → list_all is_word (proof_words l) ≡ true
proof_line_are_words (of_proof.Sum ts) k = terms_are_words ts k
proof_line_are_words (of_proof.Cut divisor ts) k =
    and_from (is_word (signed_decimal divisor)) (list_all is_word (flat_map term_words ts))
    (word_of_integer divisor k.0) (terms_are_words ts k.1)
proof_line_are_words (of_proof.Split f) k = form_are_words f k

pub proof_line_spelled : IsSpelled proof_line proof_words ProofLineIsInRange
proof_line_spelled = by_words proof_line proof_words ProofLineIsInRange proof_line_some proof_line_are_words
    proof_line_back proof_line_forth

-- Lines of trees

abbrev pub tree_words : TreeLine → List (List ℕ)
tree_words (of_tree.Test f) = codes "t" ∷ form_words f
tree_words (of_tree.Divides f divisor) = codes "d" ∷ signed_decimal divisor ∷ form_words f
tree_words (of_tree.Writer statement forms proofs) = codes "w" ∷ decimal statement ∷ decimal forms ∷ decimal proofs ∷ []
tree_words (of_tree.Zero proofs) = codes "z" ∷ decimal proofs ∷ []
tree_words of_tree.Dead = codes "x" ∷ []

abbrev pub TreeLineIsInRange : TreeLine → Type 0
TreeLineIsInRange (of_tree.Test f) = FormIsInRange f
TreeLineIsInRange (of_tree.Divides f divisor) = FormIsInRange f × IsTrue (fits_128_bits divisor)
TreeLineIsInRange (of_tree.Writer statement forms proofs) = IsInRange statement × (IsInRange forms × IsInRange proofs)
TreeLineIsInRange (of_tree.Zero proofs) = IsInRange proofs
TreeLineIsInRange of_tree.Dead = Unit {0}

abbrev IsTreeLine : List (List ℕ) → TreeLine → Type 0
IsTreeLine words l = (words ≡ tree_words l) × TreeLineIsInRange l

of_tree_line : (words : List (List ℕ)) (x y : TreeLine) → x ≡ y → IsTreeLine words x → IsTreeLine words y
of_tree_line words x y same h = of_equal tree_words TreeLineIsInRange words x y same h

keyed_tree : (word key : List ℕ) (words : List (List ℕ)) (l : TreeLine) → word ≡ key → IsTreeLine (key ∷ words) l
    → IsTreeLine (word ∷ words) l
keyed_tree word key words l same h = rw same h

test_forth : (words : List (List ℕ)) (l : TreeLine) → made of_tree.Test (form words) ≡ Ok l
    → IsTreeLine (codes "t" ∷ words) l
test_forth words l e =
    let k = made_ok of_tree.Test (form words) l e in
    let f = form_forth words k.0 k.1 in
    of_tree_line (codes "t" ∷ words) (of_tree.Test k.0) l k.2 (same_words _ _ _ _ refl f.0, f.1)

divides_forth : (words : List (List ℕ)) (l : TreeLine) → divides_words words ≡ Ok l → IsTreeLine (codes "d" ∷ words) l
divides_forth [] l e = absurd (cc e)
divides_forth (divisor ∷ words) l e =
    let k = made_ok (λ (d : ℤ × Form). of_tree.Divides d.1 d.0) (both (integer divisor) (form words)) l e in
    let p = both_ok (integer divisor) (form words) k.0 k.1 in
    let d = decimal_of_integer divisor k.0.0 p.0 in
    let f = form_forth words k.0.1 p.1 in
    of_tree_line (codes "d" ∷ (divisor ∷ words)) (of_tree.Divides k.0.1 k.0.0) l k.2
    (same_words _ _ _ _ refl (same_words _ _ _ _ d.0 f.0), (f.1, d.1))

writer_forth : (words : List (List ℕ)) (l : TreeLine) → writer_words words ≡ Ok l → IsTreeLine (codes "w" ∷ words) l
writer_forth [] l e = absurd (cc e)
writer_forth (s ∷ []) l e = absurd (cc e)
writer_forth (s ∷ (a ∷ [])) l e = absurd (cc e)
writer_forth (s ∷ (a ∷ (b ∷ []))) l e =
    let k = made_ok (λ (n : ℕ × (ℕ × ℕ)). of_tree.Writer n.0 n.1.0 n.1.1)
    (both (number s) (both (number a) (number b))) l e in
    let p = both_ok (number s) (both (number a) (number b)) k.0 k.1 in
    let first = decimal_of_number s k.0.0 p.0 in
    let two = two_numbers a b k.0.1 p.1 in
    let same : codes "w" ∷ (s ∷ (a ∷ (b ∷ []))) ≡ tree_words (of_tree.Writer k.0.0 k.0.1.0 k.0.1.1) =
    same_words _ _ _ _ refl (same_words _ _ _ _ first.0 (same_words _ _ _ _ two.0.0 (same_words _ _ _ _ two.1.0 refl)))
    in
    of_tree_line (codes "w" ∷ (s ∷ (a ∷ (b ∷ [])))) (of_tree.Writer k.0.0 k.0.1.0 k.0.1.1) l k.2
    (same, (first.1, (two.0.1, two.1.1)))
writer_forth (s ∷ (a ∷ (b ∷ (c ∷ more)))) l e = absurd (cc e)

zero_forth : (words : List (List ℕ)) (l : TreeLine) → zero_words words ≡ Ok l → IsTreeLine (codes "z" ∷ words) l
zero_forth [] l e = absurd (cc e)
zero_forth (a ∷ []) l e =
    let k = made_ok of_tree.Zero (number a) l e in
    let n = decimal_of_number a k.0 k.1 in
    of_tree_line (codes "z" ∷ (a ∷ [])) (of_tree.Zero k.0) l k.2
    (same_words _ _ _ _ refl (same_words _ _ _ _ n.0 refl), n.1)
zero_forth (a ∷ (b ∷ more)) l e = absurd (cc e)

dead_forth : (words : List (List ℕ)) (l : TreeLine) → dead_words words ≡ Ok l → IsTreeLine (codes "x" ∷ words) l
dead_forth [] l e =
    let same : of_tree.Dead ≡ l = cc in
    of_tree_line (codes "x" ∷ []) of_tree.Dead l same (refl, tt)
dead_forth (a ∷ more) l e = absurd (cc e)

tree_line_forth : (read : List (List ℕ)) (l : TreeLine) → tree_line read ≡ Ok l → IsTreeLine read l
tree_line_forth [] l e = absurd (cc e)
tree_line_forth (word ∷ words) l e = elim (at_keyword word (codes "t") _ _ l e) [
  | inl here ↦ keyed_tree word (codes "t") words l here.0 (test_forth words l here.1)
  | inr e2 ↦ elim (at_keyword word (codes "d") _ _ l e2) [
    | inl here ↦ keyed_tree word (codes "d") words l here.0 (divides_forth words l here.1)
    | inr e3 ↦ elim (at_keyword word (codes "w") _ _ l e3) [
      | inl here ↦ keyed_tree word (codes "w") words l here.0 (writer_forth words l here.1)
      | inr e4 ↦ elim (at_keyword word (codes "z") _ _ l e4) [
        | inl here ↦ keyed_tree word (codes "z") words l here.0 (zero_forth words l here.1)
        | inr e5 ↦
            let said = behind_keyword word (codes "x") _ l e5 in
            keyed_tree word (codes "x") words l said.0 (dead_forth words l said.1)
      ]
    ]
  ]
]

tree_line_back : (l : TreeLine) → TreeLineIsInRange l → tree_line (tree_words l) ≡ Ok l
tree_line_back (of_tree.Test f) k = rw (form_back f k) refl
tree_line_back (of_tree.Divides f divisor) k = rw (integer_of_decimal divisor k.1, form_back f k.0) refl
tree_line_back (of_tree.Writer statement forms proofs) k =
    rw (number_of_decimal statement k.0, number_of_decimal forms k.1.0, number_of_decimal proofs k.1.1) refl
tree_line_back (of_tree.Zero proofs) k = rw (number_of_decimal proofs k) refl
tree_line_back of_tree.Dead k = refl

tree_line_some : (l : TreeLine) → 0 < length (tree_words l)
tree_line_some (of_tree.Test f) = omega arith
tree_line_some (of_tree.Divides f divisor) = omega arith
tree_line_some (of_tree.Writer statement forms proofs) = omega arith
tree_line_some (of_tree.Zero proofs) = omega arith
tree_line_some of_tree.Dead = omega arith

tree_line_are_words : (l : TreeLine) → TreeLineIsInRange l → list_all is_word (tree_words l) ≡ true
tree_line_are_words (of_tree.Test f) k = form_are_words f k
tree_line_are_words (of_tree.Divides f divisor) k =
    and_from (is_word (signed_decimal divisor)) (list_all is_word (form_words f)) (word_of_integer divisor k.1)
    (form_are_words f k.0)
tree_line_are_words (of_tree.Writer statement forms proofs) k =
    rw (word_of_number statement k.0, word_of_number forms k.1.0, word_of_number proofs k.1.1) refl
tree_line_are_words (of_tree.Zero proofs) k = rw (word_of_number proofs k) refl
tree_line_are_words of_tree.Dead k = refl

pub tree_line_spelled : IsSpelled tree_line tree_words TreeLineIsInRange
tree_line_spelled =
    by_words tree_line tree_words TreeLineIsInRange tree_line_some tree_line_are_words tree_line_back tree_line_forth

-- Forms of maps

abbrev pub map_words : Form → List (List ℕ)
map_words f = codes "m" ∷ form_words f

map_forth : (read : List (List ℕ)) (f : Form) → map_line read ≡ Ok f → (read ≡ map_words f) × FormIsInRange f
map_forth [] f e = absurd (cc e)
map_forth (word ∷ words) f e =
    let said = behind_keyword word (codes "m") _ f e in
    let k = form_forth words f said.1 in
    (same_words _ _ _ _ said.0 k.0, k.1)

pub map_spelled : IsSpelled map_line map_words FormIsInRange
map_spelled = by_words map_line map_words FormIsInRange (λ f. omega arith) (λ f k. form_are_words f k)
    (λ f k. rw (form_back f k) refl) map_forth
