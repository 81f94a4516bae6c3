-- What is judged of words that are written, and of no others.
--
-- Each judgement of a word is shown both ways: the word of a value in range is judged as that value, and what is judged
-- as a value is its word, which is in range. A class is looked up among the words of all classes, so what is found is
-- the word itself. A reference is `z` or a number, and no number in range is spelled `z`, since that word is judged to
-- be no number; by induction the same holds of lists of references. Two values never have one word, since each is read
-- back from its own.
use Rattle.std.proofs.Common.{◌≡◌, inl, inr, ℕ, Bool, true, false, Option, Some, None, List}
use Rattle.std.proofs.Common.{[], ◌∷◌, All, Result, Ok, Err, codes, decimal, map, refl, sym, ap, ◌∙◌}
use Rattle.std.specs.Prelude.{bytes_eq, find, ok_or}
use Rattle.std.specs.List.{list_all}
use Rattle.std.proofs.lemmas.Bool.{cases_Bool}
use Rattle.std.proofs.lemmas.List.Elements.{All-nil, All-cons, All-head, All-tail}
use Rattle.std.proofs.lemmas.Slice.Eq.{bytes_eq-Decides}
use Rattle.channel_class.specs.declared.ChannelClass.{ChannelClass}
use Rattle.channel_class.specs.declared.UseOrder.{UseOrder}
use Rattle.channel_class.specs.declared.UseOrder.TheVariants.{InOrder, Reorder}
use Rattle.net_core.specs.declared.refs.Ref.{Ref}
use Rattle.net_core.specs.declared.refs.Ref.TheVariants.{Zero, Slot}
use Rattle.net_text.specs.NetworkText.{class_word}
use Rattle.cert_lines.specs.declared.error.Fault.{Fault}
use Rattle.cert_lines.specs.declared.error.Fault.TheVariants.{Words}
use Rattle.cert_lines.specs.Words.{IsInRange}
use Rattle.cert_text.specs.CertText.{RefIsInRange, ref_word}
use Rattle.cert_lines.specs.Words.{both, made, number}
use Rattle.cert_text.specs.Words.{class, classes, reference, references}
use Rattle.cert_lines.proofs.Numerals.{decimal_of_number, number_of_decimal}
use Rattle.cert_lines.proofs.Verdicts.{both_ok, made_ok}
use Rattle.cert_lines.proofs.LineWords.{is_word, word_of_number}

-- Classes

class_back : (order : UseOrder) (multiplicity : Bool) → class
    (class_word (record { order = order; multiplicity = multiplicity }))
    ≡ Ok (record { order = order; multiplicity = multiplicity })
class_back InOrder false = refl
class_back InOrder true = refl
class_back Reorder false = refl
class_back Reorder true = refl

pub class_of_word : (c : ChannelClass) → class (class_word c) ≡ Ok c
class_of_word c = class_back c.order c.multiplicity

found_passes : {X : Type 0} (test : X → Bool) (xs : List X) (x : X) → find test xs ≡ Some x → test x ≡ true
found_passes test [] x e = absurd (cc e)
found_passes test (y ∷ ys) x e = elim (cases_Bool (test y)) [
  | inl passes ↦ let f : ◌≡◌ {A = Option _} (Some y) (Some x) = rw passes at e in let same : y ≡ x = cc
      in rw (← same) passes
  | inr fails ↦ found_passes test ys x (rw fails at e)
]

said_some : {A : Type 0} (o : Option A) (x : A) → ok_or o Words ≡ Ok x → o ≡ Some x
said_some None x e = absurd (cc e)
said_some (Some y) x e = let same : y ≡ x = cc in ap (λ (z : _). Some z) same

pub word_of_class : (word : List ℕ) (c : ChannelClass) → class word ≡ Ok c → word ≡ class_word c
word_of_class word c e =
    let passes = found_passes (λ class. bytes_eq (class_word class) word) classes c
    (said_some (find (λ class. bytes_eq (class_word class) word) classes) c e) in
    sym ((bytes_eq-Decides (class_word c) word).0 passes)

word_is_word : (order : UseOrder) (multiplicity : Bool)
    → is_word (class_word (record { order = order; multiplicity = multiplicity })) ≡ true
word_is_word InOrder false = refl
word_is_word InOrder true = refl
word_is_word Reorder false = refl
word_is_word Reorder true = refl

pub class_word_is_word : (c : ChannelClass) → is_word (class_word c) ≡ true
class_word_is_word c = word_is_word c.order c.multiplicity

-- References

-- no number is spelled `z`
not_z : (n : ℕ) → IsInRange n → bytes_eq (decimal n) (codes "z") ≡ false
not_z n few = elim (cases_Bool (bytes_eq (decimal n) (codes "z"))) [
  | inl same ↦
      let spelled : decimal n ≡ codes "z" = (bytes_eq-Decides (decimal n) (codes "z")).0 same in
      let read : ◌≡◌ {A = Result ℕ Fault} (Err Words) (Ok n) = ap number (sym spelled) ∙ number_of_decimal n few in
      absurd (cc read)
  | inr other ↦ other
]

-- nor `r`
pub not_r : (n : ℕ) → IsInRange n → bytes_eq (decimal n) (codes "r") ≡ false
not_r n few = elim (cases_Bool (bytes_eq (decimal n) (codes "r"))) [
  | inl same ↦
      let spelled : decimal n ≡ codes "r" = (bytes_eq-Decides (decimal n) (codes "r")).0 same in
      let read : ◌≡◌ {A = Result ℕ Fault} (Err Words) (Ok n) = ap number (sym spelled) ∙ number_of_decimal n few in
      absurd (cc read)
  | inr other ↦ other
]

reference_of_word : (r : Ref) → RefIsInRange r → reference (ref_word r) ≡ Ok r
reference_of_word Zero few = refl
reference_of_word (Slot slot) few = rw (not_z slot few, number_of_decimal slot few) refl

word_of_reference : (word : List ℕ) (r : Ref) → reference word ≡ Ok r → (word ≡ ref_word r) × RefIsInRange r
word_of_reference word r e = elim (cases_Bool (bytes_eq word (codes "z"))) [
  | inl same ↦
      let f : ◌≡◌ {A = Result Ref Fault} (Ok Zero) (Ok r) = rw same at e in
      let zero : Zero ≡ r = cc in
      rw (← zero) ((bytes_eq-Decides word (codes "z")).0 same, tt)
  | inr other ↦
      let f : made Slot (number word) ≡ Ok r = rw other at e in
      let k = made_ok Slot (number word) r f in
      let n = decimal_of_number word k.0 k.1 in
      let slot : Slot k.0 ≡ r = k.2 in
      rw (← slot) (n.0, n.1)
]

ref_word_is_word : (r : Ref) → RefIsInRange r → is_word (ref_word r) ≡ true
ref_word_is_word Zero few = refl
ref_word_is_word (Slot slot) few = word_of_number slot few

pub references_of_words : (refs : List Ref) → All RefIsInRange refs → references (map ref_word refs) ≡ Ok refs
references_of_words [] all = refl
references_of_words (r ∷ refs) all =
    rw (
      reference_of_word r (All-head RefIsInRange r refs all),
      references_of_words refs (All-tail RefIsInRange r refs all),
    ) refl

pub words_of_references : (words : List (List ℕ)) (refs : List Ref) → references words ≡ Ok refs
    → (words ≡ map ref_word refs) × All RefIsInRange refs
words_of_references [] refs e = let none : [] ≡ refs = cc in rw (← none) (refl, All-nil RefIsInRange)
words_of_references (word ∷ words) refs e =
    let k = made_ok (λ (pair : Ref × List Ref). pair.0 ∷ pair.1) (both (reference word) (references words)) refs e in
    let p = both_ok (reference word) (references words) k.0 k.1 in
    let first = word_of_reference word k.0.0 p.0 in
    let more = words_of_references words k.0.1 p.1 in
    let list : k.0.0 ∷ k.0.1 ≡ refs = k.2 in
    let same : word ∷ words ≡ map ref_word (k.0.0 ∷ k.0.1) = ap (λ (w : List ℕ). w ∷ words) first.0
    ∙ ap (λ (ws : List (List ℕ)). ref_word k.0.0 ∷ ws) more.0 in
    rw (← list) (same, All-cons RefIsInRange k.0.0 k.0.1 first.1 more.1)

pub ref_words_are_words : (refs : List Ref) → All RefIsInRange refs → list_all is_word (map ref_word refs) ≡ true
ref_words_are_words [] all = refl
ref_words_are_words (r ∷ refs) all = rw (
  ref_word_is_word r (All-head RefIsInRange r refs all),
  ref_words_are_words refs (All-tail RefIsInRange r refs all),
) refl
