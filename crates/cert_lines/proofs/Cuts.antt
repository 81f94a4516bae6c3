-- Texts that are cut at a byte.
use Rattle.std.proofs.Common.{◌≡◌, inl, inr, ℕ, ◌+◌, ◌==◌, false, not, cond, Option, Some, None, option_map, List, []}
use Rattle.std.proofs.Common.{◌∷◌, ◌++◌, All, take, drop, length, refl, sym, ap, ◌∙◌, arith, ◌<◌, length-append}
use Rattle.std.specs.List.{prefix_len}
use Rattle.std.proofs.Math.Numerals.{one-add}
use Rattle.std.proofs.lemmas.Bool.{cases_Bool, eqb-true, eq-eqb}
use Rattle.std.proofs.lemmas.List.Elements.{All-cons, All-head, All-tail}
use Rattle.std.proofs.lemmas.List.Splits.{slice_split_none, slice_split_at}
use Rattle.cert_lines.specs.Words.{cut_at, words_of}

-- no byte of the text is this one
abbrev pub Lacks : ℕ → List ℕ → Type 0
Lacks wanted text = All (λ byte. (byte == wanted) ≡ false) text

pub lacks_none : (wanted : ℕ) → Lacks wanted []
lacks_none wanted k d within = absurd (omega arith)

pub lacks_head : (wanted byte : ℕ) (text : List ℕ) → Lacks wanted (byte ∷ text) → (byte == wanted) ≡ false
lacks_head wanted byte text lacks = All-head (λ b. (b == wanted) ≡ false) byte text lacks

pub lacks_tail : (wanted byte : ℕ) (text : List ℕ) → Lacks wanted (byte ∷ text) → Lacks wanted text
lacks_tail wanted byte text lacks = All-tail (λ b. (b == wanted) ≡ false) byte text lacks

pub lacks_cons : (wanted byte : ℕ) (text : List ℕ) → (byte == wanted) ≡ false → Lacks wanted text
    → Lacks wanted (byte ∷ text)
lacks_cons wanted byte text first rest = All-cons (λ b. (b == wanted) ≡ false) byte text first rest

-- where such a byte stands, the text is cut there
pub cut_of_parts : (wanted : ℕ) (before behind : List ℕ) → Lacks wanted before
    → cut_at wanted (before ++ wanted ∷ behind) ≡ Some (before, behind)
cut_of_parts wanted [] behind lacks = let here = eq-eqb wanted wanted refl in rw here refl
cut_of_parts wanted (byte ∷ before) behind lacks =
    rw (lacks_head wanted byte before lacks, cut_of_parts wanted before behind (lacks_tail wanted byte before lacks))
    refl

-- and else there is no such byte
pub record IsCut (wanted : ℕ) (text before behind : List ℕ) : Type 0 where
  pub parts : text ≡ before ++ wanted ∷ behind
  pub lacks : Lacks wanted before

more_before : (wanted byte : ℕ) (text : List ℕ) (o : Option (List ℕ × List ℕ)) (before behind : List ℕ)
    → (byte == wanted) ≡ false
    → ((a b : List ℕ) → o ≡ Some (a, b) → IsCut wanted text a b)
    → cond {A = Option (List ℕ × List ℕ)} (byte == wanted) (Some ([], text))
    (option_map (λ (cut : List ℕ × List ℕ). (byte ∷ cut.0, cut.1)) o) ≡ Some (before, behind)
    → IsCut wanted (byte ∷ text) before behind
more_before wanted byte text None before behind other rest e = absurd (let f = rw other at e in cc)
more_before wanted byte text (Some cut) before behind other rest e =
    let f : ◌≡◌ {A = Option (List ℕ × List ℕ)} (Some (byte ∷ cut.0, cut.1)) (Some (before, behind)) = rw other at e in
    let g : (byte ∷ cut.0, cut.1) ≡ (before, behind) = cc in
    let first : byte ∷ cut.0 ≡ before = ap (λ (p : List ℕ × List ℕ). p.0) g in
    let second : cut.1 ≡ behind = ap (λ (p : List ℕ × List ℕ). p.1) g in
    let k = rest cut.0 cut.1 refl in
    rw (← first, ← second)
    (record { parts = ap (λ (t : List ℕ). byte ∷ t) k.parts; lacks = lacks_cons wanted byte cut.0 other k.lacks })

pub is_cut : (wanted : ℕ) (text before behind : List ℕ) → cut_at wanted text ≡ Some (before, behind)
    → IsCut wanted text before behind
is_cut wanted [] before behind e = absurd (cc e)
is_cut wanted (byte ∷ text) before behind e = elim (cases_Bool (byte == wanted)) [
  | inl here ↦
      let f : ◌≡◌ {A = Option (List ℕ × List ℕ)} (Some ([], text)) (Some (before, behind)) = rw here at e in
      let g : ([], text) ≡ (before, behind) = cc in
      let first : [] ≡ before = ap (λ (p : List ℕ × List ℕ). p.0) g in
      let second : text ≡ behind = ap (λ (p : List ℕ × List ℕ). p.1) g in
      let same : byte ≡ wanted = eqb-true byte wanted here in
      rw (← first, ← second) (record { parts = ap (λ (b : ℕ). b ∷ text) same; lacks = lacks_none wanted })
  | inr other ↦ more_before wanted byte text (cut_at wanted text) before behind other (is_cut wanted text) e
]

lacks_more : (wanted byte : ℕ) (text : List ℕ) (o : Option (List ℕ × List ℕ)) → (o ≡ None → Lacks wanted text)
    → cond {A = Option (List ℕ × List ℕ)} (byte == wanted) (Some ([], text))
    (option_map (λ (cut : List ℕ × List ℕ). (byte ∷ cut.0, cut.1)) o) ≡ None → Lacks wanted (byte ∷ text)
lacks_more wanted byte text None rest e = elim (cases_Bool (byte == wanted)) [
  | inl here ↦ let f : ◌≡◌ {A = Option (List ℕ × List ℕ)} (Some ([], text)) None = rw here at e in absurd (cc f)
  | inr other ↦ lacks_cons wanted byte text other (rest refl)
]
lacks_more wanted byte text (Some cut) rest e = elim (cases_Bool (byte == wanted)) [
  | inl here ↦ let f : ◌≡◌ {A = Option (List ℕ × List ℕ)} (Some ([], text)) None = rw here at e in absurd (cc f)
  | inr other ↦ let f : ◌≡◌ {A = Option (List ℕ × List ℕ)} (Some (byte ∷ cut.0, cut.1)) None =
      rw other at e in absurd (cc f)
]

pub is_not_cut : (wanted : ℕ) (text : List ℕ) → cut_at wanted text ≡ None → Lacks wanted text
is_not_cut wanted [] e = lacks_none wanted
is_not_cut wanted (byte ∷ text) e = lacks_more wanted byte text (cut_at wanted text) (is_not_cut wanted text) e

-- the words of a text without spaces, and of one with some
pub one_word : (text : List ℕ) → cut_at 32 text ≡ None → words_of text ≡ text ∷ []
one_word text e = slice_split_none (λ byte. byte == 32) text (is_not_cut 32 text e)

pub first_word : (text word others : List ℕ) → cut_at 32 text ≡ Some (word, others)
    → words_of text ≡ word ∷ words_of others
first_word text word others e =
    let k = is_cut 32 text word others e in
    ap words_of k.parts ∙ slice_split_at (λ byte. byte == 32) word 32 others k.lacks refl

-- the place that a count of bytes finds
pub found_cut : (wanted : ℕ) (text : List ℕ) (byte : ℕ) (behind : List ℕ)
    → drop (prefix_len (λ b. not (b == wanted)) text) text ≡ byte ∷ behind
    → cut_at wanted text ≡ Some (take (prefix_len (λ b. not (b == wanted)) text) text, behind)
found_cut wanted [] byte behind e = absurd (cc e)
found_cut wanted (b ∷ text) byte behind e = elim (cases_Bool (b == wanted)) [
  | inl here ↦ let f : b ∷ text ≡ byte ∷ behind =
      rw here at e in let same : text ≡ behind = cc in rw here (ap (λ (rest : List ℕ). Some ([], rest)) same)
  | inr other ↦
      let f : drop (1 + prefix_len (λ x. not (x == wanted)) text) (b ∷ text) ≡ byte ∷ behind = rw other at e in
      let more = found_cut wanted text byte behind (rw one-add at f) in
      rw (other, one-add, more) refl
]

pub found_none : (wanted : ℕ) (text : List ℕ) → drop (prefix_len (λ b. not (b == wanted)) text) text ≡ []
    → cut_at wanted text ≡ None
found_none wanted [] e = refl
found_none wanted (b ∷ text) e = elim (cases_Bool (b == wanted)) [
  | inl here ↦ let f : b ∷ text ≡ [] = rw here at e in absurd (cc f)
  | inr other ↦
      let f : drop (1 + prefix_len (λ x. not (x == wanted)) text) (b ∷ text) ≡ [] = rw other at e in
      let more = found_none wanted text (rw one-add at f) in
      rw (other, more) refl
]

-- the same of a text that was split there
pub split_cut : (wanted : ℕ) (text : List ℕ) (count : ℕ) (before rest : List ℕ) (byte : ℕ) (behind : List ℕ)
    → count ≡ prefix_len (λ b. not (b == wanted)) text → before ≡ take count text
    → rest ≡ drop count text → rest ≡ byte ∷ behind → cut_at wanted text ≡ Some (before, behind)
split_cut wanted text count before rest byte behind count_is before_is rest_is here =
    let at : drop (prefix_len (λ b. not (b == wanted)) text) text ≡ byte ∷ behind =
    ap (λ (n : ℕ). drop n text) (sym count_is) ∙ sym rest_is ∙ here in
    let same : take (prefix_len (λ b. not (b == wanted)) text) text ≡ before =
    ap (λ (n : ℕ). take n text) (sym count_is) ∙ sym before_is in
    found_cut wanted text byte behind at ∙ ap (λ (b : List ℕ). Some (b, behind)) same

pub split_none : (wanted : ℕ) (text : List ℕ) (count : ℕ) (rest : List ℕ)
    → count ≡ prefix_len (λ b. not (b == wanted)) text
    → rest ≡ drop count text → length rest ≡ 0 → cut_at wanted text ≡ None
split_none wanted text count [] count_is rest_is none =
    found_none wanted text (ap (λ (n : ℕ). drop n text) (sym count_is) ∙ sym rest_is)
split_none wanted text count (byte ∷ rest) count_is rest_is none = absurd (omega arith)

-- what stands behind a cut is shorter
pub cut_shorter : (wanted : ℕ) (text before behind : List ℕ) → cut_at wanted text ≡ Some (before, behind)
    → length behind < length text
cut_shorter wanted text before behind e =
    let k = is_cut wanted text before behind e in
    omega (arith, ap length k.parts ∙ length-append before (wanted ∷ behind))
