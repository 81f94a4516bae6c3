-- The types of what lines say, and the versions, by the definitions that judge the lines.
--
-- The values that lines say are of types of their own, which stand in other crates and are known here by their judges
-- alone: such a type is that of what a judge answers (`said_by`), and a value of it is made by what makes it there
-- (`made_by`). A judge tries one keyword after the other, and behind each it makes one kind of value. So what holds of
-- each kind holds of whatever a line says (`proof_said`, `tree_said`, `source_said`), and there are two versions. It isn't
-- said which words a line has, nor that each value is said by some line.
use Rattle.std.proofs.Common.{◌≡◌, ◌⊎◌, inl, inr, ℕ, ℤ, List, [], ◌∷◌, Result, Ok, Err, codes, refl, subst}
use Rattle.std.specs.List.{join_with_byte}
use Rattle.affine_core.specs.declared.form.Form.{Form}
use Rattle.int_polyhedra.specs.declared.system.Term.{Term}
use Rattle.cert_lines.specs.declared.error.Fault.{Fault}
use Rattle.cert_lines.specs.Words.{both, integer, made, number}
use Rattle.cert_lines.proofs.Verdicts.{at_keyword, behind_keyword, made_ok}
use Rattle.tree_text.specs.Lines.{cut_words, dead_words, divides_words, form, proof_line, terms, tree_line}
use Rattle.tree_text.specs.Lines.{writer_words, zero_words}
use Rattle.cert_text.specs.Places.{part_line, process_line, repeat_words, sizes_line, source_line, version_line}
use Rattle.cert_text.specs.Words.{at_least}

-- what a line says
abbrev pub said_by : {A : Type 0} → (List (List ℕ) → Result A Fault) → Type 0
said_by {A} judge = A

abbrev pub ProofLine : Type 0
ProofLine = said_by proof_line

abbrev pub TreeLine : Type 0
TreeLine = said_by tree_line

abbrev pub SourceLine : Type 0
SourceLine = said_by source_line

abbrev pub ProcessHead : Type 0
ProcessHead = said_by process_line

abbrev pub Sizes : Type 0
Sizes = said_by sizes_line

abbrev pub Version : Type 0
Version = said_by version_line

-- what was said
abbrev pub WasSaid : {A : Type 0} → Result A Fault → Type 0
WasSaid (Ok value) = Unit {0}
WasSaid (Err fault) = ⊥

abbrev pub value_of : {A : Type 0} (said : Result A Fault) → WasSaid said → A
value_of (Ok value) k = value
value_of (Err fault) k = absurd k

abbrev pub first_version : Version
first_version = value_of (version_line (codes "cert" ∷ codes "1" ∷ [])) tt

abbrev pub second_version : Version
second_version = value_of (version_line (codes "cert" ∷ codes "2" ∷ [])) tt

abbrev pub IsVersion : Version → Type 0
IsVersion version = (first_version ≡ version) ⊎ (second_version ≡ version)

pub same_value : {A : Type 0} (a b : A) → ◌≡◌ {A = Result A Fault} (Ok a) (Ok b) → a ≡ b
same_value a b e = cc e

pub which_version : (words : List (List ℕ)) (version : Version) → version_line words ≡ Ok version
    → IsVersion version
which_version words version e =
    elim (at_keyword (join_with_byte 32 words) (codes "cert 1") _ _ version e) [
      | inl here ↦ inl (same_value first_version version here.1)
      | inr other ↦
          let said = behind_keyword (join_with_byte 32 words) (codes "cert 2") _ version other in
          inr (same_value second_version version said.1)
    ]

-- Lines of parts

-- what makes the value of another
abbrev pub made_by : {A B : Type 0} (f : A → B) (said : Result A Fault) (whole : Result B Fault) → made f said ≡ whole
    → A → B
made_by f said whole e = f

module _ {T : Type 0} (item : List (List ℕ) → Result T Fault) where
  abbrev pub PartLine : Type 0
  PartLine = said_by (part_line item first_version)

  abbrev pub item_line : T → PartLine
  item_line = made_by _ (item []) (part_line item first_version []) refl

  abbrev pub repeat_from : (a b : List ℕ) → ℕ × ℕ → PartLine
  repeat_from a b = made_by _ (both (at_least 2 (number a)) (at_least 1 (number b))) (repeat_words (a ∷ b ∷ [])) refl

  abbrev pub repeat_line : ℕ → ℕ → PartLine
  repeat_line count parts = repeat_from [] [] (count, parts)

-- Lines of proofs, trees and sources

abbrev sum_from : List (List ℕ) → List Term → ProofLine
sum_from words = made_by _ (terms words) (proof_line (codes "s" ∷ words)) refl

abbrev pub sum_line : List Term → ProofLine
sum_line ts = sum_from [] ts

abbrev cut_from : List ℕ → List (List ℕ) → ℤ × List Term → ProofLine
cut_from divisor words = made_by _ (both (integer divisor) (terms words)) (cut_words (divisor ∷ words)) refl

abbrev pub cut_line : ℤ → List Term → ProofLine
cut_line divisor ts = cut_from [] [] (divisor, ts)

abbrev split_from : List (List ℕ) → Form → ProofLine
split_from words = made_by _ (form words) (proof_line (codes "b" ∷ words)) refl

abbrev pub split_line : Form → ProofLine
split_line f = split_from [] f

-- what holds of each kind of line holds of what a line says
module _ (P : ProofLine → Type 1) (sums : (ts : List Term) → P (sum_line ts))
    (cuts : (divisor : ℤ) (ts : List Term) → P (cut_line divisor ts)) (splits : (f : Form) → P (split_line f)) where
  cut_said : (words : List (List ℕ)) (l : ProofLine) → cut_words words ≡ Ok l → P l
  cut_said [] l e = absurd (cc e)
  cut_said (divisor ∷ words) l e =
      let k = made_ok _ (both (integer divisor) (terms words)) l e in subst P k.2 (cuts k.0.0 k.0.1)

  pub proof_said : (words : List (List ℕ)) (l : ProofLine) → proof_line words ≡ Ok l → P l
  proof_said [] l e = absurd (cc e)
  proof_said (word ∷ words) l e = elim (at_keyword word (codes "s") _ _ l e) [
    | inl here ↦ let k = made_ok _ (terms words) l here.1 in subst P k.2 (sums k.0)
    | inr e2 ↦ elim (at_keyword word (codes "c") _ _ l e2) [
      | inl here ↦ cut_said words l here.1
      | inr e3 ↦
          let said = behind_keyword word (codes "b") _ l e3 in
          let k = made_ok _ (form words) l said.1 in
          subst P k.2 (splits k.0)
    ]
  ]

abbrev test_from : List (List ℕ) → Form → TreeLine
test_from words = made_by _ (form words) (tree_line (codes "t" ∷ words)) refl

abbrev pub test_line : Form → TreeLine
test_line f = test_from [] f

abbrev divides_from : List ℕ → List (List ℕ) → ℤ × Form → TreeLine
divides_from divisor words = made_by _ (both (integer divisor) (form words)) (divides_words (divisor ∷ words)) refl

abbrev pub divides_line : Form → ℤ → TreeLine
divides_line f divisor = divides_from [] [] (divisor, f)

abbrev writer_from : List ℕ → List ℕ → List ℕ → ℕ × (ℕ × ℕ) → TreeLine
writer_from s a b = made_by _ (both (number s) (both (number a) (number b))) (writer_words (s ∷ a ∷ b ∷ [])) refl

abbrev pub writer_line : ℕ → ℕ → ℕ → TreeLine
writer_line statement forms proofs = writer_from [] [] [] (statement, (forms, proofs))

abbrev zero_from : List ℕ → ℕ → TreeLine
zero_from a = made_by _ (number a) (zero_words (a ∷ [])) refl

abbrev pub zero_line : ℕ → TreeLine
zero_line proofs = zero_from [] proofs

abbrev pub dead_line : TreeLine
dead_line = value_of (dead_words []) tt

module _ (P : TreeLine → Type 1) (tests : (f : Form) → P (test_line f))
    (divisions : (f : Form) (divisor : ℤ) → P (divides_line f divisor))
    (writers : (statement forms proofs : ℕ) → P (writer_line statement forms proofs))
    (zeros : (proofs : ℕ) → P (zero_line proofs)) (deads : P dead_line) where
  divides_said : (words : List (List ℕ)) (l : TreeLine) → divides_words words ≡ Ok l → P l
  divides_said [] l e = absurd (cc e)
  divides_said (divisor ∷ words) l e =
      let k = made_ok _ (both (integer divisor) (form words)) l e in subst P k.2 (divisions k.0.1 k.0.0)

  writer_said : (words : List (List ℕ)) (l : TreeLine) → writer_words words ≡ Ok l → P l
  writer_said [] l e = absurd (cc e)
  writer_said (s ∷ []) l e = absurd (cc e)
  writer_said (s ∷ (a ∷ [])) l e = absurd (cc e)
  writer_said (s ∷ (a ∷ (b ∷ []))) l e =
      let k = made_ok _ (both (number s) (both (number a) (number b))) l e in
      subst P k.2 (writers k.0.0 k.0.1.0 k.0.1.1)
  writer_said (s ∷ (a ∷ (b ∷ (c ∷ more)))) l e = absurd (cc e)

  zero_said : (words : List (List ℕ)) (l : TreeLine) → zero_words words ≡ Ok l → P l
  zero_said [] l e = absurd (cc e)
  zero_said (a ∷ []) l e = let k = made_ok _ (number a) l e in subst P k.2 (zeros k.0)
  zero_said (a ∷ (b ∷ more)) l e = absurd (cc e)

  dead_said : (words : List (List ℕ)) (l : TreeLine) → dead_words words ≡ Ok l → P l
  dead_said [] l e = subst P (same_value dead_line l e) deads
  dead_said (a ∷ more) l e = absurd (cc e)

  pub tree_said : (words : List (List ℕ)) (l : TreeLine) → tree_line words ≡ Ok l → P l
  tree_said [] l e = absurd (cc e)
  tree_said (word ∷ words) l e = elim (at_keyword word (codes "t") _ _ l e) [
    | inl here ↦ let k = made_ok _ (form words) l here.1 in subst P k.2 (tests k.0)
    | inr e2 ↦ elim (at_keyword word (codes "d") _ _ l e2) [
      | inl here ↦ divides_said words l here.1
      | inr e3 ↦ elim (at_keyword word (codes "w") _ _ l e3) [
        | inl here ↦ writer_said words l here.1
        | inr e4 ↦ elim (at_keyword word (codes "z") _ _ l e4) [
          | inl here ↦ zero_said words l here.1
          | inr e5 ↦ let said = behind_keyword word (codes "x") _ l e5 in dead_said words l said.1
        ]
      ]
    ]
  ]

abbrev pub sweep_line : SourceLine
sweep_line = value_of (source_line (codes "sweep" ∷ [])) tt

abbrev pub tree_source_line : SourceLine
tree_source_line = value_of (source_line (codes "tree" ∷ [])) tt

module _ (P : SourceLine → Type 1) (sweeps : P sweep_line) (trees : P tree_source_line) where
  pub source_said : (words : List (List ℕ)) (l : SourceLine) → source_line words ≡ Ok l → P l
  source_said [] l e = absurd (cc e)
  source_said (word ∷ []) l e = elim (at_keyword word (codes "sweep") _ _ l e) [
    | inl here ↦ subst P (same_value sweep_line l here.1) sweeps
    | inr other ↦
        let said = behind_keyword word (codes "tree") _ l other in
        subst P (same_value tree_source_line l said.1) trees
  ]
  source_said (word ∷ (other ∷ more)) l e = absurd (cc e)
