-- Lines written word by word, each word but the first behind a space.
use Rattle.std.proofs.Common.{◌≡◌, ◌∙◌, ℕ, ℤ, List, [], ◌∷◌, ◌++◌, codes, append_assoc, refl, sym, ap}
use Rattle.std.specs.Fmt.{signed_decimal}
use Rattle.std.specs.List.{flat_map, join_with_byte}
use Rattle.std.proofs.lemmas.Grind.{common_steps, flat_map-append}
use Rattle.std.proofs.lemmas.List.Folds.{flat_map-map}
use Rattle.affine_core.specs.declared.form.Form.{Form}
use Rattle.int_polyhedra.specs.declared.system.Term.{Term}
use Rattle.text_out.specs.Words.{line_text}
use Rattle.text_out.specs.Wrote.{Given, Wrote}
use Rattle.text_out.proofs.WordSpaces.{joined}
use Rattle.tree_text.specs.TreeText.{form_words, term_words}

-- words with a space before each
abbrev spaced : List (List ℕ) → List ℕ
spaced words = flat_map (λ word. codes " " ++ word) words

line_joined : (word : List ℕ) (words : List (List ℕ)) → join_with_byte 32 (word ∷ words) ≡ word ++ spaced words
line_joined word words = joined word words

pub form_spaced : (form : Form) → spaced (form_words form) ≡ (codes " " ++ signed_decimal form.constant)
    ++ flat_map (λ number. codes " " ++ signed_decimal number) form.coefs
form_spaced form = ap (λ (text : List ℕ). (codes " " ++ signed_decimal form.constant) ++ text)
    (flat_map-map (λ word. codes " " ++ word) signed_decimal form.coefs)

terms_spaced : (terms : List Term) → spaced (flat_map term_words terms)
    ≡ flat_map (λ term. spaced (term_words term)) terms
terms_spaced [] = refl
terms_spaced (term ∷ terms) =
    flat_map-append (λ word. codes " " ++ word) (term_words term) (flat_map term_words terms)
    ∙ ap (λ (text : List ℕ). spaced (term_words term) ++ text) (terms_spaced terms)

-- the lines of a form, of terms, and of terms behind a number
pub form_line : (word : List ℕ) (form : Form) → join_with_byte 32 (word ∷ form_words form) ≡ word
    ++ spaced (form_words form)
form_line word form = line_joined word (form_words form)

pub terms_line : (word : List ℕ) (terms : List Term) → join_with_byte 32 (word ∷ flat_map term_words terms) ≡ word
    ++ flat_map (λ term. spaced (term_words term)) terms
terms_line word terms = line_joined word (flat_map term_words terms)
    ∙ ap (λ (text : List ℕ). word ++ text) (terms_spaced terms)

pub number_form_line : (word : List ℕ) (number : ℤ) (form : Form)
    → join_with_byte 32 (word ∷ (signed_decimal number ∷ form_words form)) ≡ word
    ++ ((codes " " ++ signed_decimal number) ++ spaced (form_words form))
number_form_line word number form = line_joined word (signed_decimal number ∷ form_words form)

pub number_terms_line : (word : List ℕ) (number : ℤ) (terms : List Term)
    → join_with_byte 32 (word ∷ (signed_decimal number ∷ flat_map term_words terms)) ≡ word
    ++ ((codes " " ++ signed_decimal number) ++ flat_map (λ term. spaced (term_words term)) terms)
number_terms_line word number terms =
    line_joined word (signed_decimal number ∷ flat_map term_words terms)
    ∙ ap (λ (text : List ℕ). word ++ ((codes " " ++ signed_decimal number) ++ text)) (terms_spaced terms)

-- a line that is written as a word, a form and a line feed
pub form_line_wrote : {W : Type 0} (given : W → Given) {a b c d : W} (word : List ℕ) (form : Form)
    → Wrote given a b word → Wrote given b c (spaced (form_words form))
    → Wrote given c d (codes "\n") → Wrote given a d (line_text (word ∷ form_words form))
form_line_wrote given {a} {b} {c} {d} word form one two three =
    let words = spaced (form_words form) in
    let line : (word ++ words) ++ codes "\n" ≡ line_text (word ∷ form_words form) =
    ap (λ (text : List ℕ). text ++ codes "\n") (sym (form_line word form)) in (
      three.0 ∙ two.0 ∙ one.0,
      three.1 ∙ ap (λ (text : List ℕ). text ++ codes "\n")
          (two.1 ∙ ap (λ (text : List ℕ). text ++ words) one.1 ∙ append_assoc (given a).text word words)
          ∙ append_assoc (given a).text (word ++ words) (codes "\n")
          ∙ ap (λ (text : List ℕ). (given a).text ++ text) line,
    )

-- what the writing of a line wants in its `using`
pub ruleset form_steps = (common_steps, form_spaced)

pub ruleset line_steps = (common_steps, terms_line, number_terms_line)

pub ruleset divides_steps = (common_steps, form_line, terms_line, number_form_line, number_terms_line)
