-- A line and its pattern are judged alike: wrong words stay wrong, and numbers out of range are not so in the pattern.
--
-- The pattern has `2` for each number, and 2 is in the range of every place. No keyword and no class is a number, so
-- each stands in the pattern as it stands in the line. What is judged together is wrong where one of both is, and in
-- range where both are, so it goes by the words. It isn't so of the version: `cert 3` has wrong words, and its pattern
-- is `cert 2`.
use Rattle.std.proofs.Common.{◌≡◌, inl, inr, ℕ, ◌<◌, ◌==◌, ◌||◌, pos, Bool, true, false, not, nat_le, if◌then◌else◌}
use Rattle.std.proofs.Common.{Option, Some, None, List, [], ◌∷◌, ◌++◌, Result, Ok, Err, codes, length, refl, sym, ap}
use Rattle.std.proofs.Common.{subst, ◌∙◌, arith}
use Rattle.std.specs.Prelude.{bytes_eq, ok_or}
use Rattle.std.specs.List.{join_with_byte, list_all, onto_first}
use Rattle.std.proofs.lemmas.Bool.{and_from, and_parts, and_right, cases_Bool, or_left, or_from}
use Rattle.std.proofs.lemmas.List.{length-map}
use Rattle.std.proofs.lemmas.List.Splits.{length-slice_split, slice_split-cons_no, slice_split-cons_yes}
use Rattle.std.proofs.lemmas.Slice.Eq.{bytes_eq-Decides}
use Rattle.channel_class.specs.declared.ChannelClass.{ChannelClass}
use Rattle.channel_class.specs.declared.UseOrder.{UseOrder}
use Rattle.channel_class.specs.declared.UseOrder.TheVariants.{InOrder, Reorder}
use Rattle.net_core.specs.declared.network.Event.TheVariants.{Fire}
use Rattle.cert_lines.specs.declared.error.Fault.{Fault}
use Rattle.cert_lines.specs.declared.error.Fault.TheVariants.{Words, Range}
use Rattle.cert_lines.specs.Words.{both, integer, is_negative, is_numeral, just, made, number, words_of}
use Rattle.cert_lines.proofs.Cuts.{lacks_head, lacks_tail}
use Rattle.cert_lines.proofs.LineWords.{is_word, line_lacks, words_joined}
use Rattle.tree_text.specs.Lines.{coefficients, cut_words, dead_words, divides_words, form, integers, map_line}
use Rattle.tree_text.specs.Lines.{proof_line, term, terms, tree_line, writer_words, zero_words}
use Rattle.cert_text.specs.Places.{channel_line, entry_line, event_line, fire_words, get_words, part_line, process_line}
use Rattle.cert_text.specs.Places.{put_words, repeat_words, sizes_line, source_line, version_line}
use Rattle.cert_text.specs.Words.{at_least, class, reference, references}
use Rattle.cert_text.proofs.WordVerdicts.{word_of_class}
use Rattle.cert_places.specs.Fronts.{IsLine}
use Rattle.cert_places.specs.Places.{in_pattern, is_number, pattern, patterns}
use Rattle.cert_places.proofs.LineTypes.{IsVersion, Version, second_version}

-- what was judged of words, and what of their pattern
abbrev pub Milder : {A : Type 0} → Result A Fault → Result A Fault → Type 0
Milder {A} (Ok x) other = (y : A) × (other ≡ Ok y)
Milder {A} (Err Words) other = other ≡ Err Words
Milder {A} (Err Range) other = (y : A) × (other ≡ Ok y)

-- the pattern of words is judged as mildly as they are
abbrev pub Milds : {A : Type 0} → (List (List ℕ) → Result A Fault) → Type 0
Milds judge = (words : List (List ℕ)) → Milder (judge words) (judge (patterns words))

milder_fits : {A : Type 0} (said other : Result A Fault) (y : A) → (said ≡ Err Words → ⊥) → other ≡ Ok y
    → Milder said other
milder_fits (Ok x) other y fits e = (y, e)
milder_fits (Err Words) other y fits e = absurd (fits refl)
milder_fits (Err Range) other y fits e = (y, e)

milder_wrong : {A : Type 0} (said other : Result A Fault) → said ≡ Err Words → other ≡ Err Words → Milder said other
milder_wrong said other e f = subst (λ (r : Result _ Fault). Milder r other) (sym e) f

milder_made : {A B : Type 0} (f : A → B) (said other : Result A Fault) → Milder said other
    → Milder (made f said) (made f other)
milder_made f (Ok x) other k = (f k.0, ap (made f) k.1)
milder_made f (Err Words) other k = ap (made f) k
milder_made f (Err Range) other k = (f k.0, ap (made f) k.1)

milder_both : {A B : Type 0} (a c : Result A Fault) (b d : Result B Fault) → Milder a c → Milder b d
    → Milder (both a b) (both c d)
milder_both (Ok x) c (Ok y) d k l = ((k.0, l.0), rw (k.1, l.1) refl)
milder_both (Ok x) c (Err Words) d k l = rw (k.1, l) refl
milder_both (Ok x) c (Err Range) d k l = ((k.0, l.0), rw (k.1, l.1) refl)
milder_both (Err Words) c b d k l = rw k refl
milder_both (Err Range) c (Ok y) d k l = ((k.0, l.0), rw (k.1, l.1) refl)
milder_both (Err Range) c (Err Words) d k l = rw (k.1, l) refl
milder_both (Err Range) c (Err Range) d k l = ((k.0, l.0), rw (k.1, l.1) refl)

-- Words of a pattern

a_number : (word : List ℕ) → is_number word ≡ true → in_pattern word ≡ codes "2"
a_number word e = rw e refl

no_number : (word : List ℕ) → is_number word ≡ false → in_pattern word ≡ word
no_number word e = rw e refl

two_is_number : is_number (codes "2") ≡ true
two_is_number = refl

pattern_again : (word : List ℕ) → in_pattern (in_pattern word) ≡ in_pattern word
pattern_again word = elim (cases_Bool (is_number word)) [
  | inl is ↦ ap in_pattern (a_number word is) ∙ a_number (codes "2") two_is_number ∙ sym (a_number word is)
  | inr other ↦ ap in_pattern (no_number word other)
]

patterns_again : (words : List (List ℕ)) → patterns (patterns words) ≡ patterns words
patterns_again [] = refl
patterns_again (word ∷ words) =
    ap (λ (w : List ℕ). w ∷ patterns (patterns words)) (pattern_again word)
    ∙ ap (λ (ws : List (List ℕ)). in_pattern word ∷ ws) (patterns_again words)

word_in_pattern : (word : List ℕ) → is_word word ≡ true → is_word (in_pattern word) ≡ true
word_in_pattern word e = elim (cases_Bool (is_number word)) [
  | inl is ↦ ap is_word (a_number word is)
  | inr other ↦ ap is_word (no_number word other) ∙ e
]

words_in_pattern : (words : List (List ℕ)) → list_all is_word words ≡ true → list_all is_word (patterns words) ≡ true
words_in_pattern [] e = refl
words_in_pattern (word ∷ words) e =
    let parts = and_parts (is_word word) (list_all is_word words) e in
    and_from _ _ (word_in_pattern word parts.0) (words_in_pattern words parts.1)

-- Keywords

differ : (a b : List ℕ) → is_number a ≡ true → is_number b ≡ false → bytes_eq a b ≡ false
differ a b e f = elim (cases_Bool (bytes_eq a b)) [
  | inl same ↦
      let one : true ≡ false = sym e ∙ ap is_number ((bytes_eq-Decides a b).0 same) ∙ f in
      absurd (cc one)
  | inr other ↦ other
]

keyword_in_pattern : (word wanted : List ℕ) → is_number wanted ≡ false
    → bytes_eq word wanted ≡ bytes_eq (in_pattern word) wanted
keyword_in_pattern word wanted key = elim (cases_Bool (is_number word)) [
  | inl is ↦ differ word wanted is key ∙ sym (differ (codes "2") wanted two_is_number key)
      ∙ ap (λ (w : List ℕ). bytes_eq w wanted) (sym (a_number word is))
  | inr other ↦ ap (λ (w : List ℕ). bytes_eq w wanted) (sym (no_number word other))
]

milder_if : {A : Type 0} (test : Bool) (a b c d : Result A Fault) → Milder a c → Milder b d
    → Milder (if test then a else b) (if test then c else d)
milder_if true a b c d k l = k
milder_if false a b c d k l = l

milder_key : {A : Type 0} (word wanted : List ℕ) (a b c d : Result A Fault) → is_number wanted ≡ false → Milder a c
    → Milder b d → Milder (if bytes_eq word wanted then a else b) (if bytes_eq (in_pattern word) wanted then c else d)
milder_key word wanted a b c d key k l =
    subst (λ (test : Bool). Milder (if bytes_eq word wanted then a else b) (if test then c else d))
    (keyword_in_pattern word wanted key) (milder_if (bytes_eq word wanted) a b c d k l)

-- Numbers

or_second : (a b : Bool) → a ≡ false → b ≡ true → (a || b) ≡ true
or_second a b e f = rw (e, f) refl

-- a numeral is judged so, another number so, and other words are wrong
milder_word : {A : Type 0} (judge : List ℕ → Result A Fault) (word : List ℕ) (a b : Result A Fault) (two : A)
    → judge (codes "2") ≡ Ok two → (a ≡ Err Words → ⊥) → (b ≡ Err Words → ⊥)
    → judge word ≡ (if is_numeral word then a else if is_negative word then b else Err Words)
    → Milder (judge word) (judge (in_pattern word))
milder_word judge word a b two at_two a_fits b_fits is = elim (cases_Bool (is_numeral word)) [
  | inl numeral ↦ milder_fits (judge word) (judge (in_pattern word)) two (λ e. a_fits (sym (rw numeral at is) ∙ e))
      (ap judge (a_number word (or_left (is_numeral word) (is_negative word) numeral)) ∙ at_two)
  | inr plain ↦ elim (cases_Bool (is_negative word)) [
    | inl negative ↦ milder_fits (judge word) (judge (in_pattern word)) two
        (λ e. b_fits (sym (rw (plain, negative) at is) ∙ e))
        (ap judge (a_number word (or_second (is_numeral word) (is_negative word) plain negative)) ∙ at_two)
    | inr wrong ↦
        let none : judge word ≡ Err Words = rw (plain, wrong) at is in
        milder_wrong (judge word) (judge (in_pattern word)) none
        (ap judge (no_number word (or_from (is_numeral word) (is_negative word) plain wrong)) ∙ none)
  ]
]

bounded : {A : Type 0} (test : Bool) (n : A) → ◌≡◌ {A = Result A Fault} (if test then Ok n else Err Range) (Err Words) → ⊥
bounded true n e = cc e
bounded false n e = cc e

out_of_range : {A : Type 0} → ◌≡◌ {A = Result A Fault} (Err Range) (Err Words) → ⊥
out_of_range e = cc e

milder_number : (word : List ℕ) → Milder (number word) (number (in_pattern word))
milder_number word = milder_word number word _ _ 2 refl (bounded _ _) out_of_range refl

least_bounded : (least : ℕ) (test : Bool) (n : ℕ) → at_least least (if test then Ok n else Err Range) ≡ Err Words → ⊥
least_bounded least true n e = bounded (nat_le least n) n e
least_bounded least false n e = out_of_range e

least_of : (least : ℕ) (a b : Bool) (said : Result ℕ Fault)
    → at_least least (if a then said else if b then Err Range else Err Words)
    ≡ (if a then at_least least said else if b then Err Range else Err Words)
least_of least true b said = refl
least_of least false true said = refl
least_of least false false said = refl

milder_least : (least : ℕ) → at_least least (Ok 2) ≡ Ok 2 → (word : List ℕ)
    → Milder (at_least least (number word)) (at_least least (number (in_pattern word)))
milder_least least two word =
    milder_word (λ w. at_least least (number w)) word _ _ 2 two
    (least_bounded least _ _) out_of_range
    (least_of least (is_numeral word) (is_negative word) _)

milder_integer : (word : List ℕ) → Milder (integer word) (integer (in_pattern word))
milder_integer word = milder_word integer word _ _ (pos 2) refl (bounded _ _) (bounded _ _) refl

milder_numbers : (a b : List ℕ)
    → Milder (both (number a) (number b)) (both (number (in_pattern a)) (number (in_pattern b)))
milder_numbers a b = milder_both (number a) (number (in_pattern a)) (number b) (number (in_pattern b)) (milder_number a)
    (milder_number b)

-- References and classes

milder_reference : (word : List ℕ) → Milder (reference word) (reference (in_pattern word))
milder_reference word = milder_key word (codes "z") _ _ _ _ refl (_, refl)
    (milder_made _ (number word) (number (in_pattern word)) (milder_number word))

milder_references : (words : List (List ℕ)) → Milder (references words) (references (patterns words))
milder_references [] = ([], refl)
milder_references (word ∷ words) =
    milder_made _ (both (reference word) (references words))
    (both (reference (in_pattern word)) (references (patterns words)))
    (milder_both (reference word) (reference (in_pattern word)) (references words) (references (patterns words))
    (milder_reference word) (milder_references words))

-- a class is found or not, and has no range
not_of_range : {A : Type 0} (o : Option A) → ok_or o Words ≡ Err Range → ⊥
not_of_range None e = cc e
not_of_range (Some x) e = cc e

milder_same : {A : Type 0} (said : Result A Fault) → (said ≡ Err Range → ⊥) → Milder said said
milder_same (Ok x) other = (x, refl)
milder_same (Err Words) other = refl
milder_same (Err Range) other = absurd (other refl)

-- the word of no class is a number
class_no_number : (order : UseOrder) (multiplicity : Bool) (word : List ℕ)
    → class word ≡ Ok (record { order = order; multiplicity = multiplicity }) → is_number word ≡ false
class_no_number InOrder false word e = ap is_number (word_of_class word _ e)
class_no_number InOrder true word e = ap is_number (word_of_class word _ e)
class_no_number Reorder false word e = ap is_number (word_of_class word _ e)
class_no_number Reorder true word e = ap is_number (word_of_class word _ e)

none_found : (word : List ℕ) → is_number word ≡ true → (said : Result ChannelClass Fault) → class word ≡ said
    → class word ≡ Err Words
none_found word numeral (Ok c) is =
    let wrong : true ≡ false = sym numeral ∙ class_no_number c.order c.multiplicity word is in absurd (cc wrong)
none_found word numeral (Err Words) is = is
none_found word numeral (Err Range) is = absurd (not_of_range _ is)

milder_class : (word : List ℕ) → Milder (class word) (class (in_pattern word))
milder_class word = elim (cases_Bool (is_number word)) [
  | inl is ↦ milder_wrong (class word) (class (in_pattern word)) (none_found word is (class word) refl)
      (ap class (a_number word is))
  | inr other ↦ subst (λ (w : List ℕ). Milder (class word) (class w)) (sym (no_number word other))
      (milder_same (class word) (λ e. not_of_range _ e))
]

-- Lines of the network

pub milds_sizes : Milds sizes_line
milds_sizes [] = refl
milds_sizes (w ∷ []) = refl
milds_sizes (w ∷ (a ∷ [])) = refl
milds_sizes (w ∷ (a ∷ (b ∷ []))) = refl
milds_sizes (w ∷ (a ∷ (b ∷ (c ∷ [])))) = refl
milds_sizes (w ∷ (a ∷ (b ∷ (c ∷ (d ∷ []))))) =
    milder_key w (codes "sizes") _ _ _ _ refl
    (milder_made _ _ _ (milder_both _ _ _ _ (milder_numbers a b) (milder_numbers c d))) refl
milds_sizes (w ∷ (a ∷ (b ∷ (c ∷ (d ∷ (e ∷ more)))))) = refl

pub milds_process : Milds process_line
milds_process [] = refl
milds_process (w ∷ []) = refl
milds_process (w ∷ (a ∷ [])) = refl
milds_process (w ∷ (a ∷ (b ∷ []))) =
    milder_key w (codes "process") _ _ _ _ refl (milder_made _ _ _ (milder_numbers a b)) refl
milds_process (w ∷ (a ∷ (b ∷ (c ∷ more)))) = refl

milds_get : Milds get_words
milds_get [] = refl
milds_get (a ∷ []) = refl
milds_get (a ∷ (b ∷ [])) = milder_made _ _ _ (milder_numbers a b)
milds_get (a ∷ (b ∷ (c ∷ more))) = refl

milds_fire : Milds fire_words
milds_fire words =
    subst (λ (n : ℕ). Milder (fire_words words) (if nat_le n 8 then made Fire (references (patterns words)) else Err Words))
    (sym (length-map words in_pattern))
    (milder_if (nat_le (length words) 8) _ _ _ _ (milder_made _ _ _ (milder_references words)) refl)

milds_put : Milds put_words
milds_put [] = refl
milds_put (a ∷ []) = milder_made _ _ _ (milder_number a)
milds_put (a ∷ (b ∷ more)) = refl

pub milds_event : Milds event_line
milds_event [] = refl
milds_event (word ∷ words) =
    milder_key word (codes "g") _ _ _ _ refl (milds_get words)
    (milder_key word (codes "f") _ _ _ _ refl (milds_fire words)
    (milder_key word (codes "p") _ _ _ _ refl (milds_put words) refl))

pub milds_channel : Milds channel_line
milds_channel [] = refl
milds_channel (w ∷ []) = refl
milds_channel (w ∷ (a ∷ [])) = refl
milds_channel (w ∷ (a ∷ (b ∷ []))) = refl
milds_channel (w ∷ (a ∷ (b ∷ (c ∷ [])))) = refl
milds_channel (w ∷ (a ∷ (b ∷ (c ∷ (d ∷ []))))) = refl
milds_channel (w ∷ (a ∷ (b ∷ (c ∷ (d ∷ (o ∷ [])))))) =
    milder_key w (codes "channel") _ _ _ _ refl
    (milder_made _ _ _ (milder_both _ _ _ _ (milder_both _ _ _ _ (milder_numbers a b) (milder_numbers c d))
    (milder_class o))) refl
milds_channel (w ∷ (a ∷ (b ∷ (c ∷ (d ∷ (o ∷ (e ∷ more))))))) = refl

pub milds_source : Milds source_line
milds_source [] = refl
milds_source (w ∷ []) =
    milder_key w (codes "sweep") _ _ _ _ refl (_, refl) (milder_key w (codes "tree") _ _ _ _ refl (_, refl) refl)
milds_source (w ∷ (v ∷ more)) = refl

pub milds_entry : Milds entry_line
milds_entry [] = refl
milds_entry (a ∷ []) = milder_number a
milds_entry (a ∷ (b ∷ more)) = refl

module _ {T : Type 0} (item : List (List ℕ) → Result T Fault) (milds : Milds item) where
  milds_repeat : Milds (repeat_words {T = T})
  milds_repeat [] = refl
  milds_repeat (a ∷ []) = refl
  milds_repeat (a ∷ (b ∷ [])) =
      milder_made _ _ _ (milder_both _ _ _ _ (milder_least 2 refl a) (milder_least 1 refl b))
  milds_repeat (a ∷ (b ∷ (c ∷ more))) = refl

  milds_second : Milds (part_line item second_version)
  milds_second [] = milder_made _ _ _ (milds [])
  milds_second (word ∷ words) =
      milder_key word (codes "r") _ _ _ _ refl (milds_repeat words) (milder_made _ _ _ (milds (word ∷ words)))

  pub milds_part : (version : Version) → IsVersion version → Milds (part_line item version)
  milds_part version (inl first) =
      subst (λ (v : Version). Milds (part_line item v)) first (λ words. milder_made _ _ _ (milds words))
  milds_part version (inr second) = subst (λ (v : Version). Milds (part_line item v)) second milds_second

-- Lines of proofs and trees

milds_integers : Milds integers
milds_integers [] = ([], refl)
milds_integers (word ∷ words) =
    milder_made _ _ _ (milder_both _ _ _ _ (milder_integer word) (milds_integers words))

milds_coefficients : Milds coefficients
milds_coefficients words =
    subst (λ (n : ℕ). Milder (coefficients words) (if nat_le n 18 then integers (patterns words) else Err Words))
    (sym (length-map words in_pattern))
    (milder_if (nat_le (length words) 18) _ _ _ _ (milds_integers words) refl)

milds_form : Milds form
milds_form [] = refl
milds_form (constant ∷ words) =
    milder_made _ _ _ (milder_both _ _ _ _ (milder_integer constant) (milds_coefficients words))

milder_term : (row times : List ℕ) → Milder (term row times) (term (in_pattern row) (in_pattern times))
milder_term row times = milder_made _ _ _ (milder_both _ _ _ _ (milder_number row) (milder_integer times))

milds_terms : Milds terms
milds_terms [] = ([], refl)
milds_terms (row ∷ []) = refl
milds_terms (row ∷ (times ∷ words)) =
    milder_made _ _ _ (milder_both _ _ _ _ (milder_term row times) (milds_terms words))

milds_cut : Milds cut_words
milds_cut [] = refl
milds_cut (divisor ∷ words) =
    milder_made _ _ _ (milder_both _ _ _ _ (milder_integer divisor) (milds_terms words))

pub milds_proof : Milds proof_line
milds_proof [] = refl
milds_proof (word ∷ words) =
    milder_key word (codes "s") _ _ _ _ refl (milder_made _ _ _ (milds_terms words))
    (milder_key word (codes "c") _ _ _ _ refl (milds_cut words)
    (milder_key word (codes "b") _ _ _ _ refl (milder_made _ _ _ (milds_form words)) refl))

milds_divides : Milds divides_words
milds_divides [] = refl
milds_divides (divisor ∷ words) =
    milder_made _ _ _ (milder_both _ _ _ _ (milder_integer divisor) (milds_form words))

milds_writer : Milds writer_words
milds_writer [] = refl
milds_writer (s ∷ []) = refl
milds_writer (s ∷ (a ∷ [])) = refl
milds_writer (s ∷ (a ∷ (b ∷ []))) =
    milder_made _ _ _ (milder_both _ _ _ _ (milder_number s) (milder_numbers a b))
milds_writer (s ∷ (a ∷ (b ∷ (c ∷ more)))) = refl

milds_zero : Milds zero_words
milds_zero [] = refl
milds_zero (a ∷ []) = milder_made _ _ _ (milder_number a)
milds_zero (a ∷ (b ∷ more)) = refl

milds_dead : Milds dead_words
milds_dead [] = (_, refl)
milds_dead (a ∷ more) = refl

pub milds_tree : Milds tree_line
milds_tree [] = refl
milds_tree (word ∷ words) =
    milder_key word (codes "t") _ _ _ _ refl (milder_made _ _ _ (milds_form words))
    (milder_key word (codes "d") _ _ _ _ refl (milds_divides words)
    (milder_key word (codes "w") _ _ _ _ refl (milds_writer words)
    (milder_key word (codes "z") _ _ _ _ refl (milds_zero words)
    (milder_key word (codes "x") _ _ _ _ refl (milds_dead words) refl))))

pub milds_map : Milds map_line
milds_map [] = refl
milds_map (word ∷ words) = milder_key word (codes "m") _ _ _ _ refl (milds_form words) refl

-- `end`

has_space : (a b : List ℕ) → list_all (λ byte. not (byte == 32)) (a ++ 32 ∷ b) ≡ false
has_space [] b = refl
has_space (byte ∷ a) b = and_right (not (byte == 32)) (list_all (λ byte. not (byte == 32)) (a ++ 32 ∷ b)) (has_space a b)

not_end : (a b : List ℕ) → bytes_eq (a ++ 32 ∷ b) (codes "end") ≡ false
not_end a b = elim (cases_Bool (bytes_eq (a ++ 32 ∷ b) (codes "end"))) [
  | inl same ↦
      let wrong : true ≡ false =
      ap (list_all (λ byte. not (byte == 32))) (sym ((bytes_eq-Decides (a ++ 32 ∷ b) (codes "end")).0 same))
      ∙ has_space a b in
      absurd (cc wrong)
  | inr other ↦ other
]

end_wrong : (a b : List ℕ) → ◌≡◌ {A = Result Unit Fault}
    (if bytes_eq (a ++ 32 ∷ b) (codes "end") then Ok tt else Err Words) (Err Words)
end_wrong a b = rw (not_end a b) refl

pub milds_end : Milds (just (codes "end"))
milds_end [] = refl
milds_end (word ∷ []) = milder_key word (codes "end") _ _ _ _ refl (tt, refl) refl
milds_end (word ∷ (other ∷ words)) =
    milder_wrong (just (codes "end") (word ∷ (other ∷ words)))
    (just (codes "end") (in_pattern word ∷ (in_pattern other ∷ patterns words)))
    (end_wrong word (join_with_byte 32 (other ∷ words)))
    (end_wrong (in_pattern word) (join_with_byte 32 (in_pattern other ∷ patterns words)))

-- Other numbers

wrong_in_both : {A : Type 0} (said other : Result A Fault) → Milder said other → other ≡ Err Words → said ≡ Err Words
wrong_in_both (Ok x) other k e = let f = sym k.1 ∙ e in absurd (cc f)
wrong_in_both (Err Words) other k e = refl
wrong_in_both (Err Range) other k e = let f = sym k.1 ∙ e in absurd (cc f)

-- wrong words are wrong with other numbers
pub stays_wrong : {A : Type 0} (judge : List (List ℕ) → Result A Fault) → Milds judge → (words others : List (List ℕ))
    → patterns words ≡ patterns others → judge words ≡ Err Words → judge others ≡ Err Words
stays_wrong {A} judge milds words others same e =
    wrong_in_both (judge others) (judge (patterns others)) (milds others)
    (ap judge (sym same) ∙ subst (λ (r : Result A Fault). Milder r (judge (patterns words))) e (milds words))

-- a line of the same pattern that says something
pub record Mended {A : Type 0} (judge : List (List ℕ) → Result A Fault) (text : List ℕ) : Type 0 where
  pub other : List ℕ
  pub whole : IsLine other
  pub same : pattern text ≡ pattern other
  pub value : A
  pub said : judge (words_of other) ≡ Ok value

onto_word : (byte : ℕ) (words : List (List ℕ)) → (byte == 32) ≡ false → (byte == 10) ≡ false
    → list_all is_word words ≡ true → list_all is_word (onto_first byte words) ≡ true
onto_word byte [] space feed e = rw (space, feed) refl
onto_word byte (word ∷ words) space feed e =
    let parts = and_parts (is_word word) (list_all is_word words) e in
    rw (space, feed, parts.0, parts.1) refl

line_words : (text : List ℕ) → IsLine text → list_all is_word (words_of text) ≡ true
line_words [] whole = refl
line_words (byte ∷ text) whole =
    let more = line_words text (lacks_tail 10 byte text whole) in
    elim (cases_Bool (byte == 32)) [
      | inl space ↦ ap (list_all is_word) (slice_split-cons_yes (λ b. b == 32) byte text space) ∙ more
      | inr other ↦ ap (list_all is_word) (slice_split-cons_no (λ b. b == 32) byte text other)
          ∙ onto_word byte (words_of text) other (lacks_head 10 byte text whole) more
    ]

pub words_of_joined : (words : List (List ℕ)) → 0 < length words → list_all is_word words ≡ true
    → words_of (join_with_byte 32 words) ≡ words
words_of_joined [] some are = absurd (omega (arith, some))
words_of_joined (word ∷ words) some are = words_joined word words are

-- numbers out of range can be others
pub mends : {A : Type 0} (judge : List (List ℕ) → Result A Fault) → Milds judge → (text : List ℕ) → IsLine text
    → judge (words_of text) ≡ Err Range → Mended judge text
mends {A} judge milds text whole e =
    let are = words_in_pattern (words_of text) (line_words text whole) in
    let some : 0 < length (patterns (words_of text)) =
    omega (arith, length-map (words_of text) in_pattern, length-slice_split (λ b. b == 32) text) in
    let again = words_of_joined (patterns (words_of text)) some are in
    let k = subst (λ (r : Result A Fault). Milder r (judge (patterns (words_of text)))) e (milds (words_of text)) in
    record {
      other = join_with_byte 32 (patterns (words_of text));
      whole = line_lacks (patterns (words_of text)) are;
      same = sym (ap patterns again ∙ patterns_again (words_of text));
      value = k.0;
      said = ap judge again ∙ k.1;
    }

-- the version has no range
pub no_range : (words : List (List ℕ)) → version_line words ≡ Err Range → ⊥
no_range words e =
    of_tests (bytes_eq (join_with_byte 32 words) (codes "cert 1")) (bytes_eq (join_with_byte 32 words) (codes "cert 2"))
    _ _ e
  where
    of_tests : (a b : Bool) (one two : Version) → ◌≡◌ {A = Result Version Fault}
        (if a then Ok one else if b then Ok two else Err Words) (Err Range) → ⊥
    of_tests true b one two e = cc e
    of_tests false true one two e = cc e
    of_tests false false one two e = cc e
