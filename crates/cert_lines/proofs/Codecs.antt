-- Parts of the text that are read as they are written.
use Rattle.std.proofs.Common.{◌≡◌, ℕ, zero, suc, ◌+◌, ◌<◌, true, Option, Some, None, List, [], ◌∷◌, ◌++◌, All, Result}
use Rattle.std.proofs.Common.{Ok, Err, length, append_assoc, refl, sym, ap, subst, ◌∙◌, arith}
use Rattle.std.specs.List.{flat_map, join_with_byte, list_all}
use Rattle.std.proofs.lemmas.List.Elements.{All-nil, All-cons, All-head, All-tail}
use Rattle.std.proofs.lemmas.List.Splits.{join_with_byte-slice_split}
use Rattle.text_out.specs.Words.{line_text}
use Rattle.cert_lines.specs.declared.error.CertError.{CertError}
use Rattle.cert_lines.specs.declared.error.Fault.{Fault}
use Rattle.cert_lines.specs.declared.error.Fault.TheVariants.{Words, Range}
use Rattle.cert_lines.specs.Words.{words_of}
use Rattle.cert_lines.specs.Reading.{Part, Place, cut_read, first_line, followed_by, line, line_read, many}
use Rattle.cert_lines.proofs.Cuts.{cut_of_parts, is_cut}
use Rattle.cert_lines.proofs.LineWords.{is_word, line_lacks, words_joined}

-- Of each value that P holds of these are the words, and nothing else is read from them.
pub record IsSpelled {A : Type 0} (judge : List (List ℕ) → Result A Fault) (words : A → List (List ℕ))
    (P : A → Type 0) : Type 0 where
  pub some : (x : A) → 0 < length (words x)
  pub spelled : (x : A) → P x → list_all is_word (words x) ≡ true
  pub back : (x : A) → P x → judge (words x) ≡ Ok x
  pub forth : (read : List (List ℕ)) (x : A) → judge read ≡ Ok x
      → (join_with_byte 32 read ≡ join_with_byte 32 (words x)) × P x

-- the same where the words themselves are no others
pub by_words : {A : Type 0} (judge : List (List ℕ) → Result A Fault) (words : A → List (List ℕ)) (P : A → Type 0)
    (some : (x : A) → 0 < length (words x))
    (spelled : (x : A) → P x → list_all is_word (words x) ≡ true) (back : (x : A) → P x → judge (words x) ≡ Ok x)
    (forth : (read : List (List ℕ)) (x : A) → judge read ≡ Ok x → (read ≡ words x) × P x) → IsSpelled judge words P
by_words judge words P some spelled back forth = record {
  some = some;
  spelled = spelled;
  back = back;
  forth = λ read x e. let k = forth read x e in (ap (join_with_byte 32) k.0, k.1);
}

-- the place behind this text, whatever its line
pub record ReadsTo {A : Type 0} (part : Part A) (n : ℕ) (text : List ℕ) (x : A) (rest : List ℕ) : Type 0 where
  pub line : ℕ
  pub reads : part (record { line = n; text = text }) ≡ Ok (x, record { line = line; text = rest })

-- Of each value that P holds of this is the text, and nothing else has this text.
pub record IsCodec {A : Type 0} (part : Part A) (text : A → List ℕ) (P : A → Type 0) : Type 0 where
  pub back : (x : A) (n : ℕ) (rest : List ℕ) → P x → ReadsTo part n (text x ++ rest) x rest
  pub forth : (at next : Place) (x : A) → part at ≡ Ok (x, next) → (at.text ≡ text x ++ next.text) × P x

-- Lines

line_back : {A : Type 0} (judge : List (List ℕ) → Result A Fault) (words : List (List ℕ)) (x : A) (n : ℕ)
    (rest : List ℕ) → 0 < length words → list_all is_word words ≡ true
    → judge words ≡ Ok x
    → line judge (record { line = n; text = line_text words ++ rest }) ≡ Ok (x, record { line = n + 1; text = rest })
line_back judge [] x n rest some spelled e = absurd (omega arith)
line_back judge (word ∷ words) x n rest some spelled e =
    let joined = join_with_byte 32 (word ∷ words) in
    let whole : line_text (word ∷ words) ++ rest ≡ joined ++ 10 ∷ rest = append_assoc joined (10 ∷ []) rest in
    let cut : first_line (line_text (word ∷ words) ++ rest) ≡ Some (joined, rest) =
    ap first_line whole ∙ cut_of_parts 10 joined rest (line_lacks (word ∷ words) spelled) in
    rw (cut, words_joined word words spelled, e) refl

cut_forth : {A : Type 0} (judge : List (List ℕ) → Result A Fault) (n : ℕ) (o : Option (List ℕ × List ℕ)) (x : A)
    (next : Place) → cut_read judge n o ≡ Ok (x, next)
    → (cut : List ℕ × List ℕ) × (o ≡ Some cut) × (cut.1 ≡ next.text) × (judge (words_of cut.0) ≡ Ok x)
cut_forth judge n None x next e = absurd (cc e)
cut_forth judge n (Some cut) x next e = let k = told (judge (words_of cut.0)) e in (cut, refl, k.0, k.1)
  where
    told : (said : Result _ Fault) → line_read n cut.1 said ≡ Ok (x, next) → (cut.1 ≡ next.text) × (said ≡ Ok x)
    told (Ok value) e =
        let same : (value, record { line = n + 1; text = cut.1 }) ≡ (x, next) = cc in
        (ap (λ (p : _ × Place). p.1.text) same, ap (λ (p : _ × Place). Ok p.0) same)
    told (Err Words) e = absurd (cc e)
    told (Err Range) e = absurd (cc e)

pub line_codec : {A : Type 0} (judge : List (List ℕ) → Result A Fault) (words : A → List (List ℕ)) (P : A → Type 0)
    → IsSpelled judge words P
    → IsCodec (line judge) (λ x. line_text (words x)) P
line_codec judge words P k = record {
  back = λ x n rest p.
      record { line = n + 1; reads = line_back judge (words x) x n rest (k.some x) (k.spelled x p) (k.back x p) };
  forth = λ at next x e.
      let found = cut_forth judge at.line (first_line at.text) x next e in
      let cut = found.0 in
      let parts = is_cut 10 at.text cut.0 cut.1 found.1 in
      let said = k.forth (words_of cut.0) x found.3 in
      let joined : cut.0 ≡ join_with_byte 32 (words x) = sym (join_with_byte-slice_split 32 cut.0) ∙ said.0 in
      let before : cut.0 ++ 10 ∷ cut.1 ≡ line_text (words x) ++ next.text =
      ap (λ (front : List ℕ). front ++ 10 ∷ cut.1) joined
      ∙ sym (append_assoc (join_with_byte 32 (words x)) (10 ∷ []) cut.1)
      ∙ ap (λ (rest : List ℕ). line_text (words x) ++ rest) found.2 in
      (parts.parts ∙ before, said.1);
}

-- Parts that follow one another

-- what a part said before another
pub record Followed {A B : Type 0} (read : Result (A × Place) CertError) (next : A → Part B) (y : B)
    (end : Place) : Type 0 where
  pub value : A
  pub between : Place
  pub first : read ≡ Ok (value, between)
  pub second : next value between ≡ Ok (y, end)

pub followed : {A B : Type 0} (read : Result (A × Place) CertError) (next : A → Part B) (y : B) (end : Place)
    → followed_by read next ≡ Ok (y, end) → Followed read next y end
followed (Ok found) next y end e = record { value = found.0; between = found.1; first = refl; second = e }
followed (Err refusal) next y end e = absurd (cc e)

-- So many parts

many_back : {A : Type 0} (part : Part A) (text : A → List ℕ) (P : A → Type 0) → IsCodec part text P
    → (xs : List A) (n : ℕ) (rest : List ℕ) → All P xs
    → ReadsTo (many part (length xs)) n (flat_map text xs ++ rest) xs rest
unfolding many
many_back part text P k [] n rest all = record { line = n; reads = refl }
many_back part text P k (x ∷ xs) n rest all =
    let first = k.back x n (flat_map text xs ++ rest) (All-head P x xs all) in
    let more = many_back part text P k xs first.line rest (All-tail P x xs all) in
    let whole : flat_map text (x ∷ xs) ++ rest ≡ text x ++ (flat_map text xs ++ rest) =
    append_assoc (text x) (flat_map text xs) rest in
    record { line = more.line; reads = rw (whole, first.reads, more.reads) refl }

moved : {A : Type 0} (text : A → List ℕ) (P : A → Type 0) (count : ℕ) (all : List ℕ) (xs ys : List A) (at next : Place)
    → xs ≡ ys → at ≡ next
    → (all ≡ flat_map text xs ++ at.text) × ((length xs ≡ count) × All P xs)
    → (all ≡ flat_map text ys ++ next.text) × ((length ys ≡ count) × All P ys)
moved text P count all xs ys at next same here h = rw (← same, ← here) h

many_forth : {A : Type 0} (part : Part A) (text : A → List ℕ) (P : A → Type 0) → IsCodec part text P
    → (count : ℕ) (at next : Place) (xs : List A)
    → many part count at ≡ Ok (xs, next) → (at.text ≡ flat_map text xs ++ next.text) × ((length xs ≡ count) × All P xs)
unfolding many
many_forth part text P k zero at next xs e =
    let same : ([], at) ≡ (xs, next) = cc in
    let none : [] ≡ xs = ap (λ (p : List _ × Place). p.0) same in
    let here : at ≡ next = ap (λ (p : List _ × Place). p.1) same in
    moved text P 0 at.text [] xs at next none here (refl, (refl, All-nil P))
many_forth part text P k (suc count) at next xs e =
    let one =
    followed (part at)
    (λ value at. followed_by (many part count at) (λ values at. Ok (value ∷ values, at))) xs next e in
    let two = followed (many part count one.between) (λ values at. Ok (one.value ∷ values, at)) xs next one.second in
    let here = k.forth at one.between one.value one.first in
    let more = many_forth part text P k count one.between two.between two.value two.first in
    let f = two.second in
    let same : (one.value ∷ two.value, two.between) ≡ (xs, next) = cc f in
    let list : one.value ∷ two.value ≡ xs = ap (λ (p : List _ × Place). p.0) same in
    let end : two.between ≡ next = ap (λ (p : List _ × Place). p.1) same in
    let count_is : length (one.value ∷ two.value) ≡ suc count = ap suc more.1.0 in
    let whole : at.text ≡ flat_map text (one.value ∷ two.value) ++ two.between.text =
    here.0 ∙ ap (λ (rest : List ℕ). text one.value ++ rest) more.0
    ∙ sym (append_assoc (text one.value) (flat_map text two.value) two.between.text) in
    moved text P (suc count) at.text (one.value ∷ two.value) xs two.between next list end
    (whole, (count_is, All-cons P one.value two.value here.1 more.1.1))

-- so many values, each with its text
pub many_codec : {A : Type 0} (part : Part A) (text : A → List ℕ) (P : A → Type 0) → IsCodec part text P → (count : ℕ)
    → IsCodec (many part count) (flat_map text) (λ xs. (length xs ≡ count) × All P xs)
many_codec part text P k count = record {
  back = λ xs n rest p. rw (← p.0) (many_back part text P k xs n rest p.1);
  forth = λ at next xs e. many_forth part text P k count at next xs e;
}

-- One codec by another

-- what holds of a part's value holds of the one that it is
pub of_value : {A : Type 0} (text : A → List ℕ) (P : A → Type 0) (all : List ℕ) (x y : A) (at next : Place)
    → ◌≡◌ {A = Result (A × Place) CertError} (Ok (x, at)) (Ok (y, next))
    → (all ≡ text x ++ at.text) × P x → (all ≡ text y ++ next.text) × P y
of_value text P all x y at next same h =
    let pair : (x, at) ≡ (y, next) = cc in
    let value : x ≡ y = ap (λ (p : _ × Place). p.0) pair in
    let place : at ≡ next = ap (λ (p : _ × Place). p.1) pair in
    moved_value value place h
  where
    moved_value : x ≡ y → at ≡ next → (all ≡ text x ++ at.text) × P x → (all ≡ text y ++ next.text) × P y
    moved_value value place h = let Q : Place → Type 0 = λ p. (all ≡ text y ++ p.text) × P y
        in subst Q place (let R : _ → Type 0 = λ z. (all ≡ text z ++ at.text) × P z in subst R value h)

-- what a part says, and what stands behind it
pub reads_first : {A B : Type 0} (read : Result (A × Place) CertError) (next : A → Part B) (value : A) (between : Place)
    (all : Result (B × Place) CertError) → read ≡ Ok (value, between)
    → next value between ≡ all → followed_by read next ≡ all
reads_first read next value between all first others = ap (λ r. followed_by r next) first ∙ others

-- a line takes one line
pub line_behind : {A : Type 0} (judge : List (List ℕ) → Result A Fault) (at next : Place) (x : A) → line judge at
    ≡ Ok (x, next) → next.line ≡ at.line + 1
line_behind judge at next x e = cut_behind (first_line at.text) e
  where
    said_behind : (text : List ℕ) (said : Result _ Fault) → line_read at.line text said ≡ Ok (x, next) → next.line
        ≡ at.line + 1
    said_behind text (Ok value) e =
        let same : (value, record { line = at.line + 1; text = text }) ≡ (x, next) = cc in
        sym (ap (λ (p : _ × Place). p.1.line) same)
    said_behind text (Err Words) e = absurd (cc e)
    said_behind text (Err Range) e = absurd (cc e)

    cut_behind : (o : Option (List ℕ × List ℕ)) → cut_read judge at.line o ≡ Ok (x, next) → next.line ≡ at.line + 1
    cut_behind None e = absurd (cc e)
    cut_behind (Some cut) e = said_behind cut.1 (judge (words_of cut.0)) e
