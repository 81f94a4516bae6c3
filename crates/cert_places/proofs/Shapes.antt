-- Parts of a text that go by its lines, as the texts of some values do.
--
-- A shape has values, each with its bytes and the depths of their lines. What is shown of a part that reads such bytes:
-- what it took are the lines of a value, none of them too deep, and it reads the same from them whatever stands behind.
-- Where it is refused, it is so at a line: those before it begin a value, none of them too deep; it is refused just so
-- whatever stands behind that line, and where the words are wrong, also with other numbers; a number out of range can be
-- another, and a line that is too deep is one of a value. And on a value's bytes it reads them all, or it is `Deep` at
-- the first line that is too deep. It holds of parts one behind the other, of so many of one kind, and of a line with
-- what it announces. What may stand behind a part is any text, but for the end.
use Rattle.std.proofs.Common.{◌≡◌, ℕ, zero, suc, ◌+◌, ◌<◌, ◌≤◌, Option, Some, None, List, [], ◌∷◌, ◌++◌, All, Result}
use Rattle.std.proofs.Common.{Ok, Err, length, length-append, append_assoc, append-nil, refl, sym, ap, subst, ◌∙◌}
use Rattle.std.proofs.Common.{arith}
use Rattle.std.specs.List.{flat_map, join_with_byte}
use Rattle.std.proofs.lemmas.List.Concat.{flat_map-append}
use Rattle.std.proofs.lemmas.List.Elements.{All-append, All-cons, All-head, All-nil, All-tail}
use Rattle.std.proofs.lemmas.List.Splits.{join_with_byte-slice_split}
use Rattle.text_out.specs.Words.{line_text}
use Rattle.cert_lines.specs.declared.error.CertError.{CertError}
use Rattle.cert_lines.specs.declared.error.CertError.TheVariants.{Line, Number, Truncated, Deep, Long, Memory}
use Rattle.cert_lines.specs.declared.error.Fault.{Fault}
use Rattle.cert_lines.specs.declared.error.Fault.TheVariants.{Words, Range}
use Rattle.cert_lines.specs.Words.{words_of}
use Rattle.cert_lines.specs.Reading.{Part, Place, cut_read, first_line, followed_by, goes_on, line, line_read, many}
use Rattle.cert_lines.specs.Reading.{text_end}
use Rattle.cert_lines.proofs.Codecs.{IsSpelled}
use Rattle.cert_lines.proofs.LineWords.{line_lacks}
use Rattle.cert_lines.proofs.Cuts.{IsCut, cut_of_parts, is_cut, is_not_cut}
use Rattle.cert_places.specs.Fronts.{IsLine, lines_text}
use Rattle.cert_places.specs.Places.{IsDeepBehind, IsShallow, pattern}
use Rattle.cert_places.proofs.Patterns.{Mended, Milds, mends, stays_wrong, words_of_joined}

-- values with their bytes and the depths of their lines, those that may stand, and one of these
pub record Shape : Type 1 where
  pub X : Type 0
  pub text : X → List ℕ
  pub depths : X → List ℕ
  pub fits : X → Type 0
  pub some : X
  pub some_fits : fits some

-- What is told of a refusal

-- it is of the line of this number, or the text ended; behind the line stands this
abbrev pub Told : CertError → ℕ → List ℕ → Type 0
Told (Line m) n tail = (m ≡ n) × ((rest : List ℕ) × (tail ≡ 10 ∷ rest))
Told (Number m) n tail = (m ≡ n) × ((rest : List ℕ) × (tail ≡ 10 ∷ rest))
Told (Deep m) n tail = (m ≡ n) × ((rest : List ℕ) × (tail ≡ 10 ∷ rest))
Told Truncated n tail = tail ≡ []
Told (Long process) n tail = ⊥
Told Memory n tail = ⊥

-- the lines with which it is the same: only the first line of a text must be that one where its words are wrong
abbrev pub Alike : CertError → List ℕ → List ℕ → Type 0
Alike (Line n) text other = (pattern text ≡ pattern other) × (n ≤ 1 → text ≡ other)
Alike (Number n) text other = text ≡ other
Alike (Deep n) text other = text ≡ other
Alike Truncated text other = ⊥
Alike (Long process) text other = ⊥
Alike Memory text other = ⊥

pub record Other (n : ℕ) (text after : List ℕ) : Type 0 where
  pub later : 1 < n
  pub other : List ℕ
  pub whole : IsLine other
  pub same : pattern text ≡ pattern other
  pub rest : List ℕ
  pub is : after ≡ other ++ 10 ∷ rest

abbrev pub IsDeep : List ℕ → Type 0
IsDeep [] = ⊥
IsDeep (depth ∷ depths) = 512 < depth

-- how the lines before go on to a value, with these bytes and depths
abbrev pub GoesOn : CertError → List ℕ → List ℕ → List ℕ → Type 0
GoesOn (Line n) text after depths = Unit {0}
GoesOn (Number n) text after depths = Other n text after
GoesOn (Deep n) text after depths = ((rest : List ℕ) × (after ≡ text ++ 10 ∷ rest)) × IsDeep depths
GoesOn Truncated text after depths = Unit {0}
GoesOn (Long process) text after depths = Unit {0}
GoesOn Memory text after depths = Unit {0}

goes_further : (e : CertError) (text after depths rest others : List ℕ) → GoesOn e text after depths
    → GoesOn e text (after ++ rest) (depths ++ others)
goes_further (Line n) text after depths rest others k = tt
goes_further (Number n) text after depths rest others k = record {
  later = k.later;
  other = k.other;
  whole = k.whole;
  same = k.same;
  rest = k.rest ++ rest;
  is = ap (λ (t : List ℕ). t ++ rest) k.is ∙ append_assoc k.other (10 ∷ k.rest) rest;
}
goes_further (Deep n) text after [] rest others k = absurd k.1
goes_further (Deep n) text after (depth ∷ depths) rest others k =
    ((k.0.0 ++ rest, ap (λ (t : List ℕ). t ++ rest) k.0.1 ∙ append_assoc text (10 ∷ k.0.0) rest), k.1)
goes_further Truncated text after depths rest others k = tt
goes_further (Long process) text after depths rest others k = tt
goes_further Memory text after depths rest others k = tt

-- What a part took, and where it stops

pub record Took {A : Type 0} (R : List ℕ → Type 0) (part : Part A) (S : Shape) (at next : Place) (value : A) : Type 0 where
  pub lines : List (List ℕ)
  pub each : All IsLine lines
  pub is_text : at.text ≡ lines_text lines ++ next.text
  pub number : next.line ≡ at.line + length lines
  pub x : S.X
  pub fits : S.fits x
  pub text_is : S.text x ≡ lines_text lines
  pub as_many : length (S.depths x) ≡ length lines
  pub shallow : All IsShallow (S.depths x)
  pub left : R next.text
  pub anywhere : (rest : List ℕ) → R rest → part (record { line = at.line; text = lines_text lines ++ rest })
      ≡ Ok (value, record { line = next.line; text = rest })

-- a line, or what stands behind the last line feed, and the lines before it
pub record Stop {A : Type 0} (part : Part A) (S : Shape) (at : Place) (e : CertError) : Type 0 where
  pub lines : List (List ℕ)
  pub each : All IsLine lines
  pub text : List ℕ
  pub whole : IsLine text
  pub tail : List ℕ
  pub is_text : at.text ≡ lines_text lines ++ (text ++ tail)
  pub told : Told e (at.line + length lines) tail
  pub anywhere : (other more : List ℕ) → IsLine other → Alike e text other
      → part (record { line = at.line; text = lines_text lines ++ (other ++ 10 ∷ more) }) ≡ Err e
  pub x : S.X
  pub fits : S.fits x
  pub after : List ℕ
  pub text_is : S.text x ≡ lines_text lines ++ after
  pub depths : List ℕ
  pub others : List ℕ
  pub depths_are : S.depths x ≡ depths ++ others
  pub as_many : length depths ≡ length lines
  pub shallow : All IsShallow depths
  pub goes_on : GoesOn e text after others

abbrev pub Fate : {A : Type 0} → (List ℕ → Type 0) → Part A → Shape → Place → Result (A × Place) CertError → Type 0
Fate R part S at (Ok read) = Took R part S at read.1 read.0
Fate R part S at (Err e) = Stop part S at e

-- what is read of bytes whose lines have these depths, and behind which these stand
pub data Outcome {A : Type 0} (n : ℕ) (rest ds : List ℕ) (read : Result (A × Place) CertError) : Type 0 where
  passes : (value : A) → All IsShallow ds → read ≡ Ok (value, record { line = n + length ds; text = rest })
      → Outcome n rest ds read
  deepens : (count : ℕ) → IsDeepBehind count ds → read ≡ Err (Deep (n + count)) → Outcome n rest ds read

-- behind the first line, the part reads values of the shape, where such bytes stand behind it
pub record Reads {A : Type 0} (R : List ℕ → Type 0) (part : Part A) (S : Shape) : Type 0 where
  pub fate : (at : Place) → 1 < at.line → Fate R part S at (part at)
  pub answers : (x : S.X) (n : ℕ) (rest : List ℕ) → S.fits x → R rest
      → Outcome n rest (S.depths x) (part (record { line = n; text = S.text x ++ rest }))

abbrev pub Any : List ℕ → Type 0
Any rest = Unit {0}

-- Texts that are grouped anew

pub one_line : (text rest : List ℕ) → lines_text (text ∷ []) ++ rest ≡ text ++ 10 ∷ rest
one_line text rest = ap (λ (front : List ℕ). front ++ rest) (append-nil (text ++ 10 ∷ []))
    ∙ append_assoc text (10 ∷ []) rest

pub two_texts : (a b : List (List ℕ)) (rest : List ℕ) → lines_text (a ++ b) ++ rest
    ≡ lines_text a ++ (lines_text b ++ rest)
two_texts a b rest = ap (λ (text : List ℕ). text ++ rest) (flat_map-append (λ line. line ++ 10 ∷ []) a b)
    ∙ append_assoc (lines_text a) (lines_text b) rest

-- lines, and one more
pub grouped : (lines : List (List ℕ)) (line rest : List ℕ) → lines_text (lines ++ line ∷ []) ++ rest
    ≡ lines_text lines ++ (line ++ 10 ∷ rest)
grouped lines line rest = two_texts lines (line ∷ []) rest
    ∙ ap (λ (t : List ℕ). lines_text lines ++ t) (one_line line rest)

regrouped : (a b c d : List ℕ) → a ++ ((b ++ c) ++ d) ≡ (a ++ b) ++ (c ++ d)
regrouped a b c d = simp append_assoc refl

-- What stands before

-- the bytes of a value, with others before and behind them
pub record Lifted (M : Shape) (before before_depths text depths : List ℕ) : Type 0 where
  pub x : M.X
  pub fits : M.fits x
  pub rest : List ℕ
  pub text_is : M.text x ≡ before ++ (text ++ rest)
  pub others : List ℕ
  pub depths_are : M.depths x ≡ before_depths ++ (depths ++ others)

-- lines that were taken before a part of a whole
pub record Ahead {A B : Type 0} (part : Part A) (whole : Part B) (S M : Shape) (at mid : Place) : Type 0 where
  pub lines : List (List ℕ)
  pub each : All IsLine lines
  pub is_text : at.text ≡ lines_text lines ++ mid.text
  pub number : mid.line ≡ at.line + length lines
  pub depths : List ℕ
  pub as_many : length depths ≡ length lines
  pub shallow : All IsShallow depths
  pub refuses : (text : List ℕ) (e : CertError) → part (record { line = mid.line; text = text }) ≡ Err e
      → whole (record { line = at.line; text = lines_text lines ++ text }) ≡ Err e
  pub lift : (x : S.X) → S.fits x → Lifted M (lines_text lines) depths (S.text x) (S.depths x)

stop_ahead : {A B : Type 0} (part : Part A) (whole : Part B) (S M : Shape) (at mid : Place)
    → Ahead part whole S M at mid → (e : CertError) → Stop part S mid e → Stop whole M at e
stop_ahead part whole S M at mid a e k =
    let l = a.lift k.x k.fits in
    let count : mid.line + length k.lines ≡ at.line + length (a.lines ++ k.lines) =
    omega (arith, a.number, length-append a.lines k.lines) in
    record {
      lines = a.lines ++ k.lines;
      each = All-append IsLine a.lines k.lines a.each k.each;
      text = k.text;
      whole = k.whole;
      tail = k.tail;
      is_text = a.is_text ∙ ap (λ (t : List ℕ). lines_text a.lines ++ t) k.is_text
          ∙ sym (two_texts a.lines k.lines (k.text ++ k.tail));
      told = subst (λ (n : ℕ). Told e n k.tail) count k.told;
      anywhere = λ other more line alike.
          ap (λ (t : List ℕ). whole (record { line = at.line; text = t })) (two_texts a.lines k.lines (other ++ 10 ∷ more))
          ∙ a.refuses (lines_text k.lines ++ (other ++ 10 ∷ more)) e (k.anywhere other more line alike);
      x = l.x;
      fits = l.fits;
      after = k.after ++ l.rest;
      text_is = l.text_is ∙ ap (λ (t : List ℕ). lines_text a.lines ++ (t ++ l.rest)) k.text_is
          ∙ regrouped (lines_text a.lines) (lines_text k.lines) k.after l.rest
          ∙ ap (λ (t : List ℕ). t ++ (k.after ++ l.rest)) (sym (flat_map-append (λ line. line ++ 10 ∷ []) a.lines k.lines));
      depths = a.depths ++ k.depths;
      others = k.others ++ l.others;
      depths_are = l.depths_are ∙ ap (λ (ds : List ℕ). a.depths ++ (ds ++ l.others)) k.depths_are
          ∙ regrouped a.depths k.depths k.others l.others;
      as_many = omega (arith, length-append a.depths k.depths, length-append a.lines k.lines, a.as_many, k.as_many);
      shallow = All-append IsShallow a.depths k.depths a.shallow k.shallow;
      goes_on = goes_further e k.text k.after k.others l.rest l.others k.goes_on;
    }

-- a part that is refused at its first line
stop_here : {A : Type 0} (part : Part A) (S : Shape) (at : Place) (e : CertError) (text tail : List ℕ) → IsLine text
    → at.text ≡ text ++ tail → Told e at.line tail
    → ((other more : List ℕ) → IsLine other → Alike e text other
    → part (record { line = at.line; text = other ++ 10 ∷ more }) ≡ Err e)
    → (x : S.X) → S.fits x → GoesOn e text (S.text x) (S.depths x) → Stop part S at e
stop_here part S at e text tail whole is told anywhere x fits goes_on =
    let here : at.line ≡ at.line + 0 = omega arith in
    record {
      lines = [];
      each = All-nil IsLine;
      text = text;
      whole = whole;
      tail = tail;
      is_text = is;
      told = subst (λ (n : ℕ). Told e n tail) here told;
      anywhere = anywhere;
      x = x;
      fits = fits;
      after = S.text x;
      text_is = refl;
      depths = [];
      others = S.depths x;
      depths_are = refl;
      as_many = refl;
      shallow = All-nil IsShallow;
      goes_on = goes_on;
    }

-- a part that reads no line
took_none : {A : Type 0} (R : List ℕ → Type 0) (part : Part A) (S : Shape) (at : Place) (value : A) (x : S.X) → S.fits x
    → S.text x ≡ [] → S.depths x ≡ [] → R at.text
    → ((rest : List ℕ) → R rest → part (record { line = at.line; text = rest })
    ≡ Ok (value, record { line = at.line; text = rest })) → Took R part S at at value
took_none R part S at value x fits text_is depths_are left anywhere = record {
  lines = [];
  each = All-nil IsLine;
  is_text = refl;
  number = omega arith;
  x = x;
  fits = fits;
  text_is = text_is;
  as_many = ap length depths_are;
  shallow = subst (All IsShallow) (sym depths_are) (All-nil IsShallow);
  left = left;
  anywhere = anywhere;
}

-- Outcomes

none_passes : {A : Type 0} (value : A) (n : ℕ) (rest : List ℕ) (read : Result (A × Place) CertError)
    → read ≡ Ok (value, record { line = n; text = rest }) → Outcome n rest [] read
none_passes value n rest read is =
    let same : n ≡ n + 0 = omega arith in
    passes value (All-nil IsShallow) (is ∙ ap (λ (m : ℕ). Ok (value, record { line = m; text = rest })) same)

outcome_behind : {B : Type 0} (n : ℕ) (rest ds es : List ℕ) (read : Result (B × Place) CertError) → All IsShallow ds
    → Outcome (n + length ds) rest es read → Outcome n rest (ds ++ es) read
outcome_behind n rest ds es read low (passes b low2 is) =
    let lines : (n + length ds) + length es ≡ n + length (ds ++ es) = omega (arith, length-append ds es) in
    passes b (All-append IsShallow ds es low low2) (is ∙ ap (λ (m : ℕ). Ok (b, record { line = m; text = rest })) lines)
outcome_behind n rest ds es read low (deepens count k is) =
    let lines : (n + length ds) + count ≡ n + (length ds + count) = omega arith in
    deepens (length ds + count)
    (record {
      before = ds ++ k.before;
      depth = k.depth;
      others = k.others;
      depths_are = ap (λ (x : List ℕ). ds ++ x) k.depths_are ∙ sym (append_assoc ds k.before (k.depth ∷ k.others));
      as_many = omega (arith, k.as_many, length-append ds k.before);
      shallow = All-append IsShallow ds k.before low k.shallow;
      too_deep = k.too_deep;
    })
    (is ∙ ap (λ (m : ℕ). Err (Deep m)) lines)

both_outcomes : {A B : Type 0} (second : A → Part B) (n : ℕ) (rest between ds es : List ℕ)
    (read : Result (A × Place) CertError)
    → ((a : A) → Outcome (n + length ds) rest es (second a (record { line = n + length ds; text = between })))
    → Outcome n between ds read → Outcome n rest (ds ++ es) (followed_by read second)
both_outcomes {A} second n rest between ds es read later (passes a low is) =
    outcome_behind n rest ds es _ low
    (subst (λ (r : Result (A × Place) CertError). Outcome (n + length ds) rest es (followed_by r second)) (sym is)
    (later a))
both_outcomes {A} second n rest between ds es read later (deepens count k is) =
    deepens count
    (record {
      before = k.before;
      depth = k.depth;
      others = k.others ++ es;
      depths_are = ap (λ (x : List ℕ). x ++ es) k.depths_are ∙ append_assoc k.before (k.depth ∷ k.others) es;
      as_many = k.as_many;
      shallow = k.shallow;
      too_deep = k.too_deep;
    })
    (ap (λ (r : Result (A × Place) CertError). followed_by r second) is)

-- Values, and the end

abbrev pub Nil : Shape
Nil = record {
  X = Unit {0};
  text = λ x. [];
  depths = λ x. [];
  fits = λ x. Unit {0};
  some = tt;
  some_fits = tt;
}

pub reads_value : {A : Type 0} (value : A) → Reads Any (λ at. Ok (value, at)) Nil
reads_value value = record {
  fate = λ at later. took_none Any (λ at. Ok (value, at)) Nil at value tt tt refl refl tt (λ rest r. refl);
  answers = λ x n rest fits r. none_passes value n rest _ refl;
}

-- nothing stands behind it
abbrev pub Last : List ℕ → Type 0
Last rest = rest ≡ []

module _ {A : Type 0} (value : A) where
  abbrev pub end_part : Part A
  end_part at = followed_by (text_end at) (λ nothing at. Ok (value, at))

  left_over : (n : ℕ) (text other : List ℕ) → IsLine text
      → end_part (record { line = n; text = text ++ 10 ∷ other }) ≡ Err (Line n)
  left_over n [] other whole =
      ap (λ (o : Option (List ℕ × List ℕ)). Err (goes_on n o)) (cut_of_parts 10 [] other whole)
  left_over n (byte ∷ text) other whole =
      ap (λ (o : Option (List ℕ × List ℕ)). Err (goes_on n o)) (cut_of_parts 10 (byte ∷ text) other whole)

  end_fate : (n : ℕ) (text : List ℕ)
      → Fate Last end_part Nil (record { line = n; text = text }) (end_part (record { line = n; text = text }))
  end_fate n [] =
      took_none Last end_part Nil (record { line = n; text = [] }) value tt tt refl refl refl
      (λ rest r. subst (λ (t : List ℕ). end_part (record { line = n; text = t })
      ≡ Ok (value, record { line = n; text = t })) (sym r) refl)
  end_fate n (byte ∷ bytes) = of_cut (first_line (byte ∷ bytes)) refl
    where
      of_cut : (o : Option (List ℕ × List ℕ)) → first_line (byte ∷ bytes) ≡ o
          → Stop end_part Nil (record { line = n; text = byte ∷ bytes }) (goes_on n o)
      of_cut None is =
          stop_here end_part Nil (record { line = n; text = byte ∷ bytes }) Truncated (byte ∷ bytes) []
          (is_not_cut 10 (byte ∷ bytes) is) (sym (append-nil (byte ∷ bytes))) refl
          (λ other more line alike. absurd alike) tt tt tt
      of_cut (Some cut) is =
          let k = is_cut 10 (byte ∷ bytes) cut.0 cut.1 is in
          stop_here end_part Nil (record { line = n; text = byte ∷ bytes }) (Line n) cut.0 (10 ∷ cut.1) k.lacks k.parts
          (refl, (cut.1, refl)) (λ other more line alike. left_over n other more line) tt tt tt

  pub reads_end : Reads Last end_part Nil
  reads_end = record {
    fate = λ at later. end_fate at.line at.text;
    answers = λ x n rest fits r. subst (λ (t : List ℕ). Outcome n t [] (end_part (record { line = n; text = t })))
        (sym r) (none_passes value n [] _ refl);
  }

-- Parts one behind the other

-- what the values of two parts make
pub record Joins (S T M : Shape) : Type 0 where
  pub make : S.X → T.X → M.X
  pub fits : (x : S.X) (y : T.X) → S.fits x → T.fits y → M.fits (make x y)
  pub text_is : (x : S.X) (y : T.X) → T.fits y → M.text (make x y) ≡ S.text x ++ T.text y
  pub depths_are : (x : S.X) (y : T.X) → T.fits y → M.depths (make x y) ≡ S.depths x ++ T.depths y

pub record Parts (S T M : Shape) (j : Joins S T M) (z : M.X) : Type 0 where
  pub x : S.X
  pub y : T.X
  pub x_fits : S.fits x
  pub y_fits : T.fits y
  pub is : j.make x y ≡ z

module _ {A B : Type 0} (R : List ℕ → Type 0) (first : Part A) (second : ℕ → A → Part B) (whole : Part B)
    (whole_is : (at : Place) → whole at ≡ followed_by (first at) (second at.line)) (S T M : Shape) (j : Joins S T M) where
  by_first : (n : ℕ) (text : List ℕ) (read : Result (A × Place) CertError)
      → first (record { line = n; text = text }) ≡ read
      → whole (record { line = n; text = text }) ≡ followed_by read (second n)
  by_first n text read e = whole_is (record { line = n; text = text })
      ∙ ap (λ (r : Result (A × Place) CertError). followed_by r (second n)) e

  before_first : (at : Place) → Ahead first whole S M at at
  before_first at = record {
    lines = [];
    each = All-nil IsLine;
    is_text = refl;
    number = omega arith;
    depths = [];
    as_many = refl;
    shallow = All-nil IsShallow;
    refuses = λ text e refused. by_first at.line text (Err e) refused;
    lift = λ x fits. record {
      x = j.make x T.some;
      fits = j.fits x T.some fits T.some_fits;
      rest = T.text T.some;
      text_is = j.text_is x T.some T.some_fits;
      others = T.depths T.some;
      depths_are = j.depths_are x T.some T.some_fits;
    };
  }

  module _ (at mid : Place) (a : A) (t : Took Any first S at mid a) where
    behind_first : Ahead (second at.line a) whole T M at mid
    behind_first = record {
      lines = t.lines;
      each = t.each;
      is_text = t.is_text;
      number = t.number;
      depths = S.depths t.x;
      as_many = t.as_many;
      shallow = t.shallow;
      refuses = λ text e refused. by_first at.line (lines_text t.lines ++ text)
          (Ok (a, record { line = mid.line; text = text })) (t.anywhere text tt) ∙ refused;
      lift = λ y fits. record {
        x = j.make t.x y;
        fits = j.fits t.x y t.fits fits;
        rest = [];
        text_is = j.text_is t.x y fits ∙ ap (λ (front : List ℕ). front ++ T.text y) t.text_is
            ∙ ap (λ (more : List ℕ). lines_text t.lines ++ more) (sym (append-nil (T.text y)));
        others = [];
        depths_are = j.depths_are t.x y fits
            ∙ ap (λ (more : List ℕ). S.depths t.x ++ more) (sym (append-nil (T.depths y)));
      };
    }

    both_took : (next : Place) (b : B) → Took R (second at.line a) T mid next b → Took R whole M at next b
    both_took next b u =
        let depths = j.depths_are t.x u.x u.fits in
        let more : List ℕ = lines_text u.lines in
        record {
          lines = t.lines ++ u.lines;
          each = All-append IsLine t.lines u.lines t.each u.each;
          is_text = t.is_text ∙ ap (λ (rest : List ℕ). lines_text t.lines ++ rest) u.is_text
              ∙ sym (two_texts t.lines u.lines next.text);
          number = omega (arith, t.number, u.number, length-append t.lines u.lines);
          x = j.make t.x u.x;
          fits = j.fits t.x u.x t.fits u.fits;
          text_is = j.text_is t.x u.x u.fits ∙ ap (λ (front : List ℕ). front ++ T.text u.x) t.text_is
              ∙ ap (λ (rest : List ℕ). lines_text t.lines ++ rest) u.text_is
              ∙ sym (flat_map-append (λ line. line ++ 10 ∷ []) t.lines u.lines);
          as_many = omega (
            arith,
            ap length depths,
            length-append (S.depths t.x) (T.depths u.x),
            length-append t.lines u.lines,
            t.as_many,
            u.as_many,
          );
          shallow = subst (All IsShallow) (sym depths)
              (All-append IsShallow (S.depths t.x) (T.depths u.x) t.shallow u.shallow);
          left = u.left;
          anywhere = λ rest r.
              ap (λ (text : List ℕ). whole (record { line = at.line; text = text })) (two_texts t.lines u.lines rest)
              ∙ by_first at.line (lines_text t.lines ++ (lines_text u.lines ++ rest))
              (Ok (a, record { line = mid.line; text = lines_text u.lines ++ rest }))
              (t.anywhere (lines_text u.lines ++ rest) tt)
              ∙ u.anywhere rest r;
        }

    both_fates : (read : Result (B × Place) CertError) → Fate R (second at.line a) T mid read → Fate R whole M at read
    both_fates (Ok read) u = both_took read.1 read.0 u
    both_fates (Err e) u = stop_ahead (second at.line a) whole T M at mid behind_first e u

  pub reads_both : ((z : M.X) → M.fits z → Parts S T M j z) → Reads Any first S
      → ((n : ℕ) (a : A) → Reads R (second n a) T) → Reads R whole M
  reads_both parts one two = record {
    fate = λ at later. subst (λ (r : Result (B × Place) CertError). Fate R whole M at r) (sym (whole_is at))
        (fate_of at later (first at) (one.fate at later));
    answers = λ z n rest fits r.
        let p = parts z fits in
        subst (λ (z : M.X). Outcome n rest (M.depths z) (whole (record { line = n; text = M.text z ++ rest }))) p.is
        (answer p.x p.y p.x_fits p.y_fits n rest r);
  }
    where
      fate_of : (at : Place) → 1 < at.line → (read : Result (A × Place) CertError) → Fate Any first S at read
          → Fate R whole M at (followed_by read (second at.line))
      fate_of at later (Ok read) t =
          both_fates at read.1 read.0 t (second at.line read.0 read.1)
          ((two at.line read.0).fate read.1 (omega (arith, later, t.number)))
      fate_of at later (Err e) k = stop_ahead first whole S M at at (before_first at) e k

      answer : (x : S.X) (y : T.X) → S.fits x → T.fits y → (n : ℕ) (rest : List ℕ) → R rest
          → Outcome n rest (M.depths (j.make x y)) (whole (record { line = n; text = M.text (j.make x y) ++ rest }))
      answer x y x_fits y_fits n rest r =
          let text : M.text (j.make x y) ++ rest ≡ S.text x ++ (T.text y ++ rest) =
          ap (λ (t : List ℕ). t ++ rest) (j.text_is x y y_fits) ∙ append_assoc (S.text x) (T.text y) rest in
          let reads = ap (λ (t : List ℕ). whole (record { line = n; text = t })) text
          ∙ by_first n (S.text x ++ (T.text y ++ rest)) _ refl in
          subst (λ (ds : List ℕ). Outcome n rest ds (whole (record { line = n; text = M.text (j.make x y) ++ rest })))
          (sym (j.depths_are x y y_fits))
          (subst (Outcome n rest (S.depths x ++ T.depths y)) (sym reads)
          (both_outcomes (second n) n rest (T.text y ++ rest) (S.depths x) (T.depths y)
          (first (record { line = n; text = S.text x ++ (T.text y ++ rest) }))
          (λ a. (two n a).answers y (n + length (S.depths x)) rest y_fits r) (one.answers x n (T.text y ++ rest) x_fits tt)))

-- what a part's value makes
pub reads_made : {A B : Type 0} {part : Part A} {S : Shape} (f : A → B) → Reads Any part S
    → Reads Any (λ at. followed_by (part at) (λ a at. Ok (f a, at))) S
reads_made {A} {B} {part} {S} f k =
    reads_both Any part (λ n a at. Ok (f a, at)) (λ at. followed_by (part at) (λ a at. Ok (f a, at))) (λ at. refl) S Nil S
    (record {
      make = λ x y. x;
      fits = λ x y x_fits y_fits. x_fits;
      text_is = λ x y y_fits. sym (append-nil (S.text x));
      depths_are = λ x y y_fits. sym (append-nil (S.depths x));
    })
    (λ z fits. record { x = z; y = tt; x_fits = fits; y_fits = tt; is = refl }) k (λ n a. reads_value (f a))

-- values of one shape, and then of another
abbrev pub Two : Shape → Shape → Shape
Two S T = record {
  X = S.X × T.X;
  text = λ p. S.text p.0 ++ T.text p.1;
  depths = λ p. S.depths p.0 ++ T.depths p.1;
  fits = λ p. S.fits p.0 × T.fits p.1;
  some = (S.some, T.some);
  some_fits = (S.some_fits, T.some_fits);
}

pub reads_two : {A B : Type 0} {R : List ℕ → Type 0} {first : Part A} {second : A → Part B} {S T : Shape}
    → Reads Any first S → ((a : A) → Reads R (second a) T) → Reads R (λ at. followed_by (first at) second) (Two S T)
reads_two {A} {B} {R} {first} {second} {S} {T} one two =
    reads_both R first (λ n. second) (λ at. followed_by (first at) second) (λ at. refl) S T (Two S T)
    (record {
      make = λ x y. (x, y);
      fits = λ x y x_fits y_fits. (x_fits, y_fits);
      text_is = λ x y y_fits. refl;
      depths_are = λ x y y_fits. refl;
    })
    (λ z fits. record { x = z.0; y = z.1; x_fits = fits.0; y_fits = fits.1; is = refl }) one (λ n. two)

module _ (S : Shape) where
  pub copies : (count : ℕ) → (xs : List S.X) × ((length xs ≡ count) × All S.fits xs)
  copies zero = ([], (refl, All-nil S.fits))
  copies (suc count) =
      let k = copies count in
      (S.some ∷ k.0, (ap suc k.1.0, All-cons S.fits S.some k.0 S.some_fits k.1.1))

  -- so many values of one shape
  abbrev pub Many : ℕ → Shape
  Many count = record {
    X = List S.X;
    text = flat_map S.text;
    depths = flat_map S.depths;
    fits = λ xs. (length xs ≡ count) × All S.fits xs;
    some = (copies count).0;
    some_fits = (copies count).1;
  }

  none_joins : Joins Nil Nil (Many 0)
  none_joins = record {
    make = λ x y. [];
    fits = λ x y x_fits y_fits. (refl, All-nil S.fits);
    text_is = λ x y y_fits. refl;
    depths_are = λ x y y_fits. refl;
  }

  more_joins : (count : ℕ) → Joins S (Many count) (Many (suc count))
  more_joins count = record {
    make = λ x xs. x ∷ xs;
    fits = λ x xs x_fits xs_fit. (ap suc xs_fit.0, All-cons S.fits x xs x_fits xs_fit.1);
    text_is = λ x xs xs_fit. refl;
    depths_are = λ x xs xs_fit. refl;
  }

  none_apart : (xs : List S.X) → (Many 0).fits xs → Parts Nil Nil (Many 0) none_joins xs
  unfolding none_joins
  none_apart [] fits = record { x = tt; y = tt; x_fits = tt; y_fits = tt; is = refl }
  none_apart (x ∷ xs) fits = absurd (omega (arith, fits.0))

  more_apart : (count : ℕ) (xs : List S.X) → (Many (suc count)).fits xs
      → Parts S (Many count) (Many (suc count)) (more_joins count) xs
  unfolding more_joins
  more_apart count [] fits = absurd (omega (arith, fits.0))
  more_apart count (x ∷ xs) fits =
      let less : length xs ≡ count = omega (arith, fits.0) in
      record {
        x = x;
        y = xs;
        x_fits = All-head S.fits x xs fits.1;
        y_fits = (less, All-tail S.fits x xs fits.1);
        is = refl;
      }

  pub reads_many : {A : Type 0} {part : Part A} → Reads Any part S → (count : ℕ) → Reads Any (many part count) (Many count)
  unfolding many
  reads_many {A} {part} k zero =
      reads_both {A = ℕ} Any (λ at. Ok (0, at)) (λ n u at. Ok ([], at)) (many part 0) (λ at. refl) Nil Nil (Many 0) none_joins
      none_apart (reads_value 0) (λ n u. reads_value [])
  reads_many {A} {part} k (suc count) =
      reads_both Any part
      (λ n value at. followed_by (many part count at) (λ values at. Ok (value ∷ values, at))) (many part (suc count))
      (λ at. refl) S (Many count) (Many (suc count)) (more_joins count) (more_apart count) k
      (λ n value. reads_made (λ values. value ∷ values) (reads_many k count))

-- Lines

-- what follows the line n of this depth: a part, unless the line is too deep
pub data Behind {B : Type 0} (R : List ℕ → Type 0) (part : Part B) (S : Shape) (n depth : ℕ) : Type 0 where
  within : depth ≤ 512 → Reads R part S → Behind R part S n depth
  too_deep : 512 < depth → ((at : Place) → part at ≡ Err (Deep n)) → Behind R part S n depth

-- a line, and what follows it
pub record Step {B : Type 0} (R : List ℕ → Type 0) (M : Shape) (front : List ℕ) (second : ℕ → Part B) : Type 1 where
  pub S : Shape
  pub depth : ℕ
  pub make : S.X → M.X
  pub fits : (x : S.X) → S.fits x → M.fits (make x)
  pub text_is : (x : S.X) → S.fits x → M.text (make x) ≡ front ++ S.text x
  pub depths_are : (x : S.X) → S.fits x → M.depths (make x) ≡ depth ∷ S.depths x
  pub behind : (n : ℕ) → Behind R (second n) S n depth

-- where a line n is wrong, others of its pattern are
pub record Lenient {A : Type 0} (judge : List (List ℕ) → Result A Fault) (n : ℕ) : Type 0 where
  pub mends : (text : List ℕ) → IsLine text → judge (words_of text) ≡ Err Range → (1 < n) × Mended judge text
  pub stays : (text other : List ℕ) → Alike (Line n) text other → judge (words_of text) ≡ Err Words
      → judge (words_of other) ≡ Err Words

pub lenient : {A : Type 0} (judge : List (List ℕ) → Result A Fault) → Milds judge → (n : ℕ) → 1 < n → Lenient judge n
lenient judge milds n later = record {
  mends = λ text whole e. (later, mends judge milds text whole e);
  stays = λ text other alike e. stays_wrong judge milds (words_of text) (words_of other) alike.0 e;
}

-- one line
abbrev OneLine : List ℕ → ℕ → Shape
OneLine text depth = record {
  X = Unit {0};
  text = λ x. text ++ 10 ∷ [];
  depths = λ x. depth ∷ [];
  fits = λ x. Unit {0};
  some = tt;
  some_fits = tt;
}

line_judged : {A : Type 0} (judge : List (List ℕ) → Result A Fault) (text : List ℕ) (n : ℕ) (rest : List ℕ)
    (verdict : Result A Fault) → IsLine text → judge (words_of text) ≡ verdict
    → line judge (record { line = n; text = text ++ 10 ∷ rest }) ≡ line_read n rest verdict
line_judged {A} judge text n rest verdict whole said =
    ap (λ (o : Option (List ℕ × List ℕ)). cut_read judge n o) (cut_of_parts 10 text rest whole)
    ∙ ap (λ (v : Result A Fault). line_read n rest v) said

module _ {A B : Type 0} (R : List ℕ → Type 0) (judge : List (List ℕ) → Result A Fault) (second : ℕ → A → Part B)
    (whole : Part B) (whole_is : (at : Place) → whole at ≡ followed_by (line judge at) (second at.line)) (M : Shape) where
  abbrev StepAt : List ℕ → A → Type 1
  StepAt text said = Step R M (text ++ 10 ∷ []) (λ n. second n said)

  -- a value is a line and what stands behind it
  pub record Unrolled (z : M.X) : Type 1 where
    pub text : List ℕ
    pub said : A
    pub is_line : IsLine text
    pub says : judge (words_of text) ≡ Ok said
    pub step : StepAt text said
    pub x : step.S.X
    pub fits : step.S.fits x
    pub is : step.make x ≡ z

  judged : (n : ℕ) (text rest : List ℕ) (verdict : Result A Fault) → IsLine text → judge (words_of text) ≡ verdict
      → whole (record { line = n; text = text ++ 10 ∷ rest }) ≡ followed_by (line_read n rest verdict) (second n)
  judged n text rest verdict is_line says = whole_is (record { line = n; text = text ++ 10 ∷ rest })
      ∙ ap (λ (r : Result (A × Place) CertError). followed_by r (second n))
      (line_judged judge text n rest verdict is_line says)

  begins : (text : List ℕ) (said : A) (s : StepAt text said)
      → M.text (s.make s.S.some) ≡ text ++ 10 ∷ s.S.text s.S.some
  begins text said s = s.text_is s.S.some s.S.some_fits ∙ append_assoc text (10 ∷ []) (s.S.text s.S.some)

  taken : (at : Place) → 0 < at.line → (text rest : List ℕ) → IsCut 10 at.text text rest → (said : A) → judge (words_of text) ≡ Ok said
      → (s : StepAt text said) → Behind R (second at.line said) s.S at.line s.depth
      → Fate R whole M at (second at.line said (record { line = at.line + 1; text = rest }))
  taken at some text rest k said says s (within low reads) =
      both_fates R (line judge) second whole whole_is (OneLine text s.depth) s.S M
      (record {
        make = λ u x. s.make x;
        fits = λ u x u_fits x_fits. s.fits x x_fits;
        text_is = λ u x x_fits. s.text_is x x_fits;
        depths_are = λ u x x_fits. s.depths_are x x_fits;
      })
      at (record { line = at.line + 1; text = rest }) said
      (record {
        lines = text ∷ [];
        each = All-cons IsLine text [] k.lacks (All-nil IsLine);
        is_text = k.parts ∙ sym (one_line text rest);
        number = refl;
        x = tt;
        fits = tt;
        text_is = sym (append-nil (text ++ 10 ∷ []));
        as_many = refl;
        shallow = All-cons IsShallow s.depth [] low (All-nil IsShallow);
        left = tt;
        anywhere = λ more r. ap (λ (t : List ℕ). line judge (record { line = at.line; text = t })) (one_line text more)
            ∙ line_judged judge text at.line more (Ok said) k.lacks says;
      })
      (second at.line said (record { line = at.line + 1; text = rest }))
      (reads.fate (record { line = at.line + 1; text = rest }) (omega (arith, some)))
  taken at some text rest k said says s (too_deep high refused) =
      subst (λ (r : Result (B × Place) CertError). Fate R whole M at r) (sym (refused (record { line = at.line + 1; text = rest })))
      (stop_here whole M at (Deep at.line) text (10 ∷ rest) k.lacks k.parts (refl, (rest, refl))
      (λ other more is_line alike.
      judged at.line other more (Ok said) is_line (ap (λ (t : List ℕ). judge (words_of t)) (sym alike) ∙ says)
      ∙ refused (record { line = at.line + 1; text = more }))
      (s.make s.S.some) (s.fits s.S.some s.S.some_fits)
      ((s.S.text s.S.some, begins text said s), subst IsDeep (sym (s.depths_are s.S.some s.S.some_fits)) high))

  module _ (each : (text : List ℕ) (said : A) → IsLine text → judge (words_of text) ≡ Ok said → StepAt text said) where
    of_verdict : (at : Place) → 0 < at.line → Lenient judge at.line → (text rest : List ℕ) → IsCut 10 at.text text rest
        → (verdict : Result A Fault) → judge (words_of text) ≡ verdict
        → Fate R whole M at (followed_by (line_read at.line rest verdict) (second at.line))
    of_verdict at some mild text rest k (Ok said) says =
        let s = each text said k.lacks says in
        taken at some text rest k said says s (s.behind at.line)
    of_verdict at some mild text rest k (Err Words) says =
        stop_here whole M at (Line at.line) text (10 ∷ rest) k.lacks k.parts (refl, (rest, refl))
        (λ other more is_line alike. judged at.line other more (Err Words) is_line (mild.stays text other alike says))
        M.some M.some_fits tt
    of_verdict at some mild text rest k (Err Range) says =
        let n = mild.mends text k.lacks says in
        let m = n.1 in
        let s = each m.other m.value m.whole m.said in
        stop_here whole M at (Number at.line) text (10 ∷ rest) k.lacks k.parts (refl, (rest, refl))
        (λ other more is_line alike.
        judged at.line other more (Err Range) is_line (ap (λ (t : List ℕ). judge (words_of t)) (sym alike) ∙ says))
        (s.make s.S.some) (s.fits s.S.some s.S.some_fits)
        (record {
          later = n.0;
          other = m.other;
          whole = m.whole;
          same = m.same;
          rest = s.S.text s.S.some;
          is = begins m.other m.value s;
        })

    of_cut : (at : Place) → 0 < at.line → Lenient judge at.line → (o : Option (List ℕ × List ℕ)) → first_line at.text ≡ o
        → Fate R whole M at (followed_by (cut_read judge at.line o) (second at.line))
    of_cut at some mild None is =
        stop_here whole M at Truncated at.text [] (is_not_cut 10 at.text is) (sym (append-nil at.text)) refl
        (λ other more is_line alike. absurd alike) M.some M.some_fits tt
    of_cut at some mild (Some cut) is =
        of_verdict at some mild cut.0 cut.1 (is_cut 10 at.text cut.0 cut.1 is) (judge (words_of cut.0)) refl

    pub line_fate : (at : Place) → 0 < at.line → Lenient judge at.line → Fate R whole M at (whole at)
    line_fate at some mild = subst (λ (r : Result (B × Place) CertError). Fate R whole M at r) (sym (whole_is at))
        (of_cut at some mild (first_line at.text) refl)

  answered : (n : ℕ) (rest : List ℕ) (said : A) (S : Shape) (depth : ℕ) (x : S.X) (read : Result (B × Place) CertError)
      → S.fits x → R rest → read ≡ second n said (record { line = n + 1; text = S.text x ++ rest })
      → Behind R (second n said) S n depth → Outcome n rest (depth ∷ S.depths x) read
  answered n rest said S depth x read fits r is (within low reads) =
      outcome_behind n rest (depth ∷ []) (S.depths x) read (All-cons IsShallow depth [] low (All-nil IsShallow))
      (subst (Outcome (n + 1) rest (S.depths x)) (sym is) (reads.answers x (n + 1) rest fits r))
  answered n rest said S depth x read fits r is (too_deep high refused) =
      let same : n ≡ n + 0 = omega arith in
      deepens 0
      (record {
        before = [];
        depth = depth;
        others = S.depths x;
        depths_are = refl;
        as_many = refl;
        shallow = All-nil IsShallow;
        too_deep = high;
      })
      (is ∙ refused (record { line = n + 1; text = S.text x ++ rest }) ∙ ap (λ (m : ℕ). Err (Deep m)) same)

  pub line_answers : ((z : M.X) → M.fits z → Unrolled z) → (z : M.X) (n : ℕ) (rest : List ℕ) → M.fits z → R rest
      → Outcome n rest (M.depths z) (whole (record { line = n; text = M.text z ++ rest }))
  line_answers unrolled z n rest fits r =
      let u = unrolled z fits in
      let s = u.step in
      let text : M.text (s.make u.x) ++ rest ≡ u.text ++ 10 ∷ (s.S.text u.x ++ rest) =
      ap (λ (t : List ℕ). t ++ rest) (s.text_is u.x u.fits) ∙ append_assoc (u.text ++ 10 ∷ []) (s.S.text u.x) rest
      ∙ append_assoc u.text (10 ∷ []) (s.S.text u.x ++ rest) in
      let reads = ap (λ (t : List ℕ). whole (record { line = n; text = t })) text
      ∙ judged n u.text (s.S.text u.x ++ rest) (Ok u.said) u.is_line u.says in
      subst (λ (z : M.X). Outcome n rest (M.depths z) (whole (record { line = n; text = M.text z ++ rest }))) u.is
      (subst (λ (ds : List ℕ). Outcome n rest ds (whole (record { line = n; text = M.text (s.make u.x) ++ rest })))
      (sym (s.depths_are u.x u.fits))
      (answered n rest u.said s.S s.depth u.x _ u.fits r reads (s.behind n)))

  -- a line, and what follows it by what it says
  pub reads_line : ((n : ℕ) → 1 < n → Lenient judge n)
      → ((text : List ℕ) (said : A) → IsLine text → judge (words_of text) ≡ Ok said → StepAt text said)
      → ((z : M.X) → M.fits z → Unrolled z) → Reads R whole M
  reads_line mild each unrolled = record {
    fate = λ at later. line_fate each at (omega (arith, later)) (mild at.line later);
    answers = line_answers unrolled;
  }

-- Lines with words of their own

module _ {A B : Type 0} (R : List ℕ → Type 0) (judge : List (List ℕ) → Result A Fault) (words : A → List (List ℕ))
    (P : A → Type 0) (spelled : IsSpelled judge words P) (second : ℕ → A → Part B) (whole : Part B)
    (whole_is : (at : Place) → whole at ≡ followed_by (line judge at) (second at.line)) (M : Shape) where
  abbrev SpelledStep : A → Type 1
  SpelledStep said = Step R M (line_text (words said)) (λ n. second n said)

  pub record Apart (z : M.X) : Type 1 where
    pub said : A
    pub holds : P said
    pub step : SpelledStep said
    pub x : step.S.X
    pub fits : step.S.fits x
    pub is : step.make x ≡ z

  module _ (step : (read : List (List ℕ)) (said : A) → judge read ≡ Ok said → P said → SpelledStep said)
      (apart : (z : M.X) → M.fits z → Apart z) where
    each : (text : List ℕ) (said : A) → IsLine text → judge (words_of text) ≡ Ok said
        → Step R M (text ++ 10 ∷ []) (λ n. second n said)
    each text said is_line e =
        let k = spelled.forth (words_of text) said e in
        subst (λ (front : List ℕ). Step R M front (λ n. second n said))
        (ap (λ (front : List ℕ). front ++ 10 ∷ []) (sym k.0 ∙ join_with_byte-slice_split 32 text))
        (step (words_of text) said e k.1)

    unrolled : (z : M.X) → M.fits z → Unrolled R judge second whole whole_is M z
    unrolled z fits =
        let k = apart z fits in
        let are = spelled.spelled k.said k.holds in
        record {
          text = join_with_byte 32 (words k.said);
          said = k.said;
          is_line = line_lacks (words k.said) are;
          says = ap judge (words_of_joined (words k.said) (spelled.some k.said) are) ∙ spelled.back k.said k.holds;
          step = k.step;
          x = k.x;
          fits = k.fits;
          is = k.is;
        }

    pub spelled_fate : (at : Place) → 0 < at.line → Lenient judge at.line → Fate R whole M at (whole at)
    spelled_fate = line_fate R judge second whole whole_is M each

    pub spelled_answers : (z : M.X) (n : ℕ) (rest : List ℕ) → M.fits z → R rest
        → Outcome n rest (M.depths z) (whole (record { line = n; text = M.text z ++ rest }))
    spelled_answers = line_answers R judge second whole whole_is M unrolled

    pub reads_spelled : Milds judge → Reads R whole M
    reads_spelled milds = reads_line R judge second whole whole_is M (lenient judge milds) each unrolled

-- a line alone
module _ {A : Type 0} (judge : List (List ℕ) → Result A Fault) (words : A → List (List ℕ)) (P : A → Type 0)
    (spelled : IsSpelled judge words P) (x : A) (holds : P x) where
  abbrev pub LineShape : Shape
  LineShape = record {
    X = A;
    text = λ y. line_text (words y);
    depths = λ y. 0 ∷ [];
    fits = P;
    some = x;
    some_fits = holds;
  }

  abbrev line_step : {B : Type 0} (R : List ℕ → Type 0) (behind : Part B) → Reads R behind Nil → (y : A) → P y
      → Step R LineShape (line_text (words y)) (λ n. behind)
  line_step R behind k y h = record {
    S = Nil;
    depth = 0;
    make = λ u. y;
    fits = λ u fits. h;
    text_is = λ u fits. sym (append-nil (line_text (words y)));
    depths_are = λ u fits. refl;
    behind = λ n. within (omega arith) k;
  }

  -- what follows it reads no more lines
  pub reads_only : {B : Type 0} (R : List ℕ → Type 0) (behind : A → Part B) (whole : Part B)
      → ((at : Place) → whole at ≡ followed_by (line judge at) behind) → ((y : A) → Reads R (behind y) Nil)
      → Milds judge → Reads R whole LineShape
  reads_only R behind whole whole_is k milds =
      reads_spelled R judge words P spelled (λ n. behind) whole whole_is LineShape
      (λ read y e h. line_step R (behind y) (k y) y h)
      (λ z h. record { said = z; holds = h; step = line_step R (behind z) (k z) z h; x = tt; fits = tt; is = refl }) milds

  pub reads_alone : Milds judge → Reads Any (line judge) LineShape
  reads_alone milds = reads_only Any (λ y at. Ok (y, at)) (line judge) (λ at. again (line judge at)) (λ y. reads_value y)
      milds
    where
      again : (read : Result (A × Place) CertError) → read ≡ followed_by read (λ y at. Ok (y, at))
      again (Ok found) = refl
      again (Err refusal) = refl

-- what stands a level below a line: it is read, unless the line is too deep
pub data Nested {A L : Type 0} (behind : Part A → L → Part A) (depth : ℕ) (Below : Shape) (second : ℕ → L → Part A)
    : Type 0 where
  nested : depth ≤ 512 → (inner : Part A) → ((n : ℕ) (l : L) → second n l ≡ behind inner l) → Reads Any inner Below
      → Nested behind depth Below second
  deepest : 512 < depth → ((n : ℕ) (l : L) (at : Place) → second n l at ≡ Err (Deep n))
      → Nested behind depth Below second

pub behind_nested : {A L : Type 0} (behind : Part A → L → Part A) (depth : ℕ) (Below : Shape) (second : ℕ → L → Part A)
    → Nested behind depth Below second → (l : L) (S : Shape)
    → ((inner : Part A) → Reads Any inner Below → Reads Any (behind inner l) S) → (n : ℕ)
    → Behind Any (second n l) S n depth
behind_nested {A} behind depth Below second (nested low inner same k) l S reads n =
    within low (subst (λ (part : Part A). Reads Any part S) (sym (same n l)) (reads inner k))
behind_nested {A} behind depth Below second (deepest high refused) l S reads n = too_deep high (refused n l)
