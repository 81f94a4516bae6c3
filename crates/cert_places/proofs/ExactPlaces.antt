-- The places of refusals are exact.
--
-- What is refused at a line is refused so in each text with the same lines up to it, but a text of the grammar is read or
-- is `Deep` at its first line that is too deep. So no text goes on through a line that is wrong, and in each that goes on
-- through a line that is too deep it is the first such line. Either blocks the fronts: those before it are fronts, and no
-- front goes through it, so a text has one such line at most, and none where all its whole lines are a front. A wrong line
-- isn't too deep, as a text goes on through that. `Number` comes with a line of the same pattern that some text goes
-- through, and where `Line` comes such a line is refused as well.
use Rattle.std.proofs.Common.{◌≡◌, ◌≢◌, ◌⊎◌, inl, inr, ℕ, suc, ◌+◌, ◌<◌, ◌≤◌, Option, Some, None, List, [], ◌∷◌, ◌++◌}
use Rattle.std.proofs.Common.{All, Result, Ok, Err, length, length-append, append-nil, refl, sym, ap, subst, ◌∙◌, arith}
use Rattle.std.proofs.lemmas.Bool.{cases_lt}
use Rattle.std.proofs.lemmas.List.Elements.{All-append, All-cons, All-head, All-nil, All-tail}
use Rattle.net_core.specs.declared.network.Network.{Network}
use Rattle.source_tree.specs.declared.cert.Cert.{Cert}
use Rattle.cert_lines.specs.declared.error.CertError.{CertError}
use Rattle.cert_lines.specs.declared.error.CertError.TheVariants.{Line, Number, Truncated, Deep, Long, Memory}
use Rattle.cert_lines.specs.Reading.{found}
use Rattle.cert_lines.proofs.Cuts.{lacks_none}
use Rattle.cert_text.specs.Folding.{cert_of, network_of, scripts, too_long}
use Rattle.cert_text.specs.Reading.{pair_unless, reading, unfolded, whole_text}
use Rattle.cert_text.specs.StandsFor.{StandsFor}
use Rattle.cert_text.proofs.ReadBack.{whole_back, whole_forth}
use Rattle.cert_places.specs.Fronts.{IsLine, lines_text}
use Rattle.cert_places.specs.Places.{IsCutShort, IsDeepBehind, IsFront, IsLineAt, IsOutOfRangeAt, IsShallow, IsText}
use Rattle.cert_places.specs.Places.{IsTooDeepAt, IsTooLong, IsWrongAt, pattern}
use Rattle.cert_places.proofs.RefusalLines.{TextStop, text_stop, whole_refused}
use Rattle.cert_places.proofs.Shapes.{Alike, Fate, Last, Outcome, deepens, grouped, passes, two_texts}
use Rattle.cert_places.proofs.Splits.{no_more_lines, prefix_lines, same_place}
use Rattle.cert_places.proofs.Texts.{Kept, TextShape, start, text_fate, text_outcome}

-- What is read of a text

-- it isn't refused but for its depths
not_refused : (ds : List ℕ) (read : Result Kept CertError) (refusal : CertError) → ((m : ℕ) → refusal ≢ Deep m)
    → Outcome 1 [] ds read → read ≡ Err refusal → ⊥
not_refused ds read refusal other (passes value low is) e =
    let wrong : ◌≡◌ {A = Result Kept CertError} (Ok (value, record { line = 1 + length ds; text = [] })) (Err refusal) =
    sym is ∙ e in cc wrong
not_refused ds read refusal other (deepens count k is) e =
    let f : ◌≡◌ {A = Result Kept CertError} (Err (Deep (1 + count))) (Err refusal) = sym is ∙ e in
    let same : Deep (1 + count) ≡ refusal = cc in
    other (1 + count) (sym same)

-- where it is `Deep`, its first line that is too deep is that one
deep_there : (ds : List ℕ) (read : Result Kept CertError) (n count : ℕ) → n ≡ suc count → Outcome 1 [] ds read
    → read ≡ Err (Deep n) → IsDeepBehind count ds
deep_there ds read n count is_count (passes value low is) e =
    let wrong : ◌≡◌ {A = Result Kept CertError} (Ok (value, record { line = 1 + length ds; text = [] }))
    (Err (Deep n)) = sym is ∙ e in absurd (cc wrong)
deep_there ds read n count is_count (deepens behind k is) e =
    let f : ◌≡◌ {A = Result Kept CertError} (Err (Deep (1 + behind))) (Err (Deep n)) = sym is ∙ e in
    let line : 1 + behind ≡ n = cc in
    let same : behind ≡ count = omega (arith, line, is_count) in
    subst (λ (c : ℕ). IsDeepBehind c ds) same k

-- What is refused

text_of : (x : TextShape.X) → TextShape.fits x → (text depths : List ℕ) → TextShape.text x ≡ text
    → TextShape.depths x ≡ depths → IsText text depths
text_of x fits text depths text_is depths_are = record {
  levels = 514;
  version = x.0;
  folded = x.1;
  nests = fits;
  is_text = text_is;
  depths_are = depths_are;
}

module _ (text : List ℕ) (refusal : CertError) (k : TextStop text refusal) where
  on_text : IsText (lines_text k.lines ++ k.after) (k.depths ++ k.others)
  on_text = text_of k.x k.fits _ _ k.text_is k.depths_are

  front : IsFront k.lines
  front = record {
    rest = k.after;
    depths = k.depths;
    others = k.others;
    in_text = on_text;
    as_many = k.as_many;
    shallow = k.shallow;
  }

  line_at : (n : ℕ) → (n ≡ 1 + length k.lines) × ((rest : List ℕ) × (k.tail ≡ 10 ∷ rest)) → IsLineAt text n k.lines k.text
  line_at n told = record {
    each = k.each;
    whole = k.whole;
    rest = told.1.0;
    is_text = k.is_text ∙ ap (λ (t : List ℕ). lines_text k.lines ++ (k.text ++ t)) told.1.1;
    number = omega (arith, told.0);
  }

  abbrev wrong_at : (n : ℕ) → (n ≡ 1 + length k.lines) × ((rest : List ℕ) × (k.tail ≡ 10 ∷ rest))
      → ((m : ℕ) → refusal ≢ Deep m) → Alike refusal k.text k.text → IsWrongAt text n
  wrong_at n told other alike = record {
    lines = k.lines;
    line = k.text;
    there = line_at n told;
    front = front;
    none = λ rest ds is.
        not_refused ds (whole_text (start (lines_text k.lines ++ (k.text ++ 10 ∷ rest)))) refusal other
        (text_outcome (lines_text k.lines ++ (k.text ++ 10 ∷ rest)) ds is) (k.anywhere k.text rest k.whole alike);
  }

line_wrong : (text : List ℕ) (n : ℕ) → whole_text (start text) ≡ Err (Line n) → IsWrongAt text n
line_wrong text n e =
    let k = text_stop text (Line n) e in
    wrong_at text (Line n) k n k.told (λ m w. cc w) (refl, λ first. refl)

number_wrong : (text : List ℕ) (n : ℕ) → whole_text (start text) ≡ Err (Number n) → IsOutOfRangeAt text n
number_wrong text n e =
    let k = text_stop text (Number n) e in
    record {
      wrong = wrong_at text (Number n) k n k.told (λ m w. cc w) refl;
      later = k.goes_on.later;
      other = k.goes_on.other;
      whole = k.goes_on.whole;
      same = k.goes_on.same;
      rest = k.goes_on.rest;
      depths = k.depths ++ k.others;
      some = subst (λ (t : List ℕ). IsText (lines_text k.lines ++ t) (k.depths ++ k.others)) k.goes_on.is
          (on_text text (Number n) k);
    }

-- where words are wrong, no text goes on with other numbers
words_wrong : (text : List ℕ) (n : ℕ) → whole_text (start text) ≡ Err (Line n) → IsOutOfRangeAt text n → ⊥
words_wrong text n e w =
    let k = text_stop text (Line n) e in
    let place = same_place text n k.lines w.wrong.lines k.text w.wrong.line (line_at text (Line n) k n k.told) w.wrong.there
    in
    not_refused w.depths (whole_text (start (lines_text w.wrong.lines ++ (w.other ++ 10 ∷ w.rest)))) (Line n)
    (λ m f. cc f) (text_outcome (lines_text w.wrong.lines ++ (w.other ++ 10 ∷ w.rest)) w.depths w.some)
    (ap (λ (ls : List (List ℕ)). whole_text (start (lines_text ls ++ (w.other ++ 10 ∷ w.rest)))) (sym place.0)
    ∙ k.anywhere w.other w.rest w.whole
    (ap pattern place.1 ∙ w.same, λ first. absurd (omega (arith, first, w.later))))

too_deep_at : (text : List ℕ) (n : ℕ) → whole_text (start text) ≡ Err (Deep n) → IsTooDeepAt text n
too_deep_at text n e =
    let k = text_stop text (Deep n) e in
    let there = line_at text (Deep n) k n k.told in
    record {
      lines = k.lines;
      line = k.text;
      there = there;
      rest = k.goes_on.0.0;
      depths = k.depths ++ k.others;
      some = subst (λ (t : List ℕ). IsText (lines_text k.lines ++ t) (k.depths ++ k.others)) k.goes_on.0.1
          (on_text text (Deep n) k);
      deep = λ rest ds is.
          deep_there ds (whole_text (start (lines_text k.lines ++ (k.text ++ 10 ∷ rest)))) n (length k.lines)
          there.number (text_outcome (lines_text k.lines ++ (k.text ++ 10 ∷ rest)) ds is)
          (k.anywhere k.text rest k.whole refl);
    }

cut_short : (text : List ℕ) → whole_text (start text) ≡ Err Truncated → IsCutShort text
cut_short text e =
    let k = text_stop text Truncated e in
    record {
      lines = k.lines;
      each = k.each;
      rest = k.text;
      last = k.whole;
      is_text = k.is_text ∙ ap (λ (t : List ℕ). lines_text k.lines ++ (k.text ++ t)) k.told
          ∙ ap (λ (t : List ℕ). lines_text k.lines ++ t) (append-nil k.text);
      front = front text Truncated k;
      none = λ ds is. not_refused ds (whole_text (start text)) Truncated (λ m w. cc w) (text_outcome text ds is) e;
    }

-- Lines that no front goes through

-- depths at the front are not too deep
shallow_there : (xs ys before : List ℕ) (d : ℕ) (after : List ℕ) → All IsShallow xs → xs ++ ys ≡ before ++ d ∷ after
    → length before < length xs → IsShallow d
shallow_there [] ys before d after low e within = absurd (omega (arith, within))
shallow_there (x ∷ xs) ys [] d after low e within =
    let same : x ≡ d = cc e in
    subst IsShallow same (All-head IsShallow x xs low)
shallow_there (x ∷ xs) ys (b ∷ before) d after low e within =
    let same : xs ++ ys ≡ before ++ d ∷ after = cc e in
    shallow_there xs ys before d after (All-tail IsShallow x xs low) same (omega (arith, within))

-- so many lines are a front, and behind them stand no more, or one that no front goes through
record Blocked (text : List ℕ) (n : ℕ) : Type 0 where
  lines : List (List ℕ)
  line : List ℕ
  there : IsLineAt text n lines line
  front : IsFront lines
  none : (longer : List (List ℕ)) (rest : List ℕ) → All IsLine longer → text ≡ lines_text longer ++ rest
      → n ≤ length longer → IsFront longer → ⊥

module _ (text : List ℕ) (n : ℕ) (lines : List (List ℕ)) (line : List ℕ) (there : IsLineAt text n lines line) where
  all_lines : All IsLine (lines ++ line ∷ [])
  all_lines = All-append IsLine lines (line ∷ []) there.each (All-cons IsLine line [] there.whole (All-nil IsLine))

  is_grouped : text ≡ lines_text (lines ++ line ∷ []) ++ there.rest
  is_grouped = there.is_text ∙ sym (grouped lines line there.rest)

  -- longer first lines go through line n
  through : (longer : List (List ℕ)) (rest : List ℕ) → All IsLine longer → text ≡ lines_text longer ++ rest
      → n ≤ length longer
      → (more : List (List ℕ)) × ((z : List ℕ) → lines_text longer ++ z
      ≡ lines_text lines ++ (line ++ 10 ∷ (lines_text more ++ z)))
  through longer rest each is enough =
      let count : length (lines ++ line ∷ []) ≤ length longer =
      omega (arith, there.number, enough, length-append lines (line ∷ [])) in
      let k = prefix_lines (lines ++ line ∷ []) longer there.rest rest all_lines each count (sym is_grouped ∙ is) in (
        k.0,
        λ z. ap (λ (ls : List (List ℕ)). lines_text ls ++ z) k.1 ∙ two_texts (lines ++ line ∷ []) k.0 z
            ∙ grouped lines line (lines_text k.0 ++ z),
      )

wrong_blocks : (text : List ℕ) (n : ℕ) → IsWrongAt text n → Blocked text n
wrong_blocks text n w = record {
  lines = w.lines;
  line = w.line;
  there = w.there;
  front = w.front;
  none = λ longer rest each is enough f.
      let t = through text n w.lines w.line w.there longer rest each is enough in
      w.none (lines_text t.0 ++ f.rest) (f.depths ++ f.others)
      (subst (λ (x : List ℕ). IsText x (f.depths ++ f.others)) (t.1 f.rest) f.in_text);
}

deep_blocks : (text : List ℕ) (n : ℕ) → IsTooDeepAt text n → Blocked text n
deep_blocks text n w =
    let b = w.deep w.rest w.depths w.some in
    record {
      lines = w.lines;
      line = w.line;
      there = w.there;
      front = record {
        rest = w.line ++ 10 ∷ w.rest;
        depths = b.before;
        others = b.depth ∷ b.others;
        in_text = subst (λ (ds : List ℕ). IsText (lines_text w.lines ++ (w.line ++ 10 ∷ w.rest)) ds) b.depths_are w.some;
        as_many = b.as_many;
        shallow = b.shallow;
      };
      none = λ longer rest each is enough f.
          let t = through text n w.lines w.line w.there longer rest each is enough in
          let k = w.deep (lines_text t.0 ++ f.rest) (f.depths ++ f.others)
          (subst (λ (x : List ℕ). IsText x (f.depths ++ f.others)) (t.1 f.rest) f.in_text) in
          let within : length k.before < length f.depths =
          omega (arith, k.as_many, f.as_many, w.there.number, enough) in
          let low = shallow_there f.depths f.others k.before k.depth k.others f.shallow k.depths_are within in
          omega (arith, low, k.too_deep);
    }

not_later : (text : List ℕ) (m n : ℕ) → Blocked text m → Blocked text n → m < n → ⊥
not_later text m n a b less =
    a.none b.lines (b.line ++ 10 ∷ b.there.rest) b.there.each b.there.is_text (omega (arith, b.there.number, less)) b.front

one_blocked : (text : List ℕ) (m n : ℕ) → Blocked text m → Blocked text n → m ≡ n
one_blocked text m n a b = elim (cases_lt m n) [
  | inl less ↦ absurd (not_later text m n a b less)
  | inr rest ↦ elim (cases_lt n m) [
    | inl more ↦ absurd (not_later text n m b a more)
    | inr other ↦ omega (arith, rest, other)
  ]
]

-- a line isn't wrong and too deep, since a text goes on through one that is too deep
wrong_and_deep : (text : List ℕ) (m n : ℕ) → IsWrongAt text m → IsTooDeepAt text n → ⊥
wrong_and_deep text m n a b =
    let same : m ≡ n = one_blocked text m n (wrong_blocks text m a) (deep_blocks text n b) in
    let place = same_place text n b.lines a.lines b.line a.line b.there
    (subst (λ (k : ℕ). IsLineAt text k a.lines a.line) same a.there) in
    a.none b.rest b.depths
    (subst (λ (ls : List (List ℕ)). IsText (lines_text ls ++ (a.line ++ 10 ∷ b.rest)) b.depths) place.0
    (subst (λ (x : List ℕ). IsText (lines_text b.lines ++ (x ++ 10 ∷ b.rest)) b.depths) place.1 b.some))

-- all whole lines are a front
record WholeFront (text : List ℕ) : Type 0 where
  lines : List (List ℕ)
  each : All IsLine lines
  rest : List ℕ
  last : IsLine rest
  is_text : text ≡ lines_text lines ++ rest
  front : IsFront lines

blocked_and_whole : (text : List ℕ) (n : ℕ) → Blocked text n → WholeFront text → ⊥
blocked_and_whole text n a w =
    let all = all_lines text n a.lines a.line a.there in
    let few = no_more_lines (a.lines ++ a.line ∷ []) w.lines a.there.rest w.rest all w.each w.last
    (sym (is_grouped text n a.lines a.line a.there) ∙ w.is_text) in
    a.none w.lines w.rest w.each w.is_text (omega (arith, few, a.there.number, length-append a.lines (a.line ∷ []))) w.front

cut_front : (text : List ℕ) → IsCutShort text → WholeFront text
cut_front text k = record {
  lines = k.lines;
  each = k.each;
  rest = k.rest;
  last = k.last;
  is_text = k.is_text;
  front = k.front;
}

-- What is read of any bytes

whole_read : (text : List ℕ) (kept : Kept) → whole_text (start text) ≡ Ok kept
    → WholeFront text × ((depths : List ℕ) × IsText text depths × All IsShallow depths)
whole_read text kept e =
    let t = subst (λ (read : Result Kept CertError). Fate Last whole_text TextShape (start text) read) e (text_fate text) in
    let ds : List ℕ = TextShape.depths t.x in
    let is : text ≡ lines_text t.lines ++ [] = t.is_text ∙ ap (λ (x : List ℕ). lines_text t.lines ++ x) t.left in
    let all : TextShape.text t.x ≡ lines_text t.lines ++ [] = t.text_is ∙ sym (append-nil (lines_text t.lines)) in (
      record {
        lines = t.lines;
        each = t.each;
        rest = [];
        last = lacks_none 10;
        is_text = is;
        front = record {
          rest = [];
          depths = ds;
          others = [];
          in_text = text_of t.x t.fits (lines_text t.lines ++ []) (ds ++ []) all (sym (append-nil ds));
          as_many = t.as_many;
          shallow = t.shallow;
        };
      },
      (ds, text_of t.x t.fits text ds (all ∙ sym is) refl, t.shallow),
    )

data Verdict (text : List ℕ) : Type 0 where
  reads_all : WholeFront text → ((ds : List ℕ) × IsText text ds × All IsShallow ds) → Verdict text
  at_line : (n : ℕ) → whole_text (start text) ≡ Err (Line n) → IsWrongAt text n → Verdict text
  at_number : (n : ℕ) → whole_text (start text) ≡ Err (Number n) → IsWrongAt text n → Verdict text
  at_depth : (n : ℕ) → whole_text (start text) ≡ Err (Deep n) → IsTooDeepAt text n → Verdict text
  cut_off : whole_text (start text) ≡ Err Truncated → IsCutShort text → Verdict text

verdict_of : (text : List ℕ) (read : Result Kept CertError) → whole_text (start text) ≡ read → Verdict text
verdict_of text (Ok kept) e = let k = whole_read text kept e in reads_all k.0 k.1
verdict_of text (Err (Line n)) e = at_line n e (line_wrong text n e)
verdict_of text (Err (Number n)) e = at_number n e (number_wrong text n e).wrong
verdict_of text (Err Truncated) e = cut_off e (cut_short text e)
verdict_of text (Err (Deep n)) e = at_depth n e (too_deep_at text n e)
verdict_of text (Err (Long process)) e = absurd (text_stop text (Long process) e).told
verdict_of text (Err Memory) e = absurd (text_stop text Memory e).told

reads_so : (text : List ℕ) (refusal : CertError) → whole_text (start text) ≡ Err refusal → reading text ≡ Err refusal
unfolding reading
reads_so text refusal e = ap (λ (read : Result Kept CertError). unfolded (found read)) e

-- The law

pub line_is_wrong : (text : List ℕ) (n : ℕ) → reading text ≡ Err (Line n)
    → IsWrongAt text n × (IsOutOfRangeAt text n → ⊥)
line_is_wrong text n e =
    let refused = whole_refused text (Line n) (λ p w. cc w) e in (line_wrong text n refused, words_wrong text n refused)

pub number_is_out_of_range : (text : List ℕ) (n : ℕ) → reading text ≡ Err (Number n) → IsOutOfRangeAt text n
number_is_out_of_range text n e = number_wrong text n (whole_refused text (Number n) (λ p w. cc w) e)

pub deep_is_too_deep : (text : List ℕ) (n : ℕ) → reading text ≡ Err (Deep n) → IsTooDeepAt text n
deep_is_too_deep text n e = too_deep_at text n (whole_refused text (Deep n) (λ p w. cc w) e)

pub truncated_is_cut_short : (text : List ℕ) → reading text ≡ Err Truncated → IsCutShort text
truncated_is_cut_short text e = cut_short text (whole_refused text Truncated (λ p w. cc w) e)

pub wrong_is_refused : (text : List ℕ) (n : ℕ) → IsWrongAt text n
    → (reading text ≡ Err (Line n)) ⊎ (reading text ≡ Err (Number n))
wrong_is_refused text n w = of_verdict (verdict_of text (whole_text (start text)) refl)
  where
    of_verdict : Verdict text → (reading text ≡ Err (Line n)) ⊎ (reading text ≡ Err (Number n))
    of_verdict (reads_all f k) = absurd (blocked_and_whole text n (wrong_blocks text n w) f)
    of_verdict (at_line m e k) =
        let same = one_blocked text m n (wrong_blocks text m k) (wrong_blocks text n w) in
        inl (reads_so text (Line n) (e ∙ ap (λ (p : ℕ). Err (Line p)) same))
    of_verdict (at_number m e k) =
        let same = one_blocked text m n (wrong_blocks text m k) (wrong_blocks text n w) in
        inr (reads_so text (Number n) (e ∙ ap (λ (p : ℕ). Err (Number p)) same))
    of_verdict (at_depth m e k) = absurd (wrong_and_deep text n m w k)
    of_verdict (cut_off e k) = absurd (blocked_and_whole text n (wrong_blocks text n w) (cut_front text k))

pub out_of_range_is_refused : (text : List ℕ) (n : ℕ) → IsOutOfRangeAt text n → reading text ≡ Err (Number n)
out_of_range_is_refused text n w = elim (wrong_is_refused text n w.wrong) [
  | inl here ↦ absurd ((line_is_wrong text n here).1 w)
  | inr there ↦ there
]

pub wrong_words_are_refused : (text : List ℕ) (n : ℕ) → IsWrongAt text n → (IsOutOfRangeAt text n → ⊥)
    → reading text ≡ Err (Line n)
wrong_words_are_refused text n w other = elim (wrong_is_refused text n w) [
  | inl here ↦ here
  | inr there ↦ absurd (other (number_is_out_of_range text n there))
]

pub too_deep_is_refused : (text : List ℕ) (n : ℕ) → IsTooDeepAt text n → reading text ≡ Err (Deep n)
too_deep_is_refused text n w = of_verdict (verdict_of text (whole_text (start text)) refl)
  where
    of_verdict : Verdict text → reading text ≡ Err (Deep n)
    of_verdict (reads_all f k) = absurd (blocked_and_whole text n (deep_blocks text n w) f)
    of_verdict (at_line m e k) = absurd (wrong_and_deep text m n k w)
    of_verdict (at_number m e k) = absurd (wrong_and_deep text m n k w)
    of_verdict (at_depth m e k) =
        let same = one_blocked text m n (deep_blocks text m k) (deep_blocks text n w) in
        reads_so text (Deep n) (e ∙ ap (λ (p : ℕ). Err (Deep p)) same)
    of_verdict (cut_off e k) = absurd (blocked_and_whole text n (deep_blocks text n w) (cut_front text k))

pub cut_short_is_refused : (text : List ℕ) → IsCutShort text → reading text ≡ Err Truncated
cut_short_is_refused text w = of_verdict (verdict_of text (whole_text (start text)) refl)
  where
    of_verdict : Verdict text → reading text ≡ Err Truncated
    of_verdict (reads_all f k) = absurd (w.none k.0 k.1)
    of_verdict (at_line m e k) = absurd (blocked_and_whole text m (wrong_blocks text m k) (cut_front text w))
    of_verdict (at_number m e k) = absurd (blocked_and_whole text m (wrong_blocks text m k) (cut_front text w))
    of_verdict (at_depth m e k) = absurd (blocked_and_whole text m (deep_blocks text m k) (cut_front text w))
    of_verdict (cut_off e k) = reads_so text Truncated e

-- What is accepted

not_both : (text : List ℕ) (network : Network) (cert : Cert) (refusal : CertError)
    → reading text ≡ Ok (network, cert) → whole_text (start text) ≡ Err refusal → ⊥
not_both text network cert refusal e refused =
    let wrong : ◌≡◌ {A = Result (Network × Cert) CertError} (Ok (network, cert)) (Err refusal) =
    sym e ∙ reads_so text refusal refused in
    cc wrong

pub pair_has_text : ((bytes : List ℕ) (network : Network) (cert : Cert) → StandsFor bytes network cert
    → reading bytes ≡ Ok (network, cert)) → (text : List ℕ) (network : Network) (cert : Cert)
    → StandsFor text network cert → (depths : List ℕ) × IsText text depths × All IsShallow depths
pair_has_text back text network cert stands = of_read (whole_text (start text)) refl
  where
    of_read : (read : Result Kept CertError) → whole_text (start text) ≡ read
        → (depths : List ℕ) × IsText text depths × All IsShallow depths
    of_read (Ok kept) e = (whole_read text kept e).1
    of_read (Err refusal) e = absurd (not_both text network cert refusal (back text network cert stands) e)

pair_or_long : (o : Option ℕ) (n : Network) (c : Cert) → ((pair : Network × Cert) × (pair_unless o n c ≡ Ok pair))
    ⊎ ((p : ℕ) × (pair_unless o n c ≡ Err (Long p)))
pair_or_long None n c = inl ((n, c), refl)
pair_or_long (Some p) n c = inr (p, refl)

read_or_long : (text : List ℕ) (kept : Kept) → whole_text (start text) ≡ Ok kept
    → ((pair : Network × Cert) × (reading text ≡ Ok pair)) ⊎ ((p : ℕ) × (reading text ≡ Err (Long p)))
unfolding reading
read_or_long text kept e =
    let is = ap (λ (read : Result Kept CertError). unfolded (found read)) e in
    elim (pair_or_long (too_long (scripts (network_of kept.0.1)) (cert_of kept.0.1).schedule) (network_of kept.0.1)
    (cert_of kept.0.1)) [
      | inl some ↦ inl (some.0, is ∙ some.1)
      | inr long ↦ inr (long.0, is ∙ long.1)
    ]

pub text_is_read : (text depths : List ℕ) → IsText text depths → All IsShallow depths
    → ((pair : Network × Cert) × (reading text ≡ Ok pair)) ⊎ ((p : ℕ) × (reading text ≡ Err (Long p)))
text_is_read text depths k low = of_outcome (text_outcome text depths k)
  where
    of_outcome : Outcome 1 [] depths (whole_text (start text))
        → ((pair : Network × Cert) × (reading text ≡ Ok pair)) ⊎ ((p : ℕ) × (reading text ≡ Err (Long p)))
    of_outcome (passes value each is) = read_or_long text (value, record { line = 1 + length depths; text = [] }) is
    of_outcome (deepens count b is) =
        let longer : length b.before < length depths =
        omega (arith, ap length b.depths_are, length-append b.before (b.depth ∷ b.others)) in
        let there = shallow_there depths [] b.before b.depth b.others low (append-nil depths ∙ b.depths_are) longer in
        absurd (omega (arith, there, b.too_deep))

pub no_want_of_memory : (text : List ℕ) → reading text ≢ Err Memory
no_want_of_memory text e = (text_stop text Memory (whole_refused text Memory (λ p w. cc w) e)).told

-- What is too long
--
-- Whatever was read of a text is what it was written from, within the ranges of its version, and whatever is so written is
-- read. So the pair that is too long is that of the blocks which have the text.

some_long : (long : Option ℕ) (network : Network) (cert : Cert) (p : ℕ)
    → pair_unless long network cert ≡ Err (Long p) → long ≡ Some p
some_long None network cert p e = absurd (cc e)
some_long (Some q) network cert p e =
    let refused : Long q ≡ Long p = cc in
    let same : q ≡ p = cc in
    ap (λ (x : ℕ). Some x) same

pub long_is_too_long : (text : List ℕ) (p : ℕ) → reading text ≡ Err (Long p) → IsTooLong text p
unfolding reading
long_is_too_long text p e = of_read (whole_text (start text)) refl e
  where
    of_read : (read : Result Kept CertError) → whole_text (start text) ≡ read
        → unfolded (found read) ≡ Err (Long p) → IsTooLong text p
    of_read (Ok kept) is e =
        let k = whole_forth text kept.0 (ap found is) in
        record {
          version = kept.0.0;
          folded = kept.0.1;
          in_range = k.1;
          is_text = sym k.0;
          long = some_long _ (network_of kept.0.1) (cert_of kept.0.1) p e;
        }
    of_read (Err refusal) is e =
        let same : refusal ≡ Long p = cc in
        absurd (text_stop text (Long p) (is ∙ ap (λ (r : CertError). Err r) same)).told

pub too_long_is_refused : (text : List ℕ) (p : ℕ) → IsTooLong text p → reading text ≡ Err (Long p)
unfolding reading
too_long_is_refused text p k =
    ap (λ (t : List ℕ). unfolded (found (whole_text (start t)))) (sym k.is_text)
    ∙ ap unfolded (whole_back k.version k.folded k.in_range)
    ∙ ap (λ (long : Option ℕ). pair_unless long (network_of k.folded) (cert_of k.folded)) k.long
