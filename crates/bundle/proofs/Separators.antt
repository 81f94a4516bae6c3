-- A line end behind a source that has tokens makes no separator.
--
-- A last line without a line feed that becomes a separator with one is a separator already, or it is `%%` and a
-- carriage return (`stray`). A source that ends with the latter has no tokens: no element goes from the lines before
-- into it, since it would have a line feed before a last byte that is no slash (`Feeds`), and no element stands at its
-- front (`no_tokens`, by induction along the lines before). All other lines are as they were. Of a source that is
-- refused tokens nothing is said: there the line end may make a separator.
use Rattle.std.proofs.Common.{◌≡◌, ◌==◌, ◌∙◌, ◌+◌, ◌-◌, ◌<◌, ◌≤◌, ◌||◌, ℕ, zero, suc, Bool, true, false, List, [], ◌∷◌, ◌++◌, Some, None, length, take, refl, sym, ap, subst, inl, inr, arith, nat_eq, append_assoc, length-append, eqb-true, Result, Ok, Err}
use Rattle.std.specs.Prelude.{codes}
use Rattle.std.specs.List.{concat}
use Rattle.std.specs.Str.{bytes_eq}
use Rattle.std.proofs.lemmas.Bool.{cases_Bool, cases_lt, or_cases, both_ways}
use Rattle.std.proofs.lemmas.List.{append_cancel_right}
use Rattle.bundle.specs.Parts.{after_separator, is_separator, lines_after, lines_of, with_byte}
use Rattle.loop_lex.proofs.Longest.{longest_element}
use Rattle.loop_lex.specs.Lexical.{is_input_element, is_large, is_separator as separates}
use Rattle.loop_lex.specs.Tokens.{before, element, longest, longest_up_to, refusal, token_at, token_limit, tokens, tokens_from}
use Rattle.loop_lex.specs.declared.token.LexError.{LexError}
use Rattle.loop_lex.specs.declared.token.LexError.TheVariants.{LargeNumber, TooMany}
use Rattle.loop_lex.specs.declared.token.Token.{Token}
use Rattle.bundle.specs.Certified.{ends_with_line, with_line_end}
use Rattle.bundle.proofs.Feeds.{no_element}
use Rattle.bundle.proofs.CertifiedParts.{after_behind, lines_behind}

-- A line that begins as a separator has no tokens

abbrev stray : List ℕ
stray = 37 ∷ 37 ∷ 13 ∷ []

-- the bytes up to the last line feed
last_feed : (b : ℕ) (bytes : List ℕ) → ends_with_line (b ∷ bytes) ≡ true
    → (front : List ℕ) × (b ∷ bytes ≡ front ++ 10 ∷ [])
last_feed b [] ends = ([], ap (λ (x : ℕ). x ∷ []) (eqb-true b 10 ends))
last_feed b (c ∷ bytes) ends =
    let later = last_feed c bytes ends in (b ∷ later.0, ap (λ (rest : List ℕ). b ∷ rest) later.1)

take_none : (k : ℕ) → ◌≡◌ {A = List ℕ} (take k []) []
take_none zero = refl
take_none (suc k) = refl

take_past : (bytes more : List ℕ) (k : ℕ) → take (length bytes + k) (bytes ++ more) ≡ bytes ++ take k more
take_past [] more k = let front : 0 + k ≡ k = omega arith in ap (λ (n : ℕ). take n more) front
take_past (b ∷ bytes) more k =
    let next : length (b ∷ bytes) + k ≡ suc (length bytes + k) = omega arith in
    ap (λ (n : ℕ). take n (b ∷ (bytes ++ more))) next ∙ ap (λ (rest : List ℕ). b ∷ rest) (take_past bytes more k)

behind_feed : (front between : List ℕ) (last : ℕ) → nat_eq last 47 ≡ false
    → is_input_element (front ++ 10 ∷ (between ++ last ∷ [])) ≡ false
behind_feed front between last other =
    no_element front (between ++ last ∷ []) (front ++ 10 ∷ between) last
    (sym (append_assoc front (10 ∷ between) (last ∷ []))) other (omega (arith, length-append between (last ∷ [])))

across : (front : List ℕ) (k : ℕ) → is_input_element (front ++ 10 ∷ take (suc k) stray) ≡ false
across front zero = behind_feed front [] 37 refl
across front (suc zero) = behind_feed front (37 ∷ []) 37 refl
across front (suc (suc k)) =
    subst (λ (rest : List ℕ). is_input_element (front ++ 10 ∷ (37 ∷ 37 ∷ 13 ∷ rest)) ≡ false) (sym (take_none k))
    (behind_feed front (37 ∷ 37 ∷ []) 13 refl)

-- no element goes past the line feed
stops_at_feed : (b : ℕ) (bytes : List ℕ) → ends_with_line (b ∷ bytes) ≡ true
    → longest (b ∷ (bytes ++ stray)) ≤ length (b ∷ bytes)
stops_at_feed b bytes ends =
    let whole : List ℕ = b ∷ (bytes ++ stray) in
    let n : ℕ = longest whole in
    let line = last_feed b bytes ends in
    elim (cases_lt (length (b ∷ bytes)) n) [
      | inl past ↦
          let k : ℕ = n - suc (length (b ∷ bytes)) in
          let long : n ≡ length (b ∷ bytes) + suc k = omega (arith, past) in
          let text : take n whole ≡ line.0 ++ 10 ∷ take (suc k) stray =
          ap (λ (m : ℕ). take m whole) long ∙ take_past (b ∷ bytes) stray (suc k)
          ∙ ap (λ (front : List ℕ). front ++ take (suc k) stray) line.1
          ∙ append_assoc line.0 (10 ∷ []) (take (suc k) stray) in
          absurd (both_ways (is_input_element (take n whole)) (ap is_input_element text ∙ across line.0 k) (longest_element (length whole) whole (omega (arith, past))))
      | inr within ↦ omega (arith, within)
    ]

abbrev Behind : Type 0
Behind = ℕ → Result (List Token) LexError

abbrev GivesNone : Behind → Type 0
GivesNone behind = (left : ℕ) (found : List Token) → behind left ≡ Ok found → ⊥

no_refusal : (error : LexError) (found : List Token) → Err error ≡ Ok found → ⊥
no_refusal error found is = cc

before_none : (token : Token) (result : Result (List Token) LexError) (found : List Token)
    → ((list : List Token) → result ≡ Ok list → ⊥) → before token result ≡ Ok found → ⊥
before_none token (Ok list) found none is = none list refl
before_none token (Err error) found none is = cc

element_none : (room at n : ℕ) (bytes : List ℕ) (behind : Behind) (found : List Token) → GivesNone behind
    → element room at n bytes behind ≡ Ok found → ⊥
element_none room at zero bytes behind found none is = no_refusal (refusal at bytes) found is
element_none room at (suc n) bytes behind found none is =
    elim (cases_Bool (separates (take (suc n) bytes))) [
      | inl apart ↦ none room found (rw apart at is)
      | inr joined ↦ elim (cases_Bool (is_large (take (suc n) bytes))) [
        | inl large ↦ no_refusal (LargeNumber at) found (rw (joined, large) at is)
        | inr small ↦ elim (cases_Bool (room == 0)) [
          | inl full ↦ no_refusal (TooMany at) found (rw (joined, small, full) at is)
          | inr free ↦ before_none (token_at at (take (suc n) bytes)) (behind (room - 1)) found (none (room - 1))
              (rw (joined, small, free) at is)
        ]
      ]
    ]

stray_refused : (room at : ℕ) (found : List Token) → tokens_from room at 0 stray ≡ Ok found → ⊥
unfolding tokens_from longest_up_to
stray_refused room at found is = cc

ends_later : (b : ℕ) (bytes : List ℕ) → ends_with_line (b ∷ bytes) ≡ true → ends_with_line bytes ≡ true
ends_later b [] ends = refl
ends_later b (c ∷ bytes) ends = ends

no_tokens : (room at skip : ℕ) (front : List ℕ) (found : List Token) → ends_with_line front ≡ true → skip ≤ length front
    → tokens_from room at skip (front ++ stray) ≡ Ok found → ⊥
unfolding tokens_from
no_tokens room at zero [] found ends le is = stray_refused room at found is
no_tokens room at (suc skip) [] found ends le is = absurd (omega arith)
no_tokens room at (suc skip) (b ∷ bytes) found ends le is =
    no_tokens room (at + 1) skip bytes found (ends_later b bytes ends) (omega arith) is
no_tokens room at zero (b ∷ bytes) found ends le is =
    let n : ℕ = longest (b ∷ (bytes ++ stray)) in
    element_none room at n (b ∷ (bytes ++ stray)) (λ left. tokens_from left (at + 1) (n - 1) (bytes ++ stray)) found
    (λ left list given.
    no_tokens left (at + 1) (n - 1) bytes list (ends_later b bytes ends)
    (omega (arith, stops_at_feed b bytes ends)) given) is

-- The last line

-- some bytes without a line feed
pub record IsOpenLine (line : List ℕ) : Type 0 where
  pub closed : lines_of (line ++ 10 ∷ []) ≡ (line ++ 10 ∷ []) ∷ []
  pub alone : 0 < length line → lines_of line ≡ line ∷ []

-- whole lines, and a last line without a line feed
pub record HasOpenLine (source : List ℕ) : Type 0 where
  pub front : List ℕ
  pub line : List ℕ
  pub is : source ≡ front ++ line
  pub ends : ends_with_line front ≡ true
  pub open_line : IsOpenLine line

open_more : (b : ℕ) (line : List ℕ) → (b == 10) ≡ false → IsOpenLine line → IsOpenLine (b ∷ line)
open_more b [] other line = record { closed = rw other refl; alone = λ some. rw other refl }
open_more b (c ∷ rest) other line =
    record {
      closed = rw other (ap (with_byte b) line.closed);
      alone =
          λ some. rw other (ap (with_byte b) (line.alone (omega arith)));
    }

more_in_front : (b : ℕ) (source : List ℕ) (later : HasOpenLine source) (front : List ℕ) → later.front ≡ front
    → HasOpenLine (b ∷ source)
more_in_front b source later [] none =
    let own : source ≡ later.line = later.is ∙ ap (λ (front : List ℕ). front ++ later.line) none in
    elim (cases_Bool (b == 10)) [
      | inl feed ↦ record {
        front = b ∷ [];
        line = later.line;
        is = ap (λ (rest : List ℕ). b ∷ rest) own;
        ends =
            feed;
        open_line = later.open_line;
      }
      | inr other ↦ record {
        front = [];
        line = b ∷ later.line;
        is = ap (λ (rest : List ℕ). b ∷ rest) own;
        ends =
            refl;
        open_line = open_more b later.line other later.open_line;
      }
    ]
more_in_front b source later (c ∷ front) some = record {
  front = b ∷ c ∷ front;
  line = later.line;
  is = ap (λ (rest : List ℕ). b ∷ rest) (later.is ∙ ap (λ (xs : List ℕ). xs ++ later.line) some);
  ends = subst (λ (xs : List ℕ). ends_with_line xs ≡ true) some later.ends;
  open_line = later.open_line;
}

last_line : (source : List ℕ) → HasOpenLine source
last_line [] =
    record {
      front = [];
      line = [];
      is = refl;
      ends = refl;
      open_line =
          record { closed = refl; alone = λ some. absurd (omega arith) };
    }
last_line (b ∷ source) = (let later = last_line source in more_in_front b source later later.front refl)

-- Separators

front_none : (lines more : List (List ℕ)) → lines_after (lines ++ more) ≡ None → lines_after lines ≡ None
front_none [] more none = refl
front_none (line ∷ lines) more none =
    elim (cases_Bool
    (is_separator line)) [
      | inl here ↦ let found : Some (concat (lines ++ more)) ≡ None =
          rw here at none in cc
      | inr other ↦ rw other (front_none lines more (rw other at none))
    ]

same_bytes : (xs ys : List ℕ) → bytes_eq xs ys ≡ true → xs ≡ ys
same_bytes [] [] e = refl
same_bytes [] (y ∷ ys) e = cc
same_bytes (x ∷ xs) [] e = cc
same_bytes (x ∷ xs) (y ∷ ys) e =
    elim (cases_Bool (nat_eq x y)) [
      | inl same ↦ ap (λ (z : ℕ). z ∷ xs) (eqb-true x y same)
          ∙ ap (λ (rest : List ℕ). y ∷ rest) (same_bytes xs ys (rw same at e))
      | inr other ↦ let no : false ≡ true = rw other at e in cc
    ]

already_separates : (line : List ℕ) → lines_after (lines_of line) ≡ None → line ≡ codes "%%" → ⊥
already_separates line none two =
    let found : lines_after (lines_of (codes "%%")) ≡ None =
    subst (λ (l : List ℕ). lines_after (lines_of l) ≡ None) two none in cc

ends_otherwise : (line : List ℕ) → line ++ 10 ∷ [] ≡ codes "%%" → ⊥
ends_otherwise [] e = cc
ends_otherwise (a ∷ []) e = cc
ends_otherwise (a ∷ b ∷ line) e =
    let more : length (a ∷ b ∷ (line ++ 10 ∷ [])) ≡ 2 = ap length e in omega (arith, more, length-append line (10 ∷ []))

-- a line without a line feed that is a separator with one is a separator, or is as `stray`
no_late : (line : List ℕ) → IsOpenLine line → lines_after (lines_of line) ≡ None → (line ≡ stray → ⊥)
    → is_separator (line ++ 10 ∷ []) ≡ false
no_late line is none other =
    elim (cases_Bool (is_separator (line ++ 10 ∷ []))) [
      | inr plain ↦ plain
      | inl here ↦ elim
          (or_cases (bytes_eq (line ++ 10 ∷ []) (codes "%%\n"))
          (bytes_eq (line ++ 10 ∷ []) (codes "%%\r\n") || bytes_eq (line ++ 10 ∷ []) (codes "%%")) here) [
            | inl fed ↦ absurd
                (already_separates line none
                (append_cancel_right line (codes "%%") (10 ∷ []) (same_bytes (line ++ 10 ∷ []) (codes "%%\n") fed)))
            | inr rest ↦ elim
                (or_cases (bytes_eq (line ++ 10 ∷ []) (codes "%%\r\n"))
                (bytes_eq (line ++ 10 ∷ []) (codes "%%")) rest) [
                  | inl returned ↦ absurd
                      (other (append_cancel_right line stray (10 ∷ [])
                      (same_bytes (line ++ 10 ∷ []) (codes "%%\r\n") returned)))
                  | inr bare ↦ absurd (ends_otherwise line (same_bytes (line ++ 10 ∷ []) (codes "%%") bare))
                ]
          ]
    ]

one_line : (line : List ℕ) → is_separator line ≡ false → lines_after (line ∷ []) ≡ None
one_line line plain = rw plain refl

late : (source : List ℕ) (found : List Token) → HasOpenLine source → after_separator source ≡ None
    → tokens source ≡ Ok found → after_separator (source ++ 10 ∷ []) ≡ None
late source found last none lexed =
    let whole : lines_of source ≡ lines_of last.front ++ lines_of last.line =
    ap lines_of last.is ∙ lines_behind last.front last.line last.ends in
    let both : lines_after (lines_of last.front ++ lines_of last.line) ≡ None = ap lines_after (sym whole) ∙ none in
    let first : lines_after (lines_of last.front) ≡ None = front_none (lines_of last.front) (lines_of last.line) both in
    let own : lines_after (lines_of last.line) ≡ None =
    sym (after_behind (lines_of last.front) (lines_of last.line) first) ∙ both in
    let other : last.line ≡ stray → ⊥ =
    λ e. no_tokens token_limit 0 0 last.front found last.ends (omega arith)
    (ap tokens (ap (λ (line : List ℕ). last.front ++ line) (sym e) ∙ sym last.is) ∙ lexed) in
    ap (λ (bytes : List ℕ). after_separator (bytes ++ 10 ∷ [])) last.is
    ∙ ap after_separator (append_assoc last.front last.line (10 ∷ []))
    ∙ ap lines_after (lines_behind last.front (last.line ++ 10 ∷ []) last.ends)
    ∙ after_behind (lines_of last.front) (lines_of (last.line ++ 10 ∷ [])) first
    ∙ ap lines_after last.open_line.closed
    ∙ one_line (last.line ++ 10 ∷ []) (no_late last.line last.open_line own other)

pub no_late_separator : (source : List ℕ) (found : List Token) → after_separator source ≡ None
    → tokens source ≡ Ok found → after_separator (with_line_end source) ≡ None
no_late_separator source found none lexed =
    elim (cases_Bool (ends_with_line source)) [
      | inl ends ↦ rw ends none
      | inr open_end ↦ rw open_end (late source found (last_line source) none lexed)
    ]
