-- The longest input element at the front.
--
-- A front that is an input element, and that no longer front is, is the longest (`longest_is`), by induction down from
-- all the bytes. Which front this is follows from the first bytes (`Elements`): a run of bytes that pass a test, up to
-- the first that doesn't, for words, numbers and line comments; up to the first `*/` for block comments; one byte for
-- white space; two or one for signs. An open comment, a slash apart and a byte that begins nothing have no element at
-- all. With the element its kind is found. How the elements follow one another isn't treated here.
use Rattle.std.proofs.Common.{◌≡◌, ℕ, zero, suc, ◌+◌, ◌<◌, ◌≤◌, Bool, true, false, cond, if◌then◌else◌, not, ◌||◌, List}
use Rattle.std.proofs.Common.{[], ◌∷◌, length, take, refl, ◌∙◌, arith, inl, inr, nat_eq, get_or}
use Rattle.std.specs.List.{list_all, prefix_len}
use Rattle.std.proofs.lemmas.Bool.{cases_lt, and_right}
use Rattle.loop_lex.specs.Lexical.{is_input_element, is_separator, is_space, is_sign, is_reserved, is_letter, is_digit}
use Rattle.loop_lex.specs.Lexical.{is_letter_or_digit, is_line_feed, opens_comment}
use Rattle.loop_lex.specs.Front.{ClosesAt, NeverCloses, IsLongest, Begins, BeginsSignOnly, begins_double_sign}
use Rattle.loop_lex.specs.Tokens.{longest_up_to, longest, kind_of}
use Rattle.loop_lex.specs.declared.token.TokenKind.TheVariants.{Name, Number, Reserved, Sign}
use Rattle.loop_lex.proofs.Elements.{of_letter, of_digit, space_alone, letter_element, digit_element}
use Rattle.loop_lex.proofs.Elements.{line_element, block_element, slash_element, sign_element_one, sign_element}
use Rattle.loop_lex.proofs.Elements.{long_sign}

abbrev pub NoneOver : List ℕ → ℕ → Type 0
NoneOver bytes n = (m : ℕ) → n < m → m ≤ length bytes → is_input_element (take m bytes) ≡ false

pub longest_is : (k : ℕ) (bytes : List ℕ) (n : ℕ) → k ≤ length bytes → suc n ≤ k
    → is_input_element (take (suc n) bytes) ≡ true → NoneOver bytes (suc n) → longest_up_to k bytes ≡ suc n
unfolding longest_up_to
longest_is zero bytes n le some item over = absurd (omega arith)
longest_is (suc k) bytes n le some item over = elim (cases_lt n k) [
  | inl lt ↦ rw (over (suc k) (omega arith) le) (longest_is k bytes n (omega arith) (omega arith) item over)
  | inr ge ↦ let e : k ≡ n = omega arith in rw (e, item) refl
]

longest_none : (k : ℕ) (bytes : List ℕ) → k ≤ length bytes → NoneOver bytes 0 → longest_up_to k bytes ≡ 0
unfolding longest_up_to
longest_none zero bytes le over = refl
longest_none (suc k) bytes le over = rw (over (suc k) (omega arith) le) (longest_none k bytes (omega arith) over)

pub longest_le : (k : ℕ) (bytes : List ℕ) → longest_up_to k bytes ≤ k
unfolding longest_up_to
longest_le zero bytes = omega arith
longest_le (suc k) bytes = either (is_input_element (take (suc k) bytes)) (longest_le k bytes)
  where
    either : (x : Bool) → longest_up_to k bytes ≤ k → (if x then suc k else longest_up_to k bytes) ≤ suc k
    either true le = omega arith
    either false le = omega arith

pub longest_element : (k : ℕ) (bytes : List ℕ) → 0 < longest_up_to k bytes
    → is_input_element (take (longest_up_to k bytes) bytes) ≡ true
unfolding longest_up_to
longest_element zero bytes lt = absurd (omega arith)
longest_element (suc k) bytes lt = either (is_input_element (take (suc k) bytes)) refl (longest_element k bytes) lt
  where
    either : (x : Bool) → is_input_element (take (suc k) bytes) ≡ x
        → (0 < longest_up_to k bytes → is_input_element (take (longest_up_to k bytes) bytes) ≡ true)
        → 0 < (if x then suc k else longest_up_to k bytes)
        → is_input_element (take (if x then suc k else longest_up_to k bytes) bytes) ≡ true
    either true e shorter h = e
    either false e shorter h = shorter h

-- ---- runs

-- the first n elements pass, and the next doesn't
record IsRun (p : ℕ → Bool) (bytes : List ℕ) (n : ℕ) : Type 0 where
  within : n ≤ length bytes
  each : list_all p (take n bytes) ≡ true
  ends : n < length bytes → p (get_or bytes n 0) ≡ false

run_of : (p : ℕ → Bool) (bytes : List ℕ) → IsRun p bytes (prefix_len p bytes)
run_of p [] = record { within = omega arith; each = refl; ends = λ lt. absurd (omega arith) }
run_of p (x ∷ xs) = either (p x) refl (run_of p xs)
  where
    more : p x ≡ true → IsRun p xs (prefix_len p xs) → IsRun p (x ∷ xs) (suc (prefix_len p xs))
    more e run =
        record { within = omega (arith, run.within); each = rw e run.each; ends = λ lt. run.ends (omega arith) }

    either : (b : Bool) → p x ≡ b → IsRun p xs (prefix_len p xs) → IsRun p (x ∷ xs) (cond b (1 + prefix_len p xs) 0)
    either true e run = let one : 1 + prefix_len p xs ≡ suc (prefix_len p xs) = omega arith in rw one (more e run)
    either false e run = record { within = omega arith; each = refl; ends = λ lt. e }

bad_tail : (p : ℕ → Bool) (xs : List ℕ) (n m : ℕ) → n < m → m ≤ length xs → p (get_or xs n 0) ≡ false
    → list_all p (take m xs) ≡ false
bad_tail p [] n m lt le e = absurd (omega arith)
bad_tail p (x ∷ xs) n zero lt le e = absurd (omega arith)
bad_tail p (x ∷ xs) zero (suc m) lt le e = rw e refl
bad_tail p (x ∷ xs) (suc n) (suc m) lt le e =
    and_right (p x) (list_all p (take m xs)) (bad_tail p xs n m (omega arith) (omega arith) e)

-- an element of a first byte and the run behind it
run_is : (p : ℕ → Bool) (b : ℕ) (bs : List ℕ) (n : ℕ) → is_input_element (b ∷ []) ≡ true
    → ((c : ℕ) (t : List ℕ) → is_input_element (b ∷ c ∷ t) ≡ list_all p (c ∷ t)) → IsRun p bs n
    → longest (b ∷ bs) ≡ suc n
run_is p b bs n one more run =
    longest_is (length (b ∷ bs)) (b ∷ bs) n (omega arith) (omega (arith, run.within)) (itself bs n run) (over bs n run)
  where
    itself : (bs : List ℕ) (n : ℕ) → IsRun p bs n → is_input_element (b ∷ take n bs) ≡ true
    itself bs zero run = one
    itself [] (suc n) run = absurd (omega (arith, run.within))
    itself (c ∷ bs) (suc n) run = more c (take n bs) ∙ run.each

    over : (bs : List ℕ) (n : ℕ) → IsRun p bs n → (m : ℕ) → suc n < m → m ≤ length (b ∷ bs)
        → is_input_element (take m (b ∷ bs)) ≡ false
    over bs n run zero lt le = absurd (omega arith)
    over bs n run (suc zero) lt le = absurd (omega arith)
    over [] n run (suc (suc m)) lt le = absurd (omega arith)
    over (c ∷ bs) n run (suc (suc m)) lt le =
        more c (take m bs) ∙ bad_tail p (c ∷ bs) n (suc m) (omega arith) (omega arith) (run.ends (omega arith))

-- ---- spaces, words and numbers

one_is : (b : ℕ) (bs : List ℕ) → is_input_element (b ∷ []) ≡ true
    → ((c : ℕ) (t : List ℕ) → is_input_element (b ∷ c ∷ t) ≡ false) → longest (b ∷ bs) ≡ 1
one_is b bs one more = longest_is (length (b ∷ bs)) (b ∷ bs) 0 (omega arith) (omega arith) one (over bs)
  where
    over : (bs : List ℕ) (m : ℕ) → 1 < m → m ≤ length (b ∷ bs) → is_input_element (take m (b ∷ bs)) ≡ false
    over bs zero lt le = absurd (omega arith)
    over bs (suc zero) lt le = absurd (omega arith)
    over [] (suc (suc m)) lt le = absurd (omega arith)
    over (c ∷ bs) (suc (suc m)) lt le = more c (take m bs)

pub space_found : (b : ℕ) (bs : List ℕ) → is_space b ≡ true → IsLongest (b ∷ bs) 1 true
space_found b bs h =
    record {
      some = omega arith;
      within = omega arith;
      greatest =
          one_is b bs (rw h refl) (λ c t. space_alone b c t h);
      sort = rw h refl;
    }

pub no_separator : (b : ℕ) (t : List ℕ) → is_space b ≡ false → nat_eq b 47 ≡ false → is_separator (b ∷ t) ≡ false
no_separator b [] s e = rw s refl
no_separator b (c ∷ t) s e = rw e refl

prefix_of : (p : ℕ → Bool) (b : ℕ) (bs : List ℕ) → p b ≡ true → prefix_len p (b ∷ bs) ≡ suc (prefix_len p bs)
prefix_of p b bs e = let one : 1 + prefix_len p bs ≡ suc (prefix_len p bs) = omega arith in rw (e, one) refl

letter_continues : (b : ℕ) → is_letter b ≡ true → is_letter_or_digit b ≡ true
letter_continues b h = rw h refl

-- a word and its kind
pub record FindsWord (bytes : List ℕ) (n : ℕ) : Type 0 where
  pub long : IsLongest bytes n false
  pub kind : kind_of (take n bytes) ≡ (if is_reserved (take n bytes) then Reserved else Name)

pub word_found : (bytes : List ℕ) → Begins is_letter bytes → FindsWord bytes (prefix_len is_letter_or_digit bytes)
word_found [] h = absurd h
word_found (b ∷ bs) h =
    let q = of_letter b h in
    let run = run_of is_letter_or_digit bs in
    rw (prefix_of is_letter_or_digit b bs (letter_continues b h)) (record {
      long = record {
        some = omega arith;
        within = omega (arith, run.within);
        greatest =
            run_is is_letter_or_digit b bs (prefix_len is_letter_or_digit bs) (rw (q.space, q.letter_is) refl)
            (λ c t. letter_element b c t q) run;
        sort = no_separator b (take (prefix_len is_letter_or_digit bs) bs) q.space q.slash;
      };
      kind = kind_is (take (prefix_len is_letter_or_digit bs) bs) q.digit_is run.each;
    })
  where
    kind_is : (t : List ℕ) → is_digit b ≡ false → list_all is_letter_or_digit t ≡ true
        → kind_of (b ∷ t) ≡ (if is_reserved (b ∷ t) then Reserved else Name)
    kind_is t no_digit all = rw (no_digit, h, all) refl

-- a number and its kind
pub record FindsDigits (bytes : List ℕ) (n : ℕ) : Type 0 where
  pub long : IsLongest bytes n false
  pub kind : kind_of (take n bytes) ≡ Number

pub digits_found : (bytes : List ℕ) → Begins is_digit bytes → FindsDigits bytes (prefix_len is_digit bytes)
digits_found [] h = absurd h
digits_found (b ∷ bs) h =
    let q = of_digit b h in
    let run = run_of is_digit bs in
    rw (prefix_of is_digit b bs h) (record {
      long = record {
        some = omega arith;
        within = omega (arith, run.within);
        greatest =
            run_is is_digit b bs (prefix_len is_digit bs) (rw (q.space, q.letter_is, q.digit_is) refl)
            (λ c t. digit_element b c t q) run;
        sort = no_separator b (take (prefix_len is_digit bs) bs) q.space q.slash;
      };
      kind = kind_is (take (prefix_len is_digit bs) bs) run.each;
    })
  where
    kind_is : (t : List ℕ) → list_all is_digit t ≡ true → kind_of (b ∷ t) ≡ Number
    kind_is t all = rw (h, all) refl

-- ---- comments

line_is : (body : List ℕ) (n : ℕ) → IsRun (λ c. not (is_line_feed c)) body n → longest (47 ∷ 47 ∷ body) ≡ suc (suc n)
line_is body n run =
    longest_is (suc (suc (length body))) (47 ∷ 47 ∷ body) (suc n) (omega arith) (omega (arith, run.within))
    (line_element (take n body) ∙ run.each) over
  where
    over : (m : ℕ) → suc (suc n) < m → m ≤ length (47 ∷ 47 ∷ body) → is_input_element (take m (47 ∷ 47 ∷ body)) ≡ false
    over zero lt le = absurd (omega arith)
    over (suc zero) lt le = absurd (omega arith)
    over (suc (suc m)) lt le =
        line_element (take m body)
        ∙ bad_tail (λ c. not (is_line_feed c)) body n m (omega arith) (omega arith) (run.ends (omega arith))

block_is : (body : List ℕ) (n : ℕ) → ClosesAt body n → longest (47 ∷ 42 ∷ body) ≡ suc (suc n)
block_is body n close =
    longest_is (suc (suc (length body))) (47 ∷ 42 ∷ body) (suc n) (omega arith) (omega (arith, close.within))
    (block_element (take n body) ∙ close.closed) over
  where
    over : (m : ℕ) → suc (suc n) < m → m ≤ length (47 ∷ 42 ∷ body) → is_input_element (take m (47 ∷ 42 ∷ body)) ≡ false
    over zero lt le = absurd (omega arith)
    over (suc zero) lt le = absurd (omega arith)
    over (suc (suc m)) lt le = block_element (take m body) ∙ close.only m (omega arith) (omega arith)

pub line_found : (body : List ℕ) → IsLongest (47 ∷ 47 ∷ body) (prefix_len (λ c. not (is_line_feed c)) body + 2) true
line_found body = found (prefix_len (λ c. not (is_line_feed c)) body) (run_of (λ c. not (is_line_feed c)) body)
  where
    true_or : (x : Bool) → x ≡ true → (x || false) ≡ true
    true_or x e = rw e refl

    found : (n : ℕ) → IsRun (λ c. not (is_line_feed c)) body n → IsLongest (47 ∷ 47 ∷ body) (n + 2) true
    found n run = let e : n + 2 ≡ suc (suc n) = omega arith in rw e (record {
      some = omega arith;
      within = omega (arith, run.within);
      greatest = line_is body n run;
      sort = true_or (list_all (λ c. not (is_line_feed c)) (take n body)) run.each;
    })

pub block_found : (body : List ℕ) (n : ℕ) → ClosesAt body n → IsLongest (47 ∷ 42 ∷ body) (n + 2) true
block_found body n close = let e : n + 2 ≡ suc (suc n) = omega arith in rw e (record {
  some = omega arith;
  within = omega (arith, close.within);
  greatest = block_is body n close;
  sort = close.closed;
})

pub block_open : (body : List ℕ) → NeverCloses body → longest (47 ∷ 42 ∷ body) ≡ 0
block_open body none = longest_none (suc (suc (length body))) (47 ∷ 42 ∷ body) (omega arith) over
  where
    over : (m : ℕ) → 0 < m → m ≤ length (47 ∷ 42 ∷ body) → is_input_element (take m (47 ∷ 42 ∷ body)) ≡ false
    over zero lt le = absurd (omega arith)
    over (suc zero) lt le = refl
    over (suc (suc m)) lt le = block_element (take m body) ∙ none m (omega arith)

-- ---- what is no input element

none_is : (bytes : List ℕ) → ((m : ℕ) → is_input_element (take (suc m) bytes) ≡ false) → longest bytes ≡ 0
none_is bytes none = longest_none (length bytes) bytes (omega arith) over
  where
    over : (m : ℕ) → 0 < m → m ≤ length bytes → is_input_element (take m bytes) ≡ false
    over zero lt le = absurd (omega arith)
    over (suc m) lt le = none m

pub nothing_found : (longest [] ≡ 0) × (opens_comment [] ≡ false)
unfolding longest_up_to
nothing_found = (refl, refl)

pub slash_alone : (longest (47 ∷ []) ≡ 0) × (opens_comment (47 ∷ []) ≡ false)
slash_alone = (none_is (47 ∷ []) one, refl)
  where
    one : (m : ℕ) → is_input_element (47 ∷ take m []) ≡ false
    one zero = refl
    one (suc m) = refl

pub slash_apart : (c : ℕ) (body : List ℕ) → nat_eq c 47 ≡ false → nat_eq c 42 ≡ false
    → (longest (47 ∷ c ∷ body) ≡ 0) × (opens_comment (47 ∷ c ∷ body) ≡ false)
slash_apart c body h k = (none_is (47 ∷ c ∷ body) some, k)
  where
    some : (m : ℕ) → is_input_element (47 ∷ take m (c ∷ body)) ≡ false
    some zero = refl
    some (suc m) = slash_element c (take m body) h k

-- ---- signs

sign_kind : (b : ℕ) (t : List ℕ) → BeginsSignOnly b → kind_of (b ∷ t) ≡ Sign
sign_kind b t q = rw (q.digit, q.letter) refl

-- a sign and its kind
pub record FindsSign (bytes : List ℕ) (n : ℕ) : Type 0 where
  pub long : IsLongest bytes n false
  pub kind : kind_of (take n bytes) ≡ Sign

pub double_found : (b : ℕ) (bs : List ℕ) → BeginsSignOnly b → begins_double_sign (b ∷ bs) ≡ true → FindsSign (b ∷ bs) 2
double_found b [] q two = absurd cc
double_found b (c ∷ bs) q two = record {
  long = record {
    some = omega arith;
    within = omega arith;
    greatest =
        longest_is (suc (suc (length bs))) (b ∷ c ∷ bs) 1 (omega arith) (omega arith) (sign_element b c [] q ∙ two)
        (over bs);
    sort = no_separator b (c ∷ []) q.space q.slash;
  };
  kind = sign_kind b (c ∷ []) q;
}
  where
    over : (bs : List ℕ) (m : ℕ) → 2 < m → m ≤ length (b ∷ c ∷ bs) → is_input_element (take m (b ∷ c ∷ bs)) ≡ false
    over bs zero lt le = absurd (omega arith)
    over bs (suc zero) lt le = absurd (omega arith)
    over bs (suc (suc zero)) lt le = absurd (omega arith)
    over [] (suc (suc (suc m))) lt le = absurd (omega arith)
    over (d ∷ bs) (suc (suc (suc m))) lt le = sign_element b c (d ∷ take m bs) q ∙ long_sign b c d (take m bs)

no_longer_sign : (b : ℕ) (bs : List ℕ) → BeginsSignOnly b → begins_double_sign (b ∷ bs) ≡ false → NoneOver (b ∷ bs) 1
no_longer_sign b bs q apart zero lt le = absurd (omega arith)
no_longer_sign b bs q apart (suc zero) lt le = absurd (omega arith)
no_longer_sign b [] q apart (suc (suc m)) lt le = absurd (omega arith)
no_longer_sign b (c ∷ bs) q apart (suc (suc zero)) lt le = sign_element b c [] q ∙ apart
no_longer_sign b (c ∷ []) q apart (suc (suc (suc m))) lt le = absurd (omega arith)
no_longer_sign b (c ∷ d ∷ bs) q apart (suc (suc (suc m))) lt le =
    sign_element b c (d ∷ take m bs) q ∙ long_sign b c d (take m bs)

pub single_found : (b : ℕ) (bs : List ℕ) → BeginsSignOnly b → begins_double_sign (b ∷ bs) ≡ false
    → is_sign (b ∷ []) ≡ true → FindsSign (b ∷ bs) 1
single_found b bs q apart one = record {
  long = record {
    some = omega arith;
    within = omega arith;
    greatest =
        longest_is (suc (length bs)) (b ∷ bs) 0 (omega arith) (omega arith) (sign_element_one b q ∙ one)
        (no_longer_sign b bs q apart);
    sort = no_separator b [] q.space q.slash;
  };
  kind = sign_kind b [] q;
}

pub no_sign_found : (b : ℕ) (bs : List ℕ) → BeginsSignOnly b → begins_double_sign (b ∷ bs) ≡ false
    → is_sign (b ∷ []) ≡ false → (longest (b ∷ bs) ≡ 0) × (opens_comment (b ∷ bs) ≡ false)
no_sign_found b bs q apart none = (longest_none (suc (length bs)) (b ∷ bs) (omega arith) over, no_comment b bs q.slash)
  where
    no_comment : (b : ℕ) (bs : List ℕ) → nat_eq b 47 ≡ false → opens_comment (b ∷ bs) ≡ false
    no_comment b [] h = refl
    no_comment b (c ∷ bs) h = rw h refl

    over : NoneOver (b ∷ bs) 0
    over zero lt le = absurd (omega arith)
    over (suc zero) lt le = sign_element_one b q ∙ none
    over (suc (suc m)) lt le = no_longer_sign b bs q apart (suc (suc m)) (omega arith) le

-- ---- as a slice's pattern tells it

pub prefix_within : (p : ℕ → Bool) (bytes : List ℕ) → prefix_len p bytes ≤ length bytes
prefix_within p bytes = let run = run_of p bytes in run.within

pub nothing_in_front : (bytes : List ℕ) → length bytes < 1 → (longest bytes ≡ 0) × (opens_comment bytes ≡ false)
nothing_in_front [] lt = nothing_found
nothing_in_front (b ∷ bytes) lt = absurd (omega arith)

pub space_in_front : (bytes : List ℕ) → 1 ≤ length bytes → is_space (get_or bytes 0 0) ≡ true → IsLongest bytes 1 true
space_in_front [] le h = absurd (omega arith)
space_in_front (b ∷ bytes) le h = space_found b bytes h

pub slash_in_front : (bytes : List ℕ) → get_or bytes 0 0 ≡ 47 → length bytes ≡ 1
    → (longest bytes ≡ 0) × (opens_comment bytes ≡ false)
slash_in_front [] h one = absurd (omega arith)
slash_in_front (b ∷ []) h one = rw h slash_alone
slash_in_front (b ∷ c ∷ bytes) h one = absurd (omega arith)
