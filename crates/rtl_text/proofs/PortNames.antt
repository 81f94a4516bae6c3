-- The name of a port tells its array and its ending, as VHDL reads it.
--
-- As VHDL reads it, a port's name is a stem with an ending behind it, and a backslash behind that where the stem begins with one.
-- The stem is the array's name in lower case where that can stand as it is, and else the name behind a backslash. A name ends in
-- one of six endings, and its last byte with the fifth from the end tells which: so of two equal names the endings are the same,
-- and so are the stems. Those of two arrays differ: two names that can stand as they are begin with letters, and were their stems
-- the same, then they would differ in case alone, and neither could stand as it is. Each port's name has an underscore, which no
-- fixed one has.
use Rattle.std.proofs.Common.{◌≡◌, ◌≢◌, ◌≤◌, ℕ, Bool, true, false, not, cond, eqb, ◌||◌, List, [], ◌∷◌, ◌++◌, codes}
use Rattle.std.proofs.Common.{map, drop, get_or, reverse, refl, sym, ap, ◌∙◌, subst, append-nil, arith}
use Rattle.std.specs.Char.{to_ascii_lowercase}
use Rattle.std.specs.Cmp.Lexicographic.{bytes_decides}
use Rattle.std.specs.List.{list_any}
use Rattle.std.specs.Str.{bytes_eq}
use Rattle.std.specs.Prelude.{nat_le}
use Rattle.std.proofs.lemmas.Bool.{and_from, and_parts, eqb-true, false≢true, leb-true, or_right}
use Rattle.std.proofs.lemmas.List.{append_cancel_right, map-append, reverse-append}
use Rattle.sanlp.specs.declared.nest.ArrayDecl.{ArrayDecl}
use Rattle.sanlp.specs.declared.nest.Nest.{Nest}
use Rattle.rtl_text.specs.Names.{as_read, differ_in_case, goes_on, has_namesake, is_bare, is_letter, is_plain}
use Rattle.rtl_text.proofs.Differences.{Differ, Each, each_map, each_of_map, each_weaker}

pub data Ending : Type 0 where
  value : Ending
  valid : Ending
  ready : Ending
  value_out : Ending
  valid_out : Ending
  ready_out : Ending

abbrev pub text : Ending → List ℕ
text value = codes "_data"
text valid = codes "_valid"
text ready = codes "_ready"
text value_out = codes "_data_out"
text valid_out = codes "_valid_out"
text ready_out = codes "_ready_out"

begins : List ℕ → Bool
begins name = eqb (get_or name 0 0) 92

abbrev pub named : List ℕ → Ending → List ℕ
named p s = cond (eqb (get_or p 0 0) 92) (p ++ (text s ++ 92 ∷ [])) (p ++ text s)

-- the stem of an array's name, where it can stand as it is and where it can't
abbrev pub stem : Bool → List ℕ → List ℕ
stem b m = cond b (map to_ascii_lowercase m) (92 ∷ m)

-- The ending

ending_by : ℕ → ℕ → Ending
ending_by last fifth =
    cond (eqb last 97) value (cond (eqb last 100) valid (cond (eqb last 121) ready
    (cond (eqb fifth 97) value_out (cond (eqb fifth 100) valid_out ready_out))))

-- the ending of a name that is told from its end on
ending_of : List ℕ → Ending
ending_of name = ending_by (get_or name 0 0) (get_or name 4 0)

ended : (m : List ℕ) (s : Ending) → ending_of (reverse (m ++ text s)) ≡ s
unfolding ending_of ending_by
ended m value = ap ending_of (reverse-append m (text value))
ended m valid = ap ending_of (reverse-append m (text valid))
ended m ready = ap ending_of (reverse-append m (text ready))
ended m value_out = ap ending_of (reverse-append m (text value_out))
ended m valid_out = ap ending_of (reverse-append m (text valid_out))
ended m ready_out = ap ending_of (reverse-append m (text ready_out))

ended_between : (m : List ℕ) (s : Ending) → ending_of (drop 1 (reverse (m ++ (text s ++ 92 ∷ [])))) ≡ s
unfolding ending_of ending_by
ended_between m value = ap (λ (r : List ℕ). ending_of (drop 1 r)) (reverse-append m (text value ++ 92 ∷ []))
ended_between m valid = ap (λ (r : List ℕ). ending_of (drop 1 r)) (reverse-append m (text valid ++ 92 ∷ []))
ended_between m ready = ap (λ (r : List ℕ). ending_of (drop 1 r)) (reverse-append m (text ready ++ 92 ∷ []))
ended_between m value_out = ap (λ (r : List ℕ). ending_of (drop 1 r)) (reverse-append m (text value_out ++ 92 ∷ []))
ended_between m valid_out = ap (λ (r : List ℕ). ending_of (drop 1 r)) (reverse-append m (text valid_out ++ 92 ∷ []))
ended_between m ready_out = ap (λ (r : List ℕ). ending_of (drop 1 r)) (reverse-append m (text ready_out ++ 92 ∷ []))

-- The stem

plain_same : (m n : List ℕ) (s t : Ending) → m ++ text s ≡ n ++ text t → (m ≡ n) × (s ≡ t)
plain_same m n s t e =
    let same : s ≡ t = sym (ended m s) ∙ ap (λ (name : List ℕ). ending_of (reverse name)) e ∙ ended n t in
    (append_cancel_right m n (text t) (subst (λ (u : Ending). m ++ text u ≡ n ++ text t) same e), same)

between_same : (m n : List ℕ) (s t : Ending) → m ++ (text s ++ 92 ∷ []) ≡ n ++ (text t ++ 92 ∷ []) → (m ≡ n) × (s ≡ t)
between_same m n s t e =
    let same : s ≡ t =
    sym (ended_between m s) ∙ ap (λ (name : List ℕ). ending_of (drop 1 (reverse name))) e ∙ ended_between n t in (
      append_cancel_right m n (text t ++ 92 ∷ [])
          (subst (λ (u : Ending). m ++ (text u ++ 92 ∷ []) ≡ n ++ (text t ++ 92 ∷ [])) same e),
      same,
    )

-- whether a name begins with a backslash is told by its stem, since no ending does

front : (p x : List ℕ) → begins x ≡ false → begins (p ++ x) ≡ begins p
unfolding begins
front [] x h = h
front (b ∷ p) x h = refl

text_begins : (s : Ending) → begins (text s) ≡ false
unfolding begins
text_begins value = refl
text_begins valid = refl
text_begins ready = refl
text_begins value_out = refl
text_begins valid_out = refl
text_begins ready_out = refl

between_begins : (s : Ending) → begins (text s ++ 92 ∷ []) ≡ false
unfolding begins
between_begins value = refl
between_begins valid = refl
between_begins ready = refl
between_begins value_out = refl
between_begins valid_out = refl
between_begins ready_out = refl

told_by : (p q : List ℕ) (s t : Ending) (b c : Bool) → begins p ≡ b → begins q ≡ c
    → cond b (p ++ (text s ++ 92 ∷ [])) (p ++ text s) ≡ cond c (q ++ (text t ++ 92 ∷ [])) (q ++ text t)
    → (p ≡ q) × (s ≡ t)
told_by p q s t true true is has e = between_same p q s t e
told_by p q s t false false is has e = plain_same p q s t e
told_by p q s t true false is has e =
    absurd (false≢true (sym has ∙ sym (front q (text t) (text_begins t)) ∙ ap begins (sym e)
    ∙ front p (text s ++ 92 ∷ []) (between_begins s) ∙ is))
told_by p q s t false true is has e =
    absurd (false≢true (sym is ∙ sym (front p (text s) (text_begins s)) ∙ ap begins e
    ∙ front q (text t ++ 92 ∷ []) (between_begins t) ∙ has))

pub told : (p q : List ℕ) (s t : Ending) → named p s ≡ named q t → (p ≡ q) × (s ≡ t)
unfolding begins
told p q s t e = told_by p q s t (begins p) (begins q) refl refl e

-- As VHDL reads it

-- a letter is no backslash, in lower case either
no_backslash : (byte : ℕ) → is_letter byte ≡ true → (byte ≢ 92) × (to_ascii_lowercase byte ≢ 92)
no_backslash byte letter =
    let from : 97 ≤ to_ascii_lowercase byte = leb-true 97 (to_ascii_lowercase byte)
    (and_parts (nat_le 97 (to_ascii_lowercase byte)) (nat_le (to_ascii_lowercase byte) 122) letter).0 in (
      (λ e. false≢true (subst (λ (b : ℕ). is_letter b ≡ true) e letter)),
      (λ e. omega (arith, from, e)),
    )

other_byte : (a b : ℕ) → a ≢ b → (c : Bool) → eqb a b ≡ c → eqb a b ≡ false
other_byte a b ne true is = absurd (ne (eqb-true a b is))
other_byte a b ne false is = is

otherwise : (c : Bool) (x y : List ℕ) → c ≡ false → cond c x y ≡ y
otherwise true x y e = absurd (false≢true (sym e))
otherwise false x y e = refl

lower_text : (s : Ending) → map to_ascii_lowercase (text s) ≡ text s
lower_text value = refl
lower_text valid = refl
lower_text ready = refl
lower_text value_out = refl
lower_text valid_out = refl
lower_text ready_out = refl

read_plain : (m : List ℕ) (s : Ending) → is_plain m ≡ true → as_read (m ++ text s) ≡ named (map to_ascii_lowercase m) s
read_plain [] s plain = absurd (false≢true plain)
read_plain (b ∷ m) s plain =
    let letter = (and_parts (is_letter b) (goes_on false m) plain).0 in
    let other = no_backslash b letter in
    let low : List ℕ = map to_ascii_lowercase (b ∷ m) in
    otherwise (eqb b 92) (b ∷ (m ++ text s)) (map to_ascii_lowercase (b ∷ (m ++ text s)))
    (other_byte b 92 other.0 (eqb b 92) refl)
    ∙ map-append to_ascii_lowercase (b ∷ m) (text s)
    ∙ ap (λ (x : List ℕ). low ++ x) (lower_text s)
    ∙ sym (otherwise (eqb (to_ascii_lowercase b) 92) (low ++ (text s ++ 92 ∷ [])) (low ++ text s)
    (other_byte (to_ascii_lowercase b) 92 other.1 (eqb (to_ascii_lowercase b) 92) refl))

read_by : (m : List ℕ) (s : Ending) (b : Bool) → (b ≡ true → is_plain m ≡ true)
    → as_read (cond b (m ++ text s) (92 ∷ (m ++ (text s ++ 92 ∷ [])))) ≡ named (stem b m) s
read_by m s true plain = read_plain m s (plain refl)
read_by m s false plain = refl

-- has an underscore

abbrev pub has_underscore : List ℕ → Bool
has_underscore name = list_any (λ byte. eqb byte 95) name

underscore_behind : (p x : List ℕ) → has_underscore x ≡ true → has_underscore (p ++ x) ≡ true
underscore_behind [] x h = h
underscore_behind (b ∷ p) x h = or_right (eqb b 95) (has_underscore (p ++ x)) (underscore_behind p x h)

text_has : (s : Ending) (x : List ℕ) → has_underscore (text s ++ x) ≡ true
text_has value x = refl
text_has valid x = refl
text_has ready x = refl
text_has value_out x = refl
text_has valid_out x = refl
text_has ready_out x = refl

has_by : (p : List ℕ) (s : Ending) (b : Bool) → has_underscore (cond b (p ++ (text s ++ 92 ∷ [])) (p ++ text s)) ≡ true
has_by p s true = underscore_behind p (text s ++ 92 ∷ []) (text_has s (92 ∷ []))
has_by p s false = underscore_behind p (text s) (subst (λ (x : List ℕ). has_underscore x ≡ true) (append-nil (text s)) (text_has s []))

pub named_has : (p : List ℕ) (s : Ending) → has_underscore (named p s) ≡ true
named_has p s = has_by p s (eqb (get_or p 0 0) 92)

-- The stems of a nest's arrays

-- where one of a list passes, the list has one that passes
any_of_each : {X : Type 0} (p : X → Bool) (xs : List X) → Each (λ x. p x ≡ true → list_any p xs ≡ true) xs
any_of_each p [] = tt
any_of_each p (x ∷ xs) = (
  (λ h. ap (λ (b : Bool). b || list_any p xs) h),
  each_weaker (λ y. p y ≡ true → list_any p xs ≡ true) (λ y. p y ≡ true → list_any p (x ∷ xs) ≡ true)
      (λ y f h. or_right (p x) (list_any p xs) (f h)) xs (any_of_each p xs),
)

module _ (nest : Nest) where
  abbrev pub stem_of : List ℕ → List ℕ
  stem_of m = stem (is_bare nest m) m

  pub read_same : (m : List ℕ) (s : Ending)
      → as_read (cond (is_bare nest m) (m ++ text s) (92 ∷ (m ++ (text s ++ 92 ∷ [])))) ≡ named (stem_of m) s
  read_same m s =
      read_by m s (is_bare nest m) (λ bare. (and_parts (is_plain m) (not (has_namesake nest m)) bare).0)

  not_same : (m n : List ℕ) → m ≢ n → (c : Bool) → bytes_eq m n ≡ c → not (bytes_eq m n) ≡ true
  not_same m n ne true is = absurd (ne ((bytes_decides m n).0 is))
  not_same m n ne false is = ap not is

  -- two names that can stand as they are, in the same letters
  both_bare : (m n : List ℕ) → m ≢ n → (differ_in_case m n ≡ true → has_namesake nest m ≡ true)
      → not (has_namesake nest m) ≡ true → map to_ascii_lowercase m ≢ map to_ascii_lowercase n
  both_bare m n ne known alone = λ e.
      let alike : differ_in_case m n ≡ true =
      and_from _ _ ((bytes_decides (map to_ascii_lowercase m) (map to_ascii_lowercase n)).1 e)
      (not_same m n ne (bytes_eq m n) refl) in
      false≢true (ap not (sym (known alike)) ∙ alone)

  one_bare : (m n : List ℕ) → is_plain m ≡ true → map to_ascii_lowercase m ≢ 92 ∷ n
  one_bare [] n plain = λ e. false≢true plain
  one_bare (b ∷ m) n plain = λ e.
      (no_backslash b (and_parts (is_letter b) (goes_on false m) plain).0).1
      (ap (λ (name : List ℕ). get_or name 0 0) e)

  stems_by : (m n : List ℕ) → m ≢ n → (differ_in_case m n ≡ true → has_namesake nest m ≡ true)
      → (b c : Bool) → is_bare nest m ≡ b → is_bare nest n ≡ c → stem b m ≢ stem c n
  stems_by m n ne known true true is has =
      both_bare m n ne known (and_parts (is_plain m) (not (has_namesake nest m)) is).1
  stems_by m n ne known true false is has =
      one_bare m n (and_parts (is_plain m) (not (has_namesake nest m)) is).0
  stems_by m n ne known false true is has = λ e.
      one_bare n m (and_parts (is_plain n) (not (has_namesake nest n)) has).0 (sym e)
  stems_by m n ne known false false is has = λ e. ne (ap (drop 1) e)

  stems_apart : (m n : List ℕ) → m ≢ n → (differ_in_case m n ≡ true → has_namesake nest m ≡ true)
      → stem_of m ≢ stem_of n
  stems_apart m n ne known = stems_by m n ne known (is_bare nest m) (is_bare nest n) refl refl

  abbrev Known : List ℕ → ArrayDecl → Type 0
  Known m array = differ_in_case m array.name ≡ true → has_namesake nest m ≡ true

  abbrev name_of : ArrayDecl → List ℕ
  name_of array = array.name

  apart_from : (m : List ℕ) (arrays : List ArrayDecl) → Each (Known m) arrays → Each (λ array. m ≢ array.name) arrays
      → Each (λ array. stem_of m ≢ stem_of array.name) arrays
  apart_from m [] known ne = tt
  apart_from m (array ∷ arrays) known ne =
      (stems_apart m array.name ne.0 known.0, apart_from m arrays known.1 ne.1)

  differ_on : (arrays : List ArrayDecl) → ((m : List ℕ) → Each (Known m) arrays) → Differ (map name_of arrays)
      → Differ (map (λ array. stem_of array.name) arrays)
  differ_on [] known d = tt
  differ_on (array ∷ arrays) known d = (
    each_map (λ (other : ArrayDecl). stem_of other.name) (λ p. stem_of array.name ≢ p) arrays
        (apart_from array.name arrays (known array.name).1
        (each_of_map name_of (λ n. array.name ≢ n) arrays d.0)),
    differ_on arrays (λ m. (known m).1) d.1,
  )

  pub stems_differ : Differ (map (λ array. array.name) nest.arrays) → Differ (map (λ array. stem_of array.name) nest.arrays)
  stems_differ = differ_on nest.arrays (λ m. any_of_each (λ (array : ArrayDecl). differ_in_case m array.name) nest.arrays)
