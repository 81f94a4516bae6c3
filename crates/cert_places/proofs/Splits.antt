-- Of two lists of first lines of a text the shorter begins the longer, and the text goes on so. Where the last piece has no
-- line feed, no list is longer.
use Rattle.std.proofs.Common.{◌≡◌, ◌⊎◌, inl, inr, ◌==◌, false, ℕ, ◌≤◌, Option, Some, List, [], ◌∷◌, ◌++◌, All, length}
use Rattle.std.proofs.Common.{append_assoc, append-nil, length-append, refl, sym, ap, subst, ◌∙◌, arith}
use Rattle.std.proofs.lemmas.List.Elements.{All-head, All-tail}
use Rattle.cert_lines.specs.Words.{cut_at}
use Rattle.cert_lines.proofs.Cuts.{cut_of_parts, lacks_head, lacks_tail}
use Rattle.cert_places.specs.Fronts.{IsLine, lines_text}
use Rattle.cert_places.specs.Places.{IsLineAt}

first_apart : (x : List ℕ) (lines : List (List ℕ)) (rest : List ℕ) → lines_text (x ∷ lines) ++ rest
    ≡ x ++ 10 ∷ (lines_text lines ++ rest)
first_apart x lines rest = append_assoc (x ++ 10 ∷ []) (lines_text lines) rest
    ∙ append_assoc x (10 ∷ []) (lines_text lines ++ rest)

-- the first line, and what stands behind it
same_first : (x y p q : List ℕ) → IsLine x → IsLine y → x ++ 10 ∷ p ≡ y ++ 10 ∷ q → (x ≡ y) × (p ≡ q)
same_first x y p q one two e =
    let f : ◌≡◌ {A = Option (List ℕ × List ℕ)} (Some (x, p)) (Some (y, q)) =
    sym (cut_of_parts 10 x p one) ∙ ap (cut_at 10) e ∙ cut_of_parts 10 y q two in
    let pair : (x, p) ≡ (y, q) = cc in
    (ap (λ (k : List ℕ × List ℕ). k.0) pair, ap (λ (k : List ℕ × List ℕ). k.1) pair)

-- the second lines are the first and these more, behind which stands the same
pub record More (a b : List (List ℕ)) (r s : List ℕ) : Type 0 where
  pub more : List (List ℕ)
  pub lines_are : b ≡ a ++ more
  pub rest_is : r ≡ lines_text more ++ s

further : (x y : List ℕ) (a b : List (List ℕ)) (r s : List ℕ) → x ≡ y → More a b r s → More (x ∷ a) (y ∷ b) r s
further x y a b r s same k = record { more = k.more; lines_are = let e = k.lines_are in cc; rest_is = k.rest_is }

pub lines_apart : (a b : List (List ℕ)) (r s : List ℕ) → All IsLine a → All IsLine b
    → lines_text a ++ r ≡ lines_text b ++ s → More a b r s ⊎ More b a s r
lines_apart [] b r s one two e = inl (record { more = b; lines_are = refl; rest_is = e })
lines_apart (x ∷ a) [] r s one two e = inr (record { more = x ∷ a; lines_are = refl; rest_is = sym e })
lines_apart (x ∷ a) (y ∷ b) r s one two e =
    let k = same_first x y (lines_text a ++ r) (lines_text b ++ s) (All-head IsLine x a one) (All-head IsLine y b two)
    (sym (first_apart x a r) ∙ e ∙ first_apart y b s) in
    elim (lines_apart a b r s (All-tail IsLine x a one) (All-tail IsLine y b two) k.1) [
      | inl m ↦ inl (further x y a b r s k.0 m)
      | inr m ↦ inr (further y x b a s r (sym k.0) m)
    ]

no_more : (a : List (List ℕ)) (more : List (List ℕ)) → length (a ++ more) ≤ length a → a ++ more ≡ a
no_more a [] fewer = append-nil a
no_more a (x ∷ more) fewer = absurd (omega (arith, fewer, length-append a (x ∷ more)))

-- fewer first lines of a text are the first of more
pub prefix_lines : (a b : List (List ℕ)) (r s : List ℕ) → All IsLine a → All IsLine b → length a ≤ length b
    → lines_text a ++ r ≡ lines_text b ++ s → (more : List (List ℕ)) × (b ≡ a ++ more)
prefix_lines a b r s one two fewer e = elim (lines_apart a b r s one two e) [
  | inl m ↦ (m.more, m.lines_are)
  | inr m ↦
      let few : length (b ++ m.more) ≤ length b = omega (arith, fewer, ap length m.lines_are) in
      ([], sym (no_more b m.more few) ∙ sym m.lines_are ∙ sym (append-nil a))
]

-- a line has no line feed
no_feed : (x p : List ℕ) → IsLine (x ++ 10 ∷ p) → ⊥
no_feed [] p k = let here : (10 == 10) ≡ false = lacks_head 10 10 p k in cc here
no_feed (b ∷ x) p k = no_feed x p (lacks_tail 10 b (x ++ 10 ∷ p) k)

none_behind : (more : List (List ℕ)) (r s : List ℕ) → IsLine s → s ≡ lines_text more ++ r → length more ≤ 0
none_behind [] r s last e = omega arith
none_behind (x ∷ more) r s last e =
    absurd (no_feed x (lines_text more ++ r) (subst IsLine (e ∙ first_apart x more r) last))

-- where the last piece has no line feed, no list of first lines is longer
pub no_more_lines : (a b : List (List ℕ)) (r s : List ℕ) → All IsLine a → All IsLine b → IsLine s
    → lines_text a ++ r ≡ lines_text b ++ s → length a ≤ length b
no_more_lines a b r s one two last e = elim (lines_apart a b r s one two e) [
  | inl m ↦ omega (arith, ap length m.lines_are, length-append a m.more)
  | inr m ↦ omega (arith, ap length m.lines_are, length-append b m.more, none_behind m.more r s last m.rest_is)
]

one_place : (a b more : List (List ℕ)) (x y r s : List ℕ) → IsLine x → IsLine y → length a ≡ length b → b ≡ a ++ more
    → x ++ 10 ∷ r ≡ lines_text more ++ (y ++ 10 ∷ s) → (a ≡ b) × (x ≡ y)
one_place a b [] x y r s one two count is e = (sym (append-nil a) ∙ sym is, (same_first x y r s one two e).0)
one_place a b (z ∷ more) x y r s one two count is e =
    absurd (omega (arith, count, ap length is, length-append a (z ∷ more)))

-- line n of a text is one line, with the same lines before it
pub same_place : (text : List ℕ) (n : ℕ) (a b : List (List ℕ)) (x y : List ℕ) → IsLineAt text n a x → IsLineAt text n b y
    → (a ≡ b) × (x ≡ y)
same_place text n a b x y k l =
    let count : length a ≡ length b = omega (arith, k.number, l.number) in
    elim (lines_apart a b (x ++ 10 ∷ k.rest) (y ++ 10 ∷ l.rest) k.each l.each (sym k.is_text ∙ l.is_text)) [
      | inl m ↦ one_place a b m.more x y k.rest l.rest k.whole l.whole count m.lines_are m.rest_is
      | inr m ↦
          let s = one_place b a m.more y x l.rest k.rest l.whole k.whole (sym count) m.lines_are m.rest_is in
          (sym s.0, sym s.1)
    ]
