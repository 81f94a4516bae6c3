-- Where the first `*/` of a comment ends.
--
-- The code looks for `*/` at one pair of bytes after the other; the definition asks of each front of the body whether
-- it ends at the first one. The loop's invariant is that the first j bytes don't matter to where the body closes
-- (`Shifts`) and that none of the fronts up to there closes (`NoneUpTo`). Where no `*/` stands, the next byte doesn't
-- matter either (`close_goes`); where one stands, the front with it closes and no longer one does (`close_found`).
use Rattle.std.proofs.Common.{◌≡◌, ℕ, zero, suc, ◌+◌, ◌-◌, ◌<◌, ◌≤◌, Bool, false, ◌&&◌, drop-cons, length-drop, List}
use Rattle.std.proofs.Common.{[], ◌∷◌, length, take, drop, refl, sym, ◌∙◌, arith, inl, inr, nat_eq, get_or, ◌==◌}
use Rattle.std.proofs.lemmas.Bool.{cases_lt}
use Rattle.std.proofs.lemmas.Bool.Decides.{nat_tests}
use Rattle.loop_lex.specs.Lexical.{ends_at_first_close}
use Rattle.loop_lex.specs.Front.{ClosesAt, NeverCloses}

abbrev pub begins_close : List ℕ → Bool
begins_close (a ∷ b ∷ rest) = (a == 42) && (b == 47)
begins_close _ = false

-- the first j bytes don't matter to where the body closes
abbrev pub Shifts : List ℕ → ℕ → Type 0
Shifts body j = (m : ℕ) → ends_at_first_close (take (j + m) body) ≡ ends_at_first_close (take m (drop j body))

abbrev pub NoneUpTo : List ℕ → ℕ → Type 0
NoneUpTo body j = (m : ℕ) → m < suc j → ends_at_first_close (take m body) ≡ false

-- where no close stands at the front, the first byte doesn't matter
pub close_step : (a : ℕ) (rest : List ℕ) → begins_close (a ∷ rest) ≡ false → (m : ℕ)
    → ends_at_first_close (take (suc m) (a ∷ rest)) ≡ ends_at_first_close (take m rest)
close_step a rest e zero = refl
close_step a [] e (suc m) = refl
close_step a (b ∷ rest) e (suc m) = rw e refl

close_at_front : (rest : List ℕ) (m : ℕ) → m ≤ length rest + 2
    → ends_at_first_close (take m (42 ∷ 47 ∷ rest)) ≡ nat_eq m 2
close_at_front rest zero le = refl
close_at_front rest (suc zero) le = refl
close_at_front rest (suc (suc zero)) le = refl
close_at_front [] (suc (suc (suc m))) le = absurd (omega arith)
close_at_front (c ∷ rest) (suc (suc (suc m))) le = sym (not_two m)
  where
    not_two : (m : ℕ) → nat_eq (suc (suc (suc m))) 2 ≡ false
    not_two m = grind (arith, nat_tests)

front_two : (body : List ℕ) (j : ℕ) → suc j < length body
    → drop j body ≡ get_or body j 0 ∷ get_or body (suc j) 0 ∷ drop (suc (suc j)) body
front_two body j lt =
    let lt' : j < length body = omega arith in rw (drop-cons body j 0) (rw (drop-cons body (suc j) 0) refl)

pub close_found : (body : List ℕ) (j : ℕ) → suc j < length body → Shifts body j → get_or body j 0 ≡ 42
    → get_or body (suc j) 0 ≡ 47 → ClosesAt body (j + 2)
close_found body j lt shifts ea eb =
    let front : drop j body ≡ 42 ∷ 47 ∷ drop (suc (suc j)) body = front_two body j lt ∙ rw (ea, eb) refl in
    let room : length (drop (suc (suc j)) body) + 2 + j ≡ length body = omega (arith, length-drop {A = ℕ}) in
    record {
      within = omega arith;
      closed = shifts 2 ∙ rw front (close_at_front (drop (suc (suc j)) body) 2 (omega arith));
      only = λ m far le. let k : m ≡ j + (m - j) = omega arith in
          rw k (shifts (m - j)
          ∙ rw front (close_at_front (drop (suc (suc j)) body) (m - j) (omega arith)
          ∙ not_two (m - j) (omega arith)));
    }
  where
    not_two : (n : ℕ) → 2 < n → nat_eq n 2 ≡ false
    not_two n h = grind (arith, nat_tests)

pub close_goes : (body : List ℕ) (j : ℕ) → suc j < length body → Shifts body j
    → begins_close (get_or body j 0 ∷ get_or body (suc j) 0 ∷ []) ≡ false → Shifts body (suc j)
close_goes body j lt shifts none m =
    let move : suc j + m ≡ j + suc m = omega arith in
    let front : drop j body ≡ get_or body j 0 ∷ drop (suc j) body = drop-cons body j 0 (omega arith) in
    let rest : drop (suc j) body ≡ get_or body (suc j) 0 ∷ drop (suc (suc j)) body = drop-cons body (suc j) 0 lt in
    rw move (shifts (suc m)
    ∙ rw (front, rest) (close_step (get_or body j 0) (get_or body (suc j) 0 ∷ drop (suc (suc j)) body) none m))

one_more : (body : List ℕ) (j : ℕ) → Shifts body j → ends_at_first_close (take (suc j) body) ≡ false
one_more body j shifts =
    let e : suc j ≡ j + 1 = omega arith in rw e (shifts 1 ∙ one (drop j body))
  where
    one : (xs : List ℕ) → ends_at_first_close (take 1 xs) ≡ false
    one [] = refl
    one (x ∷ xs) = refl

pub none_more : (body : List ℕ) (j : ℕ) → Shifts body j → NoneUpTo body j → NoneUpTo body (suc j)
none_more body j shifts none m lt = elim (cases_lt m (suc j)) [
  | inl h ↦ none m h
  | inr h ↦ let e : m ≡ suc j = omega arith in rw e (one_more body j shifts)
]

pub close_none : (body : List ℕ) (j : ℕ) → length body ≤ suc j → Shifts body j → NoneUpTo body j → NeverCloses body
close_none body j le shifts none m small = none_more body j shifts none m (omega arith)

pub no_close : (a b : ℕ) (rest : List ℕ) → (a ≡ 42 → b ≡ 47 → ⊥) → begins_close (a ∷ b ∷ rest) ≡ false
no_close a b rest h = grind (arith, nat_tests)
