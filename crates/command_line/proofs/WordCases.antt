-- The words by what `clap` takes them for.
--
-- Each word is of one case at least (`case_of`): it is `--`, asks for a policy, gives one, names an option that isn't
-- there, or is plain, with or without a dash before more. The case is found by the dashes in front: behind two of them
-- the name ends at the first `=`, so the word asks for a policy or gives one just where that name is the policy's
-- (`has_front`). Behind one dash the first character names an option that isn't there; a word without one, which isn't
-- text, is plain (`stray`).
use Rattle.std.proofs.Common.{◌≡◌, ◌⊎◌, ◌==◌, ◌+◌, ℕ, refl, sym, ap, subst, inl, inr, codes, true, false, [], ◌∷◌, ◌++◌, Bool, suc, take, drop, arith, ◌∙◌}
use Rattle.std.proofs.Common.{eqb-true}
use Rattle.std.specs.List.{before_first, position_or_len}
use Rattle.std.specs.Str.{bytes_eq, chars}
use Rattle.std.specs.Cmp.Lexicographic.{same_text}
use Rattle.std.proofs.lemmas.Bool.{true≢false, false_from_ne_true}
use Rattle.std.proofs.lemmas.Bool.Decides.{nat_tests}
use Rattle.std.proofs.lemmas.List.{take-append-drop}
use Rattle.command_line.specs.Words.{Text, is_end_of_options, is_policy_option, has_policy_value, is_option}
use Rattle.command_line.proofs.ClapSteps.{IsPlain, IsUnknown, no_dash, no_char, unknown_long, unknown_short}

-- the word is neither `--` nor gives a policy
pub record IsUnmarked (word : Text) : Type 0 where
  pub dashes : is_end_of_options word ≡ false
  pub policy : is_policy_option word ≡ false
  pub value : has_policy_value word ≡ false

pub data Case (word : Text) : Type 0 where
  ends : word ≡ codes "--" → Case word
  asks : word ≡ codes "--policy" → Case word
  gives : (v : Text) → word ≡ codes "--policy=" ++ v → Case word
  unknown : IsUnmarked word → is_option word ≡ true → IsUnknown word → Case word
  stray : IsUnmarked word → is_option word ≡ true → IsPlain word → Case word
  plain : IsUnmarked word → is_option word ≡ false → IsPlain word → Case word

abbrev pub is_equals : ℕ → Bool
is_equals byte = byte == 61

pub before-other : (x : ℕ) (xs : Text) → (x == 61) ≡ false
    → before_first is_equals (x ∷ xs) ≡ x ∷ before_first is_equals xs
before-other x xs e =
    let more : 1 + position_or_len is_equals xs ≡ suc (position_or_len is_equals xs) = omega arith in
    rw (e, more) refl

-- a text is what stands before its first `=`, or has that and more behind it
abbrev HasFront : Text → Text → Type 0
HasFront text front = (text ≡ front) ⊎ ((v : Text) × (text ≡ front ++ 61 ∷ v))

one_more : (x : ℕ) (xs front : Text) → HasFront xs front → HasFront (x ∷ xs) (x ∷ front)
one_more x xs front (inl e) = inl (ap (λ (rest : Text). x ∷ rest) e)
one_more x xs front (inr p) = inr (p.0, ap (λ (rest : Text). x ∷ rest) p.1)

has_front : (text : Text) → HasFront text (before_first is_equals text)
has_front [] = inl refl
has_front (x ∷ xs) =
    elim (x == 61) as (λ t. (x == 61) ≡ t → HasFront (x ∷ xs) (before_first is_equals (x ∷ xs))) [
      | true ↦ λ e. inr (xs, rw e (ap (λ n. n ∷ xs) (eqb-true x 61 e)))
      | false ↦ λ e. subst (HasFront (x ∷ xs)) (sym (before-other x xs e))
          (one_more x xs (before_first is_equals xs) (has_front xs))
    ] refl

-- where another name stands before the first `=`, the word gives no policy
abbrev HasOtherName : Text → Type 0
HasOtherName text = bytes_eq (codes "policy") (before_first is_equals text) ≡ false

not_policy : (text : Text) → HasOtherName text → is_policy_option (45 ∷ 45 ∷ text) ≡ true → ⊥
not_policy text other e =
    let same : text ≡ codes "policy" = ap (drop 2) (same_text (45 ∷ 45 ∷ text) (codes "--policy") (sym e)) in
    true≢false (subst HasOtherName same other)

no_value : (text : Text) → HasOtherName text → has_policy_value (45 ∷ 45 ∷ text) ≡ true → ⊥
no_value text other e =
    let word : Text = 45 ∷ 45 ∷ text in
    let parts : word ≡ codes "--policy=" ++ drop 9 word =
    sym (take-append-drop 9 word)
    ∙ ap (λ (front : Text). front ++ drop 9 word) (same_text (take 9 word) (codes "--policy=") (sym e)) in
    true≢false (subst HasOtherName (ap (drop 2) parts) other)

unmarked : (z : ℕ) (zs : Text) → HasOtherName (z ∷ zs) → IsUnmarked (45 ∷ 45 ∷ z ∷ zs)
unmarked z zs other = record {
  dashes = refl;
  policy = false_from_ne_true _ (not_policy (z ∷ zs) other);
  value = false_from_ne_true _ (no_value (z ∷ zs) other);
}

is_option-more : (x : ℕ) (xs : Text) → is_option (45 ∷ x ∷ xs) ≡ true
is_option-more x xs = grind (arith, nat_tests)

long_case : (z : ℕ) (zs : Text) → Case (45 ∷ 45 ∷ z ∷ zs)
long_case z zs =
    elim (bytes_eq (codes "policy") (before_first is_equals (z ∷ zs))) as
    (λ t. bytes_eq (codes "policy") (before_first is_equals (z ∷ zs)) ≡ t → Case (45 ∷ 45 ∷ z ∷ zs)) [
      | true ↦ λ e. policy_case
          (subst (HasFront (z ∷ zs)) (sym (same_text (codes "policy") (before_first is_equals (z ∷ zs)) (sym e)))
          (has_front (z ∷ zs)))
      | false ↦ λ e. unknown (unmarked z zs e) (is_option-more 45 (z ∷ zs)) (unknown_long _ _ refl (rw e refl))
    ] refl
  where
    policy_case : HasFront (z ∷ zs) (codes "policy") → Case (45 ∷ 45 ∷ z ∷ zs)
    policy_case (inl e) = asks (ap (λ (text : Text). 45 ∷ 45 ∷ text) e)
    policy_case (inr p) = gives p.0 (ap (λ (text : Text). 45 ∷ 45 ∷ text) p.1)

short_case : (y : ℕ) (ys : Text) → (y == 45) ≡ false → Case (45 ∷ y ∷ ys)
short_case y ys e =
    elim (chars (y ∷ ys)) as (λ cs. chars (y ∷ ys) ≡ cs → Case (45 ∷ y ∷ ys)) [
      | [] ↦ λ none. stray marks (is_option-more y ys)
          (record { dashes = rw e refl; long = rw e refl; short = no_char (y ∷ ys) (rw e refl) none })
      | c ∷ cs ↦ λ some. unknown marks (is_option-more y ys) (unknown_short (y ∷ ys) c cs (rw e refl) (rw e refl) some)
    ] refl
  where
    marks : IsUnmarked (45 ∷ y ∷ ys)
    marks = record { dashes = rw e refl; policy = rw e refl; value = rw e refl }

dash_case : (xs : Text) → Case (45 ∷ xs)
dash_case [] =
    plain (record { dashes = refl; policy = refl; value = refl }) refl
    (record { dashes = refl; long = refl; short = no_dash refl })
dash_case (y ∷ ys) =
    elim (y == 45) as (λ t. (y == 45) ≡ t → Case (45 ∷ y ∷ ys)) [
      | true ↦ λ e. subst (λ z. Case (45 ∷ z ∷ ys)) (sym (eqb-true y 45 e)) (two ys)
      | false ↦ λ e. short_case y ys e
    ] refl
  where
    two : (zs : Text) → Case (45 ∷ 45 ∷ zs)
    two [] = ends refl
    two (z ∷ zs) = long_case z zs

pub case_of : (word : Text) → Case word
case_of [] =
    plain (record { dashes = refl; policy = refl; value = refl }) refl
    (record { dashes = refl; long = refl; short = no_dash refl })
case_of (x ∷ xs) =
    elim (x == 45) as (λ t. (x == 45) ≡ t → Case (x ∷ xs)) [
      | true ↦ λ e. subst (λ y. Case (y ∷ xs)) (sym (eqb-true x 45 e)) (dash_case xs)
      | false ↦ λ e. plain (record { dashes = rw e refl; policy = rw e refl; value = rw e refl }) (rw e refl)
          (record { dashes = rw e refl; long = rw e refl; short = no_dash (rw e refl) })
    ] refl
