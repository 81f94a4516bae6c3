-- The uses of a channel, from the marks of its tokens.
--
-- The number of a token is how many used turns stand below its turn, so it is the count of the marks
-- that are set in front of that turn; for this each named turn must be one of the writer's. The numbers
-- leave none out (`names_all_below`): from one turn to the next the count rises by 1 where the turn is
-- used and else stays, so going down from a use each lesser number is met at a used turn, which is
-- named. Nothing is said of the order in which tokens are used.
use Rattle.std.proofs.Common.{◌≡◌, ◌<◌, ◌≤◌, ◌+◌, ℕ, zero, suc, List, [], ◌∷◌, Bool, true, cond, map, length, take}
use Rattle.std.proofs.Common.{count_by, refl, sym, ap, ◌∙◌, inl, inr, arith, ◌==◌}
use Rattle.std.specs.List.{All, list_any, range_with_len}
use Rattle.std.proofs.lemmas.Bool.{cases_Bool, cases_eq, cases_lt, cond-true, cond-false, eq-eqb, eqb-true, or_cases}
use Rattle.std.proofs.lemmas.Bool.{or_left, or_right}
use Rattle.std.proofs.lemmas.List.Elements.{All-head, All-map, All-tail, All-weaker}
use Rattle.std.proofs.lemmas.List.Sums.{count_by-le-length, sum_by-cons, sum_by_push}
use Rattle.std.proofs.lemmas.List.FromFn.{length-range_with_len, length-map-range_with_len, take-map-range_with_len}
use Rattle.sanlp.proofs.Lists.{range_with_len_more}
use Rattle.reorder_slots.specs.Slots.{NamesAllBelow, gets_for}
use Rattle.channel_plan.specs.Tokens.{is_used, tokens_among, tokens_below, uses_of}

pub map_agree : {X Y : Type 0} (f g : X → Y) (xs : List X) → All (λ x. f x ≡ g x) xs → map f xs ≡ map g xs
map_agree f g [] same = refl
map_agree f g (x ∷ xs) same =
    ap (λ y. y ∷ map f xs) (All-head (λ x. f x ≡ g x) x xs same)
    ∙ ap (λ ys. g x ∷ ys) (map_agree f g xs (All-tail (λ x. f x ≡ g x) x xs same))

pub count_by-map : {X : Type 0} (p : X → Bool) (xs : List X) → count_by (λ mark. mark) (map p xs) ≡ count_by p xs
count_by-map p [] = refl
count_by-map p (x ∷ xs) =
    sum_by-cons (λ mark. cond mark 1 0) (p x) (map p xs)
    ∙ ap (λ n. cond (p x) 1 0 + n) (count_by-map p xs)
    ∙ sym (sum_by-cons (λ y. cond (p y) 1 0) x xs)

-- how many marks there are, and how many below a turn
pub marks_all : (turns : ℕ) (used : List ℕ)
    → count_by (λ mark. mark) (tokens_among turns used) ≡ tokens_below used turns
marks_all turns used = count_by-map (is_used used) (range_with_len 0 turns)

marks_below : (turns turn : ℕ) (used : List ℕ) → turn ≤ turns
    → count_by (λ mark. mark) (take turn (tokens_among turns used)) ≡ tokens_below used turn
marks_below turns turn used h =
    ap (count_by (λ mark. mark)) (take-map-range_with_len (is_used used) 0 turns turn h)
    ∙ count_by-map (is_used used) (range_with_len 0 turn)

uses_are : (turns : ℕ) (used : List ℕ) → All (λ turn. turn < turns) used
    → map (λ turn. count_by (λ mark. mark) (take turn (tokens_among turns used))) used ≡ uses_of used
uses_are turns used within =
    map_agree _ (tokens_below used) used
    (All-weaker (λ turn. turn < turns)
    (λ turn. count_by (λ mark. mark) (take turn (tokens_among turns used)) ≡ tokens_below used turn)
    (λ turn below. marks_below turns turn used (omega arith)) used within)

pub long_marks : (turns : ℕ) (used : List ℕ) (marks : List Bool) → marks ≡ tokens_among turns used
    → length marks ≡ turns
long_marks turns used marks e = ap length e ∙ length-map-range_with_len (is_used used) 0 turns

-- the same of a list that is equal to the used turns
pub uses_found : (turns : ℕ) (used found uses : List ℕ) (marks : List Bool) → found ≡ used
    → marks ≡ tokens_among turns found
    → uses ≡ map (λ turn. count_by (λ mark. mark) (take turn marks)) found → All (λ turn. turn < turns) used
    → uses ≡ uses_of used
uses_found turns used found uses marks e f g within =
    g
    ∙ ap (λ ms. map (λ turn. count_by (λ mark. mark) (take turn ms)) found) f
    ∙ ap (λ us. map (λ turn. count_by (λ mark. mark) (take turn (tokens_among turns us))) us) e
    ∙ uses_are turns used within

-- no token has a greater number than its turn
pub below_turn : (used : List ℕ) (turn : ℕ) → tokens_below used turn ≤ turn
below_turn used turn =
    omega (arith, count_by-le-length (is_used used) (range_with_len 0 turn), length-range_with_len 0 turn)

pub few_uses : (turns : ℕ) (used : List ℕ) → turns < 4294967296 → All (λ turn. turn < turns) used
    → All (λ named. named < 4294967295) (uses_of used)
few_uses turns used few within =
    All-map (λ named. named < 4294967295) (tokens_below used) used
    (All-weaker (λ turn. turn < turns) (λ turn. tokens_below used turn < 4294967295)
    (λ turn below. omega (arith, below_turn used turn)) used within)

-- Each number below a use is a use.
pub tokens_more : (used : List ℕ) (turn : ℕ)
    → tokens_below used (turn + 1) ≡ tokens_below used turn + cond (is_used used turn) 1 0
tokens_more used turn =
    ap (count_by (is_used used)) (range_with_len_more 0 turn turn (omega arith))
    ∙ sum_by_push (λ k. cond (is_used used k) 1 0) (range_with_len 0 turn) turn

-- no turn has a lesser number than one before it
pub tokens_below-more : (used : List ℕ) (turn more : ℕ) → tokens_below used turn ≤ tokens_below used (turn + more)
tokens_below-more used turn zero =
    let same : turn ≡ turn + 0 = omega arith in omega (arith, ap (tokens_below used) same)
tokens_below-more used turn (suc more) =
    let next : turn + more + 1 ≡ turn + suc more = omega arith in
    omega (
      arith,
      tokens_below-more used turn more,
      tokens_more used (turn + more),
      ap (tokens_below used) next,
    )

-- some used turn has this number
abbrev IsNumbered : List ℕ → ℕ → Type 0
IsNumbered used token = (turn : ℕ) × (is_used used turn ≡ true) × (tokens_below used turn ≡ token)

numbered_below : (used : List ℕ) (token turn : ℕ) → token < tokens_below used turn → IsNumbered used token
numbered_below used token zero h = absurd (omega (arith, below_turn used 0))
numbered_below used token (suc turn) h =
    let next : suc turn ≡ turn + 1 = omega arith in
    let more = ap (tokens_below used) next ∙ tokens_more used turn in
    elim (cases_Bool (is_used used turn)) [
      | inl hit ↦
          let counted = more ∙ ap (λ c. tokens_below used turn + c) (cond-true (is_used used turn) 1 0 hit) in
          elim (cases_eq (tokens_below used turn) token) [
            | inl here ↦ (turn, hit, here)
            | inr other ↦ numbered_below used token turn (omega arith)
          ]
      | inr none ↦
          let counted = more ∙ ap (λ c. tokens_below used turn + c) (cond-false (is_used used turn) 1 0 none) in
          numbered_below used token turn (omega arith)
    ]

-- a use that is not less than the token, if one of the Gets is its Get
use_from : (number : ℕ → ℕ) (used : List ℕ) (token : ℕ) → token < gets_for (map number used)
    → (turn : ℕ) × (is_used used turn ≡ true) × (token ≤ number turn)
use_from number [] token h = absurd (omega arith)
use_from number (turn ∷ used) token h =
    elim (cases_lt (number turn) token) [
      | inr here ↦ (turn, or_left (turn == turn) (is_used used turn) (eq-eqb turn turn refl), here)
      | inl above ↦
          let rest = use_from number used token (omega arith) in
          (rest.0, or_right (turn == rest.0) (is_used used rest.0) rest.1, rest.2)
    ]

-- what a used turn has for its number is among the numbers
number_named : (number : ℕ → ℕ) (used : List ℕ) (turn token : ℕ) → is_used used turn ≡ true → number turn ≡ token
    → list_any (λ named. named == token) (map number used) ≡ true
number_named number [] turn token h e = h
number_named number (first ∷ used) turn token h e =
    elim (or_cases (first == turn) (is_used used turn) h) [
      | inl here ↦ or_left (number first == token) (list_any (λ named. named == token) (map number used))
          (eq-eqb (number first) token (ap number (eqb-true first turn here) ∙ e))
      | inr later ↦ or_right (number first == token) (list_any (λ named. named == token) (map number used))
          (number_named number used turn token later e)
    ]

pub names_all_below : (used : List ℕ) → NamesAllBelow (uses_of used)
names_all_below used token h =
    let user = use_from (tokens_below used) used token h in
    let counted =
    tokens_more used user.0 ∙ ap (λ c. tokens_below used user.0 + c) (cond-true (is_used used user.0) 1 0 user.1) in
    let named = numbered_below used token (user.0 + 1) (omega (arith, counted, user.2)) in
    number_named (tokens_below used) used named.0 token named.1 named.2
