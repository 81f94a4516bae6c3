-- The hold is the greatest number of tokens that are live at once, and no choice of slots that keeps each token until its
-- last use has fewer.
--
-- Under any choice that keeps tokens those that are live as a Get comes have slots that differ from each other: of two of
-- them the earlier one has a use at or after the use behind this Get, before which the later one was got (`live_differ`). So
-- many numbers that differ, all below some number, are no more than that number (`live_within`). A new slot is made only
-- where the token of every slot has a use to come. Then these tokens and the one that is got are all live (`all_live`). So
-- as some Get came there were as many live tokens as there are slots (`reach_held`, by induction on the uses), and the hold
-- is no more than any choice has. Other places for the Gets may do with fewer slots: these are the given ones.
use Rattle.std.proofs.Common.{◌≡◌, ◌⊎◌, ℕ, zero, suc, ◌+◌, ◌-◌, ◌<◌, ◌≤◌, Bool, true, false, cond, Some, List, [], ◌∷◌}
use Rattle.std.proofs.Common.{length, take, get_or, slice_get, map, eqb, refl, sym, ap, ◌∙◌, inl, inr, arith}
use Rattle.std.specs.List.{AllByRecursion, IsDistinct, count_by, filter, list_any, range_with_len}
use Rattle.std.specs.Prelude.{nat_le}
use Rattle.std.proofs.lemmas.Bool.{cases_Bool, cases_lt, eqb-true, le-leb, leb-false, leb-true, lt-leb, ne_eqb, or_cases}
use Rattle.std.proofs.lemmas.List.{length-map, length_push, take_all}
use Rattle.std.proofs.lemmas.List.Sums.{fails_before_first, length-filter, passes_at_first, position_or_len_is}
use Rattle.std.proofs.lemmas.Map.Keys.{IsDistinct-cons}
use Rattle.std.proofs.lemmas.Map.Steps.{length-le_from_distinct_below}
use Rattle.std.proofs.lemmas.Option.{slice_get-get_or}
use Rattle.net_core.proofs.EventCounts.{count_cons}
use Rattle.reorder_slots.specs.Slots.{Held, KeepsUntilUsed, after_get, after_gets, gets_for, held_after, hold_of, is_wanted}
use Rattle.reorder_slots.specs.Slots.{lowest_free, slots_of_gets}
use Rattle.reorder_slots.specs.Readers.{KeepsTokens}
use Rattle.reorder_slots.proofs.Gets.{KeepsTokens-held, length-held, more_gets}
use Rattle.reorder_slots.proofs.Laws.{keeps_until_used}
use Rattle.reorder_slots.proofs.Held.{KeepsTokens-get, length-filled, lowest_free-le}
use Rattle.reorder_slots.proofs.Uses.{gets_for-more, named_before, wanted_at}
use Rattle.network_laws.specs.LiveTokens.{live_tokens, use_behind}

-- Numbers that differ

-- none of those that pass has this number
differ_from : (p : ℕ → Bool) (f : ℕ → ℕ) (x m a : ℕ) → ((i : ℕ) → a ≤ i → i < a + m → p i ≡ true → x ≡ f i → ⊥)
    → AllByRecursion (λ y. eqb x y ≡ false) (map f (filter p (range_with_len a m)))
differ_from p f x zero a apart = tt
differ_from p f x (suc m) a apart =
    let later = differ_from p f x m (a + 1) (λ i low high. apart i (omega arith) (omega arith)) in
    elim (cases_Bool (p a)) [
      | inl on ↦ rw on (ne_eqb x (f a) (apart a (omega arith) (omega arith) on), later)
      | inr off ↦ rw off later
    ]

all_differ : (p : ℕ → Bool) (f : ℕ → ℕ) (m a : ℕ)
    → ((i j : ℕ) → a ≤ i → i < j → j < a + m → p i ≡ true → p j ≡ true → f i ≡ f j → ⊥)
    → IsDistinct eqb (map f (filter p (range_with_len a m)))
unfolding IsDistinct
all_differ p f zero a apart = tt
all_differ p f (suc m) a apart =
    let later = all_differ p f m (a + 1) (λ i j low lt high. apart i j (omega arith) lt (omega arith)) in
    elim (cases_Bool (p a)) [
      | inl on ↦
          rw on (
            differ_from p f (f a) m (a + 1) (λ i low high. apart a i (omega arith) (omega arith) (omega arith) on),
            later,
          )
      | inr off ↦ rw off later
    ]

all_below : (p : ℕ → Bool) (f : ℕ → ℕ) (bound q m a : ℕ) → ((i : ℕ) → a ≤ i → i < a + m → p i ≡ true → f i < bound)
    → list_any (eqb q) (map f (filter p (range_with_len a m))) ≡ true → q < bound
all_below p f bound q zero a below any = absurd (cc)
all_below p f bound q (suc m) a below any =
    let rest : List ℕ = map f (filter p (range_with_len (a + 1) m)) in
    let later : list_any (eqb q) rest ≡ true → q < bound =
    all_below p f bound q m (a + 1) (λ i low high. below i (omega arith) (omega arith)) in
    elim (cases_Bool (p a)) [
      | inl on ↦
          let here_or_later = rw on at any in
          elim (or_cases (eqb q (f a)) (list_any (eqb q) rest) here_or_later) [
            | inl here ↦ omega (arith, eqb-true q (f a) here, below a (omega arith) (omega arith) on)
            | inr more ↦ later more
          ]
      | inr off ↦ let more = rw off at any in later more
    ]

-- a number and one for each that passes, which all differ and are below a bound, are no more than it
few_below : (p : ℕ → Bool) (f : ℕ → ℕ) (x m bound : ℕ)
    → ((i j : ℕ) → i < j → j < m → p i ≡ true → p j ≡ true → f i ≡ f j → ⊥)
    → ((i : ℕ) → i < m → p i ≡ true → x ≡ f i → ⊥) → ((i : ℕ) → i < m → p i ≡ true → f i < bound) → x < bound
    → suc (count_by p (range_with_len 0 m)) ≤ bound
few_below p f x m bound apart new below high =
    let passed : List ℕ = filter p (range_with_len 0 m) in
    let xs : List ℕ = map f passed in
    let distinct : IsDistinct eqb (x ∷ xs) =
    IsDistinct-cons eqb x xs (differ_from p f x m 0 (λ i low lt. new i (omega arith)))
    (all_differ p f m 0 (λ i j low lt past. apart i j lt (omega arith))) in
    let within : (q : ℕ) → list_any (eqb q) (x ∷ xs) ≡ true → q < bound =
    λ q any. elim (or_cases (eqb q x) (list_any (eqb q) xs) any) [
      | inl here ↦ omega (arith, eqb-true q x here, high)
      | inr more ↦ all_below p f bound q m 0 (λ i low lt. below i (omega arith)) more
    ] in
    omega (
      arith,
      length-map passed f,
      length-filter p (range_with_len 0 m),
      length-le_from_distinct_below (x ∷ xs) bound distinct within,
    )

every_one : (m a : ℕ) → count_by (λ (i : ℕ). true) (range_with_len a m) ≡ m
every_one zero a = refl
every_one (suc m) a = omega (arith, every_one m (a + 1), count_cons (λ (i : ℕ). true) a (range_with_len (a + 1) m))

-- fewer pass below a number that passes than below a greater one
rank_lt : (p : ℕ → Bool) (m n a : ℕ) → m < n → p (a + m) ≡ true
    → count_by p (range_with_len a m) < count_by p (range_with_len a n)
rank_lt p m zero a lt on = absurd (omega arith)
rank_lt p zero (suc n) a lt on =
    let at : a ≡ a + 0 = omega arith in
    let one : cond {A = ℕ} (p a) 1 0 ≡ 1 = ap (λ b. cond {A = ℕ} b 1 0) (ap p at ∙ on) in
    omega (arith, one, count_cons p a (range_with_len (a + 1) n))
rank_lt p (suc m) (suc n) a lt on =
    let at : a + 1 + m ≡ a + suc m = omega arith in
    omega (
      arith,
      rank_lt p m n (a + 1) (omega arith) (ap p at ∙ on),
      count_cons p a (range_with_len (a + 1) m),
      count_cons p a (range_with_len (a + 1) n),
    )

-- The use behind a Get

few_gets : (uses : List ℕ) (bound : ℕ) → ((k : ℕ) → k < length uses → get_or uses k 0 < bound) → gets_for uses ≤ bound
few_gets [] bound below = omega arith
few_gets (token ∷ uses) bound below =
    omega (arith, below 0 (omega arith), few_gets uses bound (λ k lt. below (suc k) (omega arith)))

use_behind-is : (uses : List ℕ) (q get : ℕ) → q < length uses → gets_for (take q uses) ≤ get
    → get < gets_for (take (q + 1) uses) → use_behind uses get ≡ q
use_behind-is uses q get lt before got =
    position_or_len_is (λ token. nat_le get token) uses q 0 (omega arith)
    (λ k low. lt-leb get (get_or uses k 0) (omega (arith, before, named_before uses q k low (omega arith))))
    (λ inside. le-leb get (get_or uses q 0) (omega (arith, before, got, gets_for-more uses q lt)))

-- it names the Get's token or a later one
use_behind-names : (uses : List ℕ) (get : ℕ) → get < gets_for uses
    → (use_behind uses get < length uses) × (get ≤ get_or uses (use_behind uses get) 0)
use_behind-names uses get lt =
    let test : ℕ → Bool = λ token. nat_le get token in
    elim (cases_lt (use_behind uses get) (length uses)) [
      | inl inside ↦ (inside, leb-true get (get_or uses (use_behind uses get) 0) (passes_at_first test uses 0 inside))
      | inr past ↦
          absurd (omega (
            arith,
            lt,
            few_gets uses get
                (λ k low. leb-false get (get_or uses k 0) (fails_before_first test uses k 0 (omega (arith, past)))),
          ))
    ]

-- Any choice of slots that keeps tokens

module _ (uses : List ℕ) (slot_of : ℕ → ℕ) (bound : ℕ) (keeps : KeepsUntilUsed uses slot_of)
    (below : (get : ℕ) → get < gets_for uses → slot_of get < bound) where
  -- a token with a use to come and a later one that is got before that use have different slots
  live_differ : (q early late : ℕ) → is_wanted uses q early ≡ true → early < late → late < gets_for (take (q + 1) uses)
      → slot_of late ≡ slot_of early → ⊥
  live_differ q early late wanted lt got same =
      let at = wanted_at uses q early wanted in
      let named : slice_get uses at.0 ≡ Some early =
      slice_get-get_or uses at.0 0 at.2 ∙ ap Some at.3 in
      keeps at.0 early late named lt (omega (arith, got, more_gets uses (q + 1) (at.0 + 1) (omega (arith, at.1)))) same

  -- no more tokens are live at once than the bound
  pub live_within : (get : ℕ) → get < gets_for uses → live_tokens uses get ≤ bound
  live_within get lt =
      let q = use_behind uses get in
      let behind = use_behind-names uses get lt in
      let got : get < gets_for (take (q + 1) uses) =
      omega (arith, behind.1, named_before uses (q + 1) q (omega arith) behind.0) in
      few_below (is_wanted uses q) slot_of (slot_of get) get bound
      (λ i j up high wanted also same. live_differ q i j wanted up (omega (arith, got)) (sym same))
      (λ i high wanted same. live_differ q i get wanted high got same)
      (λ i high wanted. below i (omega (arith, lt))) (below get lt)

-- One Get

-- below the lowest free slot each token has a use to come
lowest_free-wanted : (uses : List ℕ) (q : ℕ) (slots : List ℕ) (k : ℕ) → k < lowest_free uses q slots
    → is_wanted uses q (get_or slots k 0) ≡ true
lowest_free-wanted uses q [] k lt = absurd (omega arith)
lowest_free-wanted uses q (token ∷ slots) zero lt =
    elim (cases_Bool (is_wanted uses q token)) [
      | inl wanted ↦ wanted
      | inr free ↦ let none : 0 < 0 = rw free at lt in absurd (omega arith)
    ]
lowest_free-wanted uses q (token ∷ slots) (suc k) lt =
    elim (cases_Bool (is_wanted uses q token)) [
      | inl wanted ↦
          let later : suc k < suc (lowest_free uses q slots) = rw wanted at lt in
          lowest_free-wanted uses q slots k (omega arith)
      | inr free ↦ let none : suc k < 0 = rw free at lt in absurd (omega arith)
    ]

-- where no slot is free, the tokens of all slots and the new one are live
all_live : (uses : List ℕ) (q : ℕ) (held : Held) → KeepsTokens uses q held → q < length uses
    → gets_for (take q uses) ≤ length held.slot_of_get → length held.slot_of_get < gets_for (take (q + 1) uses)
    → length held.slots ≤ lowest_free uses q held.slots
    → suc (length held.slots) ≤ live_tokens uses (length held.slot_of_get)
all_live uses q held tokens inside before got all =
    let new : ℕ = length held.slot_of_get in
    let many : ℕ = length held.slots in
    let token : ℕ → ℕ = λ i. get_or held.slots i 0 in
    let rank : ℕ → ℕ = λ t. count_by (is_wanted uses q) (range_with_len 0 t) in
    let rises : (i t : ℕ) → i < many → token i < t → rank (token i) < rank t =
    λ i t lt up. (
    let at : 0 + token i ≡ token i = omega arith in
    let wanted : is_wanted uses q (0 + token i) ≡ true =
    ap (is_wanted uses q) at ∙ lowest_free-wanted uses q held.slots i (omega (arith, all)) in
    rank_lt (is_wanted uses q) (token i) t 0 up wanted) in
    let apart : (i j : ℕ) → i < j → j < many → true ≡ true → true ≡ true → rank (token i) ≡ rank (token j) → ⊥ =
    λ i j lt high on also same. elim (cases_lt (token i) (token j)) [
      | inl up ↦ omega (arith, same, rises i (token j) (omega arith) up)
      | inr ge ↦
          elim (cases_lt (token j) (token i)) [
            | inl down ↦ omega (arith, same, rises j (token i) high down)
            | inr le ↦
                let equal : token i ≡ token j = omega arith in
                omega (
                  arith,
                  lt,
                  tokens.taken i (omega arith),
                  tokens.taken j high,
                  ap (λ t. get_or held.slot_of_get t 0) equal,
                )
          ]
    ] in
    let earlier : (i : ℕ) → i < many → rank (token i) < rank new =
    λ i lt. rises i new lt (tokens.got i lt) in
    let counted : suc (count_by (λ (i : ℕ). true) (range_with_len 0 many)) ≤ suc (rank new) =
    few_below (λ i. true) (λ i. rank (token i)) (rank new) many (suc (rank new)) apart
    (λ i lt on same. omega (arith, same, earlier i lt)) (λ i lt on. omega (arith, earlier i lt)) (omega arith) in
    let here : live_tokens uses new ≡ suc (rank new) =
    ap (λ r. suc (count_by (is_wanted uses r) (range_with_len 0 new))) (use_behind-is uses q new inside before got) in
    omega (arith, counted, here, every_one many 0)

-- as one of the Gets so far came, at least as many tokens were live as there are slots
abbrev HasLive : List ℕ → Held → Type 0
HasLive uses held =
    (length held.slots ≡ 0)
    ⊎ ((get : ℕ) × (get < length held.slot_of_get) × (length held.slots ≤ live_tokens uses get))

module _ (uses : List ℕ) where
  reach_get : (q : ℕ) (held : Held) → KeepsTokens uses q held → q < length uses
      → gets_for (take q uses) ≤ length held.slot_of_get → length held.slot_of_get < gets_for (take (q + 1) uses)
      → HasLive uses held → HasLive uses (after_get uses q held)
  reach_get q held tokens inside before got has =
      let slots = held.slots in
      let slot : ℕ = lowest_free uses q slots in
      let new : ℕ = length held.slot_of_get in
      let count = length-filled slots slot new (lowest_free-le uses q slots) in
      let more = length_push held.slot_of_get slot in
      elim (cases_lt slot (length slots)) [
        | inl lt ↦
            elim has [
              | inl none ↦ absurd (omega (arith, lt, none))
              | inr live ↦ inr (live.0, omega (arith, more, live.1), omega (arith, count, lt, live.2))
            ]
        | inr full ↦
            let all = all_live uses q held tokens inside before got full in
            inr (new, omega (arith, more), omega (arith, count, lowest_free-le uses q slots, all))
      ]

  reach_gets : (q gets : ℕ) (held : Held) → KeepsTokens uses q held → q < length uses
      → gets_for (take q uses) ≤ length held.slot_of_get
      → length held.slot_of_get + gets ≤ gets_for (take (q + 1) uses) → HasLive uses held
      → HasLive uses (after_gets uses q gets held)
  reach_gets q zero held tokens inside before many has = has
  reach_gets q (suc gets) held tokens inside before many has =
      let more = length_push held.slot_of_get (lowest_free uses q held.slots) in
      reach_gets q gets (after_get uses q held) (KeepsTokens-get uses q held tokens) inside
      (omega (arith, before, more)) (omega (arith, many, more))
      (reach_get q held tokens inside before (omega (arith, many)) has)

  reach_held : (q : ℕ) → q ≤ length uses → HasLive uses (held_after uses q)
  unfolding held_after
  reach_held zero le = inl refl
  reach_held (suc q) le =
      let before = held_after uses q in
      let gets = length-held uses q in
      reach_gets q (gets_for (take (q + 1) uses) - length before.slot_of_get) before (KeepsTokens-held uses q)
      (omega (arith, le)) (omega (arith, gets)) (omega (arith, gets, more_gets uses q (q + 1) (omega arith)))
      (reach_held q (omega (arith, le)))

  made_gets : length (held_after uses (length uses)).slot_of_get ≡ gets_for uses
  made_gets = length-held uses (length uses) ∙ ap gets_for (take_all (length uses) uses (omega arith))

  -- the hold is no more than the tokens that are live as one of the Gets comes
  reach_hold : (hold_of uses ≡ 0) ⊎ ((get : ℕ) × (get < gets_for uses) × (hold_of uses ≤ live_tokens uses get))
  reach_hold =
      elim (reach_held (length uses) (omega arith)) [
        | inl none ↦ inl none
        | inr live ↦ inr (live.0, omega (arith, live.1, made_gets), live.2)
      ]

pub hold_fits : (uses : List ℕ) (slot_of : ℕ → ℕ) (bound : ℕ) → KeepsUntilUsed uses slot_of
    → ((get : ℕ) → get < gets_for uses → slot_of get < bound) → hold_of uses ≤ bound
hold_fits uses slot_of bound keeps below =
    elim (reach_hold uses) [
      | inl none ↦ omega (arith, none)
      | inr live ↦ omega (arith, live.2, live_within uses slot_of bound keeps below live.0 live.1)
    ]

-- The slots that Gets are given do it

pub own_slots_within : (uses : List ℕ) (get : ℕ) → get < gets_for uses → get_or (slots_of_gets uses) get 0 < hold_of uses
own_slots_within uses get lt =
    (KeepsTokens-held uses (length uses)).made get (omega (arith, lt, made_gets uses))

-- so at most as many tokens are live at once, and as many at one of the Gets

pub live_in_hold : (uses : List ℕ) (get : ℕ) → get < gets_for uses → live_tokens uses get ≤ hold_of uses
live_in_hold uses =
    live_within uses (λ get. get_or (slots_of_gets uses) get 0) (hold_of uses) (keeps_until_used uses)
    (own_slots_within uses)

pub hold_is_live : (uses : List ℕ) → 0 < gets_for uses
    → (get : ℕ) × (get < gets_for uses) × (live_tokens uses get ≡ hold_of uses)
hold_is_live uses some =
    elim (reach_hold uses) [
      | inl none ↦ absurd (omega (arith, none, own_slots_within uses 0 some))
      | inr live ↦ (live.0, live.1, omega (arith, live.2, live_in_hold uses live.0 live.1))
    ]
