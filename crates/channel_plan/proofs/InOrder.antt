-- The slots of a channel whose uses never fall.
--
-- Each use names a token that is no earlier than those of the uses before it, so before it stand just the Gets up
-- to its own token (`gets_at`; by induction on the use, since the uses before it have no Get beyond their own). With a
-- use one slot is enough (`one_slot` of reorder_slots), so each Get has slot 0, and so has each use. Nothing is said
-- here of uses that fall.
use Rattle.std.proofs.Common.{◌≡◌, ◌<◌, ◌≤◌, ◌+◌, ℕ, zero, suc, List, [], ◌∷◌, ◌++◌, true, length, map, take, replicate, min, leb}
use Rattle.std.proofs.Common.{get_or, refl, sym, ap, ◌∙◌, arith}
use Rattle.std.proofs.lemmas.Bool.{and_parts, leb-true}
use Rattle.std.proofs.lemmas.List.{ext_get_or, length-replicate, take_all}
use Rattle.channel_class.specs.Classes.{never_falls}
use Rattle.plain_data.proofs.Lists.{get_or-replicate_same}
use Rattle.reorder_slots.specs.Slots.{Held, gets_before, gets_for, hold_of, slots_of_gets, slots_of_uses}
use Rattle.reorder_slots.proofs.Gets.{KeepsTokens-held, held-zero, length-held}
use Rattle.reorder_slots.proofs.Laws.{one_slot}
use Rattle.reorder_slots.proofs.Plans.{gets_before-more}
use Rattle.reorder_slots.proofs.Uses.{gets_for-more, named_below}

-- The Gets

no_fall : (uses : List ℕ) (q : ℕ) → never_falls uses ≡ true → suc q < length uses
    → get_or uses q 0 ≤ get_or uses (suc q) 0
no_fall [] q order lt = absurd (omega arith)
no_fall (a ∷ []) q order lt = absurd (omega arith)
no_fall (a ∷ (b ∷ uses)) zero order lt = leb-true a b (and_parts (leb a b) (never_falls (b ∷ uses)) order).0
no_fall (a ∷ (b ∷ uses)) (suc q) order lt =
    no_fall (b ∷ uses) q (and_parts (leb a b) (never_falls (b ∷ uses)) order).1 (omega arith)

-- before a use stand the Gets up to its token
pub gets_at : (uses : List ℕ) (q : ℕ) → never_falls uses ≡ true → q < length uses
    → gets_for (take (q + 1) uses) ≡ get_or uses q 0 + 1
gets_at uses zero order lt = omega (arith, gets_for-more uses 0 lt)
gets_at uses (suc q) order lt =
    let next : q + 1 ≡ suc q = omega arith in
    omega (
      arith,
      gets_for-more uses (suc q) lt,
      ap (λ n. gets_for (take n uses)) next,
      gets_at uses q order (omega arith),
      no_fall uses q order lt,
    )

-- one use more
pub gets_before_next : (uses : List ℕ) (q gets : ℕ) (before after : List ℕ) → never_falls uses ≡ true → q < length uses
    → gets ≡ get_or uses q 0 + 1 → before ≡ take q (gets_before uses) → after ≡ before ++ gets ∷ []
    → after ≡ take (q + 1) (gets_before uses)
gets_before_next uses q gets before after order lt here was is =
    is
    ∙ ap (λ list. list ++ gets ∷ []) was
    ∙ ap (λ n. take q (gets_before uses) ++ n ∷ []) (here ∙ sym (gets_at uses q order lt))
    ∙ sym (gets_before-more uses q lt)

-- The slots

zeros : (xs : List ℕ) → ((k : ℕ) → k < length xs → get_or xs k 0 ≡ 0) → replicate (length xs) 0 ≡ xs
zeros xs each =
    let many = length-replicate (length xs) 0 in
    ext_get_or 0 (replicate (length xs) 0) xs many
    (λ k lt. get_or-replicate_same (length xs) k 0 ∙ sym (each k (omega (arith, many))))

zeros_by : (f : ℕ → ℕ) (xs : List ℕ) → ((x : ℕ) → f x ≡ 0) → replicate (length xs) 0 ≡ map f xs
zeros_by f [] each = refl
zeros_by f (x ∷ xs) each =
    ap (λ ys. 0 ∷ ys) (zeros_by f xs each) ∙ ap (λ y. y ∷ map f xs) (sym (each x))

pub one_hold : (uses : List ℕ) (gets : ℕ) → never_falls uses ≡ true → gets ≡ gets_for uses → min gets 1 ≡ hold_of uses
one_hold [] gets order all = omega (arith, ap (λ (held : Held). length held.slots) (held-zero []))
one_hold (token ∷ uses) gets order all =
    omega (arith, (one_slot (token ∷ uses) (omega arith)).1 order, named_below (token ∷ uses) 0 (omega arith))

module _ (uses : List ℕ) (gets : ℕ) (order : never_falls uses ≡ true) (all : gets ≡ gets_for uses) where
  -- each Get takes slot 0
  pub gets_in_one : replicate gets 0 ≡ slots_of_gets uses
  gets_in_one =
      let slots = slots_of_gets uses in
      let many : gets ≡ length slots =
      omega (arith, length-held uses (length uses), ap gets_for (take_all (length uses) uses (omega arith))) in
      ap (λ n. replicate n 0) many
      ∙ zeros slots (λ k lt. omega (
        arith,
        (KeepsTokens-held uses (length uses)).made k lt,
        one_hold uses gets order all,
      ))

  -- and each use finds its token there
  pub uses_in_one : replicate (length uses) 0 ≡ slots_of_uses uses
  uses_in_one =
      zeros_by (λ token. get_or (slots_of_gets uses) token 0) uses
      (λ token. ap (λ slots. get_or slots token 0) (sym gets_in_one) ∙ get_or-replicate_same gets token 0)
