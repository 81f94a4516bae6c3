-- Two lists gone through side by side are equal exactly where what is left of them is.
--
-- Going on by one item that both have keeps this, both ways (`alike_more`). Where the second has another item next or
-- none, the lists differ (`differ_next`). By places it is the fronts that are equal so far (`fronts_more`, `differ_at`,
-- `fronts_all`).
use Rattle.std.proofs.Common.{◌≡◌, ℕ, zero, suc, ◌+◌, ◌<◌, ◌≤◌, List, [], ◌∷◌, ◌++◌, length, take, get_or, refl, sym}
use Rattle.std.proofs.Common.{ap, ap₂, ◌∙◌, arith, take_all}
use Rattle.std.proofs.lemmas.List.{get_or_read, take_more, take_more_same}
use Rattle.std.specs.Prelude.{◌↔◌}
use Rattle.plain_data.proofs.Lists.{same_tail}

pub not_empty : {X : Type 0} (x : X) (xs : List X) → x ∷ xs ≡ [] → ⊥
not_empty x xs e = cc

module _ {X : Type 0} (all also left rest : List X) (alike : (all ≡ also) ↔ (left ≡ rest)) (x : X) (later : List X)
    (goes_on : left ≡ x ∷ later) where
  pub alike_more : (rest' : List X) → rest ≡ x ∷ rest' → (all ≡ also) ↔ (later ≡ rest')
  alike_more rest' next = (
    λ e. same_tail x x later rest' (sym goes_on ∙ alike.0 e ∙ next),
    λ e. alike.1 (goes_on ∙ ap (λ xs. x ∷ xs) e ∙ sym next),
  )

  pub differ_next : ((items : List X) → rest ≡ x ∷ items → ⊥) → all ≡ also → ⊥
  differ_next other e = other later (sym (alike.0 e) ∙ goes_on)

module _ {X : Type 0} (xs ys : List X) (i : ℕ) (x y : X) (in_xs : i < length xs) (in_ys : i < length ys)
    (x_is : x ≡ get_or xs i x) (y_is : y ≡ get_or ys i y) where
  pub fronts_more : take i xs ≡ take i ys → x ≡ y → take (i + 1) xs ≡ take (i + 1) ys
  fronts_more same e = take_more_same xs ys i x in_xs in_ys same (sym x_is ∙ e ∙ get_or_read ys i y in_ys y_is x)

  pub differ_at : (x ≡ y → ⊥) → xs ≡ ys → ⊥
  differ_at other e = other (x_is ∙ ap (λ zs. get_or zs i x) e ∙ sym (get_or_read ys i y in_ys y_is x))

-- an item that is read is what is read whatever else would be read past the end
read_again : {X : Type 0} (xs : List X) (i : ℕ) (d : X) → i < length xs → get_or xs i d ≡ get_or xs i (get_or xs i d)
read_again [] i d lt = absurd (omega arith)
read_again (x ∷ xs) zero d lt = refl
read_again (x ∷ xs) (suc i) d lt = read_again xs i d (omega arith)

-- the same two where an item is read with a default
module _ {X : Type 0} (xs ys : List X) (i : ℕ) (d e : X) (in_xs : i < length xs) (in_ys : i < length ys) where
  pub fronts_more_at : take i xs ≡ take i ys → get_or xs i d ≡ get_or ys i e → take (i + 1) xs ≡ take (i + 1) ys
  fronts_more_at =
      fronts_more xs ys i (get_or xs i d) (get_or ys i e) in_xs in_ys (read_again xs i d in_xs)
      (read_again ys i e in_ys)

  pub differ_read : (get_or xs i d ≡ get_or ys i e → ⊥) → xs ≡ ys → ⊥
  differ_read =
      differ_at xs ys i (get_or xs i d) (get_or ys i e) in_xs in_ys (read_again xs i d in_xs) (read_again ys i e in_ys)

pub fronts_all : {X : Type 0} (xs ys : List X) (i : ℕ) → length xs ≤ i → length xs ≡ length ys → take i xs ≡ take i ys
    → xs ≡ ys
fronts_all xs ys i le same fronts = sym (take_all i xs le) ∙ fronts ∙ take_all i ys (omega arith)

-- one item more was copied
pub copied_more : {X : Type 0} (xs copies copies' : List X) (i : ℕ) (x y : X) → i < length xs → x ≡ get_or xs i x
    → copies ≡ take i xs
    → copies' ≡ copies ++ y ∷ [] → y ≡ x → copies' ≡ take (i + 1) xs
copied_more xs copies copies' i x y lt is so_far pushed same =
    pushed ∙ ap₂ (λ l z. l ++ z ∷ []) so_far (same ∙ is) ∙ sym (take_more xs i x lt)
