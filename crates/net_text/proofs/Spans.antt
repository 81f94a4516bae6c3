-- The least and the greatest slots that parts name.
--
-- The range of two lists, one after the other, is that of the ranges of both, since a fold by min or max may begin with
-- its first number or end with it. A range that is joined with itself stays as it is. So by induction over the count
-- the range of a list that is repeated, once at least, is that of the list, and the range of parts is joined part by
-- part.
use Rattle.std.proofs.Common.{◌≡◌, ◌≤◌, ◌<◌, ◌≢◌, ◌+◌, ℕ, zero, suc, min, max, Option, Some, None, List, [], ◌∷◌, ◌++◌}
use Rattle.std.proofs.Common.{length, take, get_or, refl, sym, ap, ap₂, ◌∙◌, arith}
use Rattle.std.specs.List.{fold, flat_map}
use Rattle.std.proofs.lemmas.List.{append-nil, take_more}
use Rattle.std.proofs.lemmas.Grind.{flat_map-append, fold-append}
use Rattle.script_blocks.specs.declared.blocks.Blocks.{Blocks}
use Rattle.script_blocks.specs.declared.blocks.BlockPart.{BlockPart}
use Rattle.script_blocks.specs.declared.blocks.BlockPart.TheViews.{Repeat}
use Rattle.script_blocks.specs.Expansion.{part_expansion, parts_expansion, repeated}
use Rattle.script_blocks.proofs.Expansions.{expansion_repeat}
use Rattle.script_blocks.proofs.Repetitions.{repeated_none, repeated_next, repeated_once}
use Rattle.net_text.specs.Ranges.{joined, range_of}

-- a fold by the lesser stays below one by the greater
fold_below : (xs : List ℕ) (low high : ℕ) → low ≤ high → fold min low xs ≤ fold max high xs
fold_below [] low high le = le
fold_below (x ∷ xs) low high le = fold_below xs (min low x) (max high x) (omega arith)

-- the least is no greater than the greatest
pub range_ordered : (xs : List ℕ) (least greatest : ℕ) → range_of xs ≡ Some (least, greatest) → least ≤ greatest
range_ordered [] least greatest e = cc
range_ordered (first ∷ others) least greatest e =
    let ends : (fold min first others, fold max first others) ≡ (least, greatest) = cc in
    let low : fold min first others ≡ least = ap (λ (ends : ℕ × ℕ). ends.0) ends in
    let high : fold max first others ≡ greatest = ap (λ (ends : ℕ × ℕ). ends.1) ends in
    omega (arith, fold_below others first first (omega arith))

-- a number that a fold begins with may as well come last
min_last : (xs : List ℕ) (a b : ℕ) → fold min (min a b) xs ≡ min a (fold min b xs)
min_last [] a b = refl
min_last (x ∷ xs) a b = ap (λ n. fold min n xs) (omega arith) ∙ min_last xs a (min b x)

max_last : (xs : List ℕ) (a b : ℕ) → fold max (max a b) xs ≡ max a (fold max b xs)
max_last [] a b = refl
max_last (x ∷ xs) a b = ap (λ n. fold max n xs) (omega arith) ∙ max_last xs a (max b x)

-- the range of two lists, the one after the other
pub range-append : (xs ys : List ℕ) → range_of (xs ++ ys) ≡ joined (range_of xs) (range_of ys)
range-append [] ys = refl
range-append (x ∷ xs) [] = ap (λ zs. range_of (x ∷ zs)) (append-nil xs)
range-append (x ∷ xs) (y ∷ ys) =
    ap₂ (λ low high. Some (low, high)) (fold-append min x xs (y ∷ ys) ∙ min_last ys (fold min x xs) y)
    (fold-append max x xs (y ∷ ys) ∙ max_last ys (fold max x xs) y)

-- the numbers of a range are no more when they come twice
joined_twice : (range : Option (ℕ × ℕ)) → joined range range ≡ range
joined_twice None = refl
joined_twice (Some range) = ap₂ (λ low high. Some (low, high)) (omega arith) (omega arith)

range_repeated : (n : ℕ) (xs : List ℕ) → range_of (repeated (suc n) xs) ≡ range_of xs
range_repeated zero xs = ap range_of (repeated_once xs)
range_repeated (suc n) xs =
    ap range_of (repeated_next (suc n) xs) ∙ range-append xs (repeated (suc n) xs)
    ∙ ap (joined (range_of xs)) (range_repeated n xs) ∙ joined_twice (range_of xs)

flat_map_repeated : {T : Type 0} (f : T → List ℕ) (n : ℕ) (xs : List T)
    → flat_map f (repeated n xs) ≡ repeated n (flat_map f xs)
flat_map_repeated f zero xs = ap (flat_map f) (repeated_none xs) ∙ sym (repeated_none (flat_map f xs))
flat_map_repeated f (suc n) xs =
    ap (flat_map f) (repeated_next n xs) ∙ flat_map-append f xs (repeated n xs)
    ∙ ap (λ ys. flat_map f xs ++ ys) (flat_map_repeated f n xs) ∙ sym (repeated_next n (flat_map f xs))

module _ {T : Type 0} (f : T → List ℕ) where
  -- a repeat of nothing has no range, and another that of its body
  pub range_of_none : (body : Blocks T) (part : BlockPart T) (count : ℕ) → part ≡ Repeat count body → count ≡ 0
      → None ≡ range_of (flat_map f (part_expansion part))
  range_of_none body part count is none =
      sym (ap (λ p. range_of (flat_map f (part_expansion p))) is
      ∙ ap (λ xs. range_of (flat_map f xs)) (expansion_repeat count body
      ∙ ap (λ n. repeated n (parts_expansion body.parts)) none ∙ repeated_none (parts_expansion body.parts)))

  some_copies : (count : ℕ) (xs : List T) → count ≢ 0
      → range_of (flat_map f (repeated count xs)) ≡ range_of (flat_map f xs)
  some_copies zero xs some = absurd (some refl)
  some_copies (suc n) xs some = ap range_of (flat_map_repeated f (suc n) xs) ∙ range_repeated n (flat_map f xs)

  pub range_of_repeat : (body : Blocks T) (part : BlockPart T) (count : ℕ) → part ≡ Repeat count body → count ≢ 0
      → range_of (flat_map f (parts_expansion body.parts)) ≡ range_of (flat_map f (part_expansion part))
  range_of_repeat body part count is some =
      sym (ap (λ p. range_of (flat_map f (part_expansion p))) is
      ∙ ap (λ xs. range_of (flat_map f xs)) (expansion_repeat count body)
      ∙ some_copies count (parts_expansion body.parts) some)

  -- one part more
  pub range_more : (parts : List (BlockPart T)) (i : ℕ) (part : BlockPart T) → i < length parts
      → part ≡ get_or parts i part
      → range_of (flat_map f (parts_expansion (take (i + 1) parts)))
      ≡ joined (range_of (flat_map f (parts_expansion (take i parts)))) (range_of (flat_map f (part_expansion part)))
  range_more parts i part inside is =
      let before = take i parts in
      ap (λ ps. range_of (flat_map f (parts_expansion ps)))
      (take_more parts i part inside ∙ ap (λ p. before ++ p ∷ []) (sym is))
      ∙ ap (λ xs. range_of (flat_map f xs)) (flat_map-append part_expansion before (part ∷ []))
      ∙ ap range_of (flat_map-append f (parts_expansion before) (parts_expansion (part ∷ [])))
      ∙ range-append (flat_map f (parts_expansion before)) (flat_map f (parts_expansion (part ∷ [])))
      ∙ ap (λ xs. joined (range_of (flat_map f (parts_expansion before))) (range_of (flat_map f xs)))
      (append-nil (part_expansion part))
