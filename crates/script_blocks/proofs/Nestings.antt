-- How deep parts nest, and whether they are proper, as lists of them grow.
use Rattle.std.proofs.Common.{◌≡◌, ◌+◌, ◌<◌, ◌≤◌, ℕ, zero, suc, Bool, true, false, ◌&&◌, List, [], ◌∷◌, ◌++◌, map, take}
use Rattle.std.proofs.Common.{length, get_or, refl, sym, ap, ◌∙◌, subst, arith}
use Rattle.std.specs.Prelude.{◌↔◌, IsTrue, max}
use Rattle.std.specs.List.{list_all}
use Rattle.std.proofs.Math.Nat.{le-max_left, le-max_right}
use Rattle.std.proofs.lemmas.Bool.{and_from, false≢true, le-leb}
use Rattle.std.proofs.lemmas.List.{map_push, take_more}
use Rattle.plain_data.proofs.Tests.{and-true}
use Rattle.script_blocks.specs.declared.blocks.Blocks.{Blocks}
use Rattle.script_blocks.specs.declared.blocks.BlockPart.{BlockPart}
use Rattle.script_blocks.specs.declared.blocks.BlockPart.TheViews.{Repeat}
use Rattle.script_blocks.specs.declared.blocks.BlockPart.TheVariants.{Item}
use Rattle.script_blocks.specs.Nesting.{are_proper, greatest, is_body, is_proper_part, part_nesting, parts_nesting}
use Rattle.script_blocks.proofs.Expansions.{expansion_item, nesting_item, nesting_repeat, proper_item, proper_repeat}

pub greatest-push : (ns : List ℕ) (n : ℕ) → greatest (ns ++ n ∷ []) ≡ max (greatest ns) n
greatest-push [] n = omega arith
greatest-push (m ∷ ns) n = let before = greatest-push ns n in omega arith

pub nesting_push : {T : Type 0} (parts : List (BlockPart T)) (part : BlockPart T)
    → parts_nesting (parts ++ part ∷ []) ≡ max (parts_nesting parts) (part_nesting part)
nesting_push parts part =
    ap greatest (map_push part_nesting parts part) ∙ greatest-push (map part_nesting parts) (part_nesting part)

pub nesting_more : {T : Type 0} (parts : List (BlockPart T)) (i : ℕ) (part : BlockPart T) → i < length parts
    → part ≡ get_or parts i part
    → parts_nesting (take (i + 1) parts) ≡ max (parts_nesting (take i parts)) (part_nesting part)
nesting_more parts i part lt e =
    ap parts_nesting (take_more parts i part lt ∙ ap (λ p. take i parts ++ p ∷ []) (sym e))
    ∙ nesting_push (take i parts) part

pub nesting_within : {T : Type 0} (parts : List (BlockPart T)) (i : ℕ) (part : BlockPart T) → i < length parts
    → part ≡ get_or parts i part
    → part_nesting part ≤ parts_nesting parts
nesting_within [] i part lt e = absurd (omega arith)
nesting_within (p ∷ parts) zero part lt e =
    subst (λ n. n ≤ parts_nesting (p ∷ parts)) (sym (ap part_nesting e))
    (le-max_left (part_nesting p) (parts_nesting parts))
nesting_within (p ∷ parts) (suc i) part lt e =
    let below = nesting_within parts i part (omega arith) e in
    let more = le-max_right (part_nesting p) (parts_nesting parts) in
    omega arith

and_assoc : (a b c : Bool) → a && (b && c) ≡ (a && b) && c
and_assoc true b c = refl
and_assoc false b c = refl

pub proper_push : {T : Type 0} (parts : List (BlockPart T)) (part : BlockPart T)
    → are_proper (parts ++ part ∷ []) ≡ are_proper parts && is_proper_part part
proper_push [] part = and-true (is_proper_part part)
proper_push (p ∷ parts) part =
    ap (λ b. is_proper_part p && b) (proper_push parts part)
    ∙ and_assoc (is_proper_part p) (are_proper parts) (is_proper_part part)

-- an item at the end of the parts
pub nesting_with_item : {T : Type 0} (parts : List (BlockPart T)) (x : T)
    → parts_nesting (parts ++ Item x ∷ []) ≡ parts_nesting parts
nesting_with_item parts x =
    let is = nesting_push parts (Item x) in
    let here = nesting_item x in
    omega arith

pub proper_with_item : {T : Type 0} (parts : List (BlockPart T)) (x : T)
    → are_proper (parts ++ Item x ∷ []) ≡ are_proper parts
proper_with_item parts x =
    proper_push parts (Item x) ∙ ap (λ b. are_proper parts && b) (proper_item x) ∙ and-true (are_proper parts)

pub list_all-is_proper_part : {T : Type 0} (parts : List (BlockPart T)) → list_all (λ b. b) (map is_proper_part parts) ≡ are_proper parts
list_all-is_proper_part [] = refl
list_all-is_proper_part (p ∷ parts) = ap (λ b. is_proper_part p && b) (list_all-is_proper_part parts)

body_is : {T : Type 0} (parts : List (BlockPart T)) → 0 < length parts → are_proper parts ≡ true
    → is_body (map is_proper_part parts) ≡ true
body_is [] lt h = absurd (omega arith)
body_is (p ∷ parts) lt h = ap (λ b. is_proper_part p && b) (list_all-is_proper_part parts) ∙ h

-- a repeat at the end of the parts
module _ {T : Type 0} (parts : List (BlockPart T)) (count : ℕ) (body : Blocks T) where
  pub nesting_with_repeat : (depth : ℕ) → parts_nesting parts ≤ depth + 1 → parts_nesting body.parts ≤ depth
      → parts_nesting (parts ++ Repeat count body ∷ []) ≤ depth + 1
  nesting_with_repeat depth before inner =
      let is = nesting_push parts (Repeat count body) in
      let here = nesting_repeat count body in
      omega arith

  pub proper_with_repeat : IsTrue (are_proper parts) → 2 ≤ count → 0 < length body.parts
      → IsTrue (are_proper body.parts)
      → IsTrue (are_proper (parts ++ Repeat count body ∷ []))
  proper_with_repeat before twice some inner =
      proper_push parts (Repeat count body)
      ∙ and_from _ _ before
      (proper_repeat count body ∙ and_from _ _ (le-leb 2 count twice) (body_is body.parts some inner))

pub not_empty : {A : Type 0} (xs : List A) (b : Bool) → (IsTrue b ↔ (xs ≡ [])) → b ≡ false → 0 < length xs
not_empty [] b iff none = absurd (false≢true (sym none ∙ iff.1 refl))
not_empty (x ∷ xs) b iff none = omega arith

pub ruleset with_item = (nesting_with_item, proper_with_item, expansion_item)

-- items by themselves are proper
pub items_proper : {T : Type 0} (xs : List T) → are_proper (map Item xs) ≡ true
items_proper [] = refl
items_proper (x ∷ xs) = and_from _ _ (proper_item x) (items_proper xs)
