-- A proper list of parts is long where it nests deep.
--
-- A proper repeat stands for at least twice its body, and its body has a part. So each level of nesting doubles the
-- length at least: parts that nest d deep stand for at least 2 ^ d items, unless there is none. By induction over the
-- parts, a repeat with its body at once. Fewer than 2 ^ 32 items therefore nest at most 31 deep, and 32 frames serve
-- each walk over them. It says nothing of blocks that aren't proper: repeats of nothing nest at will.
use Rattle.std.proofs.Common.{◌≡◌, ◌+◌, ◌*◌, ◌^◌, ◌<◌, ◌≤◌, ℕ, true, ◌&&◌, List, [], ◌∷◌, map, length, refl, sym, ap}
use Rattle.std.proofs.Common.{◌∙◌, subst, inl, inr, arith}
use Rattle.std.specs.Prelude.{max, nat_le}
use Rattle.std.proofs.lemmas.Bool.{and_parts, cases_lt, false≢true, leb-true}
use Rattle.std.proofs.lemmas.Nat.{mul-le, pow-add, pow_below}
use Rattle.std.proofs.lemmas.List.{length-append}
use Rattle.script_blocks.specs.declared.blocks.Blocks.{Blocks}
use Rattle.script_blocks.specs.declared.blocks.BlockPart.{BlockPart}
use Rattle.script_blocks.specs.declared.blocks.BlockPart.TheOpen as open_part
use Rattle.script_blocks.specs.declared.blocks.BlockPart.TheFolds.{map-BlockPart, ind-BlockPart}
use Rattle.script_blocks.specs.declared.blocks.BlockPart.TheViews.{Repeat, roll-BlockPart, rolls-Item, rolls-Repeat}
use Rattle.script_blocks.specs.declared.blocks.BlockPart.TheVariants.{Item}
use Rattle.script_blocks.specs.Expansion.{expansion, part_expansion, parts_expansion}
use Rattle.script_blocks.specs.Nesting.{are_proper, is_body, is_proper, is_proper_part, nesting, part_nesting}
use Rattle.script_blocks.specs.Nesting.{parts_nesting}
use Rattle.script_blocks.proofs.Expansions.{expansion_item, expansion_repeat, nesting_item, nesting_repeat}
use Rattle.script_blocks.proofs.Expansions.{proper_repeat}
use Rattle.script_blocks.proofs.Repetitions.{length-repeated}
use Rattle.script_blocks.proofs.Nestings.{list_all-is_proper_part}

-- a part that nests deep is long
abbrev IsLong : {T : Type 0} → BlockPart T → Type 0
IsLong part = is_proper_part part ≡ true → 2 ^ part_nesting part ≤ length (part_expansion part)

-- and so is a list of parts, where there is one
abbrev AreLong : {T : Type 0} → List (BlockPart T) → Type 0
AreLong parts = are_proper parts ≡ true → 0 < length parts → 2 ^ parts_nesting parts ≤ length (parts_expansion parts)

item_long : {T : Type 0} (x : T) → IsLong (Item x)
item_long x proper = rw (nesting_item x, expansion_item x) (omega arith)

-- a body has a part, and its parts are proper
pub body_parts : {T : Type 0} (parts : List (BlockPart T)) → is_body (map is_proper_part parts) ≡ true
    → (0 < length parts) × (are_proper parts ≡ true)
body_parts [] h = absurd (false≢true h)
body_parts (p ∷ parts) h = (omega arith, ap (λ b. is_proper_part p && b) (sym (list_all-is_proper_part parts)) ∙ h)

repeat_long : {T : Type 0} (count : ℕ) (body : Blocks T) → AreLong body.parts → IsLong (Repeat count body)
repeat_long count body inner proper =
    let checks =
    and_parts (nat_le 2 count) (is_body (map is_proper_part body.parts)) (sym (proper_repeat count body) ∙ proper) in
    let parts = body_parts body.parts checks.1 in
    let deep = parts_nesting body.parts in
    let power : 2 ^ (deep + 1) ≡ 2 ^ deep * 2 = pow-add 2 deep 1 in
    let product =
    mul-le 2 (2 ^ deep) count (length (parts_expansion body.parts)) (leb-true 2 count checks.0)
    (inner parts.1 parts.0) in
    let long : length (part_expansion (Repeat count body)) ≡ count * length (parts_expansion body.parts) =
    ap length (expansion_repeat count body) ∙ length-repeated count (parts_expansion body.parts) in
    rw (nesting_repeat count body, long) (omega arith)

max_long : (a b x y : ℕ) → 2 ^ a ≤ x → 2 ^ b ≤ y → 2 ^ max a b ≤ x + y
max_long a b x y p q =
    elim (cases_lt a b) [
      | inl lt ↦ let is : max a b ≡ b = omega arith in rw is (omega arith)
      | inr le ↦ let is : max a b ≡ a = omega arith in rw is (omega arith)
    ]

-- parts with a proof for each
parts_long : {T : Type 0} (es : List ((part : BlockPart T) × IsLong part)) → AreLong (map (λ e. e.0) es)
parts_long [] proper some = absurd (omega arith)
parts_long (e ∷ []) proper some =
    let here = e.1 (and_parts (is_proper_part e.0) true proper).0 in
    let whole = length-append (part_expansion e.0) [] in
    let deep : max (part_nesting e.0) 0 ≡ part_nesting e.0 = omega arith in
    rw deep (omega arith)
parts_long (e ∷ (f ∷ es)) proper some =
    let checks = and_parts (is_proper_part e.0) (are_proper (map (λ q. q.0) (f ∷ es))) proper in
    let both =
    max_long (part_nesting e.0) (parts_nesting (map (λ q. q.0) (f ∷ es))) _ _ (e.1 checks.0)
    (parts_long (f ∷ es) checks.1 (omega arith)) in
    let whole = length-append (part_expansion e.0) (parts_expansion (map (λ q. q.0) (f ∷ es))) in
    omega (arith, both, whole)

-- a list of parts that nests more than 31 deep is longer than any script
shallow_where : {T : Type 0} (parts : List (BlockPart T)) → AreLong parts → are_proper parts ≡ true
    → length (parts_expansion parts) < 2 ^ 32 → parts_nesting parts ≤ 31
shallow_where [] long proper short = omega arith
shallow_where (p ∷ parts) long proper short =
    let n = parts_nesting (p ∷ parts) in
    let enough = long proper (omega arith) in
    elim (cases_lt 31 n) [
      | inl deep ↦ elim (cases_lt 32 n) [
        | inl more ↦ absurd (omega (arith, enough, short, pow_below 32 n more))
        | inr less ↦
            let is : n ≡ 32 = omega arith in
            absurd (omega (arith, enough, short, ap (λ k. 2 ^ k) is))
      ]
      | inr le ↦ le
    ]

module _ (T : Type 0) where
  abbrev Long : Type 0
  Long = (part : BlockPart T) × IsLong part

  abbrev Body : Type 0
  Body = (blocks : Blocks T) × AreLong blocks.parts

  layer_long : (y : open_part.BlockPart-F T Long Body)
      → IsLong (roll-BlockPart T (map-BlockPart T Long Body (BlockPart T) (Blocks T) (λ e. e.0) (λ e. e.0) y))
  layer_long (open_part.Item x) = subst (λ part. IsLong part) (sym (rolls-Item x)) (item_long x)
  layer_long (open_part.Repeat count body) =
      subst (λ part. IsLong part) (sym (rolls-Repeat count body.0)) (repeat_long count body.0 body.1)

  part_long : (part : BlockPart T) → IsLong part
  part_long =
      ind-BlockPart T (λ part. IsLong part) (λ (blocks : Blocks T). AreLong blocks.parts)
      (λ x y is. subst (λ z. IsLong (roll-BlockPart T z)) is (layer_long y))
      (λ x y is. subst (λ (z : open_part.Blocks-F T (BlockPart T) (Blocks T)). AreLong z.parts) is (parts_long y.parts))

  all_long : (parts : List (BlockPart T)) → AreLong parts
  all_long parts = subst (λ ps. AreLong ps) (paired parts) (parts_long (map (λ part. (part, part_long part)) parts))
    where
      paired : (ps : List (BlockPart T)) → map (λ (e : Long). e.0) (map (λ part. (part, part_long part)) ps) ≡ ps
      paired [] = refl
      paired (p ∷ ps) = ap (λ qs. p ∷ qs) (paired ps)

-- a proper list of blocks with fewer than 2 ^ 32 items nests at most 31 deep
pub nests_shallow : {T : Type 0} (blocks : Blocks T) → is_proper blocks ≡ true → length (expansion blocks) < 2 ^ 32
    → nesting blocks ≤ 31
nests_shallow {T} blocks proper short = shallow_where blocks.parts (all_long T blocks.parts) proper short
