-- Proper blocks that nest at most so many levels deep, and stand for few items, are in range.
--
-- A proper part stands for an item at least: an item for itself, and a repeat for its body, which has a part. So a list
-- of parts has at most as many parts as items, and a repeat's count is at most the number of its items too. Both go by
-- induction over the levels that are left, a part with the parts of its body at one level less; at no level there is no
-- repeat. It says nothing of blocks that aren't proper: a repeat of nothing stands for no item.
use Rattle.std.proofs.Common.{◌≡◌, ◌≢◌, ℕ, zero, suc, ◌-◌, ◌*◌, ◌<◌, ◌≤◌, true, List, [], ◌∷◌, ◌++◌, All}
use Rattle.std.proofs.Common.{map, length, sym, ap, ◌∙◌, subst, arith, length-append}
use Rattle.std.specs.Prelude.{nat_le}
use Rattle.std.proofs.Math.Nat.{le-max_left, le-max_right}
use Rattle.std.proofs.lemmas.Bool.{and_parts, leb-true}
use Rattle.std.proofs.lemmas.Nat.{mul-le}
use Rattle.std.proofs.lemmas.List.Elements.{All-nil, All-cons, All-head, All-tail}
use Rattle.script_blocks.specs.declared.blocks.Blocks.{Blocks}
use Rattle.script_blocks.specs.declared.blocks.BlockPart.{BlockPart, out-BlockPart}
use Rattle.script_blocks.specs.declared.blocks.BlockPart.TheOpen as layer
use Rattle.script_blocks.specs.declared.blocks.BlockPart.TheViews.{Repeat, outs-Item, outs-Repeat, roll-BlockPart}
use Rattle.script_blocks.specs.declared.blocks.BlockPart.TheViews.{roll-out-BlockPart, rolls-Item, rolls-Repeat}
use Rattle.script_blocks.specs.declared.blocks.BlockPart.TheVariants.{Item}
use Rattle.script_blocks.specs.Expansion.{expansion, part_expansion, parts_expansion, repeated}
use Rattle.script_blocks.specs.Nesting.{are_proper, is_body, is_proper, is_proper_part, nesting, part_nesting}
use Rattle.script_blocks.specs.Nesting.{parts_nesting}
use Rattle.script_blocks.proofs.Expansions.{expansion_item, expansion_repeat, nesting_repeat, proper_repeat}
use Rattle.script_blocks.proofs.Repetitions.{length-repeated, repeated_before}
use Rattle.script_blocks.proofs.Depths.{body_parts}
use Rattle.cert_text.specs.Folding.{BlocksAreInRange, IsRepeat, LayerIsInRange, PartIsInRange}

-- what holds of a list holds of both its halves
all_halves : {X : Type 0} (P : X → Type 0) (xs ys : List X) → All P (xs ++ ys) → All P xs × All P ys
all_halves P [] ys all = (All-nil P, all)
all_halves P (x ∷ xs) ys all =
    let more = all_halves P xs ys (All-tail P x (xs ++ ys) all) in
    (All-cons P x xs (All-head P x (xs ++ ys) all) more.0, more.1)

module _ {T : Type 0} where
  -- what a proper repeat has
  repeat_parts : (count : ℕ) (body : Blocks T) → is_proper_part (Repeat count body) ≡ true
      → (2 ≤ count) × ((0 < length body.parts) × (are_proper body.parts ≡ true))
  repeat_parts count body proper =
      let checks =
      and_parts (nat_le 2 count) (is_body (map is_proper_part body.parts)) (sym (proper_repeat count body) ∙ proper) in
      (leb-true 2 count checks.0, body_parts body.parts checks.1)

  repeat_length : (count : ℕ) (body : Blocks T)
      → length (part_expansion (Repeat count body)) ≡ count * length (parts_expansion body.parts)
  repeat_length count body = ap length (expansion_repeat count body)
      ∙ length-repeated count (parts_expansion body.parts)

  -- A part stands for an item at least

  abbrev IsSome : ℕ → BlockPart T → Type 0
  IsSome levels part =
      is_proper_part part ≡ true → part_nesting part ≤ levels → 1 ≤ length (part_expansion part)

  parts_some : (levels : ℕ) → ((part : BlockPart T) → IsSome levels part) → (parts : List (BlockPart T))
      → are_proper parts ≡ true → parts_nesting parts ≤ levels → length parts ≤ length (parts_expansion parts)
  parts_some levels each [] proper deep = omega arith
  parts_some levels each (p ∷ ps) proper deep =
      let checks = and_parts (is_proper_part p) (are_proper ps) proper in
      let left = le-max_left (part_nesting p) (parts_nesting ps) in
      let right = le-max_right (part_nesting p) (parts_nesting ps) in
      let here : 1 ≤ length (part_expansion p) = each p checks.0 (omega arith) in
      let more : length ps ≤ length (parts_expansion ps) = parts_some levels each ps checks.1 (omega arith) in
      omega (arith, length-append (part_expansion p) (parts_expansion ps))

  item_some : (levels : ℕ) (x : T) → IsSome levels (Item x)
  item_some levels x proper deep = rw (expansion_item x) (omega arith)

  repeat_some : (levels : ℕ) → ((part : BlockPart T) → IsSome levels part) → (count : ℕ) (body : Blocks T)
      → IsSome (suc levels) (Repeat count body)
  repeat_some levels each count body proper deep =
      let facts = repeat_parts count body proper in
      let inner : parts_nesting body.parts ≤ levels = omega (arith, nesting_repeat count body, deep) in
      let some = parts_some levels each body.parts facts.1.1 inner in
      let product = mul-le 1 1 count (length (parts_expansion body.parts)) (omega (arith, facts.0))
      (omega (arith, some, facts.1.0)) in
      omega (arith, product, repeat_length count body)

  layer_some : (levels : ℕ) → ((part : BlockPart T) → IsSome levels part)
      → (y : layer.BlockPart-F T (BlockPart T) (Blocks T)) → IsSome (suc levels) (roll-BlockPart T y)
  layer_some levels each (layer.Item x) = subst (IsSome (suc levels)) (sym (rolls-Item x)) (item_some (suc levels) x)
  layer_some levels each (layer.Repeat count body) =
      subst (IsSome (suc levels)) (sym (rolls-Repeat count body)) (repeat_some levels each count body)

  flat_some : (y : layer.BlockPart-F T (BlockPart T) (Blocks T)) → IsSome 0 (roll-BlockPart T y)
  flat_some (layer.Item x) = subst (IsSome 0) (sym (rolls-Item x)) (item_some 0 x)
  flat_some (layer.Repeat count body) =
      subst (IsSome 0) (sym (rolls-Repeat count body))
      (λ proper deep. absurd (omega (arith, nesting_repeat count body, deep)))

  part_some : (levels : ℕ) (part : BlockPart T) → IsSome levels part
  part_some zero part = subst (IsSome 0) (roll-out-BlockPart T part) (flat_some (out-BlockPart T part))
  part_some (suc levels) part =
      subst (IsSome (suc levels)) (roll-out-BlockPart T part)
      (layer_some levels (part_some levels) (out-BlockPart T part))

  -- A part is in range

  module _ (P : T → Type 0) where
    pub item_in_range : (levels : ℕ) (x : T) → P x → PartIsInRange P levels (Item x)
    unfolding PartIsInRange
    item_in_range zero x k = subst (LayerIsInRange P (λ _. ⊥)) (sym (outs-Item x)) k
    item_in_range (suc levels) x k = subst (LayerIsInRange P (PartIsInRange P levels)) (sym (outs-Item x)) k

    pub repeat_in_range : (levels count : ℕ) (body : Blocks T) → IsRepeat count (length body.parts)
        → All (PartIsInRange P levels) body.parts → PartIsInRange P (suc levels) (Repeat count body)
    unfolding PartIsInRange
    repeat_in_range levels count body k all =
        subst (LayerIsInRange P (PartIsInRange P levels)) (sym (outs-Repeat count body)) (k, all)

    abbrev Fits : ℕ → BlockPart T → Type 0
    Fits levels part =
        is_proper_part part ≡ true → part_nesting part ≤ levels → All P (part_expansion part)
        → length (part_expansion part) ≤ 4294967295 → PartIsInRange P levels part

    parts_fit : (levels : ℕ) → ((part : BlockPart T) → Fits levels part) → (parts : List (BlockPart T))
        → are_proper parts ≡ true → parts_nesting parts ≤ levels → All P (parts_expansion parts)
        → length (parts_expansion parts) ≤ 4294967295 → All (PartIsInRange P levels) parts
    parts_fit levels each [] proper deep all short = All-nil (PartIsInRange P levels)
    parts_fit levels each (p ∷ ps) proper deep all short =
        let checks = and_parts (is_proper_part p) (are_proper ps) proper in
        let left = le-max_left (part_nesting p) (parts_nesting ps) in
        let right = le-max_right (part_nesting p) (parts_nesting ps) in
        let whole = length-append (part_expansion p) (parts_expansion ps) in
        let both = all_halves P (part_expansion p) (parts_expansion ps) all in
        All-cons (PartIsInRange P levels) p ps (each p checks.0 (omega arith) both.0 (omega arith))
        (parts_fit levels each ps checks.1 (omega arith) both.1 (omega arith))

    item_fits : (levels : ℕ) (x : T) → Fits levels (Item x)
    item_fits levels x proper deep all short =
        item_in_range levels x (All-head P x [] (subst (All P) (expansion_item x) all))

    repeat_fits : (levels : ℕ) → ((part : BlockPart T) → Fits levels part) → (count : ℕ) (body : Blocks T)
        → Fits (suc levels) (Repeat count body)
    repeat_fits levels each count body proper deep all short =
        let facts = repeat_parts count body proper in
        let list = parts_expansion body.parts in
        let inner : parts_nesting body.parts ≤ levels = omega (arith, nesting_repeat count body, deep) in
        let some = parts_some levels (part_some levels) body.parts facts.1.1 inner in
        let product : count * length list ≤ 4294967295 = omega (arith, repeat_length count body, short) in
        let by_list = mul-le 1 (length list) count (length list) (omega (arith, facts.0)) (omega arith) in
        let by_count = mul-le count 1 count (length list) (omega arith) (omega (arith, some, facts.1.0)) in
        let copies : All P (repeated count list) = subst (All P) (expansion_repeat count body) all in
        let not_none : count ≢ 0 = λ e. omega (arith, e, facts.0) in
        let first : All P list =
        (all_halves P list (repeated (count - 1) list) (subst (All P) (repeated_before count list not_none) copies)).0
        in
        repeat_in_range levels count body
        (record {
          twice = facts.0;
          count_in_range = omega (arith, by_count, product);
          some = omega (arith, facts.1.0);
          parts_in_range = omega (arith, some, by_list, product);
        })
        (parts_fit levels each body.parts facts.1.1 inner first (omega (arith, by_list, product)))

    layer_fits : (levels : ℕ) → ((part : BlockPart T) → Fits levels part)
        → (y : layer.BlockPart-F T (BlockPart T) (Blocks T)) → Fits (suc levels) (roll-BlockPart T y)
    layer_fits levels each (layer.Item x) = subst (Fits (suc levels)) (sym (rolls-Item x)) (item_fits (suc levels) x)
    layer_fits levels each (layer.Repeat count body) =
        subst (Fits (suc levels)) (sym (rolls-Repeat count body)) (repeat_fits levels each count body)

    flat_fits : (y : layer.BlockPart-F T (BlockPart T) (Blocks T)) → Fits 0 (roll-BlockPart T y)
    flat_fits (layer.Item x) = subst (Fits 0) (sym (rolls-Item x)) (item_fits 0 x)
    flat_fits (layer.Repeat count body) =
        subst (Fits 0) (sym (rolls-Repeat count body))
        (λ proper deep all short. absurd (omega (arith, nesting_repeat count body, deep)))

    part_fits : (levels : ℕ) (part : BlockPart T) → Fits levels part
    part_fits zero part = subst (Fits 0) (roll-out-BlockPart T part) (flat_fits (out-BlockPart T part))
    part_fits (suc levels) part =
        subst (Fits (suc levels)) (roll-out-BlockPart T part)
        (layer_fits levels (part_fits levels) (out-BlockPart T part))

    -- proper blocks of few items are in range
    pub blocks_in_range : (levels : ℕ) (blocks : Blocks T) → is_proper blocks ≡ true → nesting blocks ≤ levels
        → All P (expansion blocks) → length (expansion blocks) ≤ 4294967295 → BlocksAreInRange P levels blocks
    blocks_in_range levels blocks proper deep all short =
        let some = parts_some levels (part_some levels) blocks.parts proper deep in
        record {
          count = omega (arith, some, short);
          parts = parts_fit levels (part_fits levels) blocks.parts proper deep all short;
        }
