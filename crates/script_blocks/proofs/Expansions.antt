-- The folds over blocks at each kind of part.
use Rattle.std.proofs.Common.{◌≡◌, ◌+◌, ◌<◌, ℕ, Bool, true, ◌&&◌, List, [], ◌∷◌, ◌++◌, map, take, length, get_or}
use Rattle.std.proofs.Common.{sym, ap, ◌∙◌}
use Rattle.std.specs.Prelude.{nat_le}
use Rattle.std.proofs.lemmas.List.{map_push, take_more}
use Rattle.std.proofs.lemmas.List.Folds.{flat_map-map}
use Rattle.std.proofs.lemmas.List.Sums.{sum-map}
use Rattle.script_blocks.specs.declared.blocks.Blocks.{Blocks}
use Rattle.script_blocks.specs.declared.blocks.BlockPart.TheOpen as open_part
use Rattle.script_blocks.specs.declared.blocks.BlockPart.TheViews.{Repeat, rolls-Item, rolls-Repeat}
use Rattle.script_blocks.specs.declared.blocks.BlockPart.TheVariants.{Item}
use Rattle.script_blocks.specs.declared.blocks.BlockPart.TheFolds.{fold-BlockPart, fold-Blocks, fold-roll-BlockPart}
use Rattle.script_blocks.specs.declared.blocks.BlockPart.TheFolds.{fold-roll-Blocks}
use Rattle.script_blocks.specs.Expansion.{expand_part, expand_list, part_expansion, parts_expansion, repeated}
use Rattle.script_blocks.specs.Nodes.{count_part, count_list, part_nodes, parts_nodes}
use Rattle.script_blocks.specs.Nesting.{check_part, check_list, is_body, is_proper_part, nest_part, nest_list}
use Rattle.script_blocks.specs.Nesting.{part_nesting, parts_nesting}

module _ (T A B : Type 0) (part_step : open_part.BlockPart-F T A B → A) (list_step : open_part.Blocks-F T A B → B) where
  pub fold_item : (x : T) → fold-BlockPart T A B part_step list_step (Item x) ≡ part_step (open_part.Item x)
  fold_item x =
      ap (fold-BlockPart T A B part_step list_step) (sym (rolls-Item x))
      ∙ fold-roll-BlockPart T A B part_step list_step (open_part.Item x)

  fold_list : (blocks : Blocks T)
      → fold-Blocks T A B part_step list_step blocks
      ≡ list_step (record { parts = map (fold-BlockPart T A B part_step list_step) blocks.parts })
  fold_list blocks = fold-roll-Blocks T A B part_step list_step (record { parts = blocks.parts })

  pub fold_repeat : (count : ℕ) (body : Blocks T) → fold-BlockPart T A B part_step list_step (Repeat count body)
      ≡ part_step (open_part.Repeat count
      (list_step (record { parts = map (fold-BlockPart T A B part_step list_step) body.parts })))
  fold_repeat count body =
      ap (fold-BlockPart T A B part_step list_step) (sym (rolls-Repeat count body))
      ∙ fold-roll-BlockPart T A B part_step list_step (open_part.Repeat count body)
      ∙ ap (λ b. part_step (open_part.Repeat count b)) (fold_list body)

pub expansion_item : {T : Type 0} (x : T) → part_expansion (Item x) ≡ x ∷ []
expansion_item {T} x = fold_item T (List T) (List T) expand_part expand_list x

pub expansion_repeat : {T : Type 0} (count : ℕ) (body : Blocks T)
    → part_expansion (Repeat count body) ≡ repeated count (parts_expansion body.parts)
expansion_repeat {T} count body =
    fold_repeat T (List T) (List T) expand_part expand_list count body
    ∙ ap (repeated count) (flat_map-map (λ part. part) part_expansion body.parts)

pub nodes_item : {T : Type 0} (x : T) → part_nodes (Item x) ≡ 1
nodes_item {T} x = fold_item T ℕ ℕ count_part count_list x

pub nodes_repeat : {T : Type 0} (count : ℕ) (body : Blocks T)
    → part_nodes (Repeat count body) ≡ parts_nodes body.parts + 1
nodes_repeat {T} count body =
    fold_repeat T ℕ ℕ count_part count_list count body ∙ ap (λ n. n + 1) (sum-map part_nodes body.parts)

pub nesting_item : {T : Type 0} (x : T) → part_nesting (Item x) ≡ 0
nesting_item {T} x = fold_item T ℕ ℕ nest_part nest_list x

pub nesting_repeat : {T : Type 0} (count : ℕ) (body : Blocks T)
    → part_nesting (Repeat count body) ≡ parts_nesting body.parts + 1
nesting_repeat {T} count body = fold_repeat T ℕ ℕ nest_part nest_list count body

pub proper_item : {T : Type 0} (x : T) → is_proper_part (Item x) ≡ true
proper_item {T} x = fold_item T Bool Bool check_part check_list x

pub proper_repeat : {T : Type 0} (count : ℕ) (body : Blocks T)
    → is_proper_part (Repeat count body) ≡ nat_le 2 count && is_body (map is_proper_part body.parts)
proper_repeat {T} count body = fold_repeat T Bool Bool check_part check_list count body

-- one item more
pub items_more : {T : Type 0} (xs : List T) (i : ℕ) (x : T) → i < length xs → x ≡ get_or xs i x
    → map Item (take (i + 1) xs) ≡ map Item (take i xs) ++ Item x ∷ []
items_more xs i x lt e =
    ap (map Item) (take_more xs i x lt ∙ ap (λ y. take i xs ++ y ∷ []) (sym e)) ∙ map_push Item (take i xs) x

pub ruleset expansion_laws =
    (items_more, expansion_item, expansion_repeat, nodes_item, nodes_repeat, nesting_item, nesting_repeat)
