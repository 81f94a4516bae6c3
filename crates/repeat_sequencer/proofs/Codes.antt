-- The instructions at each kind of part, and how many items it keeps.
--
-- Both are folds, and the fold of something built is a step over the folds of its parts: an item or a repeat is taken
-- back to its layer, and there the fold is the step. Below a repeat stands a list of parts, whose fold is that of the
-- list's own layer, so a repeat needs both steps. `in_order` is told at no code, at one, and at one that others follow.
-- No lemma here is an induction; those of Builds, Sizes and Given unfold no fold but cite these.
use Rattle.std.proofs.Common.{◌≡◌, ◌+◌, ℕ, List, [], ◌∷◌, ◌++◌, length, refl, ap, ◌∙◌}
use Rattle.std.specs.List.{sum_by}
use Rattle.std.proofs.lemmas.List.Sums.{sum-map}
use Rattle.script_blocks.specs.declared.blocks.Blocks.{Blocks}
use Rattle.script_blocks.specs.declared.blocks.BlockPart.TheOpen as open_part
use Rattle.script_blocks.specs.declared.blocks.BlockPart.TheViews.{Repeat}
use Rattle.script_blocks.specs.declared.blocks.BlockPart.TheVariants.{Item}
use Rattle.script_blocks.proofs.Expansions.{fold_item, fold_repeat}
use Rattle.repeat_sequencer.specs.declared.sequencer.RepeatEnd.{RepeatEnd}
use Rattle.repeat_sequencer.specs.Instructions.{Code, code_of, code_of_list, in_order, part_code, parts_code}
use Rattle.repeat_sequencer.specs.Size.{items_of, items_of_list, part_items}

pub code_item : {T : Type 0} (x : T) → part_code (Item x) ≡ code_of (open_part.Item x)
code_item {T} x = fold_item T (Code T) (Code T) code_of code_of_list x

pub code_repeat : {T : Type 0} (count : ℕ) (body : Blocks T)
    → part_code (Repeat count body) ≡ code_of (open_part.Repeat count (parts_code body.parts))
code_repeat {T} count body = fold_repeat T (Code T) (Code T) code_of code_of_list count body

-- the instructions of a part that is an item, or a repeat
module _ {T : Type 0} (level first : ℕ) (ends : List RepeatEnd) where
  pub code_item_at : (x : T) → part_code (Item x) level first ends ≡ record { item = x; ends = ends } ∷ []
  code_item_at x = ap (λ (c : Code T). c level first ends) (code_item x)

  pub code_repeat_at : (count : ℕ) (body : Blocks T) → part_code (Repeat count body) level first ends
      ≡ parts_code body.parts (level + 1) first (record { level = level; first = first; count = count } ∷ ends)
  code_repeat_at count body = ap (λ (c : Code T). c level first ends) (code_repeat count body)

pub items_item : {T : Type 0} (x : T) → part_items (Item x) ≡ 1
items_item {T} x = fold_item T ℕ ℕ items_of items_of_list x

pub items_repeat : {T : Type 0} (count : ℕ) (body : Blocks T)
    → part_items (Repeat count body) ≡ sum_by part_items body.parts
items_repeat {T} count body =
    fold_repeat T ℕ ℕ items_of items_of_list count body ∙ sum-map part_items body.parts

-- codes one after the other
module _ {T : Type 0} (level first : ℕ) (ends : List RepeatEnd) where
  pub in_order_none : in_order {T = T} [] level first ends ≡ []
  unfolding in_order
  in_order_none = refl

  pub in_order_last : (code : Code T) → in_order (code ∷ []) level first ends ≡ code level first ends
  unfolding in_order
  in_order_last code = refl

  pub in_order_next : (code next : Code T) (codes : List (Code T))
      → in_order (code ∷ (next ∷ codes)) level first ends
      ≡ code level first [] ++ in_order (next ∷ codes) level (first + length (code level first [])) ends
  unfolding in_order
  in_order_next code next codes = refl
