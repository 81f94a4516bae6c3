-- Induction over parts and lists of parts at once.
--
-- What holds of each item, of each repeat where it holds of its body, and of each list where it holds of its parts,
-- holds of all parts and of all lists of them. A part and a list are types that contain each other, so there are two
-- statements, one about parts and one about lists, and the derived induction wants the step for each layer of both.
-- Here the step is asked by kinds of parts, and of a list as one of parts with what holds of each, so that whoever
-- cites it names no layer. A count is free in it: a repeat isn't unrolled, and nothing is an induction over its turns.
use Rattle.std.proofs.Common.{◌≡◌, ℕ, List, [], ◌∷◌, map, refl, sym, ap, subst}
use Rattle.script_blocks.specs.declared.blocks.Blocks.{Blocks}
use Rattle.script_blocks.specs.declared.blocks.BlockPart.{BlockPart}
use Rattle.script_blocks.specs.declared.blocks.BlockPart.TheOpen as open_part
use Rattle.script_blocks.specs.declared.blocks.BlockPart.TheFolds.{map-BlockPart, ind-BlockPart}
use Rattle.script_blocks.specs.declared.blocks.BlockPart.TheViews.{Repeat, roll-BlockPart, rolls-Item, rolls-Repeat}
use Rattle.script_blocks.specs.declared.blocks.BlockPart.TheVariants.{Item}

module _ {T : Type 0} (P : BlockPart T → Type 0) (Q : List (BlockPart T) → Type 0)
    (item : (x : T) → P (Item x)) (repeat : (count : ℕ) (body : Blocks T) → Q body.parts → P (Repeat count body))
    (list : (es : List ((part : BlockPart T) × P part)) → Q (map (λ e. e.0) es)) where
  abbrev Part : Type 0
  Part = (part : BlockPart T) × P part

  abbrev Body : Type 0
  Body = (blocks : Blocks T) × Q blocks.parts

  layer : (y : open_part.BlockPart-F T Part Body)
      → P (roll-BlockPart T (map-BlockPart T Part Body (BlockPart T) (Blocks T) (λ e. e.0) (λ e. e.0) y))
  layer (open_part.Item x) = subst P (sym (rolls-Item x)) (item x)
  layer (open_part.Repeat count body) = subst P (sym (rolls-Repeat count body.0)) (repeat count body.0 body.1)

  pub each_part : (part : BlockPart T) → P part
  each_part =
      ind-BlockPart T P (λ (blocks : Blocks T). Q blocks.parts)
      (λ x y is. subst (λ z. P (roll-BlockPart T z)) is (layer y))
      (λ x y is. subst (λ (z : open_part.Blocks-F T (BlockPart T) (Blocks T)). Q z.parts) is (list y.parts))

  pub each_list : (parts : List (BlockPart T)) → Q parts
  each_list parts = subst Q (paired parts) (list (map (λ part. (part, each_part part)) parts)) where
    paired : (ps : List (BlockPart T)) → map (λ (e : Part). e.0) (map (λ part. (part, each_part part)) ps) ≡ ps
    paired [] = refl
    paired (p ∷ ps) = ap (λ qs. p ∷ qs) (paired ps)
