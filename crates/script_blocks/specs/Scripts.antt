-- Scripts: lists that are kept as blocks.
use Rattle.std.specs.Prelude.{◌≡◌, ◌<◌, ◌≤◌, ◌^◌, ℕ, true, None, List, [], ◌++◌, drop, length, slice_get}
use Rattle.script_blocks.specs.declared.blocks.Blocks.{Blocks}
use Rattle.script_blocks.specs.declared.blocks.BlockPart.{BlockPart}
use Rattle.script_blocks.specs.declared.place.Place.{Place}
use Rattle.script_blocks.specs.Expansion.{expansion}
use Rattle.script_blocks.specs.Nesting.{is_proper, nesting, parts_nesting}
use Rattle.script_blocks.specs.Places.{left}

-- what a script keeps: proper blocks that nest at most 31 deep, and how many items they stand for, fewer than 2 ^ 32
pub record IsKept {T : Type 0} (blocks : Blocks T) (len : ℕ) : Type 0 where
  pub proper : is_proper blocks ≡ true
  pub shallow : nesting blocks ≤ 31
  pub long : len ≡ length (expansion blocks)
  pub few : length (expansion blocks) < 2 ^ 32

-- the items of the batch that were not given, and those that the walk has left
abbrev pub items_left : {T : Type 0} → Place T → List (BlockPart T) → List T
items_left place parts = drop place.given place.batch ++ left place.frames parts

-- the next item is in the batch, where one is left
abbrev pub IsReady : {T : Type 0} → Place T → List (BlockPart T) → Type 0
IsReady place parts = slice_get place.batch place.given ≡ None → items_left place parts ≡ []

-- the parts nest at most 31 deep, and the place in them is ready
abbrev pub IsWalk : {T : Type 0} → Place T → List (BlockPart T) → Type 0
IsWalk place parts = (parts_nesting parts ≤ 31) × IsReady place parts
