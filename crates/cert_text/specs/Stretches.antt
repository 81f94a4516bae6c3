-- How a schedule is folded where it is written: each greatest stretch of equal entries is a repeat.
use Rattle.std.specs.Prelude.{ℕ, ◌+◌, ◌==◌, if◌then◌else◌, List, [], ◌∷◌, map}
use Rattle.script_blocks.specs.declared.blocks.Blocks.{Blocks}
use Rattle.script_blocks.specs.declared.blocks.BlockPart.{BlockPart}
use Rattle.script_blocks.specs.declared.blocks.BlockPart.TheVariants.{Item}
use Rattle.script_blocks.specs.declared.blocks.BlockPart.TheViews.{Repeat}

-- so many equal entries, one after the other
pub record Stretch : Type 0 where
  pub times : ℕ
  pub entry : ℕ

-- an entry before stretches: one more of the first, or a stretch of its own
abbrev pub before_stretches : ℕ → List Stretch → List Stretch
before_stretches entry [] = record { times = 1; entry = entry } ∷ []
before_stretches entry (first ∷ others) =
    if first.entry == entry
    then record { times = first.times + 1; entry = entry } ∷ others
    else record { times = 1; entry = entry } ∷ (first ∷ others)

-- the greatest stretches
abbrev pub stretches : List ℕ → List Stretch
stretches [] = []
stretches (entry ∷ entries) = before_stretches entry (stretches entries)

-- one entry is an item, and more of them are a repeat of one item
abbrev pub stretch_part : Stretch → BlockPart ℕ
stretch_part stretch =
    if stretch.times == 1 then Item stretch.entry
    else Repeat stretch.times (record { parts = Item stretch.entry ∷ [] })

-- the blocks in which each stretch of more than one equal entry is a repeat of one item
abbrev pub stretch_blocks : List ℕ → Blocks ℕ
stretch_blocks entries = record { parts = map stretch_part (stretches entries) }
