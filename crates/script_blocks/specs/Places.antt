-- What a cursor has left of the parts that it is in. This says what the cursor's frames stand for; what blocks mean is
-- their expansion.
use Rattle.std.specs.Prelude.{ℕ, List, [], ◌∷◌, ◌++◌, drop, if◌then◌else◌}
use Rattle.script_blocks.specs.declared.blocks.Blocks.{Blocks}
use Rattle.script_blocks.specs.declared.blocks.BlockPart.{BlockPart, out-BlockPart}
use Rattle.script_blocks.specs.declared.blocks.BlockPart.TheOpen.{BlockPart-F, Item, Repeat}
use Rattle.script_blocks.specs.declared.cursor.Frame.{Frame}
use Rattle.script_blocks.specs.Expansion.{part_expansion, parts_expansion, repeated}

-- what is left of a list of parts
abbrev pub Left : Type 0 → Type 0
Left T = List (BlockPart T) → List T

-- the repetition that the cursor is in, of which `inner` is left, and the later ones
abbrev pub left_of_turns : {T : Type 0} → Frame → Left T → List (BlockPart T) → List T
left_of_turns f inner body = inner body ++ repeated f.later (parts_expansion body)

abbrev pub left_of_repeat : {T : Type 0} → Frame → Left T → ℕ → List (BlockPart T) → List T
left_of_repeat f inner count body =
    if f.inside then left_of_turns f inner body else repeated count (parts_expansion body)

-- an item that was entered is done
abbrev pub left_inside : {T : Type 0} → Frame → Left T → BlockPart-F T (BlockPart T) (Blocks T)
    → List T
left_inside f inner (Item x) = []
left_inside f inner (Repeat count body) = left_of_turns f inner body.parts

abbrev pub left_of_part : {T : Type 0} → Frame → Left T → BlockPart T → List T
left_of_part {T} f inner part =
    if f.inside then left_inside f inner (out-BlockPart T part) else part_expansion part

-- the part that the cursor is at, and the later ones
abbrev pub left_of_parts : {T : Type 0} → Frame → Left T → List (BlockPart T) → List T
left_of_parts f inner [] = []
left_of_parts f inner (part ∷ others) = left_of_part f inner part ++ parts_expansion others

-- one frame for each list of parts that the cursor is in, outermost first
abbrev pub left : {T : Type 0} → List Frame → Left T
left [] parts = []
left (f ∷ frames) parts = left_of_parts f (left frames) (drop f.part parts)
