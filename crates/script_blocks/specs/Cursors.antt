-- A cursor over blocks.
use Rattle.std.specs.Prelude.{◌<◌, List, vec_len}
use Rattle.script_blocks.specs.declared.blocks.Blocks.{Blocks}
use Rattle.script_blocks.specs.declared.cursor.Cursor.{Cursor}
use Rattle.script_blocks.specs.Nesting.{nesting}
use Rattle.script_blocks.specs.Places.{left}

-- the cursor has a frame for each list of parts that it can be in
pub record HasFramesFor {T : Type 0} (blocks : Blocks T) (cursor : Cursor) : Type 0 where
  pub room : nesting blocks < vec_len cursor.frames

-- the items of the expansion that the cursor has not given yet
unfoldable pub rest : {T : Type 0} → Blocks T → Cursor → List T
rest blocks cursor = left cursor.frames.items blocks.parts
