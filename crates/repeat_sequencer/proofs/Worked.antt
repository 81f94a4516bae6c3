-- A nest of two repeats and an item behind them, worked out from the definitions.
--
-- Its instructions are computed part by part, and then its steps: nine items, of which one instruction gives six. At
-- the last of these both repeats end behind the same instruction. It shows what the definitions mean at one nest, and
-- no law is proved from it: `one_round` and `rounds` hold of all proper blocks.
use Rattle.std.proofs.Common.{◌≡◌, ℕ, [], ◌∷◌, None, refl}
use Rattle.script_blocks.specs.declared.blocks.Blocks.{Blocks}
use Rattle.script_blocks.specs.declared.blocks.BlockPart.TheViews.{Repeat}
use Rattle.script_blocks.specs.declared.blocks.BlockPart.TheVariants.{Item}
use Rattle.repeat_sequencer.specs.declared.sequencer.Sequencer.{Sequencer}
use Rattle.repeat_sequencer.specs.Instructions.{in_order, sequencer_of}
use Rattle.repeat_sequencer.specs.Steps.{Gives, at_end, at_start, item_at, past_ends, step, step_and_restart}
use Rattle.repeat_sequencer.proofs.Codes.{code_item_at, code_repeat_at}
use Rattle.script_blocks.proofs.Expansions.{nesting_item, nesting_repeat}

-- two times 1 and three times 2; and then 3
abbrev nest : Blocks ℕ
nest = record {
  parts =
      Repeat 2 (record { parts = Item 1 ∷ Repeat 3 (record { parts = Item 2 ∷ [] }) ∷ [] }) ∷ Item 3 ∷ [];
}

-- three instructions, behind the second of which both repeats end
abbrev row : Sequencer ℕ
row = record {
  levels = 2;
  instructions =
      record { item = 1; ends = [] }
      ∷ record {
        item = 2;
        ends = record { level = 1; first = 1; count = 3 } ∷ record { level = 0; first = 0; count = 2 } ∷ [];
      }
      ∷ record { item = 3; ends = [] } ∷ [];
}

row_is : sequencer_of nest ≡ row
unfolding in_order
row_is = simp (code_repeat_at, code_item_at, nesting_repeat, nesting_item)

row_gives : Gives row (step row) (at_start row) (1 ∷ 2 ∷ 2 ∷ 2 ∷ 1 ∷ 2 ∷ 2 ∷ 2 ∷ 3 ∷ []) (at_end row)
unfolding Gives past_ends
row_gives = (refl, (refl, (refl, (refl, (refl, (refl, (refl, (refl, (refl, refl)))))))))

row_ends : item_at row (at_end row) ≡ None
row_ends = refl

row_restarts : Gives row (step_and_restart row) (at_start row) (1 ∷ 2 ∷ 2 ∷ 2 ∷ 1 ∷ 2 ∷ 2 ∷ 2 ∷ 3 ∷ []) (at_start row)
unfolding Gives past_ends
row_restarts = (refl, (refl, (refl, (refl, (refl, (refl, (refl, (refl, (refl, refl)))))))))
