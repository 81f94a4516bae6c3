-- Instructions that grow by a part.
--
-- The invariant: what was made, followed by the instructions of the parts that are left, is the same list at each turn.
-- A turn takes a part's instructions from the front of the one to the end of the other, and the number of the next
-- part's first instruction is how many have been made. The repeats that end behind the whole list are those behind its
-- last part, and behind another part none ends: so a turn asks how many parts come later. Where none is left, what was
-- made is all. This is the loop over one list; that a body's instructions are made so is the recursion's own contract.
use Rattle.std.proofs.Common.{◌≡◌, ◌+◌, ◌<◌, ◌≤◌, ◌≢◌, ℕ, List, [], ◌∷◌, ◌++◌, map, drop, length, get_or}
use Rattle.std.proofs.Common.{refl, sym, ap, ◌∙◌, arith, append_assoc, append-nil}
use Rattle.std.proofs.lemmas.List.{drop_all, length-append, length-drop}
use Rattle.plain_data.proofs.Lists.{drop_read_same}
use Rattle.script_blocks.specs.declared.blocks.BlockPart.{BlockPart}
use Rattle.script_blocks.proofs.Expansions.{nesting_item, nesting_repeat}
use Rattle.script_blocks.proofs.Nestings.{nesting_more, nesting_within}
use Rattle.repeat_sequencer.specs.declared.sequencer.Instruction.{Instruction}
use Rattle.repeat_sequencer.specs.declared.sequencer.RepeatEnd.{RepeatEnd}
use Rattle.repeat_sequencer.specs.Instructions.{part_code, parts_code}
use Rattle.repeat_sequencer.proofs.Codes.{code_item_at, code_repeat_at, in_order_last, in_order_next, in_order_none}

pub ruleset nestings = (nesting_more, nesting_within, nesting_item, nesting_repeat)

pub ruleset codes = (code_item_at, code_repeat_at, nesting_item, nesting_repeat)

module _ {T : Type 0} (level : ℕ) (ends here : List RepeatEnd) (before grown : List (Instruction T)) (part : BlockPart T)
    (is : grown ≡ before ++ part_code part level (length before) here) where
  -- before these parts
  part_added : (later : List (BlockPart T)) → (length later ≡ 0 → here ≡ ends) → (length later ≢ 0 → here ≡ [])
      → before ++ parts_code (part ∷ later) level (length before) ends
      ≡ grown ++ parts_code later level (length grown) ends
  part_added [] last others =
      ap (λ (xs : List (Instruction T)). before ++ xs) (in_order_last level (length before) ends (part_code part))
      ∙ ap (λ e. before ++ part_code part level (length before) e) (sym (last refl))
      ∙ sym is ∙ sym (append-nil grown)
      ∙ ap (λ (xs : List (Instruction T)). grown ++ xs) (sym (in_order_none level (length grown) ends))
  part_added (q ∷ qs) last others =
      let none : here ≡ [] = others (λ e. absurd (omega arith)) in
      let code : List (Instruction T) = part_code part level (length before) [] in
      let is_here : grown ≡ before ++ code = is ∙ ap (λ e. before ++ part_code part level (length before) e) none in
      let long : length before + length code ≡ length grown =
      omega (arith, ap length is_here, length-append before code) in
      ap (λ (xs : List (Instruction T)). before ++ xs)
      (in_order_next level (length before) ends (part_code part) (part_code q) (map part_code qs))
      ∙ sym (append_assoc before code (parts_code (q ∷ qs) level (length before + length code) ends))
      ∙ ap (λ (xs : List (Instruction T)). xs ++ parts_code (q ∷ qs) level (length before + length code) ends) (sym is_here)
      ∙ ap (λ n. grown ++ parts_code (q ∷ qs) level n ends) long

  -- the part at a place of a list
  pub part_added_at : (parts : List (BlockPart T)) (i later : ℕ) → i < length parts → part ≡ get_or parts i part
      → later + i + 1 ≡ length parts → (later ≡ 0 → here ≡ ends) → (later ≢ 0 → here ≡ [])
      → before ++ parts_code (drop i parts) level (length before) ends
      ≡ grown ++ parts_code (drop (i + 1) parts) level (length grown) ends
  part_added_at parts i later lt at count last others =
      let left : length (drop (i + 1) parts) ≡ later = omega (arith, length-drop (i + 1) parts) in
      ap (λ (ps : List (BlockPart T)). before ++ parts_code ps level (length before) ends)
      (drop_read_same parts parts i part refl lt at)
      ∙ part_added (drop (i + 1) parts) (λ e. last (sym left ∙ e)) (λ e. others (λ z. e (left ∙ z)))

-- no part is left
pub all_added : {T : Type 0} (level : ℕ) (ends : List RepeatEnd) (grown all : List (Instruction T)) (parts : List (BlockPart T))
    (i : ℕ) → length parts ≤ i → grown ++ parts_code (drop i parts) level (length grown) ends ≡ all → grown ≡ all
all_added {T} level ends grown all parts i le e =
    sym (append-nil grown)
    ∙ ap (λ (xs : List (Instruction T)). grown ++ xs) (sym (in_order_none level (length grown) ends))
    ∙ ap (λ (ps : List (BlockPart T)). grown ++ parts_code ps level (length grown) ends) (sym (drop_all i parts le))
    ∙ e
