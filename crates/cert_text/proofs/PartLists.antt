-- Lists of parts that grow at their end.
--
-- What parts stand for is their expansions one behind the other, so a part at the end adds its own. A repeat with a
-- count of at least 2 and a body with a part keeps blocks proper. A repeat of nothing would not: it stands for
-- nothing, and is left out.
use Rattle.std.proofs.Common.{◌≡◌, ◌<◌, ◌≤◌, ℕ, List, [], ◌∷◌, ◌++◌, Result, Ok, Err, length, append-nil, refl}
use Rattle.std.proofs.Common.{true, sym, ap, ◌∙◌, arith}
use Rattle.std.specs.Prelude.{IsTrue, OnErr, OnOk}
use Rattle.std.proofs.lemmas.Bool.{and_from}
use Rattle.std.proofs.lemmas.Grind.{flat_map-append}
use Rattle.std.proofs.lemmas.List.Folds.{list_all-append}
use Rattle.script_blocks.specs.declared.blocks.Blocks.{Blocks}
use Rattle.script_blocks.specs.declared.blocks.BlockPart.{BlockPart}
use Rattle.script_blocks.specs.declared.blocks.BlockPart.TheVariants.{Item}
use Rattle.script_blocks.specs.declared.blocks.BlockPart.TheViews.{Repeat}
use Rattle.script_blocks.specs.Expansion.{expansion, part_expansion, parts_expansion, repeated}
use Rattle.script_blocks.specs.Nesting.{are_proper, is_proper_part}
use Rattle.script_blocks.proofs.Expansions.{expansion_item, expansion_repeat, proper_item}
use Rattle.script_blocks.proofs.Nestings.{proper_with_repeat}
use Rattle.script_blocks.proofs.Repetitions.{repeated_nothing}

module _ {T : Type 0} where
  pub both_expansion : (parts more all : List (BlockPart T)) → all ≡ parts ++ more
      → parts_expansion all ≡ parts_expansion parts ++ parts_expansion more
  both_expansion parts more all e =
      ap (λ (ps : List (BlockPart T)). parts_expansion ps) e ∙ flat_map-append part_expansion parts more

  -- a repeat of nothing stands for nothing
  pub nothing_repeated : (times : ℕ) (body : Blocks T) (old : List T) → body.parts ≡ []
      → old ≡ old ++ repeated times (expansion body)
  nothing_repeated times body old none =
      sym (ap (λ (parts : List (BlockPart T)). old ++ repeated times (parts_expansion parts)) none
      ∙ ap (λ (xs : List T). old ++ xs) (repeated_nothing times) ∙ append-nil old)

  pub repeat_expansion : (parts all : List (BlockPart T)) (times : ℕ) (body : Blocks T)
      → all ≡ parts ++ Repeat times body ∷ []
      → parts_expansion all ≡ parts_expansion parts ++ repeated times (expansion body)
  repeat_expansion parts all times body e =
      both_expansion parts (Repeat times body ∷ []) all e
      ∙ ap (λ (xs : List T). parts_expansion parts ++ xs)
      (append-nil (part_expansion (Repeat times body)) ∙ expansion_repeat times body)

  pub item_expansion : (parts all : List (BlockPart T)) (items : List T) (x : T) → all ≡ parts ++ Item x ∷ []
      → parts_expansion parts ≡ items → parts_expansion all ≡ items ++ x ∷ []
  item_expansion parts all items x e is =
      both_expansion parts (Item x ∷ []) all e
      ∙ ap (λ (xs : List T). parts_expansion parts ++ xs) (append-nil (part_expansion (Item x)) ∙ expansion_item x)
      ∙ ap (λ (xs : List T). xs ++ x ∷ []) is

  pub item_proper : (parts all : List (BlockPart T)) (x : T) → all ≡ parts ++ Item x ∷ [] → are_proper parts ≡ true
      → are_proper all ≡ true
  item_proper parts all x e proper =
      ap (λ (ps : List (BlockPart T)). are_proper ps) e
      ∙ list_all-append is_proper_part parts (Item x ∷ [])
      ∙ and_from (are_proper parts) (are_proper (Item x ∷ [])) proper
      (and_from (is_proper_part (Item x)) true (proper_item x) refl)

  some_parts : (parts : List (BlockPart T)) → (parts ≡ [] → ⊥) → 0 < length parts
  some_parts [] some = absurd (some refl)
  some_parts (p ∷ parts) some = omega arith

  pub repeat_proper : (parts all : List (BlockPart T)) (times : ℕ) (body : Blocks T)
      → all ≡ parts ++ Repeat times body ∷ [] → 2 ≤ times → (body.parts ≡ [] → ⊥) → IsTrue (are_proper parts)
      → IsTrue (are_proper body.parts) → IsTrue (are_proper all)
  repeat_proper parts all times body e twice some proper inner =
      ap (λ (ps : List (BlockPart T)). are_proper ps) e
      ∙ proper_with_repeat parts times body proper twice (some_parts body.parts some) inner

  -- what a push that may fail leaves

  pub grown_by_repeat : {E : Type 0} (answer : Result Unit E) (old new : List (BlockPart T)) (times : ℕ)
      (body : Blocks T)
      (before list : List T) → before ≡ parts_expansion old → list ≡ expansion body
      → OnOk answer (new ≡ old ++ Repeat times body ∷ [])
      → OnOk answer (parts_expansion new ≡ before ++ repeated times list)
  grown_by_repeat (Ok done) old new times body before list is it e =
      repeat_expansion old new times body e
      ∙ ap (λ (xs : List T). xs ++ repeated times (expansion body)) (sym is)
      ∙ ap (λ (xs : List T). before ++ repeated times xs) (sym it)
  grown_by_repeat (Err error) old new times body before list is it e = tt

  pub proper_by_repeat : {E : Type 0} (answer : Result Unit E) (old new : List (BlockPart T)) (times : ℕ)
      (body : Blocks T)
      → OnOk answer (new ≡ old ++ Repeat times body ∷ []) → OnErr answer (new ≡ old)
      → 2 ≤ times → (body.parts ≡ [] → ⊥) → IsTrue (are_proper old) → IsTrue (are_proper body.parts)
      → IsTrue (are_proper new)
  proper_by_repeat (Ok done) old new times body e f twice some proper inner =
      repeat_proper old new times body e twice some proper inner
  proper_by_repeat (Err error) old new times body e f twice some proper inner =
      ap (λ (ps : List (BlockPart T)). are_proper ps) f ∙ proper
