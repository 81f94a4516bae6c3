-- The text of a part, for each kind of part.
--
-- `part_text` is a fold over the nest of blocks, in which a body is known by the texts of its parts. These equations
-- say the same by the parts themselves: an item's text is its line, and a repeat's is its line and then the text of
-- its body. The texts of stretches follow, since a stretch is an item or a repeat of one.
use Rattle.std.proofs.Common.{◌≡◌, ℕ, suc, ◌==◌, Bool, true, false, if◌then◌else◌, List, [], ◌∷◌, ◌++◌, length, map}
use Rattle.std.proofs.Common.{append-nil, eqb-true, refl, sym, ap, ◌∙◌}
use Rattle.std.specs.List.{flat_map}
use Rattle.std.proofs.lemmas.List.Folds.{flat_map-map}
use Rattle.script_blocks.specs.declared.blocks.Blocks.{Blocks}
use Rattle.script_blocks.specs.declared.blocks.BlockPart.{BlockPart}
use Rattle.script_blocks.specs.declared.blocks.BlockPart.TheOpen as layer
use Rattle.script_blocks.specs.declared.blocks.BlockPart.TheFolds.{fold-Blocks, fold-roll-BlockPart}
use Rattle.script_blocks.specs.declared.blocks.BlockPart.TheFolds.{fold-roll-Blocks}
use Rattle.script_blocks.specs.declared.blocks.BlockPart.TheViews.{Repeat, rolls-Item, rolls-Repeat}
use Rattle.script_blocks.specs.declared.blocks.BlockPart.TheVariants.{Item}
use Rattle.cert_text.specs.CertText.{body_lines, entry_text, part_lines, part_text, parts_text, repeat_text}
use Rattle.cert_text.specs.Stretches.{Stretch, stretch_blocks, stretch_part, stretches}

module _ {T : Type 0} (text_of : T → List ℕ) where
  pub text_item : (x : T) → part_text text_of (Item x) ≡ text_of x
  text_item x =
      ap (part_text text_of) (sym (rolls-Item x))
      ∙ fold-roll-BlockPart T (List ℕ) (List (List ℕ)) (part_lines text_of) body_lines (layer.Item x)

  body_texts : (body : Blocks T)
      → fold-Blocks T (List ℕ) (List (List ℕ)) (part_lines text_of) body_lines body ≡ map (part_text text_of) body.parts
  body_texts body =
      fold-roll-Blocks T (List ℕ) (List (List ℕ)) (part_lines text_of) body_lines (record { parts = body.parts })

  length_map : (parts : List (BlockPart T)) → length (map (part_text text_of) parts) ≡ length parts
  length_map [] = refl
  length_map (p ∷ parts) = ap suc (length_map parts)

  pub text_repeat : (count : ℕ) (body : Blocks T)
      → part_text text_of (Repeat count body)
      ≡ repeat_text count (length body.parts) ++ parts_text text_of body.parts
  text_repeat count body =
      ap (part_text text_of) (sym (rolls-Repeat count body))
      ∙ fold-roll-BlockPart T (List ℕ) (List (List ℕ)) (part_lines text_of) body_lines (layer.Repeat count body)
      ∙ ap (λ (texts : List (List ℕ)). part_lines text_of (layer.Repeat count texts)) (body_texts body)
      ∙ ap (λ (n : ℕ). repeat_text count n ++ flat_map (λ text. text) (map (part_text text_of) body.parts))
      (length_map body.parts)
      ∙ ap (λ (text : List ℕ). repeat_text count (length body.parts) ++ text)
      (flat_map-map (λ text. text) (part_text text_of) body.parts)

-- The texts of stretches

pub one_text : (times entry : ℕ) → times ≡ 1
    → part_text entry_text (stretch_part (record { times = times; entry = entry })) ≡ entry_text entry
one_text times entry e =
    ap (λ (n : ℕ). part_text entry_text (stretch_part (record { times = n; entry = entry }))) e
    ∙ text_item entry_text entry

pub more_text : (times entry : ℕ) → (times ≡ 1 → ⊥)
    → part_text entry_text (stretch_part (record { times = times; entry = entry })) ≡ repeat_text times 1
    ++ entry_text entry
more_text times entry other = by_test (times == 1) refl
  where
    by_test : (t : Bool) → (times == 1) ≡ t
        → part_text entry_text (if t then Item entry else Repeat times (record { parts = Item entry ∷ [] }))
        ≡ repeat_text times 1 ++ entry_text entry
    by_test true e = absurd (other (eqb-true times 1 e))
    by_test false e =
        text_repeat entry_text times (record { parts = Item entry ∷ [] })
        ∙ ap (λ (text : List ℕ). repeat_text times 1 ++ text)
        (append-nil (part_text entry_text (Item entry)) ∙ text_item entry_text entry)

-- the first stretch, and the others
pub schedule_next : (rest others later : List ℕ) (entry times : ℕ) → rest ≡ entry ∷ others
    → stretches (entry ∷ others) ≡ record { times = times; entry = entry } ∷ stretches later
    → parts_text entry_text (stretch_blocks rest).parts
    ≡ part_text entry_text (stretch_part (record { times = times; entry = entry }))
    ++ parts_text entry_text (stretch_blocks later).parts
schedule_next rest others later entry times e first =
    ap (λ (es : List ℕ). parts_text entry_text (map stretch_part (stretches es))) e
    ∙ ap (λ (ss : List Stretch). parts_text entry_text (map stretch_part ss)) first
