-- Parts that grow by what they stand for.
use Rattle.std.proofs.Common.{◌≡◌, ◌+◌, ◌-◌, ◌<◌, ℕ, List, [], ◌∷◌, ◌++◌, take, length, get_or, sym}
use Rattle.std.proofs.Common.{ap, ◌∙◌, arith, append_assoc}
use Rattle.std.proofs.lemmas.Grind.{flat_map-append}
use Rattle.std.specs.Prelude.{slice_index_or}
use Rattle.std.proofs.lemmas.List.{append-nil, length-append, length-map, map-append, take_at, take-map}
use Rattle.script_blocks.specs.declared.blocks.Blocks.{Blocks}
use Rattle.script_blocks.specs.declared.blocks.BlockPart.{BlockPart}
use Rattle.script_blocks.specs.declared.blocks.BlockPart.TheViews.{Repeat}
use Rattle.script_blocks.specs.Expansion.{part_expansion, parts_expansion, repeated}
use Rattle.script_blocks.specs.Labels.{items_or}
use Rattle.script_blocks.proofs.Expansions.{expansion_repeat}
use Rattle.script_blocks.proofs.Labels.{items_more, items_repeated}

pub expansion_push : {T : Type 0} (parts : List (BlockPart T)) (part : BlockPart T)
    → parts_expansion (parts ++ part ∷ []) ≡ parts_expansion parts ++ part_expansion part
expansion_push parts part =
    flat_map-append part_expansion parts (part ∷ [])
    ∙ ap (λ xs. parts_expansion parts ++ xs) (append-nil (part_expansion part))

-- what the labels in front of the others stand for
module _ {T : Type 0} (kinds : List T) (other : T) where
  abbrev items : List ℕ → List T
  items labels = items_or kinds other labels

  taken : (n : ℕ) (labels : List ℕ) → items (take n labels) ≡ take n (items labels)
  taken n labels = sym (take-map (λ l. slice_index_or kinds l other) n labels)

  many : (labels : List ℕ) → length (items labels) ≡ length labels
  many labels = length-map labels (λ l. slice_index_or kinds l other)

  front_stands : (labels others : List ℕ) (body : List T) → items labels ≡ body ++ items others
      → items (take (length labels - length others) labels) ≡ body
  front_stands labels others body split =
      let all = ap length split ∙ length-append body (items others) in
      let here : length body ≡ length labels - length others =
      omega (arith, all, many labels, many others) in
      taken (length labels - length others) labels ∙ ap (take (length labels - length others)) split
      ∙ take_at body (items others) (length labels - length others) here

  -- a repeat in place of the items that it stands for
  module _ (parts : List (BlockPart T)) (count : ℕ) (body : Blocks T) (labels first others rest : List ℕ)
      (split : items labels ≡ parts_expansion body.parts ++ items others)
      (is : first ≡ take (length labels - length others) labels)
      (repeats : first ++ others ≡ repeated count first ++ rest) where
    front : items first ≡ parts_expansion body.parts
    front = ap items is ∙ front_stands labels others (parts_expansion body.parts) split

    stands : items labels ≡ repeated count (parts_expansion body.parts) ++ items rest
    stands =
        split ∙ ap (λ xs. xs ++ items others) (sym front)
        ∙ sym (map-append (λ l. slice_index_or kinds l other) first others) ∙ ap items repeats
        ∙ map-append (λ l. slice_index_or kinds l other) (repeated count first) rest
        ∙ ap (λ xs. xs ++ items rest) (items_repeated kinds other count first
        ∙ ap (repeated count) front)

    pub repeat_built : parts_expansion parts ++ items labels
        ≡ parts_expansion (parts ++ Repeat count body ∷ []) ++ items rest
    repeat_built =
        ap (λ xs. parts_expansion parts ++ xs)
        (stands ∙ ap (λ xs. xs ++ items rest) (sym (expansion_repeat count body)))
        ∙ sym (append_assoc (parts_expansion parts) (part_expansion (Repeat count body)) (items rest))
        ∙ ap (λ xs. xs ++ items rest) (sym (expansion_push parts (Repeat count body)))

  -- the repeat added to the parts, where its body has these parts
  module _ (parts grown inner : List (BlockPart T)) (count : ℕ) (body : Blocks T)
      (pushed : grown ≡ parts ++ Repeat count body ∷ [])
      (same : inner ≡ body.parts) where
    pub repeat_expands : (labels first others rest : List ℕ) → items labels ≡ parts_expansion inner ++ items others
        → first ≡ take (length labels - length others) labels → first ++ others ≡ repeated count first ++ rest
        → parts_expansion parts ++ items labels ≡ parts_expansion grown ++ items rest
    repeat_expands labels first others rest split is repeats =
        repeat_built parts count body labels first others rest
        (split ∙ ap (λ ps. parts_expansion ps ++ items others) same) is repeats
        ∙ ap (λ ps. parts_expansion ps ++ items rest) (sym pushed)

  -- one more of the items that are added
  pub items_added : (grown parts before : List (BlockPart T)) (labels : List ℕ) (i : ℕ) → i < length labels
      → parts_expansion grown ≡ parts_expansion parts ++ items (get_or labels i 0 ∷ [])
      → parts_expansion parts ≡ parts_expansion before ++ items (take i labels)
      → parts_expansion grown ≡ parts_expansion before ++ items (take (i + 1) labels)
  items_added grown parts before labels i lt added was =
      added ∙ ap (λ xs. xs ++ items (get_or labels i 0 ∷ [])) was
      ∙ append_assoc (parts_expansion before) (items (take i labels)) (items (get_or labels i 0 ∷ []))
      ∙ ap (λ xs. parts_expansion before ++ xs) (sym (items_more kinds other labels i lt))
