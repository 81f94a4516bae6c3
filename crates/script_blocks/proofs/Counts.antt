-- Sums and products up to a cap.
use Rattle.std.proofs.Common.{◌≡◌, ◌*◌, ◌≤◌, ℕ, zero, suc, min, length, sym, ap, ◌∙◌, inl, inr, arith}
use Rattle.std.proofs.lemmas.Bool.{cases_lt}
use Rattle.script_blocks.specs.declared.blocks.Blocks.{Blocks}
use Rattle.script_blocks.specs.declared.blocks.BlockPart.{BlockPart}
use Rattle.script_blocks.specs.declared.blocks.BlockPart.TheViews.{Repeat}
use Rattle.script_blocks.specs.Expansion.{part_expansion, parts_expansion}
use Rattle.script_blocks.proofs.Expansions.{expansion_repeat}
use Rattle.script_blocks.proofs.Repetitions.{length-repeated}

capped_within : (a b most cap : ℕ) → cap ≤ most → b ≤ cap → min (min (a * min b cap) most) cap ≡ min (a * b) cap
capped_within a b most cap h le =
    let is : min b cap ≡ b = omega arith in
    let same : min (min (a * b) most) cap ≡ min (a * b) cap = omega arith in
    ap (λ m. min (min (a * m) most) cap) is ∙ same

capped_past : (a b most cap : ℕ) → cap ≤ most → cap ≤ b → min (min (suc a * min b cap) most) cap ≡ min (suc a * b) cap
capped_past a b most cap h le =
    let is : min b cap ≡ cap = omega arith in
    let same : min (min (suc a * cap) most) cap ≡ min (suc a * b) cap = omega arith in
    ap (λ m. min (min (suc a * m) most) cap) is ∙ same

capped_product : (a b most cap : ℕ) → cap ≤ most → min (min (a * min b cap) most) cap ≡ min (a * b) cap
capped_product zero b most cap h = omega arith
capped_product (suc a) b most cap h =
    elim (cases_lt b cap) [
      | inl lt ↦ capped_within (suc a) b most cap h (omega arith)
      | inr le ↦ capped_past a b most cap h (omega arith)
    ]

-- the length of a repeat, up to a cap
pub capped_repeat : {T : Type 0} (count : ℕ) (body : Blocks T) (part : BlockPart T) (inner most cap : ℕ) → cap ≤ most
    → part ≡ Repeat count body
    → inner ≡ min (length (parts_expansion body.parts)) cap
    → min (min (count * inner) most) cap ≡ min (length (part_expansion part)) cap
capped_repeat count body part inner most cap h is inner_is =
    ap (λ n. min (min (count * n) most) cap) inner_is
    ∙ capped_product count (length (parts_expansion body.parts)) most cap h
    ∙ ap (λ n. min n cap)
    (sym (ap (λ p. length (part_expansion p)) is ∙ ap length (expansion_repeat count body)
    ∙ length-repeated count (parts_expansion body.parts)))
