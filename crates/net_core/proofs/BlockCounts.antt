-- How often something is counted in blocks, and so how often they put to a channel.
--
-- A part counts as often as its expansion: the parts of a list add up, one after the other, and a repeat counts its
-- body as often as it stands for it. So copies of a repeat are so many times more copies of its body. Where the body
-- counts at all, these copies are no more than what is counted, and so short; where it doesn't, any number of them
-- counts nothing. Nothing is said of the order in which the events stand.
use Rattle.std.proofs.Common.{◌≡◌, ◌+◌, ◌*◌, ◌-◌, ◌<◌, ◌≤◌, ◌≢◌, ℕ, zero, suc, min, Bool, Some, List, [], ◌∷◌, length}
use Rattle.std.proofs.Common.{take, get_or, slice_get, count_by, true, cond, eqb, eq-eqb, eqb-true, refl, sym, ap, ◌∙◌}
use Rattle.std.proofs.Common.{inl, inr, arith}
use Rattle.std.proofs.lemmas.Bool.{cases_Bool, cases_lt, cond-true, cond-false}
use Rattle.script_blocks.specs.declared.blocks.Blocks.{Blocks}
use Rattle.script_blocks.specs.declared.blocks.BlockPart.{BlockPart}
use Rattle.script_blocks.specs.declared.blocks.BlockPart.TheVariants.{Item}
use Rattle.script_blocks.specs.declared.blocks.BlockPart.TheViews.{Repeat}
use Rattle.script_blocks.specs.Expansion.{part_expansion, parts_expansion, repeated}
use Rattle.script_blocks.proofs.Expansions.{expansion_item, expansion_repeat}
use Rattle.script_blocks.proofs.Repetitions.{repeated_none, repeated_next}
use Rattle.net_core.specs.declared.network.Event.{Event}
use Rattle.net_core.specs.declared.network.Event.TheVariants.{Get, Fire, Put}
use Rattle.net_core.specs.Shape.{is_put}
use Rattle.net_core.proofs.EventCounts.{count_cons, count-append}

module _ {T : Type 0} (q : T → Bool) where
  pub count_repeated : (n : ℕ) (xs : List T) → count_by q (repeated n xs) ≡ n * count_by q xs
  count_repeated zero xs = ap (count_by q) (repeated_none xs) ∙ omega arith
  count_repeated (suc n) xs =
      let before = count_repeated n xs in
      ap (count_by q) (repeated_next n xs) ∙ count-append q xs (repeated n xs) ∙ omega arith

  -- a repeat counts its body as often as it repeats it
  pub count_repeat : (count : ℕ) (body : Blocks T) (part : BlockPart T) (parts : List (BlockPart T))
      → part ≡ Repeat count body → parts ≡ body.parts
      → count_by q (part_expansion part) ≡ count * count_by q (parts_expansion parts)
  count_repeat count body part parts is same =
      ap (λ p. count_by q (part_expansion p)) is ∙ ap (count_by q) (expansion_repeat count body)
      ∙ count_repeated count (parts_expansion body.parts)
      ∙ ap (λ (ps : List (BlockPart T)). count * count_by q (parts_expansion ps)) (sym same)

  pub count_item : (x : T) (part : BlockPart T) → part ≡ Item x → count_by q (part_expansion part) ≡ count_by q (x ∷ [])
  count_item x part is = ap (λ p. count_by q (part_expansion p)) is ∙ ap (count_by q) (expansion_item x)

  parts_cons : (part : BlockPart T) (parts : List (BlockPart T))
      → count_by q (parts_expansion (part ∷ parts))
      ≡ count_by q (part_expansion part) + count_by q (parts_expansion parts)
  parts_cons part parts = count-append q (part_expansion part) (parts_expansion parts)

  -- one part more
  part_next : (parts : List (BlockPart T)) (i : ℕ) (part : BlockPart T) → i < length parts
      → part ≡ get_or parts i part
      → count_by q (parts_expansion (take (suc i) parts))
      ≡ count_by q (parts_expansion (take i parts)) + count_by q (part_expansion part)
  part_next [] i part lt is = absurd (omega arith)
  part_next (x ∷ parts) zero part lt is =
      omega (arith, parts_cons x [], ap (λ (p : BlockPart T). count_by q (part_expansion p)) is)
  part_next (x ∷ parts) (suc i) part lt is =
      omega (
        arith,
        parts_cons x (take (suc i) parts),
        parts_cons x (take i parts),
        part_next parts i part (omega arith) is,
      )

  pub part_more : (parts : List (BlockPart T)) (i : ℕ) (part : BlockPart T) → i < length parts
      → part ≡ get_or parts i part
      → count_by q (parts_expansion (take (i + 1) parts))
      ≡ count_by q (parts_expansion (take i parts)) + count_by q (part_expansion part)
  part_more parts i part lt is =
      let there : i + 1 ≡ suc i = omega arith in
      ap (λ j. count_by q (parts_expansion (take j parts))) there ∙ part_next parts i part lt is

  -- the parts before one, and that one, count no more than all
  pub part_within : (parts : List (BlockPart T)) (i : ℕ) (part : BlockPart T) → i < length parts
      → part ≡ get_or parts i part
      → count_by q (parts_expansion (take i parts)) + count_by q (part_expansion part)
      ≤ count_by q (parts_expansion parts)
  part_within [] i part lt is = absurd (omega arith)
  part_within (x ∷ parts) zero part lt is =
      omega (arith, parts_cons x parts, ap (λ (p : BlockPart T). count_by q (part_expansion p)) is)
  part_within (x ∷ parts) (suc i) part lt is =
      omega (arith, parts_cons x (take i parts), parts_cons x parts, part_within parts i part (omega arith) is)

-- Counts up to a cap
--
-- The count of a repeat's body may have been capped before. Where it was, and the repeat comes at all, the product is
-- past the cap with it or without.

product_within : (a b cap : ℕ) → b ≤ cap → min (a * min b cap) cap ≡ min (a * b) cap
product_within a b cap le =
    let is : min b cap ≡ b = omega arith in
    ap (λ m. min (a * m) cap) is

product_past : (a b cap : ℕ) → cap ≤ b → min (suc a * min b cap) cap ≡ min (suc a * b) cap
product_past a b cap le =
    let is : min b cap ≡ cap = omega arith in
    let same : min (suc a * cap) cap ≡ min (suc a * b) cap = omega arith in
    ap (λ m. min (suc a * m) cap) is ∙ same

-- the cap of a product whose second factor was capped before
capped_product : (a b cap : ℕ) → min (a * min b cap) cap ≡ min (a * b) cap
capped_product zero b cap = omega arith
capped_product (suc a) b cap =
    elim (cases_lt b cap) [
      | inl lt ↦ product_within (suc a) b cap (omega arith)
      | inr le ↦ product_past a b cap (omega arith)
    ]

pub capped_count : {T : Type 0} (q : T → Bool) (count : ℕ) (body : Blocks T) (part : BlockPart T) (inner cap : ℕ)
    → part ≡ Repeat count body
    → inner ≡ min (count_by q (parts_expansion body.parts)) cap
    → min (count * inner) cap ≡ min (count_by q (part_expansion part)) cap
capped_count q count body part inner cap is inner_is =
    ap (λ n. min (count * n) cap) inner_is
    ∙ capped_product count (count_by q (parts_expansion body.parts)) cap
    ∙ ap (λ n. min n cap) (sym (count_repeat q count body part body.parts is refl))

-- Copies of what is counted

-- what is counted so many times before a part, and in it, is within what is counted so many times in all
pub times_within : (most start times before here all : ℕ) → before + here ≤ all → start + times * all < most
    → start + times * before + times * here < most
times_within most start times before here all le room =
    let rest = all - (before + here) in
    let whole : all ≡ before + here + rest = omega arith in
    let product : times * all ≡ times * (before + here + rest) = ap (λ n. times * n) whole in
    omega (arith, product)

-- copies of copies: where they count at all they are short, and not cut off
pub cut_times : (times count counted most : ℕ) → times * (count * counted) ≤ most
    → min (times * count) most * counted ≡ times * (count * counted)
cut_times times count zero most room = omega arith
cut_times times count (suc counted) most room =
    let short : times * count ≤ most = omega arith in
    let is : min (times * count) most ≡ times * count = omega arith in
    ap (λ n. n * suc counted) is ∙ omega arith

-- a list that counts at all has an item that is counted
pub item_counted : {T : Type 0} (q : T → Bool) (xs : List T) → 0 < count_by q xs
    → (k : ℕ) × (x : T) × (slice_get xs k ≡ Some x) × (q x ≡ true)
item_counted q [] more = absurd (omega arith)
item_counted q (x ∷ xs) more =
    elim (cases_Bool (q x)) [
      | inl counts ↦ (0, x, refl, counts)
      | inr other ↦
          let none : cond {A = ℕ} (q x) 1 0 ≡ 0 = cond-false (q x) 1 0 other in
          let later = item_counted q xs (omega (arith, count_cons q x xs)) in
          (suc later.0, later.1, later.2, later.3)
    ]

pub put_is : (c : ℕ) (e : Event) → is_put c e ≡ true → e ≡ Put c
put_is c (Get d slot) h = cc
put_is c (Fire refs) h = cc
put_is c (Put d) h = ap Put (sym (eqb-true c d h))

pub put_once : (c : ℕ) (e : Event) → e ≡ Put c → 0 < count_by (is_put c) (e ∷ [])
put_once c e is =
    let one : cond {A = ℕ} (eqb c c) 1 0 ≡ 1 = cond-true (eqb c c) 1 0 (eq-eqb c c refl) in
    omega (arith, ap (λ x. count_by (is_put c) (x ∷ [])) is, count_cons (is_put c) (Put c) [], one)

pub some_counted : (count counted : ℕ) → count ≢ 0 → 0 < counted → 0 < count * counted
some_counted zero counted some more = absurd (some refl)
some_counted (suc count) counted some more = omega arith
