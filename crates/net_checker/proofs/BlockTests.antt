-- Whether all that blocks stand for passes a test.
--
-- What parts stand for passes where each part's expansion does, and it doesn't as soon as one part's doesn't. A repeat
-- that comes at all passes exactly where its body does, however often it comes: copies of a list add no item. One that
-- never comes passes, whatever its body has. Nothing is said of how many items pass.
use Rattle.std.proofs.Common.{◌≡◌, ◌<◌, ◌≢◌, ℕ, zero, suc, Bool, true, false, List, [], ◌∷◌, length, get_or}
use Rattle.std.proofs.Common.{refl, sym, ap, ◌∙◌, arith}
use Rattle.std.specs.Prelude.{◌&&◌}
use Rattle.std.specs.List.{list_all}
use Rattle.std.proofs.lemmas.List.Folds.{list_all-append}
use Rattle.plain_data.proofs.Tests.{and-true}
use Rattle.script_blocks.specs.declared.blocks.Blocks.{Blocks}
use Rattle.script_blocks.specs.declared.blocks.BlockPart.{BlockPart}
use Rattle.script_blocks.specs.declared.blocks.BlockPart.TheViews.{Repeat}
use Rattle.script_blocks.specs.Expansion.{part_expansion, parts_expansion, repeated}
use Rattle.script_blocks.proofs.Expansions.{expansion_repeat}
use Rattle.script_blocks.proofs.Repetitions.{repeated_none, repeated_next}

and_same : (b : Bool) → b && b ≡ b
and_same true = refl
and_same false = refl

and_second : (a b : Bool) → b ≡ false → a && b ≡ false
and_second true b h = h
and_second false b h = refl

and_first : (a b : Bool) → a ≡ false → a && b ≡ false
and_first true b h = cc
and_first false b h = refl

module _ {T : Type 0} (p : T → Bool) where
  all_repeated : (n : ℕ) (xs : List T) → list_all p (repeated (suc n) xs) ≡ list_all p xs
  all_repeated zero xs =
      ap (list_all p) (repeated_next 0 xs) ∙ list_all-append p xs (repeated 0 xs)
      ∙ ap (λ ys. list_all p xs && list_all p ys) (repeated_none xs) ∙ and-true (list_all p xs)
  all_repeated (suc n) xs =
      ap (list_all p) (repeated_next (suc n) xs) ∙ list_all-append p xs (repeated (suc n) xs)
      ∙ ap (λ b. list_all p xs && b) (all_repeated n xs) ∙ and_same (list_all p xs)

  some_copies : (count : ℕ) (xs : List T) → count ≢ 0 → list_all p (repeated count xs) ≡ list_all p xs
  some_copies zero xs some = absurd (some refl)
  some_copies (suc n) xs some = all_repeated n xs

  -- a repeat that comes passes as its body does
  pub all_of_repeat : (count : ℕ) (body : Blocks T) (part : BlockPart T) (parts : List (BlockPart T))
      → part ≡ Repeat count body → parts ≡ body.parts → count ≢ 0
      → list_all p (parts_expansion parts) ≡ list_all p (part_expansion part)
  all_of_repeat count body part parts is same some =
      ap (λ (ps : List (BlockPart T)). list_all p (parts_expansion ps)) same
      ∙ sym (ap (λ q. list_all p (part_expansion q)) is ∙ ap (list_all p) (expansion_repeat count body)
      ∙ some_copies count (parts_expansion body.parts) some)

  -- one that never comes passes
  pub all_of_none : (count : ℕ) (body : Blocks T) (part : BlockPart T) → part ≡ Repeat count body → count ≡ 0
      → true ≡ list_all p (part_expansion part)
  all_of_none count body part is none =
      sym (ap (λ q. list_all p (part_expansion q)) is ∙ ap (list_all p) (expansion_repeat count body
      ∙ ap (λ n. repeated n (parts_expansion body.parts)) none ∙ repeated_none (parts_expansion body.parts)))

  parts_cons : (part : BlockPart T) (parts : List (BlockPart T))
      → list_all p (parts_expansion (part ∷ parts))
      ≡ list_all p (part_expansion part) && list_all p (parts_expansion parts)
  parts_cons part parts = list_all-append p (part_expansion part) (parts_expansion parts)

  -- one part that doesn't pass decides
  pub wrong_part : (parts : List (BlockPart T)) (i : ℕ) (part : BlockPart T) → i < length parts
      → part ≡ get_or parts i part → list_all p (part_expansion part) ≡ false
      → false ≡ list_all p (parts_expansion parts)
  wrong_part [] i part lt is wrong = absurd (omega arith)
  wrong_part (x ∷ parts) zero part lt is wrong =
      sym (parts_cons x parts ∙ and_first (list_all p (part_expansion x)) (list_all p (parts_expansion parts))
      (ap (λ (q : BlockPart T). list_all p (part_expansion q)) (sym is) ∙ wrong))
  wrong_part (x ∷ parts) (suc i) part lt is wrong =
      sym (parts_cons x parts ∙ and_second (list_all p (part_expansion x)) (list_all p (parts_expansion parts))
      (sym (wrong_part parts i part (omega arith) is wrong)))
