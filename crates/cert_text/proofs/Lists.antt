-- Parts one after the other, of which the lists are kept that they stand for.
--
-- The loop keeps the list so far and reads what is left: the list before, with what the parts to come stand for, is
-- what all parts stand for. One part more moves from the right to the left, since appending is associative, and at the
-- end nothing is left. Where a part is refused, all are, with the same refusal.
use Rattle.std.proofs.Common.{◌≡◌, ℕ, suc, ◌+◌, ◌-◌, ◌<◌, ◌≤◌, List, ◌∷◌, ◌++◌, Result, Ok, Err, append_assoc}
use Rattle.std.proofs.Common.{append-nil, refl, sym, ap, ◌∙◌, arith}
use Rattle.script_blocks.specs.declared.blocks.BlockPart.{BlockPart}
use Rattle.script_blocks.specs.Expansion.{part_expansion, parts_expansion}
use Rattle.cert_lines.specs.declared.error.CertError.{CertError}
use Rattle.cert_lines.specs.Reading.{Part, Place, followed_by, many}

-- a list, and then what parts stand for
abbrev pub list_before : {T : Type 0} → List T → Result (List (BlockPart T) × Place) CertError
    → Result (List T × Place) CertError
list_before list read = followed_by read (λ parts at. Ok (list ++ parts_expansion parts, at))

module _ {T : Type 0} (part : Part (BlockPart T)) where
  joined : (list : List T) (p : BlockPart T) (read : Result (List (BlockPart T) × Place) CertError)
      → list_before list (followed_by read (λ parts at. Ok (p ∷ parts, at)))
      ≡ list_before (list ++ part_expansion p) read
  joined list p (Ok found) =
      ap (λ (xs : List T). Ok (xs, found.1)) (sym (append_assoc list (part_expansion p) (parts_expansion found.0)))
  joined list p (Err refusal) = refl

  added_at : (list new : List T) (count : ℕ) (next : Place) (read : Result (BlockPart T × Place) CertError)
      → followed_by read (λ p at. Ok (list ++ part_expansion p, at)) ≡ Ok (new, next)
      → list_before list
      (followed_by read (λ value at. followed_by (many part count at) (λ values at. Ok (value ∷ values, at))))
      ≡ list_before new (many part count next)
  added_at list new count next (Ok found) e =
      let same : (list ++ part_expansion found.0, found.1) ≡ (new, next) = cc in
      let lists : list ++ part_expansion found.0 ≡ new = ap (λ (p : List T × Place). p.0) same in
      let place : found.1 ≡ next = ap (λ (p : List T × Place). p.1) same in
      joined list found.0 (many part count found.1)
      ∙ ap (λ (xs : List T). list_before xs (many part count found.1)) lists
      ∙ ap (λ (at : Place). list_before new (many part count at)) place
  added_at list new count next (Err refusal) e = absurd (cc e)

  one_added : (list new : List T) (count : ℕ) (at next : Place)
      → followed_by (part at) (λ p at. Ok (list ++ part_expansion p, at)) ≡ Ok (new, next)
      → list_before list (many part (suc count) at) ≡ list_before new (many part count next)
  unfolding many
  one_added list new count at next e = added_at list new count next (part at) e

  one_refused : (list : List T) (count : ℕ) (at : Place) (refusal : CertError) → part at ≡ Err refusal
      → list_before list (many part (suc count) at) ≡ Err refusal
  unfolding many
  one_refused list count at refusal e = rw e refl

  all_added : (list : List T) (at : Place) → list_before list (many part 0 at) ≡ Ok (list, at)
  unfolding many
  all_added list at = ap (λ (xs : List T). Ok (xs, at)) (append-nil list)

  -- in a loop that counts up
  pub added_on : (list new : List T) (count done : ℕ) (at next : Place) (all : Result (List T × Place) CertError)
      → done < count → list_before list (many part (count - done) at) ≡ all
      → followed_by (part at) (λ p at. Ok (list ++ part_expansion p, at)) ≡ Ok (new, next)
      → list_before new (many part (count - (done + 1)) next) ≡ all
  added_on list new count done at next all within before e =
      let left : count - done ≡ suc (count - (done + 1)) = omega arith in
      sym (one_added list new (count - (done + 1)) at next e)
      ∙ ap (λ (n : ℕ). list_before list (many part n at)) (sym left) ∙ before

  pub refused_on : (list : List T) (count done : ℕ) (at : Place) (refusal : CertError)
      (all : Result (List T × Place) CertError) → done < count
      → list_before list (many part (count - done) at) ≡ all → part at ≡ Err refusal → all ≡ Err refusal
  refused_on list count done at refusal all within before e =
      let left : count - done ≡ suc (count - (done + 1)) = omega arith in
      sym before ∙ ap (λ (n : ℕ). list_before list (many part n at)) left
      ∙ one_refused list (count - (done + 1)) at refusal e

  pub added_out : (list : List T) (count done : ℕ) (at : Place) (all : Result (List T × Place) CertError)
      → count ≤ done → list_before list (many part (count - done) at) ≡ all → all ≡ Ok (list, at)
  added_out list count done at all past before =
      let left : count - done ≡ 0 = omega arith in
      sym before ∙ ap (λ (n : ℕ). list_before list (many part n at)) left ∙ all_added list at
