-- What is collected along the blocks of a script.
--
-- Events that stand somewhere in a script stand there in two parts, the first and then the second: so what is collected
-- before all of them, and then past the first, is collected before the second (`place_inside`). Parts stand one after the
-- other, and a repeat stands as so many copies of its body. Nothing is collected but along the script: where in it the
-- events stand is known at each step, since the number of a Get is a matter of all that came before.
use Rattle.std.proofs.Common.{◌≡◌, ℕ, zero, suc, ◌+◌, ◌-◌, ◌<◌, Option, Some, List, [], ◌∷◌, ◌++◌, length, take, drop, slice_get}
use Rattle.std.proofs.Common.{get_or, refl, sym, ap, ◌∙◌, subst, arith, append_assoc, append-nil}
use Rattle.std.proofs.lemmas.List.{take_more}
use Rattle.std.proofs.lemmas.Grind.{flat_map-append}
use Rattle.script_blocks.specs.declared.blocks.BlockPart.{BlockPart}
use Rattle.script_blocks.specs.Expansion.{part_expansion, parts_expansion, repeated}
use Rattle.script_blocks.proofs.Repetitions.{repeated_more, repeated_next, repeated_none}
use Rattle.net_core.specs.declared.network.Event.{Event}
use Rattle.net_core.specs.Machine.{Net}
use Rattle.net_checker.specs.Collected.{IsCollected, IsCollectedBefore}

at_length : {X : Type 0} (xs ys : List X) (x : X) → slice_get (xs ++ x ∷ ys) (length xs) ≡ Some x
at_length [] ys x = refl
at_length (y ∷ xs) ys x = at_length xs ys x

-- the parts that come before one, it, and the others
pub parts_around : {T : Type 0} (parts : List (BlockPart T)) (i : ℕ) (part : BlockPart T) → i < length parts
    → part ≡ get_or parts i part
    → parts_expansion parts
    ≡ parts_expansion (take i parts) ++ (part_expansion part ++ parts_expansion (drop (suc i) parts))
parts_around [] i part lt is = absurd (omega arith)
parts_around (x ∷ parts) zero part lt is =
    ap (λ p. part_expansion p ++ parts_expansion parts) (sym is)
parts_around (x ∷ parts) (suc i) part lt is =
    ap (λ ys. part_expansion x ++ ys) (parts_around parts i part (omega arith) is)
    ∙ sym (append_assoc (part_expansion x) (parts_expansion (take i parts))
    (part_expansion part ++ parts_expansion (drop (suc i) parts)))

-- the copies that come before one, it, and the others
pub copies_around : {T : Type 0} (count i : ℕ) (xs : List T) → i < count
    → repeated count xs ≡ repeated i xs ++ (xs ++ repeated (count - suc i) xs)
copies_around zero i xs lt = absurd (omega arith)
copies_around (suc count) zero xs lt =
    repeated_next count xs ∙ ap (λ (n : ℕ). xs ++ repeated n xs) (omega arith)
    ∙ sym (ap (λ ys. ys ++ (xs ++ repeated (suc count - 1) xs)) (repeated_none xs))
copies_around (suc count) (suc i) xs lt =
    repeated_next count xs ∙ ap (λ ys. xs ++ ys) (copies_around count i xs (omega arith))
    ∙ sym (append_assoc xs (repeated i xs) (xs ++ repeated (count - suc i) xs))
    ∙ ap (λ ys. ys ++ (xs ++ repeated (count - suc i) xs)) (sym (repeated_next i xs))
    ∙ ap (λ (n : ℕ). repeated (suc i) xs ++ (xs ++ repeated n xs)) (omega arith)

module _ (net : Net) (p : ℕ) where
  -- the event that stands at the place
  pub event_there : (e : Event) (gets : List ℕ) (lists : List (List ℕ)) (slots : List (Option (ℕ × ℕ)))
      → (place : IsCollectedBefore net p (e ∷ []) gets lists slots)
      → slice_get (net.script p) (length place.before) ≡ Some e
  event_there e gets lists slots place =
      ap (λ (es : List Event). slice_get es (length place.before)) (sym place.whole)
      ∙ at_length place.before place.after e

  -- the same events under another name
  abbrev pub place_as : (xs ys : List Event) (gets : List ℕ) (lists : List (List ℕ)) (slots : List (Option (ℕ × ℕ)))
      → xs ≡ ys
      → IsCollectedBefore net p xs gets lists slots → IsCollectedBefore net p ys gets lists slots
  place_as xs ys gets lists slots same place = record {
    first_gets = place.first_gets;
    first_uses = place.first_uses;
    before = place.before;
    after = place.after;
    whole = ap (λ es. place.before ++ (es ++ place.after)) (sym same) ∙ place.whole;
    fresh = place.fresh;
    collected = place.collected;
  }

  -- past the first of two parts of the events, the second part stands there
  abbrev pub place_inside : (all xs ys zs : List Event) (gets gets' : List ℕ) (lists lists' : List (List ℕ))
      (slots slots' : List (Option (ℕ × ℕ))) → all ≡ xs ++ (ys ++ zs)
      → (place : IsCollectedBefore net p all gets lists slots)
      → IsCollected net p place.first_gets place.first_uses gets' lists' slots' (length (place.before ++ xs))
      → IsCollectedBefore net p ys gets' lists' slots'
  place_inside all xs ys zs gets gets' lists lists' slots slots' parts place collected = record {
    first_gets = place.first_gets;
    first_uses = place.first_uses;
    before = place.before ++ xs;
    after = zs ++ place.after;
    whole = append_assoc place.before xs (ys ++ (zs ++ place.after))
        ∙ ap (λ es. place.before ++ (xs ++ es)) (sym (append_assoc ys zs place.after))
        ∙ ap (λ es. place.before ++ es) (sym (append_assoc xs (ys ++ zs) place.after))
        ∙ ap (λ es. place.before ++ (es ++ place.after)) (sym parts) ∙ place.whole;
    fresh = place.fresh;
    collected = collected;
  }

  -- the same place under another name
  pub collected_at : (first_gets : List ℕ) (first_uses : List (List ℕ)) (gets : List ℕ) (lists : List (List ℕ))
      (slots : List (Option (ℕ × ℕ))) (j k : ℕ) → j ≡ k
      → IsCollected net p first_gets first_uses gets lists slots j
      → IsCollected net p first_gets first_uses gets lists slots k
  collected_at first_gets first_uses gets lists slots j k same h =
      subst (λ i. IsCollected net p first_gets first_uses gets lists slots i) same h

  -- before a part, where the parts before it are passed
  abbrev pub before_part : (parts : List (BlockPart Event)) (i : ℕ) (part : BlockPart Event) (gets gets' : List ℕ)
      (lists lists' : List (List ℕ)) (slots slots' : List (Option (ℕ × ℕ))) → i < length parts
      → part ≡ get_or parts i part
      → (place : IsCollectedBefore net p (parts_expansion parts) gets lists slots)
      → IsCollected net p place.first_gets place.first_uses gets' lists' slots'
      (length (place.before ++ parts_expansion (take i parts)))
      → IsCollectedBefore net p (part_expansion part) gets' lists' slots'
  before_part parts i part gets gets' lists lists' slots slots' lt is place collected =
      place_inside (parts_expansion parts) (parts_expansion (take i parts)) (part_expansion part)
      (parts_expansion (drop (suc i) parts)) gets gets' lists lists' slots slots' (parts_around parts i part lt is)
      place
      collected

  -- before a copy, where the copies before it are passed
  abbrev pub before_copy : (count i : ℕ) (xs : List Event) (gets gets' : List ℕ)
      (lists lists' : List (List ℕ)) (slots slots' : List (Option (ℕ × ℕ))) → i < count
      → (place : IsCollectedBefore net p (repeated count xs) gets lists slots)
      → IsCollected net p place.first_gets place.first_uses gets' lists' slots'
      (length (place.before ++ repeated i xs))
      → IsCollectedBefore net p xs gets' lists' slots'
  before_copy count i xs gets gets' lists lists' slots slots' lt place collected =
      place_inside (repeated count xs) (repeated i xs) xs (repeated (count - suc i) xs) gets gets' lists lists' slots
      slots' (copies_around count i xs lt) place collected

-- how many events come before the next part
pub part_passed : (before : List Event) (parts : List (BlockPart Event)) (i : ℕ) (part : BlockPart Event)
    → i < length parts → part ≡ get_or parts i part
    → length ((before ++ parts_expansion (take i parts)) ++ part_expansion part)
    ≡ length (before ++ parts_expansion (take (i + 1) parts))
part_passed before parts i part lt is =
    ap length (append_assoc before (parts_expansion (take i parts)) (part_expansion part)
    ∙ ap (λ es. before ++ es)
    (sym (ap parts_expansion (take_more parts i part lt ∙ ap (λ p. take i parts ++ p ∷ []) (sym is))
    ∙ flat_map-append part_expansion (take i parts) (part ∷ [])
    ∙ ap (λ ys. parts_expansion (take i parts) ++ ys) (append-nil (part_expansion part)))))

-- how many come before the next copy
pub copy_passed : (before : List Event) (i : ℕ) (xs : List Event)
    → length ((before ++ repeated i xs) ++ xs) ≡ length (before ++ repeated (i + 1) xs)
copy_passed before i xs =
    ap length (append_assoc before (repeated i xs) xs ∙ ap (λ es. before ++ es) (sym (repeated_more i xs)))

pub none_passed : (before xs : List Event) → xs ≡ [] → length before ≡ length (before ++ xs)
none_passed before xs none =
    sym (ap length (ap (λ es. before ++ es) none ∙ append-nil before))
