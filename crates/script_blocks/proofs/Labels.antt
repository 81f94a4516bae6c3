-- Lists kept by kinds. A kind keeps its number for good: kinds are only added behind those that there are, so that the
-- labels go on standing for the same items, and a new label adds the item of its kind. Where each label is below the
-- number of kinds, the other item of `items_or` never stands for one, so that folding the labels folds the list.
-- Nothing says that two kinds hold different items, since no promise rests on it.
use Rattle.std.proofs.Common.{◌≡◌, ◌+◌, ◌<◌, ◌≤◌, ℕ, zero, suc, Some, List, [], ◌∷◌, ◌++◌, drop, take, length, get_or}
use Rattle.std.proofs.Common.{slice_get, refl, sym, ap, ◌∙◌, subst, arith}
use Rattle.std.specs.Prelude.{slice_index_or, None}
use Rattle.std.specs.List.{cons_option}
use Rattle.std.proofs.lemmas.List.{map_push, map-append, take_more, length-take}
use Rattle.std.proofs.lemmas.List.Elements.{All-head, All-push, All-tail, filter_map-append}
use Rattle.std.proofs.lemmas.Option.{slice_get-get_or, slice_get_within}
use Rattle.script_blocks.specs.Expansion.{repeated}
use Rattle.script_blocks.specs.Labels.{items_at, items_or, AreBelow}
use Rattle.script_blocks.proofs.Repetitions.{repeated_next, repeated_none}

-- a kind keeps its number
kept : {T : Type 0} (old new : List T) (label : ℕ) → take (length old) new ≡ old → label < length old
    → slice_get new label ≡ slice_get old label
kept [] new label front lt = absurd (omega arith)
kept (x ∷ old) [] label front lt = absurd (omega (arith, ap length front))
kept (x ∷ old) (y ∷ new) zero front lt = ap (λ xs. slice_get xs 0) front
kept (x ∷ old) (y ∷ new) (suc label) front lt = kept old new label (ap (λ xs. drop 1 xs) front) (omega arith)

pub no_fewer : {T : Type 0} (old new : List T) → take (length old) new ≡ old → length old ≤ length new
no_fewer old new front = omega (arith, sym (ap length front), length-take (length old) new)

pub same_items : {T : Type 0} (old new : List T) (labels : List ℕ) → take (length old) new ≡ old → AreBelow old labels
    → items_at new labels ≡ items_at old labels
same_items old new [] front below = refl
same_items old new (label ∷ labels) front below =
    ap (λ o. cons_option o (items_at new labels))
    (kept old new label front (All-head (λ l. l < length old) label labels below))
    ∙ ap (cons_option (slice_get old label))
    (same_items old new labels front (All-tail (λ l. l < length old) label labels below))

more_below : {T : Type 0} (old new : List T) (labels : List ℕ) → length old ≤ length new → AreBelow old labels
    → AreBelow new labels
more_below old new labels le below = λ k d lt. let here = below k d lt in omega arith

pub below_as : {T : Type 0} (old new : List T) (labels : List ℕ) → take (length old) new ≡ old → AreBelow old labels
    → AreBelow new labels
below_as old new labels front below = more_below old new labels (no_fewer old new front) below

-- one label more, which is the number of the item's kind
module _ {T : Type 0} (old new : List T) (labels grown : List ℕ) (label : ℕ) (item : T)
    (front : take (length old) new ≡ old) (below : AreBelow old labels)
    (kind : slice_get new label ≡ Some item) (pushed : grown ≡ labels ++ label ∷ []) where
  pub label_added : items_at new grown ≡ items_at old labels ++ item ∷ []
  label_added =
      ap (items_at new) pushed ∙ filter_map-append (slice_get new) labels (label ∷ [])
      ∙ ap (λ o. items_at new labels ++ cons_option o []) kind
      ∙ ap (λ xs. xs ++ item ∷ []) (same_items old new labels front below)

  pub label_below : AreBelow new grown
  label_below =
      subst (AreBelow new) (sym pushed)
      (All-push (λ l. l < length new) labels label (below_as old new labels front below)
      (slice_get_within new label item kind))

-- where each label is the number of a kind, no other item stands for one
pub never_other : {T : Type 0} (kinds : List T) (other : T) (labels : List ℕ) → AreBelow kinds labels
    → items_or kinds other labels ≡ items_at kinds labels
never_other kinds other [] below = refl
never_other kinds other (label ∷ labels) below =
    ap (λ xs. get_or kinds label other ∷ xs)
    (never_other kinds other labels (All-tail (λ l. l < length kinds) label labels below))
    ∙ ap (λ o. cons_option o (items_at kinds labels))
    (sym (slice_get-get_or kinds label other (All-head (λ l. l < length kinds) label labels below)))

pub as_many : {T : Type 0} (kinds : List T) (labels : List ℕ) → AreBelow kinds labels
    → length (items_at kinds labels) ≡ length labels
as_many kinds [] below = refl
as_many [] (label ∷ labels) below = absurd (omega (arith, All-head (λ l. l < 0) label labels below))
as_many (x ∷ kinds) (label ∷ labels) below =
    ap (λ o. length (cons_option o (items_at (x ∷ kinds) labels)))
    (slice_get-get_or (x ∷ kinds) label x (All-head (λ l. l < length (x ∷ kinds)) label labels below))
    ∙ ap suc (as_many (x ∷ kinds) labels (All-tail (λ l. l < length (x ∷ kinds)) label labels below))

-- where there is no kind, there is no item
pub no_kind : {T : Type 0} (kinds : List T) (labels : List ℕ) → kinds ≡ [] → AreBelow kinds labels
    → items_at kinds labels ≡ []
no_kind kinds [] none below = refl
no_kind kinds (label ∷ labels) none below =
    absurd (omega (arith, ap length none, All-head (λ l. l < length kinds) label labels below))

-- one label more of those that are added
pub items_more : {T : Type 0} (kinds : List T) (other : T) (labels : List ℕ) (i : ℕ) → i < length labels
    → items_or kinds other (take (i + 1) labels)
    ≡ items_or kinds other (take i labels) ++ items_or kinds other (get_or labels i 0 ∷ [])
items_more kinds other labels i lt =
    ap (items_or kinds other) (take_more labels i 0 lt)
    ∙ map_push (λ l. slice_index_or kinds l other) (take i labels) (get_or labels i 0)

pub items_repeated : {T : Type 0} (kinds : List T) (other : T) (count : ℕ) (labels : List ℕ)
    → items_or kinds other (repeated count labels) ≡ repeated count (items_or kinds other labels)
items_repeated kinds other zero labels =
    ap (items_or kinds other) (repeated_none labels) ∙ sym (repeated_none (items_or kinds other labels))
items_repeated kinds other (suc count) labels =
    ap (items_or kinds other) (repeated_next count labels)
    ∙ map-append (λ l. slice_index_or kinds l other) labels (repeated count labels)
    ∙ ap (λ xs. items_or kinds other labels ++ xs) (items_repeated kinds other count labels)
    ∙ sym (repeated_next count (items_or kinds other labels))

pub no_first : {T : Type 0} (kinds : List T) → None ≡ slice_get kinds 0 → kinds ≡ []
no_first [] e = refl
no_first (x ∷ kinds) e = absurd (cc)
