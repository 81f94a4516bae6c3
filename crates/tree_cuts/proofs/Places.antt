-- Places of tests.
--
-- What holds of all places holds of those behind a subscript, and of the next place if there is one; behind a
-- subscript with a stride one is less.
use Rattle.std.proofs.Common.{◌≡◌, ◌+◌, ◌≤◌, ◌<◌, ℕ, List, [], ◌∷◌, length, drop, Bool, true, false, cond, refl, ap}
use Rattle.std.proofs.Common.{arith}
use Rattle.std.specs.Prelude.{All}
use Rattle.std.specs.List.{count_by}
use Rattle.std.proofs.lemmas.List.Elements.{All-head, All-tail}
use Rattle.std.proofs.lemmas.List.Sums.{sum_by-cons}
use Rattle.affine_core.specs.declared.form.Form.{Form}
use Rattle.tree_cuts.specs.Class.{is_stride}
use Rattle.tree_cuts.specs.Sources.{next_place, places_behind}
use Rattle.tree_cuts.proofs.Coefficients.{once}

rest_kept : (P : ℕ → Type 0) (places : List ℕ) → All P places → All P (drop 1 places)
rest_kept P [] h = h
rest_kept P (i ∷ places) h = All-tail P i places h

pub behind_kept : (P : ℕ → Type 0) (write : Form) (places : List ℕ) → All P places → All P (places_behind write places)
behind_kept P write places h = go (is_stride write) where
  go : (b : Bool) → All P (cond b (drop 1 places) places)
  go true = rest_kept P places h
  go false = h

-- the next place, where there is one
pub next_kept : (P : ℕ → Type 0) (places : List ℕ) → 1 ≤ length places → All P places → P (next_place places)
next_kept P [] some h = absurd (omega arith)
next_kept P (i ∷ places) some h = All-head P i places h

-- the next place, or 0
pub next_below : (bound : ℕ) (places : List ℕ) → 1 ≤ bound → All (λ i. i < bound) places → next_place places < bound
next_below bound [] some h = omega arith
next_below bound (i ∷ places) some h = All-head (λ i. i < bound) i places h

pub strides_cons : (write : Form) (writes : List Form)
    → count_by is_stride (write ∷ writes) ≡ once (is_stride write) + count_by is_stride writes
strides_cons write writes = sum_by-cons (λ f. once (is_stride f)) write writes

-- a subscript with a stride has a place
pub stride_has_place : (write : Form) (writes : List Form) (places : List ℕ) → is_stride write ≡ true
    → count_by is_stride (write ∷ writes) ≤ length places → 1 ≤ length places
stride_has_place write writes places is enough =
    omega (arith, enough, strides_cons write writes, ap once is)

-- the subscripts behind have theirs
pub enough_behind : (write : Form) (writes : List Form) (places : List ℕ)
    → count_by is_stride (write ∷ writes) ≤ length places
    → count_by is_stride writes ≤ length (places_behind write places)
enough_behind write writes places enough = go (is_stride write) refl where
  drop_one : (places : List ℕ) → length places ≤ length (drop 1 places) + 1
  drop_one [] = omega arith
  drop_one (i ∷ places) = omega arith

  go : (b : Bool) → is_stride write ≡ b → count_by is_stride writes ≤ length (cond b (drop 1 places) places)
  go true is = omega (arith, enough, strides_cons write writes, ap once is, drop_one places)
  go false is = omega (arith, enough, strides_cons write writes, ap once is)
