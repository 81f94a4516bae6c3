-- The order of points, level by level.
--
-- One point stands before another exactly where it does so at some level: the loops above are equal and that loop is
-- earlier, or all common loops are equal and its statement comes first. So where the rows of each level lead to a
-- contradiction, it does not stand before. Of two points one stands before the other, or they agree in all common loops
-- and are of one statement.
use Rattle.std.proofs.Common.{◌≡◌, ◌≤◌, ℕ, zero, suc, ℤ, List, [], ◌∷◌, ◌++◌, length, Bool, true, false}
use Rattle.std.proofs.Common.{refl, sym, arith, inl, inr}
use Rattle.std.specs.Prelude.{nat_lt}
use Rattle.std.proofs.lemmas.Int.{ints, by_lt_z}
use Rattle.affine_core.specs.declared.form.Form.{Form}
use Rattle.source_tree.specs.Gives.{values}
use Rattle.sanlp.specs.Order.{PrecedesWithin}
use Rattle.source_tree.specs.Places.{order_rows}
use Rattle.source_tree.specs.Rows.{RowExpr, Take, one_less, minus, equal_rows}
use Rattle.source_tree.proofs.MetRows.{AreMet, AreMet-append, AreMet-equal_rows}
use Rattle.sanlp.proofs.Each.{Each, each_from_map}

-- Where a point is before another, the order rows of some level are met.
pub some_level : (C : Type 0) (P : List RowExpr → Type 0) (c : ℕ) (less : Bool) (a b : List Form) (at : List ℤ)
    → Each P (order_rows c less a b)
    → PrecedesWithin c less (values a at) (values b at) → ((rows : List RowExpr) → P rows → AreMet rows at → C) → C
some_level C P zero true a b at each before go = go [] each.0 tt
some_level C P zero false a b at each before go = absurd (let f : false ≡ true = before in cc)
some_level C P (suc c) less [] b at each before go = absurd before
some_level C P (suc c) less (a ∷ fs) [] at each before go = absurd before
some_level C P (suc c) less (a ∷ fs) (b ∷ gs) at each before go = elim before [
  | inl lt ↦ go (one_less (minus (Take b) (Take a)) ∷ []) each.0 (omega (arith, ints, lt), tt)
  | inr more ↦ some_level C (λ rows. P (equal_rows (Take a) (Take b) ++ rows)) c less fs gs at
      (each_from_map P (λ rows. equal_rows (Take a) (Take b) ++ rows) (order_rows c less fs gs) each.1) more.1
      (λ rows p met.
      go (equal_rows (Take a) (Take b) ++ rows) p
      (AreMet-append (equal_rows (Take a) (Take b)) rows at (AreMet-equal_rows (Take a) (Take b) at more.0) met))
]

-- the first c values are equal
abbrev pub SameTo : ℕ → List ℤ → List ℤ → Type 0
SameTo zero a b = Unit {0}
SameTo (suc c) [] b = ⊥
SameTo (suc c) (x ∷ a) [] = ⊥
SameTo (suc c) (x ∷ a) (y ∷ b) = (x ≡ y) × SameTo c a b

pub compare : (C : Type 0) (c : ℕ) (less more : Bool) (a b : List ℤ) → c ≤ length a → c ≤ length b
    → (PrecedesWithin c less a b → C) → (PrecedesWithin c more b a → C)
    → (SameTo c a b → less ≡ false → more ≡ false → C) → C
compare C zero true more a b h k first last same = first refl
compare C zero false true a b h k first last same = last refl
compare C zero false false a b h k first last same = same tt refl refl
compare C (suc c) less more [] b h k first last same = absurd (omega arith)
compare C (suc c) less more (x ∷ a) [] h k first last same = absurd (omega arith)
compare C (suc c) less more (x ∷ a) (y ∷ b) h k first last same =
    by_lt_z x y (λ lt. first (inl lt))
    (λ ge. by_lt_z y x (λ lt. last (inl lt))
    (λ ge'. let e : x ≡ y = omega (arith, ints, ge, ge') in
    compare C c less more a b (omega arith) (omega arith) (λ p. first (inr (e, p))) (λ p. last (inr (sym e, p)))
    (λ s l m. same (e, s) l m)))

pub same_all : (c : ℕ) (a b : List ℤ) → length a ≡ c → length b ≡ c → SameTo c a b → a ≡ b
same_all zero [] [] h k s = refl
same_all zero [] (y ∷ b) h k s = absurd (omega arith)
same_all zero (x ∷ a) b h k s = absurd (omega arith)
same_all (suc c) [] b h k s = absurd s
same_all (suc c) (x ∷ a) [] h k s = absurd s
same_all (suc c) (x ∷ a) (y ∷ b) h k s =
    let t : a ≡ b = same_all c a b (omega arith) (omega arith) s.1 in
    let e : x ≡ y = s.0 in
    cc

pub neither_less : (u s : ℕ) → nat_lt u s ≡ false → nat_lt s u ≡ false → u ≡ s
neither_less u s e f = grind arith
