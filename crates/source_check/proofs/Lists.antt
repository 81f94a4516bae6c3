-- Facts of each element of a list, tests of cells, and the greatest number that passes.
use Rattle.std.proofs.Common.{◌≡◌, ◌<◌, ◌==◌, ◌&&◌, ℕ, zero, suc, ℤ, List, [], ◌∷◌, Bool, true, false, cond, refl, sym}
use Rattle.std.proofs.Common.{ap, ◌∙◌, arith, inl, inr, eqb-true}
use Rattle.std.specs.Prelude.{Option, Some, None}
use Rattle.std.specs.List.{flat_map}
use Rattle.std.specs.Cmp.Lexicographic.{pointwise}
use Rattle.std.specs.Option.{option_map_or}
use Rattle.std.specs.Ordering.{int_eq}
use Rattle.std.proofs.lemmas.Bool.{cases_lt, eq-eqb, and_parts}
use Rattle.affine_core.proofs.Integers.{int_eq-true, eq-int_eq}
use Rattle.sanlp.proofs.Each.{Each, each_left, each_right}
use Rattle.sanlp.specs.Cells.{Cell}
use Rattle.sanlp.specs.Memory.{is_cell}
use Rattle.sanlp.specs.Writers.{greatest_below}

pub each_from_flat : {X Y : Type 0} (P : Y → Type 0) (f : X → List Y) (xs : List X) → Each P (flat_map f xs)
    → Each (λ x. Each P (f x)) xs
each_from_flat P f [] h = tt
each_from_flat P f (x ∷ xs) h =
    (each_left P (f x) (flat_map f xs) h, each_from_flat P f xs (each_right P (f x) (flat_map f xs) h))

ints_where : (xs ys : List ℤ) → pointwise int_eq xs ys ≡ true → xs ≡ ys
ints_where [] [] e = refl
ints_where [] (y ∷ ys) e = absurd (let f : false ≡ true = e in cc)
ints_where (x ∷ xs) [] e = absurd (let f : false ≡ true = e in cc)
ints_where (x ∷ xs) (y ∷ ys) e =
    let b = and_parts (int_eq x y) (pointwise int_eq xs ys) e in
    let h : x ≡ y = int_eq-true x y b.0 in
    let t : xs ≡ ys = ints_where xs ys b.1 in
    cc

ints_same : (xs : List ℤ) → pointwise int_eq xs xs ≡ true
ints_same [] = refl
ints_same (x ∷ xs) = ap (λ b. b && pointwise int_eq xs xs) (eq-int_eq x x refl) ∙ ints_same xs

pub cell_where : (c d : Cell) → is_cell c d ≡ true → (c.0 ≡ d.0) × (c.1 ≡ d.1)
cell_where c d e =
    let b = and_parts (c.0 == d.0) (pointwise int_eq c.1 d.1) e in
    (eqb-true c.0 d.0 b.0, ints_where c.1 d.1 b.1)

pub where_cell : (c d : Cell) → c.0 ≡ d.0 → c.1 ≡ d.1 → is_cell c d ≡ true
where_cell c d e f =
    ap (λ b. b && pointwise int_eq c.1 d.1) (eq-eqb c.0 d.0 e) ∙ ap (λ xs. pointwise int_eq xs d.1) f ∙ ints_same d.1

pub map_or_true : {X C : Type 0} (f : X → Bool) (o : Option X) → option_map_or f o false ≡ true
    → ((x : X) → o ≡ Some x → f x ≡ true → C) → C
map_or_true f None e go = absurd (let g : false ≡ true = e in cc)
map_or_true f (Some x) e go = go x refl e

pub greatest_none : (passes : ℕ → Bool) (t : ℕ) → ((w : ℕ) → w < t → passes w ≡ false) → greatest_below passes t ≡ None
greatest_none passes zero h = refl
greatest_none passes (suc t) h =
    ap (λ b. cond b (Some t) (greatest_below passes t)) (h t (omega arith))
    ∙ greatest_none passes t (λ w lt. h w (omega arith))

pub greatest_some : (passes : ℕ → Bool) (t u : ℕ) → u < t → passes u ≡ true
    → ((w : ℕ) → u < w → w < t → passes w ≡ false) → greatest_below passes t ≡ Some u
greatest_some passes zero u lt e h = absurd (omega arith)
greatest_some passes (suc t) u lt e h = elim (cases_lt u t) [
  | inl l ↦ ap (λ b. cond b (Some t) (greatest_below passes t)) (h t l (omega arith))
      ∙ greatest_some passes t u l e (λ w a b. h w a (omega arith))
  | inr g ↦ let same : u ≡ t = omega arith in
      ap (λ b. cond b (Some t) (greatest_below passes t)) (ap passes (sym same) ∙ e) ∙ ap Some (sym same)
]
