-- How many rows the levels of an order have, and that all of them can be made.
--
-- A loop puts two rows before those of each level behind it and adds a level of one row before them, so the counts of
-- one loop more are those of the levels behind, each shifted by a level and greater by 2. A row takes at most two
-- forms, once each, so it reaches four times as far as these.
use Rattle.std.proofs.Common.{◌≡◌, ◌+◌, ◌^◌, ◌≤◌, ℕ, zero, suc, List, [], ◌∷◌, ◌++◌, length, map, Bool, true}
use Rattle.std.proofs.Common.{false, cond, refl, sym, ap, ◌∙◌, arith, lt-ltb}
use Rattle.std.specs.Prelude.{Some, All, nat_lt}
use Rattle.std.specs.List.{range_with_len}
use Rattle.std.specs.Option.{option_and_then}
use Rattle.std.proofs.lemmas.List.Elements.{All-cons, All-map, All-nil, All-weaker}
use Rattle.std.proofs.lemmas.Simd.{map-map}
use Rattle.affine_core.specs.declared.form.Form.{Form}
use Rattle.stride_trees.specs.Leaves.{level_count_of}
use Rattle.plain_data.proofs.Tests.{ltb-zero}
use Rattle.plain_data.proofs.Lists.{map-same}
use Rattle.tree_sums.specs.Made.{reach, TakesWithin}
use Rattle.tree_sums.proofs.MadeLaws.{IsMade}
use Rattle.tree_sums.specs.Parts.{IsWithin}
use Rattle.tree_sums.proofs.SmallRows.{small_is_made}
use Rattle.tree_sums.proofs.Within.{IsWithin-weaker}
use Rattle.source_tree.specs.Places.{order_rows}
use Rattle.source_tree.specs.Rows.{RowExpr, Take, equal_rows, minus, one_less, row_forms}
use Rattle.stride_trees.specs.Contexts.{AreMadeSmall}

-- Numbers of rows

shifted : {X : Type 0} (f : ℕ → X) (a n : ℕ) → map f (range_with_len (a + 1) n) ≡ map (λ l. f (l + 1)) (range_with_len a n)
shifted f a zero = refl
shifted f a (suc n) = ap (λ xs. f (a + 1) ∷ xs) (shifted f (a + 1) n)

next_less : (l c : ℕ) → nat_lt (l + 1) (suc c) ≡ nat_lt l c
next_less l c = grind arith

next_count : (c l : ℕ) → level_count_of (suc c) (l + 1) ≡ 2 + level_count_of c l
next_count c l = omega (arith, ap (λ b. cond {A = ℕ} b 1 0) (next_less l c))

pair_length : (v w : Form) (rows : List RowExpr) → length (equal_rows (Take v) (Take w) ++ rows) ≡ 2 + length rows
pair_length v w rows = omega arith

pub order_lengths : (c : ℕ) (less : Bool) (a b : List Form) → c ≤ length a → c ≤ length b
    → map length (order_rows c less a b) ≡ map (level_count_of c) (range_with_len 0 (c + cond less 1 0))
order_lengths zero true a b h k =
    let strict : cond {A = ℕ} (nat_lt 0 0) 1 0 ≡ 0 = ap (λ b. cond {A = ℕ} b 1 0) (ltb-zero 0) in
    let none : 0 ≡ level_count_of 0 0 = omega (arith, strict) in
    ap (λ n. n ∷ []) none
order_lengths zero false a b h k = refl
order_lengths (suc c) less [] b h k = absurd (omega (arith, h))
order_lengths (suc c) less (v ∷ a) [] h k = absurd (omega (arith, k))
order_lengths (suc c) less (v ∷ a) (w ∷ b) h k =
    let rest : List (List RowExpr) = order_rows c less a b in
    let n : ℕ = c + cond less 1 0 in
    let strict : cond {A = ℕ} (nat_lt 0 (suc c)) 1 0 ≡ 1 = ap (λ b. cond {A = ℕ} b 1 0) (lt-ltb 0 (suc c) (omega arith)) in
    let one : 1 ≡ level_count_of (suc c) 0 = omega (arith, strict) in
    let whole : suc c + cond {A = ℕ} less 1 0 ≡ suc n = omega arith in
    let behind : map length (map (λ rows. equal_rows (Take v) (Take w) ++ rows) rest)
    ≡ map (level_count_of (suc c)) (range_with_len 1 n)
    = map-map length (λ rows. equal_rows (Take v) (Take w) ++ rows) rest
    ∙ map-same (λ (rows : List RowExpr). length (equal_rows (Take v) (Take w) ++ rows)) (λ rows. 2 + length rows)
    (pair_length v w) rest
    ∙ sym (map-map (λ m. 2 + m) length rest)
    ∙ ap (map (λ m. 2 + m)) (order_lengths c less a b (omega (arith, h)) (omega (arith, k)))
    ∙ map-map (λ m. 2 + m) (level_count_of c) (range_with_len 0 n)
    ∙ sym (map-same (λ l. level_count_of (suc c) (l + 1)) (λ l. 2 + level_count_of c l) (next_count c) (range_with_len 0 n))
    ∙ sym (shifted (level_count_of (suc c)) 0 n) in
    ap (λ xs. 1 ∷ xs) behind
    ∙ ap (λ m. m ∷ map (level_count_of (suc c)) (range_with_len 1 n)) one
    ∙ sym (ap (λ m. map (level_count_of (suc c)) (range_with_len 0 m)) whole)

one_or_none : (b : Bool) → cond {A = ℕ} b 1 0 ≤ 1
one_or_none true = omega arith
one_or_none false = omega arith

pub counts_few : (c n a : ℕ) → a + n ≤ 8 → All (λ k. k ≤ 32) (map (level_count_of c) (range_with_len a n))
counts_few c zero a h = All-nil _
counts_few c (suc n) a h =
    All-cons (λ k. k ≤ 32) (level_count_of c a) (map (level_count_of c) (range_with_len (a + 1) n))
    (omega (arith, h, one_or_none (nat_lt a c))) (counts_few c n (a + 1) (omega (arith, h)))

-- Rows that can be made

-- forms over no more variables, with the numbers of a place
pub record IsNear (vars : ℕ) (f : Form) : Type 0 where
  pub short : length f.coefs ≤ vars
  pub within : IsWithin (2 ^ 48) f

abbrev pub AreNear : ℕ → List Form → Type 0
AreNear vars [] = Unit {0}
AreNear vars (f ∷ fs) = IsNear vars f × AreNear vars fs

pub record IsNearRow (vars : ℕ) (e : RowExpr) : Type 0 where
  pub takes : TakesWithin vars (2 ^ 48) e
  pub reaches : reach (2 ^ 48) e ≤ 2 ^ 60

abbrev pub AreNearRows : ℕ → List RowExpr → Type 0
AreNearRows vars [] = Unit {0}
AreNearRows vars (e ∷ es) = IsNearRow vars e × AreNearRows vars es

minus_near : (vars : ℕ) (a b : Form) → IsNear vars a → IsNear vars b → IsNearRow vars (minus (Take a) (Take b))
minus_near vars a b h k =
    record { takes = ((h.short, h.within), (k.short, k.within)); reaches = omega arith }

less_near : (vars : ℕ) (a b : Form) → IsNear vars a → IsNear vars b
    → IsNearRow vars (one_less (minus (Take b) (Take a)))
less_near vars a b h k = record {
  takes = (((k.short, k.within), (h.short, h.within)), (omega arith, record { constant = omega arith; coefs = All-nil _ }));
  reaches = omega arith;
}

pub near_made : (vars : ℕ) (es : List RowExpr) → AreNearRows vars es → AreMadeSmall vars es
near_made vars [] h = record { forms = []; are_made = refl; within = All-nil _ }
near_made vars (e ∷ es) h =
    let one = small_is_made vars (2 ^ 48) e h.0.takes (omega (arith, h.0.reaches)) in
    let row : Form = one.0 in
    let made : IsMade vars (2 ^ 48) e row = one.1 in
    let rest : AreMadeSmall vars es = near_made vars es h.1 in
    record {
      forms = row ∷ rest.forms;
      are_made = ap (option_and_then (λ row. option_and_then (λ rest. Some (row ∷ rest)) (row_forms vars es))) made.is
          ∙ ap (option_and_then (λ rest. Some (row ∷ rest))) rest.are_made;
      within = All-cons (IsWithin (2 ^ 90)) row rest.forms
          (IsWithin-weaker (reach (2 ^ 48) e) (2 ^ 90) row (omega (arith, h.0.reaches)) made.within) rest.within;
    }

pub orders_near : (vars c : ℕ) (less : Bool) (a b : List Form) → AreNear vars a → AreNear vars b
    → All (AreNearRows vars) (order_rows c less a b)
orders_near vars zero true a b h k = All-cons (AreNearRows vars) [] [] tt (All-nil _)
orders_near vars zero false a b h k = All-nil _
orders_near vars (suc c) less [] b h k = All-nil _
orders_near vars (suc c) less (v ∷ a) [] h k = All-nil _
orders_near vars (suc c) less (v ∷ a) (w ∷ b) h k =
    All-cons (AreNearRows vars) (one_less (minus (Take w) (Take v)) ∷ [])
    (map (λ rows. equal_rows (Take v) (Take w) ++ rows) (order_rows c less a b))
    (less_near vars v w h.0 k.0, tt)
    (All-map (AreNearRows vars) (λ rows. equal_rows (Take v) (Take w) ++ rows) (order_rows c less a b)
    (All-weaker (AreNearRows vars) (λ rows. AreNearRows vars (equal_rows (Take v) (Take w) ++ rows))
    (λ rows near. (minus_near vars v w h.0 k.0, (minus_near vars w v k.0 h.0, near)))
    (order_rows c less a b) (orders_near vars c less a b h.1 k.1)))

pub orders_made : (vars c : ℕ) (less : Bool) (a b : List Form) → AreNear vars a → AreNear vars b
    → All (AreMadeSmall vars) (order_rows c less a b)
orders_made vars c less a b h k =
    All-weaker (AreNearRows vars) (AreMadeSmall vars) (near_made vars) (order_rows c less a b)
    (orders_near vars c less a b h k)
