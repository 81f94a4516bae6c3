-- The order rows of z before j, where z stands before y and y before j.
--
-- Loop by loop: where z and y are equal and y and j are equal, z and j are equal, by the order row and what shows the
-- first. At the first loop where one of the two is less, z is less than j; where both are less there, by 1 more than is
-- asked.
use Rattle.std.proofs.Common.{◌≡◌, ◌+◌, ◌≤◌, ◌<◌, ℕ, zero, suc, pos, ◌+ℤ◌, ◌≤ℤ◌, List, [], ◌∷◌, ◌++◌, length, Bool}
use Rattle.std.proofs.Common.{refl, sym, ◌∙◌, subst, arith}
use Rattle.std.specs.Prelude.{Option, Some, None, min, slice_get, slice_index_or}
use Rattle.std.specs.Option.{option_map}
use Rattle.std.proofs.lemmas.Int.{ints}
use Rattle.std.proofs.lemmas.Option.{same_Some, slice_get-map}
use Rattle.affine_core.specs.declared.form.Form.{Form}
use Rattle.int_polyhedra.specs.declared.system.Term.{Term}
use Rattle.tree_join.specs.Leaves.{order_sums}
use Rattle.tree_order.specs.Orders.{difference_parts, strict_parts}
use Rattle.tree_order.specs.declared.order.Equality.{Equality}
use Rattle.tree_graphs.specs.Paths.{term_of}
use Rattle.tree_sums.specs.Made.{parts_of}
use Rattle.tree_sums.specs.Parts.{the_constant, the_coefficient}
use Rattle.tree_sums.specs.Shown.{RowParts, Shows}
use Rattle.tree_sums.proofs.SumAlgebra.{combines}
use Rattle.source_tree.specs.Places.{order_rows}
use Rattle.source_tree.specs.Rows.{RowExpr, Take, equal_rows, minus, one_less}

module _ (vars : ℕ) (rows : List Form) where
  -- the row of this number in the system shows an expression
  abbrev pub IsOwn : ℕ → RowExpr → Type 0
  IsOwn k e = Shows vars rows (term_of k ∷ []) (parts_of e)

  -- rows from this number on show these expressions
  abbrev pub AreOwn : ℕ → List RowExpr → Type 0
  AreOwn start [] = Unit {0}
  AreOwn start (e ∷ es) = IsOwn start e × AreOwn (start + 1) es

  -- per expression terms that show it
  abbrev pub AreStood : List RowExpr → List (List Term) → Type 0
  AreStood [] [] = Unit {0}
  AreStood [] (ts ∷ sums) = ⊥
  AreStood (e ∷ es) [] = ⊥
  AreStood (e ∷ es) (ts ∷ sums) = Shows vars rows ts (parts_of e) × AreStood es sums

  -- the equal loops, in the system
  abbrev pub AreAlike : List Form → List Form → List Equality → Type 0
  AreAlike z y [] = Unit {0}
  AreAlike [] y (e ∷ equal) = ⊥
  AreAlike (a ∷ z) [] (e ∷ equal) = ⊥
  AreAlike (a ∷ z) (b ∷ y) (e ∷ equal) =
      (Shows vars rows e.above (difference_parts a b) × Shows vars rows e.below (difference_parts b a))
      × AreAlike z y equal

  own_and : (k : ℕ) (ts : List Term) (e : RowExpr) (a b : RowParts) → IsOwn k e → Shows vars rows ts a
      → (parts_of e the_constant +ℤ a the_constant) ≤ℤ b the_constant
      → ((i : ℕ) → parts_of e (the_coefficient i) +ℤ a (the_coefficient i) ≡ b (the_coefficient i))
      → Shows vars rows (term_of k ∷ ts) b
  own_and k ts e a b own h low same =
      (combines vars rows).weaker (term_of k ∷ ts) (λ part. parts_of e part +ℤ a part) b
      ((combines vars rows).sum (term_of k ∷ []) ts (parts_of e) a own h) low (λ i l. same i)

  -- z - j by y - j and z - y
  above_again : (k : ℕ) (ts : List Term) (z y j : Form) → IsOwn k (minus (Take y) (Take j)) → Shows vars rows ts
      (difference_parts z y) → Shows vars rows (term_of k ∷ ts) (parts_of (minus (Take z) (Take j)))
  above_again k ts z y j own h = own_and k ts (minus (Take y) (Take j)) (difference_parts z y)
      (parts_of (minus (Take z) (Take j))) own h (omega (arith, ints)) (λ i. omega (arith, ints))

  -- j - z by j - y and y - z
  below_again : (k : ℕ) (ts : List Term) (z y j : Form) → IsOwn k (minus (Take j) (Take y)) → Shows vars rows ts
      (difference_parts y z) → Shows vars rows (term_of k ∷ ts) (parts_of (minus (Take j) (Take z)))
  below_again k ts z y j own h = own_and k ts (minus (Take j) (Take y)) (difference_parts y z)
      (parts_of (minus (Take j) (Take z))) own h (omega (arith, ints)) (λ i. omega (arith, ints))

  -- j - z - 1 by j - y - 1 and y - z
  less_again : (k : ℕ) (ts : List Term) (z y j : Form) → IsOwn k (one_less (minus (Take j) (Take y)))
      → Shows vars rows ts (difference_parts y z)
      → Shows vars rows (term_of k ∷ ts) (parts_of (one_less (minus (Take j) (Take z))))
  less_again k ts z y j own h =
      own_and k ts (one_less (minus (Take j) (Take y))) (difference_parts y z)
      (parts_of (one_less (minus (Take j) (Take z)))) own h (omega (arith, ints)) (λ i. omega (arith, ints))

  -- j - z - 1 by j - y - 1 and y - z - 1
  less_twice : (k : ℕ) (ts : List Term) (z y j : Form) → IsOwn k (one_less (minus (Take j) (Take y)))
      → Shows vars rows ts (strict_parts y z)
      → Shows vars rows (term_of k ∷ ts) (parts_of (one_less (minus (Take j) (Take z))))
  less_twice k ts z y j own h =
      own_and k ts (one_less (minus (Take j) (Take y))) (strict_parts y z)
      (parts_of (one_less (minus (Take j) (Take z)))) own h (omega (arith, ints))
      (λ i. let none : slice_index_or [] i (pos 0) ≡ pos 0 = refl in omega (arith, ints, none))

  -- j - z - 1 by j - y and y - z - 1
  less_later : (k : ℕ) (ts : List Term) (z y j : Form) → IsOwn k (minus (Take j) (Take y))
      → Shows vars rows ts (strict_parts y z)
      → Shows vars rows (term_of k ∷ ts) (parts_of (one_less (minus (Take j) (Take z))))
  less_later k ts z y j own h =
      own_and k ts (minus (Take j) (Take y)) (strict_parts y z) (parts_of (one_less (minus (Take j) (Take z)))) own h
      (omega (arith, ints))
      (λ i. let none : slice_index_or [] i (pos 0) ≡ pos 0 = refl in omega (arith, ints, none))

  -- Orders

  -- z is less than y in its loop of this number
  pub record IsLess (z y : List Form) (l : ℕ) (strict : Option (List Term)) : Type 0 where
    pub a : Form
    pub b : Form
    pub ts : List Term
    pub first : slice_get z l ≡ Some a
    pub second : slice_get y l ≡ Some b
    pub is : strict ≡ Some ts
    pub shows : Shows vars rows ts (strict_parts b a)

  mapped_some : (o : Option (List RowExpr)) (pair rows : List RowExpr) → option_map (λ inner. pair ++ inner) o
      ≡ Some rows → (inner : List RowExpr) × (o ≡ Some inner) × (pair ++ inner ≡ rows)
  mapped_some None pair rows e = absurd (let h : None ≡ Some rows = e in cc)
  mapped_some (Some inner) pair rows e = (inner, refl, same_Some (pair ++ inner) rows e)

  -- the rows of an order from the next loop on
  record IsInner (c l : ℕ) (less : Bool) (a v : Form) (z j : List Form) (zs : List RowExpr) : Type 0 where
    pub inner : List RowExpr
    pub is : slice_get (order_rows c less z j) l ≡ Some inner
    pub whole : minus (Take a) (Take v) ∷ minus (Take v) (Take a) ∷ inner ≡ zs

  inner_of : (c l : ℕ) (less : Bool) (a v : Form) (z j : List Form) (zs : List RowExpr)
      → slice_get (order_rows (suc c) less (a ∷ z) (v ∷ j)) (suc l) ≡ Some zs → IsInner c l less a v z j zs
  inner_of c l less a v z j zs e =
      let pair : List RowExpr = equal_rows (Take a) (Take v) in
      let m = mapped_some (slice_get (order_rows c less z j) l) pair zs
      (sym (slice_get-map (λ inner. pair ++ inner) (order_rows c less z j) l) ∙ e) in
      record { inner = m.0; is = m.1; whole = m.2 }

  pub orders_stood : (c d : ℕ) (f g : Bool) (z y j : List Form) (equal : List Equality) (strict : Option (List Term))
      (q start : ℕ) (zs ys : List RowExpr)
      → min q (length equal) < c → min q (length equal) < d
      → slice_get (order_rows c f z j) (min q (length equal)) ≡ Some zs → slice_get (order_rows d g y j) q ≡ Some ys
      → AreAlike z y equal → (length equal ≤ q → IsLess z y (length equal) strict) → AreOwn start ys
      → AreStood zs (order_sums equal strict q start)
  orders_stood zero d f g z y j equal strict q start zs ys lt lt' is is' h k own = absurd (omega (arith, lt))
  orders_stood (suc c) zero f g z y j equal strict q start zs ys lt lt' is is' h k own = absurd (omega (arith, lt'))
  orders_stood (suc c) (suc d) f g [] y j equal strict q start zs ys lt lt' is is' h k own =
      absurd (let e : None ≡ Some zs = is in cc)
  orders_stood (suc c) (suc d) f g (a ∷ z) y [] equal strict q start zs ys lt lt' is is' h k own =
      absurd (let e : None ≡ Some zs = is in cc)
  orders_stood (suc c) (suc d) f g (a ∷ z) [] (v ∷ j) equal strict q start zs ys lt lt' is is' h k own =
      absurd (let e : None ≡ Some ys = is' in cc)
  orders_stood (suc c) (suc d) f g (a ∷ z) (b ∷ y) (v ∷ j) [] strict zero start zs ys lt lt' is is' h k own =
      let level : min 0 (length {A = Equality} []) ≡ 0 = omega arith in
      let there : slice_get (order_rows (suc c) f (a ∷ z) (v ∷ j)) (0) ≡ Some zs =
      subst (λ m. slice_get (order_rows (suc c) f (a ∷ z) (v ∷ j)) m ≡ Some zs) level is in
      let l : IsLess (a ∷ z) (b ∷ y) 0 strict = k (omega arith) in
      let first : a ≡ l.a = same_Some a l.a l.first in
      let second : b ≡ l.b = same_Some b l.b l.second in
      let shows : Shows vars rows l.ts (strict_parts b a)
      = subst (λ a. Shows vars rows l.ts (strict_parts b a)) (sym first)
      (subst (λ b. Shows vars rows l.ts (strict_parts b l.a)) (sym second) l.shows) in
      let rows_is : one_less (minus (Take v) (Take a)) ∷ [] ≡ zs =
      same_Some (one_less (minus (Take v) (Take a)) ∷ []) zs there in
      let own_is : one_less (minus (Take v) (Take b)) ∷ [] ≡ ys =
      same_Some (one_less (minus (Take v) (Take b)) ∷ []) ys is' in
      let mine : AreOwn start (one_less (minus (Take v) (Take b)) ∷ []) = subst (AreOwn start) (sym own_is) own in
      subst (λ zs. AreStood zs (order_sums [] strict 0 start)) rows_is
      (subst (λ s. AreStood (one_less (minus (Take v) (Take a)) ∷ []) (order_sums [] s 0 start)) (sym l.is)
      (less_twice start l.ts a b v mine.0 shows, tt))
  orders_stood (suc c) (suc d) f g (a ∷ z) (b ∷ y) (v ∷ j) [] strict (suc q) start zs ys lt lt' is is' h k own =
      let level : min (suc q) (length {A = Equality} []) ≡ 0 = omega arith in
      let there : slice_get (order_rows (suc c) f (a ∷ z) (v ∷ j)) (0) ≡ Some zs =
      subst (λ m. slice_get (order_rows (suc c) f (a ∷ z) (v ∷ j)) m ≡ Some zs) level is in
      let l : IsLess (a ∷ z) (b ∷ y) 0 strict = k (omega arith) in
      let first : a ≡ l.a = same_Some a l.a l.first in
      let second : b ≡ l.b = same_Some b l.b l.second in
      let shows : Shows vars rows l.ts (strict_parts b a)
      = subst (λ a. Shows vars rows l.ts (strict_parts b a)) (sym first)
      (subst (λ b. Shows vars rows l.ts (strict_parts b l.a)) (sym second) l.shows) in
      let rows_is : one_less (minus (Take v) (Take a)) ∷ [] ≡ zs =
      same_Some (one_less (minus (Take v) (Take a)) ∷ []) zs there in
      let i : IsInner d q g b v y j ys = inner_of d q g b v y j ys is' in
      let mine : AreOwn start (minus (Take b) (Take v) ∷ minus (Take v) (Take b) ∷ i.inner) =
      subst (AreOwn start) (sym i.whole) own in
      subst (λ zs. AreStood zs (order_sums [] strict (suc q) start)) rows_is
      (subst (λ s. AreStood (one_less (minus (Take v) (Take a)) ∷ []) (order_sums [] s (suc q) start)) (sym l.is)
      (less_later (start + 1) l.ts a b v mine.1.0 shows, tt))
  orders_stood (suc c) (suc d) f g (a ∷ z) (b ∷ y) (v ∷ j) (e ∷ equal) strict zero start zs ys lt lt' is is' h k own =
      let level : min 0 (length (e ∷ equal)) ≡ 0 = omega arith in
      let there : slice_get (order_rows (suc c) f (a ∷ z) (v ∷ j)) (0) ≡ Some zs =
      subst (λ m. slice_get (order_rows (suc c) f (a ∷ z) (v ∷ j)) m ≡ Some zs) level is in
      let rows_is : one_less (minus (Take v) (Take a)) ∷ [] ≡ zs =
      same_Some (one_less (minus (Take v) (Take a)) ∷ []) zs there in
      let own_is : one_less (minus (Take v) (Take b)) ∷ [] ≡ ys =
      same_Some (one_less (minus (Take v) (Take b)) ∷ []) ys is' in
      let mine : AreOwn start (one_less (minus (Take v) (Take b)) ∷ []) = subst (AreOwn start) (sym own_is) own in
      subst (λ zs. AreStood zs (order_sums (e ∷ equal) strict 0 start)) rows_is
      (less_again start e.below a b v mine.0 h.0.1, tt)
  orders_stood (suc c) (suc d) f g (a ∷ z) (b ∷ y) (v ∷ j) (e ∷ equal) strict
      (suc q) start zs ys lt lt' is is' h k own =
      let level : min (suc q) (length (e ∷ equal)) ≡ suc (min q (length equal)) = omega arith in
      let there : slice_get (order_rows (suc c) f (a ∷ z) (v ∷ j)) (suc (min q (length equal))) ≡ Some zs =
      subst (λ m. slice_get (order_rows (suc c) f (a ∷ z) (v ∷ j)) m ≡ Some zs) level is in
      let o : IsInner c (min q (length equal)) f a v z j zs = inner_of c (min q (length equal)) f a v z j zs there in
      let i : IsInner d q g b v y j ys = inner_of d q g b v y j ys is' in
      let mine : AreOwn start (minus (Take b) (Take v) ∷ minus (Take v) (Take b) ∷ i.inner) =
      subst (AreOwn start) (sym i.whole) own in
      let next : start + 1 + 1 ≡ start + 2 = omega arith in
      let rest : AreStood o.inner (order_sums equal strict q (start + 2))
      = orders_stood c d f g z y j equal strict q (start + 2) o.inner i.inner (omega (arith, lt))
      (omega (arith, lt')) o.is i.is h.1
      (λ le. (let l : IsLess (a ∷ z) (b ∷ y) (suc (length equal)) strict = k (omega (arith, le)) in
      record { a = l.a; b = l.b; ts = l.ts; first = l.first; second = l.second; is = l.is; shows = l.shows }))
      (subst (λ n. AreOwn n i.inner) next mine.1.1) in
      subst (λ zs. AreStood zs (order_sums (e ∷ equal) strict (suc q) start)) o.whole
      (above_again start e.above a b v mine.0 h.0.0, (below_again (start + 1) e.below a b v mine.1.0 h.0.1, rest))
