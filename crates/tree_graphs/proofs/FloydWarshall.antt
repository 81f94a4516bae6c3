-- The closure by Floyd and Warshall.
--
-- After the turn of a variable no path through the variables so far betters a bound: that is the law of one turn, and
-- it wants that no sum from that variable back to itself is negative, which the turn tests. Each turn puts two bounds
-- together at most, so that a bound has at most 2^6 edges, without an argument on simple paths. It isn't said that a
-- bound is the least sum of a path; it isn't needed.
use Rattle.std.proofs.Common.{◌≡◌, ◌+◌, ◌*◌, ◌^◌, ◌≤◌, ◌<◌, ℕ, zero, suc, ℤ, pos, ◌+ℤ◌, List, [], ◌∷◌, ◌++◌}
use Rattle.std.proofs.Common.{length, Bool, true, false, refl, sym, ap, ◌∙◌, subst, arith, inl, inr}
use Rattle.std.specs.Prelude.{Option, Some, None, slice_get, unsigned_abs, IfSome}
use Rattle.std.specs.Int.{int_min}
use Rattle.std.specs.Int.RustNames.{int_lt}
use Rattle.std.specs.Option.{option_and_then, option_map_or}
use Rattle.std.proofs.lemmas.Bool.{cases_lt}
use Rattle.std.proofs.lemmas.Int.{ints, int_min_is}
use Rattle.std.proofs.lemmas.List.{length_push}
use Rattle.std.proofs.lemmas.List.Elements.{All-weaker}
use Rattle.std.proofs.lemmas.Option.{same_Some, slice_get_past, slice_get_within}
use Rattle.std.proofs.Math.Nat.{pow-suc}
use Rattle.tree_graphs.specs.Closed.{bound_at, value_at, value_of, AreAll, AreBounds, AreClosed, AreEach}
use Rattle.tree_graphs.specs.Closed.{IsBound, IsFirst, IsThrough}
use Rattle.tree_graphs.specs.declared.closure.Bound.{Bound}
use Rattle.tree_graphs.specs.declared.closure.Bounds.{Bounds}
use Rattle.tree_graphs.specs.declared.edges.Edge.{Edge}
use Rattle.tree_graphs.proofs.PathSums.{at_most_trans, bound_join, bound_wider}
use Rattle.plain_data.proofs.Lists.{slice_get_push, slice_get-some, slice_get-append_left}
use Rattle.tree_sums.specs.Closure.{AtMost, bound_sum, bounds_through, lesser, ClosedBelow, NotNegative}
use Rattle.tree_sums.proofs.BoundsClosure.{closes}

-- Lists of so many items

pub each_none : {X : Type 0} (P : ℕ → X → Type 0) → AreEach 0 P []
each_none P = record { count = refl; each = λ k x e. absurd (let h : None ≡ Some x = e in cc) }

pub each_push : {X : Type 0} (n : ℕ) (P : ℕ → X → Type 0) (xs : List X) (x : X) → AreEach n P xs → P n x
    → AreEach (n + 1) P (xs ++ x ∷ [])
each_push n P xs x h last = record {
  count = omega (arith, length_push xs x, h.count);
  each = λ k y e. elim (cases_lt k (length xs)) [
    | inl lt ↦ h.each k y (sym (slice_get-append_left xs (x ∷ []) k lt) ∙ e)
    | inr ge ↦
        (let within : k < length (xs ++ x ∷ []) = slice_get_within (xs ++ x ∷ []) k y e in
        let place : k ≡ n = omega (arith, length_push xs x, h.count, within, ge) in
        let end : length xs ≡ k = omega (arith, h.count, place) in
        let same : x ≡ y = same_Some x y (sym (slice_get_push xs x) ∙ ap (slice_get (xs ++ x ∷ [])) end ∙ e) in
        subst (λ k. P k y) (sym place) (subst (P n) same last))
  ];
}

each_at : {X : Type 0} (n : ℕ) (P : ℕ → X → Type 0) (xs : List X) (k : ℕ) → AreEach n P xs → k < n → (x : X)
    × (slice_get xs k ≡ Some x) × P k x
each_at n P xs k h lt =
    let f = slice_get-some xs k (omega (arith, h.count, lt)) in
    (f.0, f.1, h.each k f.0 f.1)

-- Bounds of so many variables

bound_is : (bounds : Bounds) (from to : ℕ) (row : List (Option Bound)) (b : Option Bound) → slice_get bounds.of from
    ≡ Some row → slice_get row to ≡ Some b → bound_at bounds from to ≡ b
bound_is bounds from to row b e f =
    ap (λ o. option_and_then (λ (row : List (Option Bound)). option_and_then (λ (b : Option Bound). b)
    (slice_get row to)) o) e ∙ ap (option_and_then (λ (b : Option Bound). b)) f

pub bound_in : (depth : ℕ) (P : ℕ → ℕ → Option Bound → Type 0) (bounds : Bounds) (from to : ℕ) → AreAll depth P bounds
    → from < depth → to < depth → P from to (bound_at bounds from to)
bound_in depth P bounds from to h a b =
    let row = each_at depth (λ from row. AreEach depth (λ to bound. P from to bound) row) bounds.of from h a in
    let one = each_at depth (λ to bound. P from to bound) row.0 to row.2 b in
    subst (P from to) (sym (bound_is bounds from to row.0 one.0 row.1 one.1)) one.2

pub bound_past : (depth : ℕ) (P : ℕ → ℕ → Option Bound → Type 0) (bounds : Bounds) (from to : ℕ) → AreAll depth P bounds
    → depth ≤ from → bound_at bounds from to ≡ None
bound_past depth P bounds from to h past =
    ap (λ o. option_and_then
    (λ (row : List (Option Bound)). option_and_then (λ (b : Option Bound). b) (slice_get row to)) o)
    (slice_get_past bounds.of from (omega (arith, h.count, past)))

pub bound_beside : (depth : ℕ) (P : ℕ → ℕ → Option Bound → Type 0) (bounds : Bounds) (from to : ℕ)
    → AreAll depth P bounds → depth ≤ to → bound_at bounds from to ≡ None
bound_beside depth P bounds from to h past = elim (cases_lt from depth) [
  | inl lt ↦
      (let row = each_at depth (λ from row. AreEach depth (λ to bound. P from to bound) row) bounds.of from h lt in
      ap (λ o. option_and_then
      (λ (row : List (Option Bound)). option_and_then (λ (b : Option Bound). b) (slice_get row to)) o) row.1
      ∙ ap (option_and_then (λ (b : Option Bound). b)) (slice_get_past row.0 to (omega (arith, row.2.count, past))))
  | inr ge ↦ bound_past depth P bounds from to h ge
]

pub all_weaker : (depth : ℕ) (P Q : ℕ → ℕ → Option Bound → Type 0) (bounds : Bounds)
    → ((from to : ℕ) (b : Option Bound) → P from to b → Q from to b) → AreAll depth P bounds → AreAll depth Q bounds
all_weaker depth P Q bounds turn h = record {
  count = h.count;
  each = λ from row e.
      (let r = h.each from row e in
      record { count = r.count; each = λ to b f. turn from to b (r.each to b f) });
}

-- One turn

lesser_left : (x y : Option ℤ) → AtMost (lesser x y) x
lesser_left None y = tt
lesser_left (Some x) None = omega (arith, ints)
lesser_left (Some x) (Some y) = omega (arith, ints, int_min_is x y)

value_none : (bounds : Bounds) (from to : ℕ) → bound_at bounds from to ≡ None → value_at bounds from to ≡ None
value_none bounds from to e = ap value_of e

sum_left_none : (x y z : Option ℤ) → x ≡ None → y ≡ None → lesser x (bound_sum y z) ≡ None
sum_left_none x y z e f = ap (λ x. lesser x (bound_sum y z)) e ∙ ap (λ y. bound_sum y z) f

sum_none : (y z : Option ℤ) → z ≡ None → bound_sum y z ≡ None
sum_none None z e = refl
sum_none (Some y) z e = ap (bound_sum (Some y)) e

sum_right_none : (x y z : Option ℤ) → x ≡ None → z ≡ None → lesser x (bound_sum y z) ≡ None
sum_right_none x y z e f = ap (λ x. lesser x (bound_sum y z)) e ∙ sum_none y z f

module _ (edges : List Edge) (depth most middle : ℕ) (old new : Bounds)
    (turned : AreAll depth (IsThrough edges most old middle) new)
    (square : AreAll depth (λ from to bound. Unit {0}) old) where
  abbrev old_at : ℕ → ℕ → Option ℤ
  old_at = value_at old

  pub value_is : (from to : ℕ) → value_at new from to ≡ bounds_through middle old_at from to
  value_is from to = elim (cases_lt from depth) [
    | inl a ↦ elim (cases_lt to depth) [
      | inl b ↦ (bound_in depth (IsThrough edges most old middle) new from to turned a b).is
      | inr b ↦ value_none new from to (bound_beside depth (IsThrough edges most old middle) new from to turned b)
          ∙ sym (sum_right_none (old_at from to) (old_at from middle) (old_at middle to)
          (value_none old from to (bound_beside depth (λ from to bound. Unit {0}) old from to square b))
          (value_none old middle to (bound_beside depth (λ from to bound. Unit {0}) old middle to square b)))
    ]
    | inr a ↦ value_none new from to (bound_past depth (IsThrough edges most old middle) new from to turned a)
        ∙ sym (sum_left_none (old_at from to) (old_at from middle) (old_at middle to)
        (value_none old from to (bound_past depth (λ from to bound. Unit {0}) old from to square a))
        (value_none old from middle (bound_past depth (λ from to bound. Unit {0}) old from middle square a)))
  ]

  no_greater : (from to : ℕ) → AtMost (value_at new from to) (old_at from to)
  no_greater from to = subst (λ x. AtMost x (old_at from to)) (sym (value_is from to))
      (lesser_left (old_at from to) (bound_sum (old_at from middle) (old_at middle to)))

  sound_new : AreBounds edges (most + most) new
  sound_new from to = elim (cases_lt from depth) [
    | inl a ↦ elim (cases_lt to depth) [
      | inl b ↦ (bound_in depth (IsThrough edges most old middle) new from to turned a b).sound
      | inr b ↦ subst (λ o. IfSome o (IsBound edges (most + most) from to))
          (sym (bound_beside depth (IsThrough edges most old middle) new from to turned b)) tt
    ]
    | inr a ↦ subst (λ o. IfSome o (IsBound edges (most + most) from to))
        (sym (bound_past depth (IsThrough edges most old middle) new from to turned a)) tt
  ]

  closed_new : ClosedBelow middle old_at → NotNegative (old_at middle middle) → ClosedBelow (middle + 1) (value_at new)
  closed_new closed plain v lt from to =
      let h = closes middle old_at closed plain v lt from to in
      subst (λ x. AtMost x (bound_sum (value_at new from v) (value_at new v to))) (sym (value_is from to))
      (subst (λ y. AtMost (bounds_through middle old_at from to) (bound_sum y (value_at new v to)))
      (sym (value_is from v))
      (subst (λ z. AtMost (bounds_through middle old_at from to) (bound_sum (bounds_through middle old_at from v) z))
      (sym (value_is v to)) h))

  pub closed_more : AreClosed edges depth most middle old → NotNegative (old_at middle middle)
      → AreClosed edges depth (most + most) (middle + 1) new
  closed_more h plain = record {
    square = all_weaker depth (IsThrough edges most old middle) (λ from to bound. Unit {0}) new
        (λ from to b t. tt) turned;
    sound = sound_new;
    closed = closed_new h.closed plain;
    least = λ from to a b. All-weaker
        (λ (g : Edge). g.from ≡ from → g.to ≡ to → AtMost (old_at from to) (Some g.weight.constant))
        (λ (g : Edge). g.from ≡ from → g.to ≡ to → AtMost (value_at new from to) (Some g.weight.constant))
        (λ g k e f. at_most_trans (value_at new from to) (old_at from to) (Some g.weight.constant) (no_greater from to)
        (k e f)) edges (h.least from to a b);
    itself = λ v lt. at_most_trans (value_at new v v) (old_at v v) (Some (pos 0)) (no_greater v v) (h.itself v lt);
  }

-- before the first turn
pub closed_first : (edges : List Edge) (depth : ℕ) (bounds : Bounds) → AreAll depth (IsFirst edges) bounds
    → AreClosed edges depth 1 0 bounds
closed_first edges depth bounds h = record {
  square = all_weaker depth (IsFirst edges) (λ from to bound. Unit {0}) bounds (λ from to b t. tt) h;
  sound = λ from to. elim (cases_lt from depth) [
    | inl a ↦ elim (cases_lt to depth) [
      | inl b ↦ (bound_in depth (IsFirst edges) bounds from to h a b).sound
      | inr b ↦ subst (λ o. IfSome o (IsBound edges 1 from to))
          (sym (bound_beside depth (IsFirst edges) bounds from to h b)) tt
    ]
    | inr a ↦ subst (λ o. IfSome o (IsBound edges 1 from to))
        (sym (bound_past depth (IsFirst edges) bounds from to h a)) tt
  ];
  closed = λ v lt from to. absurd (omega arith);
  least = λ from to a b. (bound_in depth (IsFirst edges) bounds from to h a b).least;
  itself = λ v lt. (bound_in depth (IsFirst edges) bounds v v h lt lt).itself refl;
}

some_wider : (edges : List Edge) (most more from to : ℕ) (o : Option Bound) → most ≤ more
    → IfSome o (IsBound edges most from to) → IfSome o (IsBound edges more from to)
some_wider edges most more from to None le h = tt
some_wider edges most more from to (Some b) le h = bound_wider edges most more from to b le h

pub closed_wider : (edges : List Edge) (depth most more count : ℕ) (bounds : Bounds) → most ≤ more
    → AreClosed edges depth most count bounds → AreClosed edges depth more count bounds
closed_wider edges depth most more count bounds le h = record {
  square = h.square;
  sound = λ from to. some_wider edges most more from to (bound_at bounds from to) le (h.sound from to);
  closed = h.closed;
  least = h.least;
  itself = h.itself;
}

-- powers of 2
twice : (x : ℕ) → x * 2 ≡ x + x
twice x = omega arith

pub doubled : (n : ℕ) → 2 ^ (n + 1) ≡ 2 ^ n + 2 ^ n
doubled n = let e : n + 1 ≡ suc n = omega arith in ap (λ k. 2 ^ k) e ∙ pow-suc 2 n ∙ twice (2 ^ n)

pub few_doublings : (n : ℕ) → n ≤ 6 → 2 ^ n ≤ 64
few_doublings zero h = omega arith
few_doublings (suc zero) h = omega arith
few_doublings (suc (suc zero)) h = omega arith
few_doublings (suc (suc (suc zero))) h = omega arith
few_doublings (suc (suc (suc (suc zero)))) h = omega arith
few_doublings (suc (suc (suc (suc (suc zero))))) h = omega arith
few_doublings (suc (suc (suc (suc (suc (suc zero)))))) h = omega arith
few_doublings (suc (suc (suc (suc (suc (suc (suc n))))))) h = absurd (omega arith)

-- A bound through one more variable

better_is : (value : ℤ) (direct : Option Bound) → option_map_or (λ b. int_lt value b.value) direct true ≡ true
    → lesser (value_of direct) (Some value) ≡ Some value
better_is value None e = refl
better_is value (Some b) e = ap Some (least_is b.value value e) where
  least_is : (x y : ℤ) → int_lt y x ≡ true → int_min x y ≡ y
  least_is x y e = grind (arith, ints, int_min_is x y)

worse_is : (value : ℤ) (direct : Option Bound) → option_map_or (λ b. int_lt value b.value) direct true ≡ false
    → lesser (value_of direct) (Some value) ≡ value_of direct
worse_is value None e = absurd (let h : true ≡ false = e in cc)
worse_is value (Some b) e = ap Some (first_is b.value value e) where
  first_is : (x y : ℤ) → int_lt y x ≡ false → int_min x y ≡ x
  first_is x y e = grind (arith, ints, int_min_is x y)

module _ (edges : List Edge) (most : ℕ) (bounds : Bounds) (middle from to : ℕ)
    (sound : AreBounds edges most bounds) where
  sound_at : (x y : ℕ) (b : Bound) → bound_at bounds x y ≡ Some b → IsBound edges most x y b
  sound_at x y b is = subst (λ o. IfSome o (IsBound edges most x y)) is (sound x y)

  direct_sound : IfSome (bound_at bounds from to) (IsBound edges (most + most) from to)
  direct_sound = some_wider edges most (most + most) from to (bound_at bounds from to) (omega arith) (sound from to)

  pub through_path : (a b joined : Bound) → bound_at bounds from middle ≡ Some a → bound_at bounds middle to ≡ Some b
      → joined ≡ record { value = a.value +ℤ b.value; terms = a.terms ++ b.terms }
      → option_map_or (λ d. int_lt (a.value +ℤ b.value) d.value) (bound_at bounds from to) true ≡ true
      → IsThrough edges most bounds middle from to (Some joined)
  through_path a b joined a_is b_is is less =
      subst (λ j. IsThrough edges most bounds middle from to (Some j)) (sym is)
      (record {
        sound = bound_join edges most from middle to a b (sound_at from middle a a_is) (sound_at middle to b b_is);
        is = sym (ap (λ o. lesser (value_at bounds from to) (bound_sum o (value_at bounds middle to)))
            (ap value_of a_is)
            ∙ ap (λ o. lesser (value_at bounds from to) (bound_sum (Some a.value) o)) (ap value_of b_is)
            ∙ better_is (a.value +ℤ b.value) (bound_at bounds from to) less);
      })

  pub through_worse : (a b : Bound) (kept : Option Bound) → bound_at bounds from middle ≡ Some a
      → bound_at bounds middle to ≡ Some b → kept ≡ bound_at bounds from to
      → option_map_or (λ d. int_lt (a.value +ℤ b.value) d.value) (bound_at bounds from to) true ≡ false
      → IsThrough edges most bounds middle from to kept
  through_worse a b kept a_is b_is is less =
      subst (IsThrough edges most bounds middle from to) (sym is)
      (record {
        sound = direct_sound;
        is = sym (ap (λ o. lesser (value_at bounds from to) (bound_sum o (value_at bounds middle to)))
            (ap value_of a_is)
            ∙ ap (λ o. lesser (value_at bounds from to) (bound_sum (Some a.value) o)) (ap value_of b_is)
            ∙ worse_is (a.value +ℤ b.value) (bound_at bounds from to) less);
      })

-- the same, of what was called
module _ (edges : List Edge) (most : ℕ) (bounds : Bounds) (middle from to : ℕ) (sound : AreBounds edges most bounds)
    (a b : Bound) (direct : Option Bound)
    (a_is : bound_at bounds from middle ≡ Some a) (b_is : bound_at bounds middle to ≡ Some b)
    (direct_is : direct ≡ bound_at bounds from to) where
  tested : (answer : Bool) → answer ≡ option_map_or (λ (d : Bound). int_lt (a.value +ℤ b.value) d.value) direct true
      → option_map_or (λ (d : Bound). int_lt (a.value +ℤ b.value) d.value) (bound_at bounds from to) true ≡ answer
  tested answer is = ap (λ o. option_map_or (λ (d : Bound). int_lt (a.value +ℤ b.value) d.value) o true) (sym direct_is)
      ∙ sym is

  pub through_less : (joined : Bound) → joined ≡ record { value = a.value +ℤ b.value; terms = a.terms ++ b.terms }
      → true ≡ option_map_or (λ (d : Bound). int_lt (a.value +ℤ b.value) d.value) direct true
      → IsThrough edges most bounds middle from to (Some joined)
  through_less joined is less =
      through_path edges most bounds middle from to sound a b joined a_is b_is is (tested true less)

  pub through_more : (kept : Option Bound) → kept ≡ direct → false
      ≡ option_map_or (λ (d : Bound). int_lt (a.value +ℤ b.value) d.value) direct true
      → IsThrough edges most bounds middle from to kept
  through_more kept is more =
      through_worse edges most bounds middle from to sound a b kept a_is b_is (is ∙ direct_is) (tested false more)

pub bound_small : (edges : List Edge) (most : ℕ) (bounds : Bounds) (x y : ℕ) (b : Bound) → AreBounds edges most bounds
    → most ≤ 64 → bound_at bounds x y ≡ Some b → unsigned_abs b.value ≤ 2 ^ 60
bound_small edges most bounds x y b sound le is =
    let h : IsBound edges most x y b = subst (λ o. IfSome o (IsBound edges most x y)) is (sound x y) in
    omega (arith, h.near, le)

-- A negative sum from a variable back to itself

pub small_power : (n : ℕ) → n < 6 → 2 ^ n ≤ 32
small_power n lt =
    let d = doubled n in
    let f = few_doublings (n + 1) (omega (arith, lt)) in
    omega (arith, d, f)

-- after a turn
pub closed_next : (edges : List Edge) (depth middle : ℕ) (old new : Bounds)
    → AreClosed edges depth (2 ^ middle) middle old → NotNegative (value_at old middle middle)
    → ((edges : List Edge) (most : ℕ) → AreBounds edges most old → AreAll depth (IsThrough edges most old middle) new)
    → AreClosed edges depth (2 ^ (middle + 1)) (middle + 1) new
closed_next edges depth middle old new h plain turn =
    subst (λ n. AreClosed edges depth n (middle + 1) new) (sym (doubled middle))
    (closed_more edges depth (2 ^ middle) middle old new (turn edges (2 ^ middle) h.sound) h.square h plain)

-- after the last turn
pub closed_last : (edges : List Edge) (depth middle : ℕ) (bounds : Bounds) → middle ≤ depth → depth ≤ middle → depth ≤ 6
    → AreClosed edges depth (2 ^ middle) middle bounds
    → AreClosed edges depth 64 depth bounds
closed_last edges depth middle bounds le ge few h =
    let same : middle ≡ depth = omega (arith, le, ge) in
    subst (λ n. AreClosed edges depth 64 n bounds) same
    (closed_wider edges depth (2 ^ middle) 64 middle bounds (few_doublings middle (omega (arith, le, few))) h)
