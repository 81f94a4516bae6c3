-- A row of tags that is told by its ends.
--
-- Along a row of the reader the innermost loop goes on by 1 from turn to turn. All vectors of a statement are as long, and
-- they stand in lexicographic order: between two that differ in the last value alone lie those alone which differ from them
-- so, and no more of them than the difference tells. So where the last of a row is as far ahead as it stands behind the first,
-- each between them is as far ahead as it stands behind. What the tree gives along its stretch changes by the same numbers
-- from turn to turn, so two ends tell it all between, if the writer's vectors go on by the same numbers too. Where they
-- follow one another, their ends tell that as well; where they stand apart, those between the ends might be others, and each
-- is looked at.
use Rattle.std.proofs.Common.{◌≡◌, ◌+◌, ◌-◌, ◌*◌, ◌<◌, ◌≤◌, ℕ, zero, suc, ℤ, pos, negsuc, ◌+ℤ◌, ◌-ℤ◌, ◌*ℤ◌, ◌≤ℤ◌, ◌<ℤ◌}
use Rattle.std.proofs.Common.{List, [], ◌∷◌, ◌++◌, length, get_or, refl, sym, ap, ◌∙◌, subst, arith, add-one, add-zero, inl, inr}
use Rattle.std.proofs.Math.IntN.{*ℤ_comm}
use Rattle.std.proofs.Math.Nat.{suc-mul}
use Rattle.std.specs.Prelude.{Option, Some, None, slice_get, IsSomeAnd}
use Rattle.std.specs.Cmp.Lexicographic.{slice_cmp}
use Rattle.std.specs.Ordering.{int_cmp, ordering_then}
use Rattle.std.specs.declared.cmp.Ordering.{Ordering}
use Rattle.std.specs.declared.cmp.Ordering.TheVariants.{Less, Equal, Greater}
use Rattle.std.proofs.lemmas.Bool.{cases_lt}
use Rattle.std.proofs.lemmas.Int.{ints}
use Rattle.std.proofs.lemmas.List.{ext_get_or}
use Rattle.std.proofs.lemmas.Option.{same_Some, slice_get_within, get_or_from_slice_get}
use Rattle.affine_core.proofs.Ring.{difference_times, sum_times, times_at_most}
use Rattle.plain_data.proofs.Lists.{slice_get-some}
use Rattle.plain_data.proofs.Options.{IfSome-some}
use Rattle.sanlp.specs.declared.nest.Nest.{Nest}
use Rattle.sanlp.specs.declared.nest.Point.{Point}
use Rattle.sanlp.specs.declared.nest.Statement.{Statement}
use Rattle.sanlp.specs.Points.{points_of}
use Rattle.sanlp.proofs.Enumerates.{enumerates_domains}
use Rattle.source_tree.specs.declared.tree.Found.{Found}
use Rattle.source_tree.specs.declared.tree.Found.TheVariants as found
use Rattle.source_tree.specs.declared.tree.Tree.{Tree}
use Rattle.source_tree.specs.Walk.{outcome_of}
use Rattle.net_core.proofs.FireValues.{turn_entry}
use Rattle.tree_eval.specs.declared.follower.Follower.{Follower}
use Rattle.tree_eval.specs.declared.follower.Stretch.{Stretch}
use Rattle.tree_eval.specs.declared.leaf.Leaf.{Leaf}
use Rattle.tree_eval.specs.declared.leaf.Leaf.TheVariants.{Writer, Zero, Dead}
use Rattle.tree_eval.specs.Stretches.{IsKnownAt, IsStretch, IsStretchOf, LiesIn, found_at, values_at}
use Rattle.tree_eval.proofs.Rows.{along_at}
use Rattle.net_checker.specs.Tables.{AreInOrder, GivesTag, GoesOn, IsAhead, IsProgression, differences}
use Rattle.net_checker.proofs.Turns.{vectors_in_order}

-- Lists of numbers that differ in the last one

-- the comparison of two that begin alike
then_less : (o : Ordering) → ordering_then o Equal ≡ Less → o ≡ Less
then_less Less h = refl
then_less Equal h = absurd (cc)
then_less Greater h = absurd (cc)

compared_less : (x y : ℤ) → int_cmp x y ≡ Less → x <ℤ y
compared_less x y h = grind (arith, ints)

compared_same : (x : ℤ) → int_cmp x x ≡ Equal
compared_same x = grind (arith, ints)

pub last_less : (front : List ℤ) (x y : ℤ)
    → slice_cmp int_cmp (front ++ x ∷ []) (front ++ y ∷ []) ≡ Less → x <ℤ y
last_less [] x y h = compared_less x y (then_less (int_cmp x y) h)
last_less (a ∷ front) x y h =
    last_less front x y
    (sym (ap (λ o. ordering_then o (slice_cmp int_cmp (front ++ x ∷ []) (front ++ y ∷ []))) (compared_same a)) ∙ h)

-- heads of three lists in order, of which the first and the last are the same
at_most : (a b : ℤ) (rest : Ordering) → ordering_then (int_cmp a b) rest ≡ Less → a ≤ℤ b
at_most a b rest h = go (int_cmp a b) refl h where
  go : (o : Ordering) → int_cmp a b ≡ o → ordering_then o rest ≡ Less → a ≤ℤ b
  go Less e h = (let less = compared_less a b e in omega (arith, ints))
  go Equal e h = grind (arith, ints)
  go Greater e h = absurd (cc)

-- a list between two that differ in the last number alone
pub between : (front : List ℤ) (x y : ℤ) (b : List ℤ) → length (front ++ x ∷ []) ≡ length b
    → slice_cmp int_cmp (front ++ x ∷ []) b ≡ Less → slice_cmp int_cmp b (front ++ y ∷ []) ≡ Less
    → (z : ℤ) × (b ≡ front ++ z ∷ [])
between [] x y [] e below above = absurd (omega (arith, e))
between [] x y (z ∷ []) e below above = (z, refl)
between [] x y (z ∷ w ∷ b) e below above = absurd (omega (arith, e))
between (a ∷ front) x y [] e below above = absurd (omega (arith, e))
between (a ∷ front) x y (c ∷ b) e below above =
    let low = at_most a c (slice_cmp int_cmp (front ++ x ∷ []) b) below in
    let high = at_most c a (slice_cmp int_cmp b (front ++ y ∷ [])) above in
    let same : c ≡ a = omega (arith, ints) in
    let left : int_cmp a c ≡ Equal = ap (int_cmp a) same ∙ compared_same a in
    let right : int_cmp c a ≡ Equal = ap (λ v. int_cmp v a) same ∙ compared_same a in
    let inner = between front x y b (omega (arith, e))
    (sym (ap (λ o. ordering_then o (slice_cmp int_cmp (front ++ x ∷ []) b)) left) ∙ below)
    (sym (ap (λ o. ordering_then o (slice_cmp int_cmp b (front ++ y ∷ []))) right) ∙ above) in
    (inner.0, ap (λ v. v ∷ b) same ∙ ap (λ rest. a ∷ rest) inner.1)

pub last_same : (xs ys : List ℤ) (x y : ℤ) → xs ++ x ∷ [] ≡ ys ++ y ∷ [] → (xs ≡ ys) × (x ≡ y)
last_same [] [] x y e = (refl, cc)
last_same [] (b ∷ []) x y e = absurd (let lengths = ap length e in omega (arith, lengths))
last_same [] (b ∷ c ∷ ys) x y e = absurd (let lengths = ap length e in omega (arith, lengths))
last_same (a ∷ []) [] x y e = absurd (let lengths = ap length e in omega (arith, lengths))
last_same (a ∷ c ∷ xs) [] x y e = absurd (let lengths = ap length e in omega (arith, lengths))
last_same (a ∷ xs) (b ∷ ys) x y e =
    let heads : a ≡ b = cc in
    let tails : xs ++ x ∷ [] ≡ ys ++ y ∷ [] = cc in
    let rest = last_same xs ys x y tails in
    (ap (λ v. v ∷ xs) heads ∙ ap (λ rest. b ∷ rest) rest.0, rest.1)

-- Rows of vectors

-- all of these are as long
abbrev AreEven : List (List ℤ) → Type 0
AreEven vectors =
    (f g : ℕ) (a b : List ℤ) → slice_get vectors f ≡ Some a → slice_get vectors g ≡ Some b → length a ≡ length b

module _ (vectors : List (List ℤ)) (sorted : AreInOrder vectors) (even : AreEven vectors) (front : List ℤ) where
  there : (f : ℕ) (v : List ℤ) (g : ℕ) → g ≤ f → slice_get vectors f ≡ Some v
      → (w : List ℤ) × (slice_get vectors g ≡ Some w)
  there f v g le is = slice_get-some vectors g (omega (arith, slice_get_within vectors f v is))

  -- there are no more vectors from one to another than the difference tells
  few_between : (n f : ℕ) (x y : ℤ) → slice_get vectors f ≡ Some (front ++ x ∷ [])
      → slice_get vectors (f + suc n) ≡ Some (front ++ y ∷ []) → pos (suc n) ≤ℤ (y -ℤ x)
  few_between zero f x y at to =
      let less = last_less front x y (sorted f (f + 1) _ _ (omega arith) at to) in
      omega (arith, ints)
  few_between (suc n) f x y at to =
      let next = there (f + suc (suc n)) (front ++ y ∷ []) (f + 1) (omega arith) to in
      let below = sorted f (f + 1) _ _ (omega arith) at next.1 in
      let above = sorted (f + 1) (f + suc (suc n)) _ _ (omega arith) next.1 to in
      let is = between front x y next.0 (even f (f + 1) _ _ at next.1) below above in
      let here : slice_get vectors (f + 1) ≡ Some (front ++ is.0 ∷ []) = next.1 ∙ ap Some is.1 in
      let places : f + suc (suc n) ≡ f + 1 + suc n = omega arith in
      let less = last_less front x is.0 (sorted f (f + 1) _ _ (omega arith) at here) in
      let later = few_between n (f + 1) is.0 y here (ap (slice_get vectors) (sym places) ∙ to) in
      omega (arith, ints)

  -- each vector of a row whose last is as far ahead as it stands behind
  pub row_at : (f m : ℕ) (x : ℤ) → slice_get vectors f ≡ Some (front ++ x ∷ [])
      → slice_get vectors (f + m) ≡ Some (front ++ (x +ℤ pos m) ∷ []) → (i : ℕ) → i ≤ m
      → slice_get vectors (f + i) ≡ Some (front ++ (x +ℤ pos i) ∷ [])
  row_at f m x at to zero le =
      let same : x ≡ x +ℤ pos zero = omega (arith, ints) in
      ap (slice_get vectors) (add-zero f) ∙ at ∙ ap (λ v. Some (front ++ v ∷ [])) same
  row_at f m x at to (suc i) le =
      elim (cases_lt (suc i) m) [
        | inl inside ↦
            let next = there (f + m) (front ++ (x +ℤ pos m) ∷ []) (f + suc i) (omega arith) to in
            let below = sorted f (f + suc i) _ _ (omega arith) at next.1 in
            let above = sorted (f + suc i) (f + m) _ _ (omega arith) next.1 to in
            let is = between front x (x +ℤ pos m) next.0 (even f (f + suc i) _ _ at next.1) below above in
            let here : slice_get vectors (f + suc i) ≡ Some (front ++ is.0 ∷ []) = next.1 ∙ ap Some is.1 in
            rest_at (m - suc (suc i)) is.0 here (omega arith)
        | inr last ↦
            let same : m ≡ suc i = omega arith in
            ap (λ k. slice_get vectors (f + k)) (sym same) ∙ to ∙ ap (λ k. Some (front ++ (x +ℤ pos k) ∷ [])) same
      ] where
        rest_at : (left : ℕ) (z : ℤ) → slice_get vectors (f + suc i) ≡ Some (front ++ z ∷ [])
            → m ≡ suc i + suc left → slice_get vectors (f + suc i) ≡ Some (front ++ (x +ℤ pos (suc i)) ∷ [])
        rest_at left z here whole =
            let places : f + m ≡ f + suc i + suc left = omega arith in
            let before = few_between i f x z at here in
            let behind = few_between left (f + suc i) z (x +ℤ pos m) here (ap (slice_get vectors) (sym places) ∙ to) in
            let same : z ≡ x +ℤ pos (suc i) = omega (arith, ints, ap (λ k. pos k) whole) in
            here ∙ ap (λ v. Some (front ++ v ∷ [])) same

-- all vectors of a statement are as long
pub vectors_even : (n : Nest) (s : ℕ) → AreEven (get_or (points_of n) s [])
vectors_even n s f g a b at_f at_g =
    let vectors : List (List ℤ) = get_or (points_of n) s [] in
    let e = turn_entry n s f (slice_get_within vectors f a at_f) in
    let h = turn_entry n s g (slice_get_within vectors g b at_g) in
    let first : a ≡ e.point.at = sym (get_or_from_slice_get vectors f a [] at_f) ∙ e.vector in
    let second : b ≡ h.point.at = sym (get_or_from_slice_get vectors g b [] at_g) ∙ h.vector in
    let p = (enumerates_domains n).entry e.entry e.point e.found in
    let q = (enumerates_domains n).entry h.entry h.point h.found in
    let same : p.statement ≡ q.statement =
    same_Some p.statement q.statement
    (sym p.found ∙ ap (slice_get n.statements) (e.process ∙ sym h.process) ∙ q.found) in
    ap length first ∙ p.deep ∙ ap (λ (st : Statement). length st.loops) same ∙ sym q.deep ∙ sym (ap length second)

-- Values of a map between two turns

no_factor : (m : ℕ) (c : ℤ) → 0 < m → pos m *ℤ c ≡ pos 0 → c ≡ pos 0
no_factor m (pos zero) some none = refl
no_factor m (pos (suc c)) some none =
    absurd (
    let more = times_at_most (pos 1) (pos (suc c)) (pos m) (omega (arith, ints)) (omega (arith, ints)) in
    omega (arith, ints, more, *ℤ_comm (pos m) (pos (suc c)), none)
    )
no_factor m (negsuc c) some none =
    absurd (
    let less = times_at_most (negsuc c) (negsuc 0) (pos m) (omega (arith, ints)) (omega (arith, ints)) in
    omega (arith, ints, less, *ℤ_comm (pos m) (negsuc c), none)
    )

same_factor : (m : ℕ) (c d : ℤ) → 0 < m → pos m *ℤ c ≡ pos m *ℤ d → c ≡ d
same_factor m c d some is =
    let none : pos m *ℤ (c -ℤ d) ≡ pos 0 =
    omega (
      arith,
      ints,
      is,
      difference_times c d (pos m),
      *ℤ_comm (pos m) (c -ℤ d),
      *ℤ_comm (pos m) c,
      *ℤ_comm (pos m) d,
    ) in
    let nothing = no_factor m (c -ℤ d) some none in
    omega (arith, ints, nothing)

no_values : (t u : ℤ) (starts steps : List ℤ) → values_at t starts steps ≡ [] → values_at u starts steps ≡ []
no_values t u [] steps e = refl
no_values t u (a ∷ starts) [] e = refl
no_values t u (a ∷ starts) (c ∷ steps) e = absurd (let lengths = ap length e in omega (arith, lengths))

-- by their values at two turns, which are those of a row
pub values_between : (starts steps from far : List ℤ) (t : ℤ) (m i : ℕ) → 0 < m
    → values_at t starts steps ≡ values_at (pos 0) from far
    → values_at (t +ℤ pos m) starts steps ≡ values_at (pos m) from far
    → values_at (t +ℤ pos i) starts steps ≡ values_at (pos i) from far
values_between starts steps [] far t m i some here later = no_values t (t +ℤ pos i) starts steps here
values_between starts steps (v ∷ from) [] t m i some here later = no_values t (t +ℤ pos i) starts steps here
values_between [] steps (v ∷ from) (d ∷ far) t m i some here later =
    absurd (let lengths = ap length here in omega (arith, lengths))
values_between (a ∷ starts) [] (v ∷ from) (d ∷ far) t m i some here later =
    absurd (let lengths = ap length here in omega (arith, lengths))
values_between (a ∷ starts) (c ∷ steps) (v ∷ from) (d ∷ far) t m i some here later =
    let first : a +ℤ (t *ℤ c) ≡ v +ℤ (pos 0 *ℤ d) = cc in
    let last : a +ℤ ((t +ℤ pos m) *ℤ c) ≡ v +ℤ (pos m *ℤ d) = cc in
    let here' : values_at t starts steps ≡ values_at (pos 0) from far = cc in
    let later' : values_at (t +ℤ pos m) starts steps ≡ values_at (pos m) from far = cc in
    let none : pos 0 *ℤ d ≡ pos 0 = omega (arith, ints) in
    let same = same_factor m c d some (omega (arith, ints, first, last, none, sum_times t (pos m) c)) in
    let product : pos i *ℤ c ≡ pos i *ℤ d = ap (λ e. pos i *ℤ e) same in
    let value : a +ℤ ((t +ℤ pos i) *ℤ c) ≡ v +ℤ (pos i *ℤ d) =
    omega (arith, ints, first, none, product, sum_times t (pos i) c) in
    ap (λ x. x ∷ values_at (t +ℤ pos i) starts steps) value
    ∙ ap (λ rest. (v +ℤ (pos i *ℤ d)) ∷ rest) (values_between starts steps from far t m i some here' later')

-- what a leaf gives between two turns
abbrev pub at_point : ℕ → List ℤ → Found
at_point w at = found.At (record { statement = w; at = at })

same_point : (w v : ℕ) (a b : List ℤ) → at_point w a ≡ at_point v b → (w ≡ v) × (a ≡ b)
same_point w v a b e =
    let first : Point = record { statement = w; at = a } in
    let second : Point = record { statement = v; at = b } in
    let same : first ≡ second = cc in
    (ap (λ (p : Point). p.statement) same, ap (λ (p : Point). p.at) same)

pub leaf_between : (leaf : Leaf) (w : ℕ) (from far : List ℤ) (t : ℤ) (m i : ℕ) → 0 < m
    → found_at leaf t ≡ at_point w (values_at (pos 0) from far)
    → found_at leaf (t +ℤ pos m) ≡ at_point w (values_at (pos m) from far)
    → found_at leaf (t +ℤ pos i) ≡ at_point w (values_at (pos i) from far)
leaf_between (Writer u starts steps) w from far t m i some here later =
    let first = same_point u w (values_at t starts steps) (values_at (pos 0) from far) here in
    let last = same_point u w (values_at (t +ℤ pos m) starts steps) (values_at (pos m) from far) later in
    ap (λ v. at_point v (values_at (t +ℤ pos i) starts steps)) first.0
    ∙ ap (at_point w) (values_between starts steps from far t m i some first.1 last.1)
leaf_between Zero w from far t m i some here later =
    absurd (let e : found.Zero ≡ at_point w (values_at (pos 0) from far) = here in cc)
leaf_between Dead w from far t m i some here later =
    absurd (let e : found.Dead ≡ at_point w (values_at (pos 0) from far) = here in cc)

-- Even rows

-- steps of which the last alone is 1, and all others are 0
unit_steps : List ℤ → List ℤ
unit_steps [] = pos 1 ∷ []
unit_steps (a ∷ front) = pos 0 ∷ unit_steps front

by_one : (front : List ℤ) (x t : ℤ) → values_at t (front ++ x ∷ []) (unit_steps front) ≡ front ++ (x +ℤ t) ∷ []
unfolding unit_steps
by_one [] x t = (
    let same : x +ℤ (t *ℤ pos 1) ≡ x +ℤ t = omega (arith, ints, *ℤ_comm t (pos 1)) in
    ap (λ v. v ∷ []) same
    )
by_one (a ∷ front) x t =
    let same : a +ℤ (t *ℤ pos 0) ≡ a = omega (arith, ints, *ℤ_comm t (pos 0)) in
    ap (λ v. v ∷ values_at t (front ++ x ∷ []) (unit_steps front)) same ∙ ap (λ rest. a ∷ rest) (by_one front x t)

-- a row of vectors that follow one another, by its ends
pub row_by_one : (n : Nest) (points : List (List (List ℤ))) (u first m : ℕ) → points ≡ points_of n
    → GoesOn (get_or points u []) first m → IsProgression (get_or points u []) first 1 m
row_by_one n points u first m whole row =
    let vectors : List (List ℤ) = get_or points u [] in
    let front = row.ahead.front in
    let x = row.ahead.value in
    record {
      from = front ++ x ∷ [];
      steps = unit_steps front;
      are = λ i le.
          (let place : first + i * 1 ≡ first + i = omega arith in
          ap (slice_get vectors) place
          ∙ row_at vectors (subst (λ of. AreInOrder (get_or of u [])) (sym whole) (vectors_in_order n u))
          (subst (λ of. AreEven (get_or of u [])) (sym whole) (vectors_even n u)) front first m x
          (row.there ∙ ap Some row.ahead.is_first) (row.there_later ∙ ap Some row.ahead.is_second) i le
          ∙ ap Some (sym (by_one front x (pos i))));
    }

values_length : (t : ℤ) (xs ys : List ℤ) → length ys ≡ length xs → length (values_at t xs ys) ≡ length xs
values_length t [] ys e = refl
values_length t (x ∷ xs) [] e = absurd (omega (arith, e))
values_length t (x ∷ xs) (y ∷ ys) e = ap (λ n. suc n) (values_length t xs ys (omega (arith, e)))

values_get : (t : ℤ) (xs ys : List ℤ) (k : ℕ) → length ys ≡ length xs → k < length xs
    → get_or (values_at t xs ys) k (pos 0) ≡ get_or xs k (pos 0) +ℤ (t *ℤ get_or ys k (pos 0))
values_get t [] ys k e lt = absurd (omega (arith, lt))
values_get t (x ∷ xs) [] k e lt = absurd (omega (arith, e))
values_get t (x ∷ xs) (y ∷ ys) zero e lt = refl
values_get t (x ∷ xs) (y ∷ ys) (suc k) e lt = values_get t xs ys k (omega (arith, e)) (omega (arith, lt))

-- a step, number by number
pub step_whole : (from second at after : List ℤ) → length second ≡ length from → length at ≡ length from
    → length after ≡ length from
    → ((k : ℕ) → k < length from → get_or after k (pos 0)
    ≡ get_or at k (pos 0) +ℤ (get_or second k (pos 0) -ℤ get_or from k (pos 0)))
    → after ≡ values_at (pos 1) at (differences from second)
step_whole from second at after e f g each =
    let steps = differences from second in
    let long : length steps ≡ length from = values_length (negsuc 0) second from (sym e) ∙ e in
    let long_at : length steps ≡ length at = long ∙ sym f in
    ext_get_or (pos 0) after (values_at (pos 1) at steps)
    (g ∙ sym f ∙ sym (values_length (pos 1) at steps long_at))
    (λ k lt.
    let short : k < length from = omega (arith, lt, g) in
    let short_at : k < length at = omega (arith, short, f) in
    let short_second : k < length second = omega (arith, short, e) in
    let step = values_get (negsuc 0) second from k (sym e) short_second in
    let value = values_get (pos 1) at steps k long_at short_at in
    let whole = each k short in
    let same : get_or after k (pos 0) ≡ get_or (values_at (pos 1) at steps) k (pos 0) =
    omega (arith, ints, step, value, whole) in
    same)

-- a row of steps: its first vector, and one more
pub stepped_first : (from second : List ℤ) → length second ≡ length from
    → values_at (pos 0) from (differences from second) ≡ from
stepped_first [] second e = refl
stepped_first (a ∷ from) [] e = absurd (omega (arith, e))
stepped_first (a ∷ from) (b ∷ second) e =
    let same : a +ℤ (pos 0 *ℤ (b +ℤ (negsuc 0 *ℤ a))) ≡ a = omega (arith, ints) in
    ap (λ v. v ∷ values_at (pos 0) from (differences from second)) same
    ∙ ap (λ rest. a ∷ rest) (stepped_first from second (omega (arith, e)))

values_more : (i : ℕ) (from far : List ℤ)
    → values_at (pos 1) (values_at (pos i) from far) far ≡ values_at (pos (i + 1)) from far
values_more i [] far = refl
values_more i (a ∷ from) [] = refl
values_more i (a ∷ from) (d ∷ far) =
    let turns : pos (i + 1) ≡ pos i +ℤ pos 1 = omega (arith, ints) in
    let product : pos (i + 1) *ℤ d ≡ (pos i +ℤ pos 1) *ℤ d = ap (λ k. k *ℤ d) turns in
    let value : (a +ℤ (pos i *ℤ d)) +ℤ (pos 1 *ℤ d) ≡ a +ℤ (pos (i + 1) *ℤ d) =
    omega (arith, ints, product, sum_times (pos i) (pos 1) d) in
    ap (λ v. v ∷ values_at (pos 1) (values_at (pos i) from far) far) value
    ∙ ap (λ rest. (a +ℤ (pos (i + 1) *ℤ d)) ∷ rest) (values_more i from far)

-- so many vectors behind the first are those of a row
abbrev pub IsSteppedTo : List (List ℤ) → ℕ → ℕ → List ℤ → List ℤ → ℕ → Type 0
IsSteppedTo vectors first step from second n =
    (i : ℕ) → i ≤ n → slice_get vectors (first + i * step) ≡ Some (values_at (pos i) from (differences from second))

pub next_place : (first step n place next : ℕ) → place ≡ first + n * step → next ≡ place + step
    → next ≡ first + (n + 1) * step
next_place first step n place next here goes =
    let more : (n + 1) * step ≡ n * step + step = ap (λ k. k * step) (add-one n) ∙ suc-mul n step in
    omega (arith, here, goes, more)

pub stepped_none : (vectors : List (List ℤ)) (first step : ℕ) (from second : List ℤ) → length second ≡ length from
    → slice_get vectors first ≡ Some from → IsSteppedTo vectors first step from second 0
stepped_none vectors first step from second e is zero le =
    let place : first + 0 * step ≡ first = omega arith in
    ap (slice_get vectors) place ∙ is ∙ ap Some (sym (stepped_first from second e))
stepped_none vectors first step from second e is (suc i) le = absurd (omega (arith, le))

pub stepped_more : (vectors : List (List ℤ)) (first step n place next : ℕ) (from second at after : List ℤ)
    → place ≡ first + n * step → next ≡ first + (n + 1) * step → slice_get vectors place ≡ Some at
    → slice_get vectors next ≡ Some after → after ≡ values_at (pos 1) at (differences from second) → IsSteppedTo vectors first step from second n
    → IsSteppedTo vectors first step from second (n + 1)
stepped_more vectors first step n place next from second at after is_place is_next is_at is_after ahead before i le =
    elim (cases_lt i (n + 1)) [
      | inl inside ↦ before i (omega (arith, inside))
      | inr last ↦
          let steps = differences from second in
          let turns : i ≡ n + 1 = omega (arith, le, last) in
          let value : at ≡ values_at (pos n) from steps =
          same_Some _ _ (sym is_at ∙ ap (slice_get vectors) is_place ∙ before n (omega arith)) in
          ap (λ k. slice_get vectors (first + k * step)) turns ∙ ap (slice_get vectors) (sym is_next) ∙ is_after
          ∙ ap Some (ahead ∙ ap (λ v. values_at (pos 1) v steps) value ∙ values_more n from steps)
          ∙ ap (λ k. Some (values_at (pos k) from steps)) (sym turns)
    ]

-- The tags of a row

-- it is known that the tree gives this point there
abbrev pub IsTold : Tree → Follower → List ℤ → ℕ → List ℤ → Type 0
IsTold tree follower at w point = IsKnownAt follower at × (outcome_of tree at ≡ Some (at_point w point))

-- what the tree gives between two values of its stretch
pub stretch_between : (tree : Tree) (stretch : Stretch) (front from far : List ℤ) (x : ℤ) (w m i : ℕ) → 0 < m → i ≤ m
    → IsStretch tree stretch → LiesIn (front ++ x ∷ []) stretch → LiesIn (front ++ (x +ℤ pos m) ∷ []) stretch
    → outcome_of tree (front ++ x ∷ []) ≡ Some (at_point w (values_at (pos 0) from far))
    → outcome_of tree (front ++ (x +ℤ pos m) ∷ []) ≡ Some (at_point w (values_at (pos m) from far))
    → outcome_of tree (front ++ (x +ℤ pos i) ∷ []) ≡ Some (at_point w (values_at (pos i) from far))
stretch_between tree stretch front from far x w m i some le along lies lies' gives gives' =
    let low = last_same front stretch.outer x lies.value lies.is in
    let high = last_same front stretch.outer (x +ℤ pos m) lies'.value lies'.is in
    let begin = lies.first in
    let end = lies'.last in
    let at : (j : ℕ) → j ≤ m → outcome_of tree (front ++ (x +ℤ pos j) ∷ [])
    ≡ Some (found_at stretch.leaf ((x -ℤ stretch.first) +ℤ pos j)) =
    λ j short.
    let turn : (x +ℤ pos j) -ℤ stretch.first ≡ (x -ℤ stretch.first) +ℤ pos j = omega (arith, ints) in
    ap (λ o. outcome_of tree (o ++ (x +ℤ pos j) ∷ [])) low.0
    ∙ along_at tree stretch.outer stretch.first (stretch.last -ℤ stretch.first) (x +ℤ pos j) stretch.leaf along
    (omega (arith, ints, low.1)) (omega (arith, ints, high.1))
    ∙ ap (λ turn. Some (found_at stretch.leaf turn)) turn in
    let begun : (x -ℤ stretch.first) +ℤ pos 0 ≡ x -ℤ stretch.first = omega (arith, ints) in
    let begins : x +ℤ pos 0 ≡ x = omega (arith, ints) in
    let first : found_at stretch.leaf (x -ℤ stretch.first) ≡ at_point w (values_at (pos 0) from far) =
    same_Some _ _ (ap (λ t. Some (found_at stretch.leaf t)) (sym begun) ∙ sym (at 0 (omega arith))
    ∙ ap (λ v. outcome_of tree (front ++ v ∷ [])) begins ∙ gives) in
    let last : found_at stretch.leaf ((x -ℤ stretch.first) +ℤ pos m) ≡ at_point w (values_at (pos m) from far) =
    same_Some _ _ (sym (at m (omega arith)) ∙ gives') in
    at i le ∙ ap Some (leaf_between stretch.leaf w from far (x -ℤ stretch.first) m i some first last)

pub known_between : (tree : Tree) (follower : Follower) (front from far : List ℤ) (x : ℤ) (w m i : ℕ) → 0 < m → i ≤ m
    → IsStretchOf tree follower → IsTold tree follower (front ++ x ∷ []) w (values_at (pos 0) from far)
    → IsTold tree follower (front ++ (x +ℤ pos m) ∷ []) w (values_at (pos m) from far)
    → outcome_of tree (front ++ (x +ℤ pos i) ∷ []) ≡ Some (at_point w (values_at (pos i) from far))
known_between tree follower front from far x w m i some le known first last =
    go follower.stretch refl first.0 last.0 where
      go : (o : Option Stretch) → follower.stretch ≡ o → IsSomeAnd o (LiesIn (front ++ x ∷ []))
          → IsSomeAnd o (LiesIn (front ++ (x +ℤ pos m) ∷ []))
          → outcome_of tree (front ++ (x +ℤ pos i) ∷ []) ≡ Some (at_point w (values_at (pos i) from far))
      go None e lies lies' = absurd lies
      go (Some stretch) e lies lies' =
          stretch_between tree stretch front from far x w m i some le
          (IfSome-some (IsStretch tree) follower.stretch stretch e known) lies lies' first.1 last.1

-- the row: its ends among the reader's vectors, the writer's row, and what the tree gives at its ends
pub row_tag : (n : Nest) (points : List (List (List ℤ))) (tree : Tree) (follower : Follower)
    (s w turn next step m : ℕ) (at to from goal : List ℤ) → points ≡ points_of n → IsStretchOf tree follower → 0 < m
    → slice_get (get_or points s []) turn ≡ Some at → slice_get (get_or points s []) (turn + m) ≡ Some to
    → slice_get (get_or points w []) next ≡ Some from → slice_get (get_or points w []) (next + m * step) ≡ Some goal
    → IsAhead m at to → IsProgression (get_or points w []) next step m → IsTold tree follower at w from
    → IsTold tree follower to w goal → (i : ℕ) (here : List ℤ) → i ≤ m
    → slice_get (get_or points s []) (turn + i) ≡ Some here
    → GivesTag points tree here (record { process = w; turn = next + i * step })
row_tag n points tree follower s w turn next step m at to from goal whole known some is_at is_to is_from is_goal ahead
    row told told' i here le is_here =
    let front = ahead.front in
    let vectors : List (List ℤ) = get_or points s [] in
    let sorted : AreInOrder vectors =
    subst (λ of. AreInOrder (get_or of s [])) (sym whole) (vectors_in_order n s) in
    let even : AreEven vectors = subst (λ of. AreEven (get_or of s [])) (sym whole) (vectors_even n s) in
    let reader = row_at vectors sorted even front turn m ahead.value (is_at ∙ ap Some ahead.is_first)
    (is_to ∙ ap Some ahead.is_second) i le in
    let same : here ≡ front ++ (ahead.value +ℤ pos i) ∷ [] = same_Some _ _ (sym is_here ∙ reader) in
    let begin : next ≡ next + 0 * step = omega arith in
    let is_first : from ≡ values_at (pos 0) row.from row.steps =
    same_Some _ _ (sym is_from ∙ ap (slice_get (get_or points w [])) begin ∙ row.are 0 (omega arith)) in
    let is_last : goal ≡ values_at (pos m) row.from row.steps =
    same_Some _ _ (sym is_goal ∙ row.are m (omega arith)) in
    let first : IsTold tree follower (front ++ ahead.value ∷ []) w (values_at (pos 0) row.from row.steps) =
    subst (λ a. IsTold tree follower a w (values_at (pos 0) row.from row.steps)) ahead.is_first
    (subst (λ b. IsTold tree follower at w b) is_first told) in
    let last : IsTold tree follower (front ++ (ahead.value +ℤ pos m) ∷ []) w (values_at (pos m) row.from row.steps) =
    subst (λ a. IsTold tree follower a w (values_at (pos m) row.from row.steps)) ahead.is_second
    (subst (λ b. IsTold tree follower to w b) is_last told') in
    record {
      point = values_at (pos i) row.from row.steps;
      there = row.are i le;
      is =
          ap (outcome_of tree) same
          ∙ known_between tree follower front row.from row.steps ahead.value w m i some le known first last;
    }

-- Tags that are told, one after the other

module _ (points : List (List (List ℤ))) (tree : Tree) (vectors : List (List ℤ)) (turn next step left w : ℕ) where
  -- the tree gives the points of so many tags from this turn on
  abbrev pub AreNext : ℕ → ℕ → ℕ → Type 0
  AreNext turn next left =
      (i : ℕ) (at : List ℤ) → i < left → slice_get vectors (turn + i) ≡ Some at
      → GivesTag points tree at (record { process = w; turn = next + i * step })

  pub next_told : AreNext turn next left → 0 < left → (at : List ℤ) → slice_get vectors turn ≡ Some at
      → GivesTag points tree at (record { process = w; turn = next })
  next_told told lt at is =
      let there : next + 0 * step ≡ next = omega arith in
      subst (λ k. GivesTag points tree at (record { process = w; turn = k })) there
      (told 0 at lt (ap (slice_get vectors) (add-zero turn) ∙ is))

  pub later_told : AreNext turn next left → (more rest : ℕ) → more ≡ next + step → left ≡ suc rest
      → AreNext (turn + 1) more rest
  later_told told more rest goes fewer i at lt is =
      let here : turn + suc i ≡ turn + 1 + i = omega arith in
      let there : next + suc i * step ≡ more + i * step = omega (arith, goes, suc-mul i step) in
      subst (λ k. GivesTag points tree at (record { process = w; turn = k })) there
      (told (suc i) at (omega (arith, lt, fewer)) (ap (slice_get vectors) here ∙ is))
