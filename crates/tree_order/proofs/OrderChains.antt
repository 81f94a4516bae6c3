-- A point before a second one and this before a third: the first before the third.
--
-- The loops that are equal at all three are those before the lesser of the two levels. There the pair with the lesser
-- level decides, and the other is equal; where both levels are the same, both are less. Where the text decides the pair
-- with the lesser level, it decides the outer two as well: that is the text of a loop (`orders_compose`). Two points
-- that are the same have the level behind all their loops, which is less than no other.
use Rattle.std.proofs.Common.{◌≡◌, ◌+◌, ◌≤◌, ◌<◌, ℕ, zero, suc, pos, ◌+ℤ◌, List, [], ◌∷◌, ◌++◌}
use Rattle.std.proofs.Common.{length, inl, inr, refl, sym, ap, ◌∙◌, subst, arith}
use Rattle.std.specs.Prelude.{Option, Some, None, min, slice_get, slice_index_or}
use Rattle.std.specs.Option.{option_map}
use Rattle.std.proofs.lemmas.Bool.{cases_order}
use Rattle.std.proofs.lemmas.Int.{ints}
use Rattle.std.proofs.lemmas.Option.{same_Some}
use Rattle.affine_core.specs.declared.form.Form.{Form}
use Rattle.int_polyhedra.specs.declared.system.System.{System}
use Rattle.int_polyhedra.specs.declared.system.Term.{Term}
use Rattle.tree_order.specs.Orders.{difference_parts, strict_parts, equal_both, AreEqual, AreWritesOf, Composes}
use Rattle.tree_order.specs.Orders.{DecidesAt, DecidesThrough}
use Rattle.tree_order.specs.Reads.{StandsInLoopsOf}
use Rattle.tree_order.specs.declared.order.Equality.{Equality}
use Rattle.tree_order.specs.declared.order.Order.{Order}
use Rattle.tree_graphs.specs.Facts.{IsFact}
use Rattle.tree_graphs.specs.Level.{common_of}
use Rattle.tree_graphs.proofs.FactSums.{fact_same, fact_sum, fact_weaker}
use Rattle.sanlp.specs.declared.nest.Nest.{Nest}
use Rattle.sanlp.specs.declared.nest.Statement.{Statement}
use Rattle.sanlp.specs.Order.{common_loops}
use Rattle.sanlp.specs.Text.{TextComposes}
use Rattle.sanlp.proofs.TextOrders.{orders_compose}
use Rattle.sanlp.proofs.Precedence.{common_first, common_least, common_second, common_loops-same}
use Rattle.source_tree.specs.Systems.{Occurrence}

-- Sums of facts

difference_then : (context : System) (one two : ℕ) (z x y : Form) (ts us : List Term)
    → IsFact context one (difference_parts z x) ts → IsFact context two (difference_parts x y) us
    → IsFact context (one + two) (difference_parts z y) (ts ++ us)
difference_then context one two z x y ts us h k =
    fact_same context (one + two) (λ part. difference_parts z x part +ℤ difference_parts x y part)
    (difference_parts z y) (ts ++ us) (λ part. omega (arith, ints))
    (fact_sum context one two (difference_parts z x) (difference_parts x y) ts us h k)

back_then : (context : System) (one two : ℕ) (z x y : Form) (ts us : List Term)
    → IsFact context one (difference_parts x z) ts → IsFact context two (difference_parts y x) us
    → IsFact context (one + two) (difference_parts y z) (ts ++ us)
back_then context one two z x y ts us h k =
    fact_same context (one + two) (λ part. difference_parts x z part +ℤ difference_parts y x part)
    (difference_parts y z) (ts ++ us) (λ part. omega (arith, ints))
    (fact_sum context one two (difference_parts x z) (difference_parts y x) ts us h k)

strict_then : (context : System) (one two : ℕ) (z x y : Form) (ts us : List Term)
    → IsFact context one (strict_parts x z) ts → IsFact context two (difference_parts y x) us
    → IsFact context (one + two) (strict_parts y z) (ts ++ us)
strict_then context one two z x y ts us h k =
    fact_same context (one + two) (λ part. strict_parts x z part +ℤ difference_parts y x part) (strict_parts y z)
    (ts ++ us) (λ part. omega (arith, ints))
    (fact_sum context one two (strict_parts x z) (difference_parts y x) ts us h k)

-- the second pair's terms come first
then_strict : (context : System) (one two : ℕ) (z x y : Form) (ts us : List Term)
    → IsFact context one (difference_parts x z) ts → IsFact context two (strict_parts y x) us
    → IsFact context (one + two) (strict_parts y z) (us ++ ts)
then_strict context one two z x y ts us h k =
    subst (λ m. IsFact context m (strict_parts y z) (us ++ ts)) (let e : two + one ≡ one + two = omega arith in e)
    (fact_same context (two + one) (λ part. strict_parts y x part +ℤ difference_parts x z part) (strict_parts y z)
    (us ++ ts) (λ part. omega (arith, ints))
    (fact_sum context two one (strict_parts y x) (difference_parts x z) us ts k h))

strict_strict : (context : System) (one two : ℕ) (z x y : Form) (ts us : List Term)
    → IsFact context one (strict_parts x z) ts → IsFact context two (strict_parts y x) us
    → IsFact context (one + two) (strict_parts y z) (ts ++ us)
strict_strict context one two z x y ts us h k =
    fact_weaker context (one + two) (one + two) (λ part. strict_parts x z part +ℤ strict_parts y x part)
    (strict_parts y z) (ts ++ us) (omega arith) (omega (arith, ints))
    (λ i. let none : slice_index_or [] i (pos 0) ≡ pos 0 = refl in omega (arith, ints, none))
    (fact_sum context one two (strict_parts x z) (strict_parts y x) ts us h k)

-- Equal loops

pub equal_through : (context : System) (one two : ℕ) (z x y : List Form) (first second : List Equality)
    → AreEqual context one z x first → AreEqual context two x y second
    → AreEqual context (one + two) z y (equal_both first second)
equal_through context one two z x y [] second h k = tt
equal_through context one two z x y (e ∷ first) [] h k = tt
equal_through context one two [] x y (e ∷ first) (f ∷ second) h k = absurd h
equal_through context one two (a ∷ z) [] y (e ∷ first) (f ∷ second) h k = absurd h
equal_through context one two (a ∷ z) (b ∷ x) [] (e ∷ first) (f ∷ second) h k = absurd k
equal_through context one two (a ∷ z) (b ∷ x) (c ∷ y) (e ∷ first) (f ∷ second) h k = (
  (
    difference_then context one two a b c e.above f.above h.0.0 k.0.0,
    back_then context one two a b c e.below f.below h.0.1 k.0.1,
  ),
  equal_through context one two z x y first second h.1 k.1,
)

pub length_both : (first second : List Equality) → length (equal_both first second) ≡ min (length first) (length second)
length_both [] second = omega arith
length_both (e ∷ first) [] = omega arith
length_both (e ∷ first) (f ∷ second) = omega (arith, length_both first second)

-- an equal loop
record IsEqualAt (context : System) (most : ℕ) (z y : List Form) (l : ℕ) (e : Equality) : Type 0 where
  pub a : Form
  pub b : Form
  pub first : slice_get z l ≡ Some a
  pub second : slice_get y l ≡ Some b
  pub above : IsFact context most (difference_parts a b) e.above
  pub below : IsFact context most (difference_parts b a) e.below

equal_at : (context : System) (most : ℕ) (z y : List Form) (equal : List Equality) (l : ℕ) (e : Equality)
    → AreEqual context most z y equal → slice_get equal l ≡ Some e
    → IsEqualAt context most z y l e
equal_at context most z y [] l e h k = absurd (let f : None ≡ Some e = k in cc)
equal_at context most [] y (g ∷ equal) l e h k = absurd h
equal_at context most (a ∷ z) [] (g ∷ equal) l e h k = absurd h
equal_at context most (a ∷ z) (b ∷ y) (g ∷ equal) zero e h k =
    let same : g ≡ e = cc in
    subst (λ e. IsEqualAt context most (a ∷ z) (b ∷ y) zero e) same
    (record { a = a; b = b; first = refl; second = refl; above = h.0.0; below = h.0.1 })
equal_at context most (a ∷ z) (b ∷ y) (g ∷ equal) (suc l) e h k =
    let r : IsEqualAt context most z y l e = equal_at context most z y equal l e h.1 k in
    record { a = r.a; b = r.b; first = r.first; second = r.second; above = r.above; below = r.below }

-- Levels

decided_few : (context : System) (most : ℕ) (u w : Occurrence) (z y : List Form) (l : ℕ) (strict : Option (List Term))
    → DecidesAt context most u w z y l strict → l ≤ common_of u w
decided_few context most u w z y l (Some ts) d = omega (arith, d.0)
decided_few context most u w z y l None d = omega (arith, d.0)

-- writes of one statement share all its loops
same_loops : (n : Nest) (u v : Occurrence) → StandsInLoopsOf n u → StandsInLoopsOf n v → u.number ≡ v.number
    → u.statement.loops ≡ v.statement.loops
same_loops n u v e f same =
    sym e.loops ∙ ap (λ (s : Statement). s.loops)
    (same_Some e.statement f.statement (sym e.is ∙ ap (slice_get n.statements) same ∙ f.is)) ∙ f.loops

same_depth : (n : Nest) (u v : Occurrence) → StandsInLoopsOf n u → StandsInLoopsOf n v → u.number ≡ v.number
    → common_of u v ≡ length v.statement.loops
same_depth n u v e f same =
    ap (λ loops. common_loops loops v.statement.loops) (same_loops n u v e f same) ∙ common_loops-same v.statement.loops

-- orders by the text are told by the loops alone
text_of : (a b c : ℕ) (first middle last u v w : Statement) → first.loops ≡ u.loops → middle.loops ≡ v.loops
    → last.loops ≡ w.loops → TextComposes a b c first middle last → TextComposes a b c u v w
text_of a b c first middle last u v w e f g t =
    let one : common_loops first.loops middle.loops ≡ common_loops u.loops v.loops
    = ap (λ l. common_loops l middle.loops) e ∙ ap (common_loops u.loops) f in
    let two : common_loops middle.loops last.loops ≡ common_loops v.loops w.loops
    = ap (λ l. common_loops l last.loops) f ∙ ap (common_loops v.loops) g in
    let both : common_loops first.loops last.loops ≡ common_loops u.loops w.loops
    = ap (λ l. common_loops l last.loops) e ∙ ap (common_loops u.loops) g in
    record {
      outer = λ before less.
          (let k = t.outer before (omega (arith, one, two, less)) in (k.0, omega (arith, one, both, k.1)));
      inner = λ before less.
          (let k = t.inner before (omega (arith, one, two, less)) in (k.0, omega (arith, two, both, k.1)));
      both = λ before later same.
          (let k = t.both before later (omega (arith, one, two, same)) in (k.0, omega (arith, one, both, k.1)));
    }

module _ (n : Nest) (context : System) (one two : ℕ) (u v w : Occurrence) (z x y : List Form)
    (writes : AreWritesOf n u v w) where
  text : TextComposes u.number v.number w.number u.statement v.statement w.statement
  text = text_of u.number v.number w.number writes.first.statement writes.second.statement writes.third.statement
      u.statement v.statement w.statement writes.first.loops writes.second.loops writes.third.loops
      (orders_compose n u.number v.number w.number writes.first.statement writes.second.statement
      writes.third.statement writes.first.is writes.second.is writes.third.is)

  -- the first pair decides
  outer : (l m : ℕ) (strict : Option (List Term)) (e : Equality) → l < m → m ≤ common_of v w
      → DecidesAt context one u v z x l strict → IsEqualAt context two x y l e
      → DecidesAt context (one + two) u w z y l (option_map (λ ts. ts ++ e.below) strict)
  outer l m (Some ts) e lt few d k =
      let least = common_least u.statement.loops v.statement.loops w.statement.loops in
      let same : d.1.b ≡ k.a = same_Some d.1.b k.a (sym d.1.second ∙ k.first) in (
        omega (arith, lt, few, d.0, least),
        record {
          a = d.1.a;
          b = k.b;
          first = d.1.first;
          second = k.second;
          fact = strict_then context one two d.1.a k.a k.b ts e.below
              (subst (λ b. IsFact context one (strict_parts b d.1.a) ts) same d.1.fact) k.below;
        },
      )
  outer l m None e lt few d k = elim (cases_order u.number v.number) [
    | inl same ↦ absurd (omega (
      arith,
      lt,
      few,
      d.0,
      same_depth n u v writes.first writes.second same,
      common_first v.statement.loops w.statement.loops,
    ))
    | inr other ↦ elim other [
      | inl before ↦
          let t = text.outer before (omega (arith, lt, few, d.0)) in
          (omega (arith, d.0, t.1), omega (arith, t.0))
      | inr after ↦ absurd (omega (arith, after, d.1))
    ]
  ]

  -- the second pair decides
  inner : (l m : ℕ) (strict : Option (List Term)) (e : Equality) → l < m → m ≤ common_of u v
      → DecidesAt context two v w x y l strict → IsEqualAt context one z x l e
      → DecidesAt context (one + two) u w z y l (option_map (λ ts. ts ++ e.below) strict)
  inner l m (Some ts) e lt few d k =
      let least = common_least u.statement.loops v.statement.loops w.statement.loops in
      let same : d.1.a ≡ k.b = same_Some d.1.a k.b (sym d.1.first ∙ k.second) in (
        omega (arith, lt, few, d.0, least),
        record {
          a = k.a;
          b = d.1.b;
          first = k.first;
          second = d.1.second;
          fact = then_strict context one two k.a k.b d.1.b e.below ts k.below
              (subst (λ a. IsFact context two (strict_parts d.1.b a) ts) same d.1.fact);
        },
      )
  inner l m None e lt few d k = elim (cases_order v.number w.number) [
    | inl same ↦ absurd (omega (
      arith,
      lt,
      few,
      d.0,
      same_depth n v w writes.second writes.third same,
      common_second
          u.statement.loops v.statement.loops,
      common_first v.statement.loops w.statement.loops,
      depth_of same,
    ))
    | inr other ↦ elim other [
      | inl before ↦
          let t = text.inner before (omega (arith, lt, few, d.0)) in
          (omega (arith, d.0, t.1), omega (arith, t.0))
      | inr after ↦ absurd (omega (arith, after, d.1))
    ]
  ] where
    depth_of : v.number ≡ w.number → length v.statement.loops ≡ length w.statement.loops
    depth_of same = ap length (same_loops n v w writes.second writes.third same)

  -- both are less at one loop
  both : (l : ℕ) (strict : Option (List Term)) (us : List Term) → DecidesAt context one u v z x l strict
      → DecidesAt context two v w x y l (Some us)
      → DecidesAt context (one + two) u w z y l (option_map (λ ts. ts ++ us) strict)
  both l (Some ts) us d k =
      let least = common_least u.statement.loops v.statement.loops w.statement.loops in
      let same : d.1.b ≡ k.1.a = same_Some d.1.b k.1.a (sym d.1.second ∙ k.1.first) in (
        omega (arith, d.0, k.0, least),
        record {
          a = d.1.a;
          b = k.1.b;
          first = d.1.first;
          second = k.1.second;
          fact = strict_strict context one two d.1.a k.1.a k.1.b ts us
              (subst (λ b. IsFact context one (strict_parts b d.1.a) ts) same d.1.fact) k.1.fact;
        },
      )
  both l None us d k = elim (cases_order u.number v.number) [
    | inl same ↦ absurd (omega (
      arith,
      d.0,
      k.0,
      same_depth n u v writes.first writes.second same,
      common_first v.statement.loops w.statement.loops,
    ))
    | inr other ↦ elim other [
      | inl before ↦
          let t = text.outer before (omega (arith, d.0, k.0)) in
          (omega (arith, d.0, t.1), omega (arith, t.0))
      | inr after ↦ absurd (omega (arith, after, d.1))
    ]
  ]

  -- the second pair is decided by the text, or is one point
  neither : (l : ℕ) (strict : Option (List Term)) → DecidesAt context one u v z x l strict
      → DecidesAt context two v w x y l None → DecidesAt context (one + two) u w z y l None
  neither l (Some ts) d k = elim (cases_order v.number w.number) [
    | inl same ↦ absurd (omega (
      arith,
      d.0,
      k.0,
      same_depth n v w writes.second writes.third same,
      common_second u.statement.loops v.statement.loops,
      depth_of same,
    ))
    | inr other ↦ elim other [
      | inl before ↦
          let t = text.inner before (omega (arith, d.0, k.0)) in
          (omega (arith, k.0, t.1), omega (arith, t.0))
      | inr after ↦ absurd (omega (arith, after, k.1))
    ]
  ] where
    depth_of : v.number ≡ w.number → length v.statement.loops ≡ length w.statement.loops
    depth_of same = ap length (same_loops n v w writes.second writes.third same)
  neither l None d k = elim (cases_order u.number v.number) [
    | inl same ↦ (omega (arith, k.0, from_second same), omega (arith, same, k.1))
    | inr other ↦ elim other [
      | inl before ↦ elim (cases_order v.number w.number) [
        | inl alike ↦ (omega (arith, d.0, to_third alike), omega (arith, before, alike))
        | inr further ↦ elim further [
          | inl later ↦
              let t = text.both before later (omega (arith, d.0, k.0)) in
              (omega (arith, d.0, t.1), omega (arith, t.0))
          | inr after ↦ absurd (omega (arith, after, k.1))
        ]
      ]
      | inr after ↦ absurd (omega (arith, after, d.1))
    ]
  ] where
    from_second : u.number ≡ v.number → common_of v w ≡ common_of u w
    from_second same = ap (λ loops. common_loops loops w.statement.loops)
        (sym (same_loops n u v writes.first writes.second same))

    to_third : v.number ≡ w.number → common_of u v ≡ common_of u w
    to_third same = ap (common_loops u.statement.loops) (same_loops n v w writes.second writes.third same)

-- The functions

within : (xs : List Equality) (k : ℕ) (e : Equality) → slice_get xs k ≡ Some e → k < length xs
within [] k e g = absurd (let f : None ≡ Some e = g in cc)
within (x ∷ xs) zero e g = omega arith
within (x ∷ xs) (suc k) e g = omega (arith, within xs k e g)

beyond : (xs : List Equality) (k : ℕ) → slice_get xs k ≡ None → length xs ≤ k
beyond [] k g = omega arith
beyond (x ∷ xs) zero g = absurd (let f : Some x ≡ None = g in cc)
beyond (x ∷ xs) (suc k) g = omega (arith, beyond xs k g)

pub through_outer : (first second : Order) (e : Equality) → slice_get second.equal (length first.equal) ≡ Some e
    → DecidesThrough first second (option_map (λ ts. ts ++ e.below) first.strict)
through_outer first second e g n context one two u v w z x y writes h k =
    let lt : length first.equal < length second.equal = within second.equal (length first.equal) e g in
    let here : length first.equal ≡ min (length first.equal) (length second.equal) = omega (arith, lt) in
    subst (λ l. DecidesAt context (one + two) u w z y l (option_map (λ ts. ts ++ e.below) first.strict)) here
    (outer n context one two u v w z x y writes (length first.equal) (length second.equal) first.strict e lt
    (decided_few context two v w x y (length second.equal) second.strict k.decides) h.decides
    (equal_at context two x y second.equal (length first.equal) e k.equal g))

pub through_inner : (first second : Order) (e : Equality) → slice_get first.equal (length second.equal) ≡ Some e
    → DecidesThrough first second (option_map (λ ts. ts ++ e.below) second.strict)
through_inner first second e g n context one two u v w z x y writes h k =
    let lt : length second.equal < length first.equal = within first.equal (length second.equal) e g in
    let here : length second.equal ≡ min (length first.equal) (length second.equal) = omega (arith, lt) in
    subst (λ l. DecidesAt context (one + two) u w z y l (option_map (λ ts. ts ++ e.below) second.strict)) here
    (inner n context one two u v w z x y writes (length second.equal) (length first.equal) second.strict e lt
    (decided_few context one u v z x (length first.equal) first.strict h.decides) k.decides
    (equal_at context one z x first.equal (length second.equal) e h.equal g))

same_level : (first second : Order) → slice_get second.equal (length first.equal) ≡ None
    → slice_get first.equal (length second.equal) ≡ None → length first.equal ≡ length second.equal
same_level first second f g =
    omega (arith, beyond second.equal (length first.equal) f, beyond first.equal (length second.equal) g)

pub through_both : (first second : Order) (us : List Term) → slice_get second.equal (length first.equal) ≡ None
    → slice_get first.equal (length second.equal) ≡ None → second.strict ≡ Some us
    → DecidesThrough first second (option_map (λ ts. ts ++ us) first.strict)
through_both first second us f g s n context one two u v w z x y writes h k =
    let same : length first.equal ≡ length second.equal = same_level first second f g in
    let here : length first.equal ≡ min (length first.equal) (length second.equal) = omega (arith, same) in
    let last : DecidesAt context two v w x y (length second.equal) (Some us) =
    subst (λ s. DecidesAt context two v w x y (length second.equal) s) s k.decides in
    subst (λ l. DecidesAt context (one + two) u w z y l (option_map (λ ts. ts ++ us) first.strict)) here
    (both n context one two u v w z x y writes (length first.equal) first.strict us h.decides
    (subst (λ l. DecidesAt context two v w x y l (Some us)) (sym same) last))

pub through_text : (first second : Order) → slice_get second.equal (length first.equal) ≡ None
    → slice_get first.equal (length second.equal) ≡ None → second.strict ≡ None
    → DecidesThrough first second None
through_text first second f g s n context one two u v w z x y writes h k =
    let same : length first.equal ≡ length second.equal = same_level first second f g in
    let here : length first.equal ≡ min (length first.equal) (length second.equal) = omega (arith, same) in
    let last : DecidesAt context two v w x y (length second.equal) None =
    subst (λ s. DecidesAt context two v w x y (length second.equal) s) s k.decides in
    subst (λ l. DecidesAt context (one + two) u w z y l None) here
    (neither n context one two u v w z x y writes (length first.equal) first.strict h.decides
    (subst (λ l. DecidesAt context two v w x y l None) (sym same) last))

pub composes : (first second order : Order) → order.equal ≡ equal_both first.equal second.equal
    → DecidesThrough first second order.strict → Composes first second order
composes first second order e d n context one two u v w z x y writes h k = record {
  equal = subst (AreEqual context (one + two) z y) (sym e)
      (equal_through context one two z x y first.equal second.equal h.equal k.equal);
  decides = subst (λ l. DecidesAt context (one + two) u w z y l order.strict)
      (sym (ap length e ∙ length_both first.equal second.equal)) (d n context one two u v w z x y writes h k);
}
