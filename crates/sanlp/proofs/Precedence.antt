-- The loops that two lists have in common, and the order of iteration vectors and of points.
--
-- Two points are compared by the values of the loops that are round both, the outermost first, and then by the numbers
-- of their statements. Along the common loops: a value that is less or greater decides, and where values are the same
-- what the inner ones decide goes on to hold (`decided`). The vectors are at least as long as there are common loops, so
-- no value is missing; values further in are not looked at. Common loops are counted from the outermost: loops that are
-- the same behind a first difference don't count.
use Rattle.std.proofs.Common.{◌≡◌, ◌<◌, ◌≤◌, ◌+◌, ℕ, zero, suc, ℤ, ◌<ℤ◌, List, [], ◌∷◌, ◌++◌, length, take, Bool, true}
use Rattle.std.proofs.Common.{false, cond, inl, inr, refl, sym, ap, ◌∙◌, subst, arith}
use Rattle.std.specs.Prelude.{◌==◌, min, nat_lt, Some, slice_get}
use Rattle.std.specs.Option.{option_map_or}
use Rattle.std.specs.Ordering.{MatchOrdering, int_cmp, ordering_then}
use Rattle.std.specs.declared.cmp.Ordering.{Ordering}
use Rattle.std.specs.declared.cmp.Ordering.TheVariants.{Less, Equal, Greater}
use Rattle.std.specs.Cmp.Lexicographic.{slice_cmp}
use Rattle.std.proofs.lemmas.Bool.{cases_Bool, eq-eqb, eqb-true, ne_eqb}
use Rattle.std.proofs.lemmas.Cmp.{int_ranked}
use Rattle.std.proofs.lemmas.Int.{ints}
use Rattle.sanlp.specs.declared.nest.Nest.{Nest}
use Rattle.sanlp.specs.declared.nest.Point.{Point}
use Rattle.sanlp.specs.declared.nest.Statement.{Statement}
use Rattle.sanlp.specs.Order.{common_loops, loops_round_point, Precedes, PrecedesWithin}
use Rattle.sanlp.proofs.Members.{In}

-- what each answer of a comparison of the outermost values says
abbrev pub IsDecided : Ordering → Type 0 → Bool → Type 0
IsDecided r P less = MatchOrdering r P ((P → less ≡ true) × (less ≡ true → P)) (P → ⊥)

decided_same : (r : Ordering) (v w : ℤ) (c : ℕ) (less : Bool) (at bt : List ℤ) → v ≡ w
    → IsDecided r (PrecedesWithin c less at bt) less → IsDecided r (PrecedesWithin (suc c) less (v ∷ at) (w ∷ bt)) less
decided_same Less v w c less at bt e h = inr (e, h)
decided_same Equal v w c less at bt e h =
    (λ p. elim p [ inl lt ↦ absurd (omega (arith, ints)) | inr q ↦ h.0 q.1 ], λ l. inr (e, h.1 l))
decided_same Greater v w c less at bt e h = λ p. elim p [ inl lt ↦ absurd (omega (arith, ints)) | inr q ↦ h q.1 ]

decided_next : (r s : Ordering) (v w : ℤ) (c : ℕ) (less : Bool) (at bt : List ℤ)
    → MatchOrdering r (v <ℤ w) (v ≡ w) (w <ℤ v)
    → IsDecided s (PrecedesWithin c less at bt) less
    → IsDecided (ordering_then r s) (PrecedesWithin (suc c) less (v ∷ at) (w ∷ bt)) less
decided_next Less s v w c less at bt m h = inl m
decided_next Equal s v w c less at bt m h = decided_same s v w c less at bt m h
decided_next Greater s v w c less at bt m h =
    λ p. elim p
    [ inl lt ↦ absurd (omega (arith, ints)) | inr q ↦ (let e : v ≡ w = q.0 in absurd (omega (arith, ints))) ]

pub decided : (c : ℕ) (less : Bool) (at bt : List ℤ) → c ≤ length at → c ≤ length bt
    → IsDecided (slice_cmp int_cmp (take c at) (take c bt)) (PrecedesWithin c less at bt) less
decided zero less at bt h k = (λ p. p, λ p. p)
decided (suc c) less [] bt h k = absurd (omega arith)
decided (suc c) less (v ∷ at) [] h k = absurd (omega arith)
decided (suc c) less (v ∷ at) (w ∷ bt) h k =
    decided_next (int_cmp v w) (slice_cmp int_cmp (take c at) (take c bt)) v w c less at bt
    (int_ranked v w (int_cmp v w) refl) (decided c less at bt (omega arith) (omega arith))

pub common_first : (ks ls : List ℕ) → common_loops ks ls ≤ length ks
common_first [] ls = omega arith
common_first (k ∷ ks) [] = omega arith
common_first (k ∷ ks) (l ∷ ls) = by_head (k == l) (common_first ks ls) where
  by_head : (b : Bool) → common_loops ks ls ≤ length ks → cond b (suc (common_loops ks ls)) 0 ≤ suc (length ks)
  by_head true h = omega arith
  by_head false h = omega arith

pub common_second : (ks ls : List ℕ) → common_loops ks ls ≤ length ls
common_second [] ls = omega arith
common_second (k ∷ ks) [] = omega arith
common_second (k ∷ ks) (l ∷ ls) = by_head (k == l) (common_second ks ls) where
  by_head : (b : Bool) → common_loops ks ls ≤ length ls → cond b (suc (common_loops ks ls)) 0 ≤ suc (length ls)
  by_head true h = omega arith
  by_head false h = omega arith

-- lists that begin with the same loops
pub common_front : (loops ks ls : List ℕ)
    → common_loops (loops ++ ks) (loops ++ ls) ≡ length loops + common_loops ks ls
common_front [] ks ls = let e : common_loops ks ls ≡ 0 + common_loops ks ls = omega arith in e
common_front (k ∷ loops) ks ls =
    ap (λ b. cond b (suc (common_loops (loops ++ ks) (loops ++ ls))) 0) (eq-eqb k k refl)
    ∙ (let h : common_loops (loops ++ ks) (loops ++ ls)
    ≡ length loops + common_loops ks ls = common_front loops ks ls in
    let e : suc (common_loops (loops ++ ks) (loops ++ ls)) ≡ suc (length loops) + common_loops ks ls =
    omega (arith, h) in e)

-- loops of which all of the one come before all of the other have none in common
pub common_none : (ks ls : List ℕ) → ((k l : ℕ) → In k ks → In l ls → k < l) → common_loops ks ls ≡ 0
common_none [] ls h = refl
common_none (k ∷ ks) [] h = refl
common_none (k ∷ ks) (l ∷ ls) h =
    let lt : k < l = h k l (inl refl) (inl refl) in
    ap (λ b. cond b (suc (common_loops ks ls)) 0) (ne_eqb k l (λ e. omega arith))

pub common_loops-same : (ks : List ℕ) → common_loops ks ks ≡ length ks
common_loops-same [] = refl
common_loops-same (k ∷ ks) =
    ap (λ b. cond b (suc (common_loops ks ks)) 0) (eq-eqb k k refl) ∙ ap suc (common_loops-same ks)

pub common_loops-comm : (ks ls : List ℕ) → common_loops ks ls ≡ common_loops ls ks
common_loops-comm [] [] = refl
common_loops-comm [] (l ∷ ls) = refl
common_loops-comm (k ∷ ks) [] = refl
common_loops-comm (k ∷ ks) (l ∷ ls) = elim (cases_Bool (k == l)) [
  | inl e ↦
      let back : (l == k) ≡ true = eq-eqb l k (sym (eqb-true k l e)) in
      ap (λ b. cond b (suc (common_loops ks ls)) 0) e
      ∙ ap suc (common_loops-comm ks ls)
      ∙ ap (λ b. cond b (suc (common_loops ls ks)) 0) (sym back)
  | inr e ↦
      let back : (l == k) ≡ false = ne_eqb l k (λ s. (let both : true ≡ false = sym (eq-eqb k l (sym s)) ∙ e in cc)) in
      ap (λ b. cond b (suc (common_loops ks ls)) 0) e ∙ ap (λ b. cond b (suc (common_loops ls ks)) 0) (sym back)
]

-- what two lists share with a third they share with each other
pub common_least : (ks ls ms : List ℕ) → min (common_loops ks ls) (common_loops ls ms) ≤ common_loops ks ms
common_least [] ls ms = omega arith
common_least (k ∷ ks) [] ms = omega arith
common_least (k ∷ ks) (l ∷ ls) [] = omega arith
common_least (k ∷ ks) (l ∷ ls) (m ∷ ms) = elim (cases_Bool (k == l)) [
  | inr other ↦
      let none : common_loops (k ∷ ks) (l ∷ ls) ≡ 0 = ap (λ b. cond b (suc (common_loops ks ls)) 0) other in
      omega (arith, none)
  | inl same ↦ elim (cases_Bool (l == m)) [
    | inr other ↦
        let none : common_loops (l ∷ ls) (m ∷ ms) ≡ 0 = ap (λ b. cond b (suc (common_loops ls ms)) 0) other in
        omega (arith, none)
    | inl same' ↦
        let all : (k == m) ≡ true = eq-eqb k m (eqb-true k l same ∙ eqb-true l m same') in
        let first : common_loops (k ∷ ks) (l ∷ ls) ≡ suc (common_loops ks ls) =
        ap (λ b. cond b (suc (common_loops ks ls)) 0) same in
        let second : common_loops (l ∷ ls) (m ∷ ms) ≡ suc (common_loops ls ms) =
        ap (λ b. cond b (suc (common_loops ls ms)) 0) same' in
        let outer : common_loops (k ∷ ks) (m ∷ ms) ≡ suc (common_loops ks ms) =
        ap (λ b. cond b (suc (common_loops ks ms)) 0) all in
        omega (arith, first, second, outer, common_least ks ls ms)
  ]
]

-- the loops round a point whose statement is known
pub loops_found : (n : Nest) (p : Point) (s : Statement) → slice_get n.statements p.statement ≡ Some s
    → loops_round_point n p ≡ s.loops
loops_found n p s e = ap (λ o. option_map_or (λ s. s.loops) o []) e

-- comparing the values of the common loops decides whether one point precedes another
pub points_decided : (n : Nest) (p q : Point) (s u : Statement) → slice_get n.statements p.statement ≡ Some s
    → slice_get n.statements q.statement ≡ Some u
    → length p.at ≡ length (loops_round_point n p) → length q.at ≡ length (loops_round_point n q)
    → (c : ℕ) → c ≡ common_loops s.loops u.loops → (at bt : List ℤ) → at ≡ p.at → bt ≡ q.at
    → (r : Ordering) → r ≡ slice_cmp int_cmp (take c at) (take c bt)
    → IsDecided r (Precedes n p q) (nat_lt p.statement q.statement)
points_decided n p q s u found other deep deep' c ec at bt ea eb r er =
    let ks : List ℕ = loops_round_point n p in
    let ls : List ℕ = loops_round_point n q in
    let common : c ≡ common_loops ks ls =
    ec ∙ ap (λ ms. common_loops ms u.loops) (sym (loops_found n p s found))
    ∙ ap (common_loops ks) (sym (loops_found n q u other)) in
    let compared : slice_cmp int_cmp (take (common_loops ks ls) p.at) (take (common_loops ks ls) q.at) ≡ r =
    sym (er ∙ ap (λ d. slice_cmp int_cmp (take d at) (take d bt)) common
    ∙ ap (λ xs. slice_cmp int_cmp (take (common_loops ks ls) xs) (take (common_loops ks ls) bt)) ea
    ∙ ap (λ xs. slice_cmp int_cmp (take (common_loops ks ls) p.at) (take (common_loops ks ls) xs)) eb) in
    subst (λ r. IsDecided r (Precedes n p q) (nat_lt p.statement q.statement)) compared
    (decided (common_loops ks ls) (nat_lt p.statement q.statement) p.at q.at (omega (arith, common_first ks ls, deep))
    (omega (arith, common_second ks ls, deep')))
