-- The trace has exactly the points of the iteration domains, each once, in the order of execution.
--
-- Three inductions on the nodes are joined here: each point of a node comes from a place of it, with values at which
-- the place's rows hold (Domains); each such vector is reached (DomainPoints); of two points of a node the one that
-- precedes stands first (ExecutionOrder). The facts of a nest say that the places are those that the statements name, in
-- ascending order. No two points precede each other, so "each once" and "earlier exactly where it precedes" follow
-- from the order alone.
use Rattle.std.proofs.Common.{◌≡◌, ◌<◌, ◌≤◌, ℕ, zero, suc, ◌+◌, ℤ, List, [], ◌∷◌, length, Bool, true, inl, inr, refl}
use Rattle.std.proofs.Common.{sym, ap, ◌∙◌, subst, arith}
use Rattle.std.specs.Prelude.{nat_lt, Some, slice_get}
use Rattle.std.proofs.lemmas.Bool.{cases_order, ltb-true}
use Rattle.std.proofs.lemmas.Int.{ints}
use Rattle.std.proofs.lemmas.Option.{same_Some}
use Rattle.sanlp.specs.declared.nest.Nest.{Nest}
use Rattle.sanlp.specs.declared.nest.Point.{Point}
use Rattle.sanlp.specs.declared.nest.Statement.{Statement}
use Rattle.sanlp.specs.Order.{EnumeratesDomains, IsPoint, Precedes, PrecedesWithin, common_loops, loops_round_point}
use Rattle.sanlp.specs.Trace.{trace}
use Rattle.sanlp.specs.WellFormed.{Place, all_loops, all_places, said_from}
use Rattle.sanlp.proofs.BoundRows.{AllHold, each_holds, hold_each}
use Rattle.sanlp.proofs.Domains.{FitsIn, HasOrigins, Origin, Round, each_fits, origins, parts_origins}
use Rattle.sanlp.proofs.Each.{Each, each_of, each_then}
use Rattle.sanlp.proofs.Members.{In, Pairwise, at_in, range_with_len_ascends, each_from_in, in_at, pairwise_at}
use Rattle.sanlp.proofs.ExecutionOrder.{Ascends, InOrder, IsOrdered, IsSaid, ordered, parts_ordered}
use Rattle.sanlp.proofs.Precedence.{common_loops-comm}
use Rattle.sanlp.proofs.DomainPoints.{IsReached, parts_reached, reached}

-- no two points precede each other
within_asymmetric : (c : ℕ) (less less' : Bool) (at bt : List ℤ) → (less ≡ true → less' ≡ true → ⊥)
    → PrecedesWithin c less at bt → PrecedesWithin c less' bt at → ⊥
within_asymmetric zero less less' at bt h k l = h k l
within_asymmetric (suc c) less less' [] bt h k l = k
within_asymmetric (suc c) less less' (v ∷ at) [] h k l = k
within_asymmetric (suc c) less less' (v ∷ at) (w ∷ bt) h k l = elim k [
  | inl lt ↦ elim l [ inl gt ↦ omega (arith, ints) | inr q ↦ (let e : w ≡ v = q.0 in omega (arith, ints)) ]
  | inr p ↦ elim l [
    | inl gt ↦ (let e : v ≡ w = p.0 in omega (arith, ints))
    | inr q ↦ within_asymmetric c less less' at bt h p.1 q.1
  ]
]

pub precedes_asymmetric : (n : Nest) (p q : Point) → Precedes n p q → Precedes n q p → ⊥
precedes_asymmetric n p q h k =
    let back : PrecedesWithin (common_loops (loops_round_point n p) (loops_round_point n q))
    (nat_lt q.statement p.statement) q.at p.at =
    subst (λ c. PrecedesWithin c (nat_lt q.statement p.statement) q.at p.at)
    (common_loops-comm (loops_round_point n q) (loops_round_point n p)) k in
    within_asymmetric (common_loops (loops_round_point n p) (loops_round_point n q)) (nat_lt p.statement q.statement)
    (nat_lt q.statement p.statement) p.at q.at
    (λ e f. (let lt : p.statement < q.statement = ltb-true p.statement q.statement e
    in let gt : q.statement < p.statement = ltb-true q.statement p.statement f in omega arith)) h back

-- the places that statements say
pub record SaidAt (k : ℕ) (statements : List Statement) (place : Place) : Type 0 where
  pub index : ℕ
  pub statement : Statement
  pub found : slice_get statements index ≡ Some statement
  pub is : place ≡ record { statement = k + index; loops = statement.loops; rows = statement.rows }

abbrev pub place_of : ℕ → Statement → Place
place_of k s = record { statement = k; loops = s.loops; rows = s.rows }

said_in : (k : ℕ) (statements : List Statement) (place : Place) → In place (said_from k statements)
    → SaidAt k statements place
said_in k [] place h = absurd h
said_in k (s ∷ statements) place h = elim h [
  | inl e ↦ (let first : k
      ≡ k + 0 = omega arith
      in record { index = 0; statement = s; found = refl; is = sym e ∙ ap (λ m. place_of m s) first })
  | inr l ↦
      let rest : SaidAt (k + 1) statements place = said_in (k + 1) statements place l in
      let next : k + 1 + rest.index ≡ k + suc rest.index = omega arith in
      record {
        index = suc rest.index;
        statement = rest.statement;
        found = rest.found;
        is = rest.is
            ∙ ap (λ m. place_of m rest.statement) next;
      }
]

pub said_at : (k : ℕ) (statements : List Statement) (i : ℕ) (s : Statement) → slice_get statements i ≡ Some s
    → slice_get (said_from k statements) i ≡ Some (place_of (k + i) s)
said_at k [] i s e = cc
said_at k (t ∷ statements) zero s e =
    let first : k ≡ k + 0 = omega arith in
    ap (λ t. Some (place_of k t)) (same_Some t s e) ∙ ap (λ m. Some (place_of m s)) first
said_at k (t ∷ statements) (suc i) s e =
    let next : k + 1 + i ≡ k + suc i = omega arith in
    said_at (k + 1) statements i s e ∙ ap (λ m. Some (place_of m s)) next

pub in_said : (k : ℕ) (statements : List Statement) (i : ℕ) (s : Statement) → slice_get statements i ≡ Some s
    → In (place_of (k + i) s) (said_from k statements)
in_said k statements i s e =
    at_in (place_of (k + i) s) (said_from k statements) i (said_at k statements i s e)

said_above : (k b : ℕ) (statements : List Statement) → b ≤ k
    → Each (λ place. b ≤ place.statement) (said_from k statements)
said_above k b [] h = tt
said_above k b (s ∷ statements) h = (h, said_above (k + 1) b statements (omega arith))

module _ (n : Nest) where
  said_ascends : (k : ℕ) (statements : List Statement) → Pairwise (Ascends n) (said_from k statements)
  said_ascends k [] = tt
  said_ascends k (s ∷ statements) = (
    each_then (λ place. k + 1 ≤ place.statement) (λ place. k < place.statement) (said_from (k + 1) statements)
        (λ place h. omega arith) (said_above (k + 1) (k + 1) statements (omega arith)),
    said_ascends (k + 1) statements,
  )

  is_said : (place : Place) → In place (said_from 0 n.statements) → IsSaid n place
  is_said place h =
      let said : SaidAt 0 n.statements place = said_in 0 n.statements place h in
      let numbered : place.statement ≡ said.index = ap (λ (place : Place). place.statement) said.is ∙ omega arith in
      record {
        statement = said.statement;
        found = ap (slice_get n.statements) numbered ∙ said.found;
        loops =
            sym (ap (λ (place : Place). place.loops) said.is);
      }

  in_order : InOrder n (all_places n.body [] []) (all_loops n.body)
  in_order = record {
    said = subst (Each (IsSaid n)) (sym n.well_formed.placed)
        (each_from_in (IsSaid n) (said_from 0 n.statements) is_said);
    ascends = subst (Pairwise (Ascends n)) (sym n.well_formed.placed) (said_ascends 0 n.statements);
    numbered =
        subst (Pairwise (λ j k. j < k)) (sym n.well_formed.loops_numbered)
        (range_with_len_ascends 0 (length (all_loops n.body)));
  }

  fits : Each (FitsIn 0) n.body
  fits = each_fits 0 n.body n.well_formed.forms_fit

  outside : Round [] [] []
  outside = record { lengths = refl; over = tt; holds = tt }

  pub trace_in_order : Pairwise (Precedes n) (trace n)
  unfolding trace
  trace_in_order = parts_ordered n n.body (each_of (IsOrdered n) n.body (ordered n)) [] [] [] fits outside in_order

  pub entry_is_point : (p : Point) → In p (trace n) → IsPoint n p
  unfolding trace
  entry_is_point p h =
      let o : Origin (all_places n.body [] []) (all_loops n.body) [] [] p =
      parts_origins n.body (each_of HasOrigins n.body origins) [] [] [] fits outside p h in
      let said : SaidAt 0 n.statements o.place =
      said_in 0 n.statements o.place (subst (In o.place) n.well_formed.placed o.placed) in
      let numbered : p.statement ≡ said.index =
      o.numbered ∙ ap (λ (place : Place). place.statement) said.is ∙ omega arith in
      record {
        statement = said.statement;
        found = ap (slice_get n.statements) numbered ∙ said.found;
        deep = o.deep ∙ ap (λ (place : Place). length place.loops) said.is;
        holds = each_holds said.statement.rows p.at
            (subst (λ (place : Place). AllHold place.rows p.at) said.is o.holds);
      }

  pub point_is_entry : (p : Point) → IsPoint n p → In p (trace n)
  unfolding trace
  point_is_entry p is =
      let zeroth : 0 + p.statement ≡ p.statement = omega arith in
      let place : Place = place_of p.statement is.statement in
      let placed : In place (all_places n.body [] []) =
      subst (In place) (sym n.well_formed.placed)
      (subst (λ k. In (place_of k is.statement) (said_from 0 n.statements)) zeroth
      (in_said 0 n.statements p.statement is.statement is.found)) in
      parts_reached n.body (each_of IsReached n.body reached) [] [] [] fits refl tt place placed p.at is.deep
      (hold_each is.statement.rows p.at is.holds)

pub enumerates_domains : (n : Nest) → EnumeratesDomains n (trace n)
enumerates_domains n = record {
  entry = λ t p e. entry_is_point n p (at_in p (trace n) t e);
  point = λ p is. in_at p (trace n) (point_is_entry n p is);
  once = λ t u p e f. elim (cases_order t u) [
    | inl same ↦ same
    | inr k ↦ elim k [
      | inl lt ↦ (let self = pairwise_at (Precedes n) (trace n) t u p p (trace_in_order n) e f lt in absurd
          (precedes_asymmetric n p p self self))
      | inr gt ↦ (let self = pairwise_at (Precedes n) (trace n) u t p p (trace_in_order n) f e gt in absurd
          (precedes_asymmetric n p p self self))
    ]
  ];
  later = λ t u p q e f lt. pairwise_at (Precedes n) (trace n) t u p q (trace_in_order n) e f lt;
  earlier = λ t u p q e f h. elim (cases_order t u) [
    | inl same ↦
        let equal : p ≡ q = same_Some p q (sym e ∙ ap (slice_get (trace n)) same ∙ f) in
        let self : Precedes n p p = subst (λ x. Precedes n p x) (sym equal) h in
        absurd (precedes_asymmetric n p p self self)
    | inr k ↦ elim k [
      | inl lt ↦ lt
      | inr gt ↦ absurd
          (precedes_asymmetric n p q h (pairwise_at (Precedes n) (trace n) u t q p (trace_in_order n) f e gt))
    ]
  ];
}
