-- What became of a candidate.
--
-- What was seen is told from its end, where orders lead to the best. Behind a position that was the best they lead to
-- it, and from there on goes the order of the one that took its place: so the order that leads on grows by one where the
-- best changes. Each order adds 65,536 at most to what the terms weigh. A candidate that isn't found was not seen.
use Rattle.std.proofs.Common.{◌≡◌, ◌+◌, ◌*◌, ◌≤◌, ◌||◌, ℕ, Bool, false, List, [], ◌∷◌, ◌++◌, length, reverse}
use Rattle.std.proofs.Common.{refl, sym, ap, ◌∙◌, subst, arith, Bor}
use Rattle.std.specs.Prelude.{Option, Some, None, IfNone, IfSome, IsTrue, MatchOption, slice_get}
use Rattle.std.specs.Option.{option_copied}
use Rattle.std.proofs.lemmas.List.{reverse-append}
use Rattle.std.proofs.lemmas.List.Elements.{All-contains}
use Rattle.affine_core.specs.declared.form.Form.{Form}
use Rattle.int_polyhedra.specs.declared.system.System.{System}
use Rattle.int_polyhedra.specs.declared.system.Term.{Term}
use Rattle.tree_order.specs.Candidates.{is_candidate_of, IsCandidate}
use Rattle.tree_order.specs.Orders.{difference_parts, strict_parts, AreEqual, AreWritesOf, Composes, DecidesAt}
use Rattle.tree_order.specs.Orders.{IsOrder}
use Rattle.tree_order.specs.Positions.{IsAt, IsPointAt}
use Rattle.tree_order.specs.Reads.{pair_of, pairs_of, IsJoined, StandsInLoopsOf}
use Rattle.tree_graphs.specs.Joint.{ReadAndWrite}
use Rattle.tree_order.specs.Seen.{Sighting, without, before, passed, absent_at, best_from, best_in, is_seen}
use Rattle.tree_order.specs.Seen.{position_of, sightings_from, sightings_of, with_passed, AreSeen, IsOutcome}
use Rattle.tree_order.specs.Seen.{LeadsOn, StandsBefore}
use Rattle.tree_order.specs.declared.candidates.Candidate.{Candidate}
use Rattle.tree_order.specs.declared.candidates.Read.{Read}
use Rattle.tree_order.specs.declared.order.Equality.{Equality}
use Rattle.tree_order.specs.declared.order.Order.{Order}
use Rattle.tree_order.specs.declared.seen.Absence.{Absence}
use Rattle.tree_order.specs.declared.seen.Outcome.{Outcome}
use Rattle.tree_order.specs.declared.seen.Outcome.TheVariants as outcome
use Rattle.tree_order.specs.declared.seen.Position.{Position}
use Rattle.tree_order.specs.declared.seen.Seen.{Seen}
use Rattle.tree_order.specs.declared.seen.Seen.TheVariants.{After, Before, First, Without}
use Rattle.tree_graphs.proofs.Nodes.{same_place}
use Rattle.tree_graphs.specs.Asked.{write_of}
use Rattle.tree_graphs.specs.Facts.{IsFact}
use Rattle.tree_sums.specs.Shown.{RowParts}
use Rattle.source_tree.specs.Systems.{Occurrence}

-- One more that is seen

seen_last : (seen : List Seen) (one : Seen) → reverse (seen ++ one ∷ []) ≡ one ∷ reverse seen
seen_last seen one = reverse-append seen (one ∷ [])

-- the last one, by its kind
pub last_kind : (all rest : List Seen) (one kind : Seen) → all ≡ rest ++ one ∷ [] → one ≡ kind → all ≡ rest ++ kind ∷ []
last_kind all rest one kind e is = e ∙ ap (λ one. rest ++ one ∷ []) is

module _ (all seen : List Seen) where
  pub seen_without : (a : Absence) → all ≡ seen ++ Without a ∷ []
      → (sightings_of all ≡ without (absent_at a) ∷ sightings_of seen) × (best_in all ≡ best_in seen)
  seen_without a e =
      let last = ap reverse e ∙ seen_last seen (Without a) in (ap sightings_from last, ap best_from last)

  pub seen_first : (at : Position) → all ≡ seen ++ First at ∷ []
      → (sightings_of all ≡ sightings_of seen) × (best_in all ≡ Some at)
  seen_first at e = let last = ap reverse e ∙ seen_last seen (First at) in (ap sightings_from last, ap best_from last)

  pub seen_before : (at : Position) (order : Order) → all ≡ seen ++ Before at order ∷ []
      → (sightings_of all ≡ before at order ∷ sightings_of seen) × (best_in all ≡ best_in seen)
  seen_before at order e =
      let last = ap reverse e ∙ seen_last seen (Before at order) in (ap sightings_from last, ap best_from last)

  pub seen_after : (at : Position) (order : Order) → all ≡ seen ++ After at order ∷ []
      → (sightings_of all ≡ with_passed (best_in seen) order (sightings_of seen)) × (best_in all ≡ Some at)
  seen_after at order e =
      let last = ap reverse e ∙ seen_last seen (After at order) in (ap sightings_from last, ap best_from last)

  -- where there is a best, it was passed
  pub seen_passed : (at b : Position) (order : Order) → all ≡ seen ++ After at order ∷ [] → best_in seen ≡ Some b
      → sightings_of all ≡ passed b order ∷ sightings_of seen
  seen_passed at b order e best =
      (seen_after at order e).0 ∙ ap (λ o. with_passed o order (sightings_of seen)) best

  -- where there is none, none was
  pub none_there : (at : Position) (order : Order) → all ≡ seen ++ After at order ∷ []
      → (best : Option (Bor Position)) → option_copied best ≡ best_in seen
      → ((b : Bor Position) → best ≡ Some b → ⊥) → sightings_of all ≡ sightings_of seen
  none_there at order e None is none =
      (seen_after at order e).0 ∙ ap (λ o. with_passed o order (sightings_of seen)) (sym is)
  none_there at order e (Some b) is none = absurd (none b refl)

-- Heavier terms

pub fact_wider : (context : System) (m n : ℕ) (row : RowParts) (ts : List Term) → m ≤ n → IsFact context m row ts
    → IsFact context n row ts
fact_wider context m n row ts le h = record { shows = h.shows; light = omega (arith, h.light, le) }

module _ (context : System) (m n : ℕ) (le : m ≤ n) where
  pub equal_wider : (z y : List Form) (equal : List Equality) → AreEqual context m z y equal
      → AreEqual context n z y equal
  equal_wider z y [] h = tt
  equal_wider [] y (e ∷ equal) h = absurd h
  equal_wider (a ∷ z) [] (e ∷ equal) h = absurd h
  equal_wider (a ∷ z) (b ∷ y) (e ∷ equal) h = (
    (
      fact_wider context m n (difference_parts a b) e.above le h.0.0,
      fact_wider context m n (difference_parts b a) e.below le h.0.1,
    ),
    equal_wider z y equal h.1,
  )

  decides_wider : (u w : Occurrence) (z y : List Form) (l : ℕ) (strict : Option (List Term))
      → DecidesAt context m u w z y l strict → DecidesAt context n u w z y l strict
  decides_wider u w z y l (Some ts) h = (
    h.0,
    record {
      a = h.1.a;
      b = h.1.b;
      first = h.1.first;
      second = h.1.second;
      fact = fact_wider context m n (strict_parts h.1.b h.1.a) ts le h.1.fact;
    },
  )
  decides_wider u w z y l None h = h

  pub order_wider : (u w : Occurrence) (z y : List Form) (order : Order) → IsOrder context m u w z y order
      → IsOrder context n u w z y order
  order_wider u w z y order h = record {
    equal = equal_wider z y order.equal h.equal;
    decides = decides_wider u w z y (length order.equal) order.strict h.decides;
  }

  pub stands_wider : (first second : Position) (order : Order) → StandsBefore context m first second order
      → StandsBefore context n first second order
  stands_wider first second order h = record {
    z = h.z;
    y = h.y;
    first_at = h.first_at;
    second_at = h.second_at;
    stands = order_wider (write_of first.candidate.now.writes)
        (write_of second.candidate.now.writes) h.z h.y order h.stands;
  }

  pub outcome_wider : (r : Read) (best : Option Position) (u p : ℕ) (out : Outcome) → IsOutcome r context m best u p out
      → IsOutcome r context n best u p out
  outcome_wider r best u p (outcome.Without at) h = h
  outcome_wider r None u p (outcome.Before at order) h = absurd h
  outcome_wider r (Some best) u p (outcome.Before at order) h = (h.0, (h.1.0, stands_wider at.now best order h.1.1))

-- Orders that lead on

-- the writes of a candidate stand in the loops of the nest
pub statement_of : (r : Read) (c : Candidate) (h : IsCandidate r c) (j : IsJoined r)
    → StandsInLoopsOf j.nest (write_of c.writes)
statement_of r c h j =
    All-contains (λ (o : ReadAndWrite). StandsInLoopsOf j.nest o.write) (pairs_of r) (pair_of c.writes) j.stand h.pair

pub same_point : (at : Position) (y z : List Form) → IsPointAt at y → IsPointAt at z → y ≡ z
same_point at y z h k = same_place at.node.now at.candidate.now.writes.write.number at.candidate.now.writes.write.number
    y z h.0 k.0 h.1 k.1

-- a position stands before the best by its order to the next one and what leads on from there
record LeadsTo (context : System) (most : ℕ) (at : Position) (best : Option Position) (whole : Order) : Type 0 where
  pub to : Position
  pub is : best ≡ Some to
  pub stands : StandsBefore context most at to whole

leads_to : (r : Read) (context : System) (most : ℕ) (at t : Position) (best : Option Position) (order whole : Order)
    (further : Option Order)
    → IsAt r context at → IsAt r context t → IfSome best (IsAt r context) → StandsBefore context 65536 at t order
    → LeadsOn context most (Some t) best further
    → IfNone further (whole ≡ order) → IfSome further (λ next. Composes order next whole)
    → LeadsTo context (most + 65536) at best whole
leads_to r context most at t best order whole None ha ht hb s leads alone through = record {
  to = t;
  is = sym leads;
  stands = subst (λ o. StandsBefore context (most + 65536) at t o) (sym alone)
      (stands_wider context 65536 (most + 65536) (omega arith) at t order s);
}
leads_to r context most at t None order whole (Some next) ha ht hb s leads alone through = absurd leads
leads_to r context most at t (Some b) order whole (Some next) ha ht hb s leads alone through =
    let u : Occurrence = write_of at.candidate.now.writes in
    let v : Occurrence = write_of t.candidate.now.writes in
    let w : Occurrence = write_of b.candidate.now.writes in
    let same : leads.z ≡ s.y = same_point t leads.z s.y leads.first_at s.second_at in
    let j : IsJoined r = ha.candidate.joined in
    let writes : AreWritesOf j.nest u v w
    = record {
      first = statement_of r at.candidate.now ha.candidate j;
      second = statement_of r t.candidate.now ht.candidate j;
      third = statement_of r b.candidate.now hb.candidate j;
    } in
    let on : IsOrder context most v w s.y leads.y next =
    subst (λ z. IsOrder context most v w z leads.y next) same leads.stands in
    let sum : 65536 + most ≡ most + 65536 = omega arith in
    record {
      to = b;
      is = refl;
      stands = record {
        z = s.z;
        y = leads.y;
        first_at = s.first_at;
        second_at = leads.second_at;
        stands = subst (λ m. IsOrder context m u w s.z leads.y whole) sum
            (through j.nest context 65536 most u v w s.z s.y leads.y writes s.stands on);
      };
    }

-- What is told

-- what is promised of an outcome
abbrev pub Tells : ℕ → ℕ → List Sighting → Option Order → Outcome → Type 0
Tells u p sightings further out =
    (r : Read) (context : System) (most : ℕ) (tip best : Option Position) → AreSeen r context tip sightings
    → IfSome tip (IsAt r context) → IfSome best (IsAt r context)
    → LeadsOn context most tip best further → IsOutcome r context (most + 65536 * length sightings) best u p out

past_one : (u p : ℕ) (rest : List Sighting) (s : Sighting) (out : Outcome) (r : Read) (context : System) (most : ℕ)
    (best : Option Position)
    → IsOutcome r context (most + 65536 * length rest) best u p out
    → IsOutcome r context (most + 65536 * length (s ∷ rest)) best u p out
past_one u p rest s out r context most best h = outcome_wider context (most + 65536 * length rest)
    (most + 65536 * length (s ∷ rest)) (omega arith) r best u p out h

-- the same sightings
pub tells_same : (u p : ℕ) (rest : List Sighting) (further : Option Order) (seen : List Sighting) (out : Outcome)
    → seen ≡ rest → Tells u p rest further out → Tells u p seen further out
tells_same u p rest further seen out e = subst (λ s. Tells u p s further out) (sym e)

module _ (u p : ℕ) (rest : List Sighting) (at : Bor Absence) (further : Option Order) where
  here_without : IsTrue (is_candidate_of u p at.now.candidate.now)
      → Tells u p (without (absent_at at.now) ∷ rest) further (outcome.Without at)
  here_without is r context most tip best seen ht hb leads = (is, seen.0)

  pub tells_without : (seen : List Sighting) → seen ≡ without (absent_at at.now) ∷ rest
      → IsTrue (is_candidate_of u p at.now.candidate.now) → Tells u p seen further (outcome.Without at)
  tells_without seen e is = subst (λ s. Tells u p s further (outcome.Without at)) (sym e) (here_without is)

  past_without : (out : Outcome) → Tells u p rest further out
      → Tells u p (without (absent_at at.now) ∷ rest) further out
  past_without out h r context most tip best seen ht hb leads = past_one u p rest
      (without (absent_at at.now)) out r context most best (h r context most tip best seen.1 ht hb leads)

  pub tells_past_without : (seen : List Sighting) (out : Outcome) → seen ≡ without (absent_at at.now) ∷ rest
      → Tells u p rest further out → Tells u p seen further out
  tells_past_without seen out e h = subst (λ s. Tells u p s further out) (sym e) (past_without out h)

module _ (u p : ℕ) (rest : List Sighting) (at : Bor Position) (order : Order) (further : Option Order) where
  past_before : (out : Outcome) → Tells u p rest further out → Tells u p (before at.now order ∷ rest) further out
  past_before out h r context most None best seen ht hb leads = absurd seen
  past_before out h r context most (Some t) best seen ht hb leads = past_one u p rest
      (before at.now order) out r context most best (h r context most (Some t) best seen.1 ht hb leads)

  pub tells_past_before : (seen : List Sighting) (out : Outcome) → seen ≡ before at.now order ∷ rest
      → Tells u p rest further out → Tells u p seen further out
  tells_past_before seen out e h = subst (λ s. Tells u p s further out) (sym e) (past_before out h)

  module _ (whole : Order) (alone : IfNone further (whole ≡ order))
      (through : IfSome further (λ next. Composes order next whole)) where
    found : (s : Sighting) (r : Read) (context : System) (most : ℕ) (best : Option Position)
        → IsTrue (is_candidate_of u p at.now.candidate.now) → IsAt r context at.now
        → LeadsTo context (most + 65536) at.now best whole
        → IsOutcome r context (most + 65536 * length (s ∷ rest)) best u p (outcome.Before at whole)
    found s r context most best is here l =
        subst (λ b. IsOutcome r context (most + 65536 * length (s ∷ rest)) b u p (outcome.Before at whole)) (sym l.is) (
          is,
          (
            here,
            stands_wider context (most + 65536) (most + 65536 * length (s ∷ rest))
                (omega arith) at.now l.to whole l.stands,
          ),
        )

    here_before : IsTrue (is_candidate_of u p at.now.candidate.now)
        → Tells u p (before at.now order ∷ rest) further (outcome.Before at whole)
    here_before is r context most None best seen ht hb leads = absurd seen
    here_before is r context most (Some t) best seen ht hb leads =
        found (before at.now order) r context most best is seen.0.0
        (leads_to r context most at.now t best order whole further seen.0.0 ht hb seen.0.1 leads alone through)

    pub tells_before : (seen : List Sighting) → seen ≡ before at.now order ∷ rest
        → IsTrue (is_candidate_of u p at.now.candidate.now) → Tells u p seen further (outcome.Before at whole)
    tells_before seen e is = subst (λ s. Tells u p s further (outcome.Before at whole)) (sym e) (here_before is)

    here_passed : IsTrue (is_candidate_of u p at.now.candidate.now)
        → Tells u p (passed at.now order ∷ rest) further (outcome.Before at whole)
    here_passed is r context most None best seen ht hb leads = absurd seen
    here_passed is r context most (Some t) best seen ht hb leads =
        found (passed at.now order) r context most best is seen.0.0
        (leads_to r context most at.now t best order whole further seen.0.0 ht hb seen.0.1 leads alone through)

    pub tells_passed : (seen : List Sighting) → seen ≡ passed at.now order ∷ rest
        → IsTrue (is_candidate_of u p at.now.candidate.now) → Tells u p seen further (outcome.Before at whole)
    tells_passed seen e is = subst (λ s. Tells u p s further (outcome.Before at whole)) (sym e) (here_passed is)

    past_passed : (out : Outcome) → Tells u p rest (Some whole) out → Tells u p (passed at.now order ∷ rest) further out
    past_passed out h r context most None best seen ht hb leads = absurd seen
    past_passed out h r context most (Some t) best seen ht hb leads =
        let l : LeadsTo context (most + 65536) at.now best whole =
        leads_to r context most at.now t best order whole further seen.0.0 ht hb seen.0.1 leads alone through in
        let on : LeadsOn context (most + 65536) (Some at.now) best (Some whole) =
        subst (λ b. LeadsOn context (most + 65536) (Some at.now) b (Some whole)) (sym l.is) l.stands in
        let sum : (most + 65536) + 65536 * length rest ≡ most + 65536 * length (passed at.now order ∷ rest) =
        omega arith in
        subst (λ m. IsOutcome r context m best u p out) sum
        (h r context (most + 65536) (Some at.now) best seen.1 seen.0.0 hb on)

    pub tells_past_passed : (seen : List Sighting) (out : Outcome) → seen ≡ passed at.now order ∷ rest
        → Tells u p rest (Some whole) out → Tells u p seen further out
    tells_past_passed seen out e h = subst (λ s. Tells u p s further out) (sym e) (past_passed out h)

-- a candidate that isn't found
pub not_here : (u p : ℕ) (seen rest : List Sighting) (s : Sighting) (b : Bool) → seen ≡ s ∷ rest → b
    ≡ is_candidate_of u p (position_of s).candidate.now → b ≡ false
    → is_seen u p rest ≡ false → is_seen u p seen ≡ false
not_here u p seen rest s b e is other none = ap (is_seen u p) e ∙ ap (λ b. b || is_seen u p rest) (sym is ∙ other)
    ∙ none

-- what a call answers, of a shorter chain
pub none_past : (found : Option Outcome) (A B : Type 0) → (A → B) → MatchOption found A (λ out. Unit {0})
    → MatchOption found B (λ out. Unit {0})
none_past None A B f h = f h
none_past (Some out) A B f h = h

pub some_past : (found : Option Outcome) (P Q : Outcome → Type 0) → ((out : Outcome) → P out → Q out) → IfSome found P
    → IfSome found Q
some_past None P Q f h = h
some_past (Some out) P Q f h = f out h
