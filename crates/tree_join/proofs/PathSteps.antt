-- One step further on a path.
--
-- A candidate that is taken leaves the numbers that are left; the others stay. It is seen once its leaf is known, or
-- becomes the best, and then the old best is seen. So each candidate stays accounted for. What the context shows it
-- shows with one row more, and the best changes only together with an order that leads to it.
use Rattle.std.proofs.Common.{◌≡◌, ◌+◌, ◌^◌, ◌≤◌, ◌<◌, ◌==◌, ◌||◌, ℕ, zero, suc, ◌⊎◌, inl, inr, List, []}
use Rattle.std.proofs.Common.{◌∷◌, ◌++◌, length, Bool, true, false, not, cond, refl, sym, ap, ◌∙◌, subst, arith}
use Rattle.std.proofs.Common.{eqb-true}
use Rattle.std.specs.Prelude.{Option, Some, None, All, IfSome, IsTrue, slice_get}
use Rattle.std.specs.List.{filter}
use Rattle.std.proofs.lemmas.Bool.{eq-eqb, and_from}
use Rattle.std.proofs.lemmas.List.{append_assoc, length_push}
use Rattle.std.proofs.lemmas.List.Elements.{All-append, All-nil, All-cons, All-head, All-tail}
use Rattle.std.proofs.lemmas.Option.{same_Some}
use Rattle.affine_core.specs.declared.form.Form.{Form}
use Rattle.int_polyhedra.specs.declared.system.System.{System}
use Rattle.int_polyhedra.specs.Systems.{AreOver, all_over}
use Rattle.tree_order.specs.Candidates.{is_candidate_of}
use Rattle.tree_order.specs.Reads.{IsJoined}
use Rattle.tree_order.specs.Contexts.{IsPathContext}
use Rattle.tree_join.specs.Joining.{IsAccountedFor, IsBest, IsLeft, IsPathOf}
use Rattle.tree_order.specs.Positions.{IsAt, IsEmptyAt}
use Rattle.tree_order.specs.Seen.{Sighting, without, before, passed, is_seen, position_of, AreSeen, StandsBefore}
use Rattle.tree_order.specs.declared.candidates.Candidate.{Candidate}
use Rattle.tree_order.specs.declared.candidates.Read.{Read}
use Rattle.tree_order.specs.declared.order.Order.{Order}
use Rattle.tree_order.specs.declared.seen.Position.{Position}
use Rattle.tree_order.proofs.LongerContexts.{at_behind, seen_behind}
use Rattle.tree_graphs.specs.Facts.{with_form, IsContext}
use Rattle.tree_graphs.proofs.EdgeSums.{over_append}
use Rattle.tree_sums.specs.Parts.{IsWithin}

-- Numbers that are left

abbrev pub is_other : ℕ → ℕ → Bool
is_other number other = not (other == number)

others_less : (number : ℕ) (left : List ℕ) → length (filter (is_other number) left) ≤ length left
others_less number [] = omega arith
others_less number (i ∷ left) = go (is_other number i) (others_less number left) where
  go : (b : Bool) → length (filter (is_other number) left) ≤ length left
      → length (cond b (i ∷ filter (is_other number) left) (filter (is_other number) left)) ≤ length (i ∷ left)
  go true h = omega (arith, h)
  go false h = omega (arith, h)

itself_not : (number : ℕ) → is_other number number ≡ false
itself_not number = ap not (eq-eqb number number refl)

pub others_fewer : (number : ℕ) (left : List ℕ) → IsLeft number left
    → length (filter (is_other number) left) < length left
others_fewer number [] (k, is) = absurd (let f : None ≡ Some number = is in cc)
others_fewer number (i ∷ left) (zero, is) =
    let same : i ≡ number = same_Some i number is in
    let gone : is_other number i ≡ false = ap (is_other number) same ∙ itself_not number in
    omega (
      arith,
      ap (λ b. length (cond b (i ∷ filter (is_other number) left) (filter (is_other number) left))) gone,
      others_less number left,
    )
others_fewer number (i ∷ left) (suc k, is) = go (is_other number i) (others_fewer number left (k, is)) where
  go : (b : Bool) → length (filter (is_other number) left) < length left
      → length (cond b (i ∷ filter (is_other number) left) (filter (is_other number) left)) < length (i ∷ left)
  go true h = omega (arith, h)
  go false h = omega (arith, h)

left_behind : (i j : ℕ) (left : List ℕ) → IsLeft j left → IsLeft j (i ∷ left)
left_behind i j left (k, is) = (suc k, is)

other_left : (number j : ℕ) (left : List ℕ) → IsLeft j left → is_other number j ≡ true
    → IsLeft j (filter (is_other number) left)
other_left number j [] (k, is) other = absurd (let f : None ≡ Some j = is in cc)
other_left number j (i ∷ left) (zero, is) other =
    let same : i ≡ j = same_Some i j is in
    let there : is_other number i ≡ true = ap (is_other number) same ∙ other in
    subst (λ b. IsLeft j (cond b (i ∷ filter (is_other number) left) (filter (is_other number) left))) (sym there)
    (0, is)
other_left number j (i ∷ left) (suc k, is) other = go (is_other number i) (other_left number j left (k, is) other) where
  go : (b : Bool) → IsLeft j (filter (is_other number) left)
      → IsLeft j (cond b (i ∷ filter (is_other number) left) (filter (is_other number) left))
  go true h = left_behind i j (filter (is_other number) left) h
  go false h = h

others_within : (n number : ℕ) (left : List ℕ) → All (λ i. i < n) left
    → All (λ i. i < n) (filter (is_other number) left)
others_within n number [] h = All-nil _
others_within n number (i ∷ left) h =
    go (is_other number i) (others_within n number left (All-tail (λ i. i < n) i left h)) where
      go : (b : Bool) → All (λ i. i < n) (filter (is_other number) left)
          → All (λ i. i < n) (cond b (i ∷ filter (is_other number) left) (filter (is_other number) left))
      go true k = All-cons (λ i. i < n) i (filter (is_other number) left) (All-head (λ i. i < n) i left h) k
      go false k = k

where_not : (m n : ℕ) → is_other n m ≡ false → m ≡ n
where_not m n e = eqb-true m n (flip (m == n) e) where
  flip : (b : Bool) → not b ≡ false → b ≡ true
  flip true e = refl
  flip false e = absurd (let f : true ≡ false = e in cc)

-- the number itself goes, and another one stays
pub left_itself : (number other : ℕ) (left : List ℕ) → other ≡ number → filter (is_other number) (other ∷ left)
    ≡ filter (is_other number) left
left_itself number other left same =
    ap (λ b. cond b (other ∷ filter (is_other number) left) (filter (is_other number) left))
    (ap (is_other number) same ∙ itself_not number)

pub kept_other : (number other : ℕ) (left : List ℕ) → (other == number) ≡ false
    → filter (is_other number) (other ∷ left) ≡ other ∷ filter (is_other number) left
kept_other number other left differs =
    ap (λ b. cond (not b) (other ∷ filter (is_other number) left) (filter (is_other number) left)) differs

-- Candidates

pub own_candidate : (c : Candidate) → is_candidate_of c.writes.write.number c.writes.level c ≡ true
own_candidate c =
    and_from (c.writes.write.number == c.writes.write.number) (c.writes.level == c.writes.level)
    (eq-eqb c.writes.write.number c.writes.write.number refl)
    (eq-eqb c.writes.level c.writes.level refl)

seen_on : (u p : ℕ) (s : Sighting) (rest : List Sighting) → IsTrue (is_seen u p rest) → IsTrue (is_seen u p (s ∷ rest))
seen_on u p s rest h = go (is_candidate_of u p (position_of s).candidate.now) where
  go : (b : Bool) → IsTrue (b || is_seen u p rest)
  go true = refl
  go false = h

seen_first : (u p : ℕ) (s : Sighting) (rest : List Sighting)
    → IsTrue (is_candidate_of u p (position_of s).candidate.now) → IsTrue (is_seen u p (s ∷ rest))
seen_first u p s rest h = ap (λ b. b || is_seen u p rest) h

-- a candidate that is seen now
seen_now : (c : Candidate) (s : Sighting) (rest : List Sighting) → (position_of s).candidate.now ≡ c
    → IsTrue (is_seen c.writes.write.number c.writes.level (s ∷ rest))
seen_now c s rest e = seen_first c.writes.write.number c.writes.level s rest
    (ap (is_candidate_of c.writes.write.number c.writes.level) e ∙ own_candidate c)

-- without a best nothing stands before it
best_first : (r : Read) (context : System) (at : Position) (sightings : List Sighting)
    → AreSeen r context None sightings → AreSeen r context (Some at) sightings
best_first r context at [] h = tt
best_first r context at (without p ∷ rest) h = (h.0, best_first r context at rest h.1)
best_first r context at (before p order ∷ rest) h = absurd h
best_first r context at (passed p order ∷ rest) h = absurd h

-- Contexts

pub path_context : (r : Read) (context : System) (room : ℕ) → IsJoined r
    → IsPathContext r.context.now.vars room context → IsContext context
path_context r context room h k = record {
  short = omega (arith, k.vars_are, h.few_vars);
  over = k.over;
  few = omega (arith, k.few);
}

pub path_context_less : (vars m n : ℕ) (context : System) → n ≤ m → IsPathContext vars m context
    → IsPathContext vars n context
path_context_less vars m n context le k =
    record { vars_are = k.vars_are; over = k.over; within = k.within; few = omega (arith, k.few, le) }

one_over : (vars : ℕ) (row : Form) → length row.coefs ≡ vars → AreOver vars (row ∷ [])
one_over vars row e = and_from (length row.coefs == vars) (all_over vars []) (eq-eqb (length row.coefs) vars e) refl

pub path_context_behind : (vars room : ℕ) (context : System) (row : Form) → length row.coefs ≡ context.vars
    → IsWithin (2 ^ 50) row → IsPathContext vars (room + 1) context
    → IsPathContext vars room (with_form context row)
path_context_behind vars room context row over within k = record {
  vars_are = k.vars_are;
  over = over_append context.vars context.rows (row ∷ []) k.over (one_over context.vars row over);
  within = All-append (IsWithin (2 ^ 50)) context.rows (row ∷ []) k.within
      (All-cons (IsWithin (2 ^ 50)) row [] within (All-nil _));
  few = omega (arith, k.few, length_push context.rows row);
}

-- Paths

module _ (r : Read) (candidates : List Candidate) (context : System) (best : Option Position)
    (sightings : List Sighting) (left : List ℕ) where
  pub path_less : (m n : ℕ) (way : Option Candidate) → n ≤ m → IsPathOf r candidates context best sightings left m way
      → IsPathOf r candidates context best sightings left n way
  path_less m n way le h = record {
    read = h.read;
    candidates_are = h.candidates_are;
    context_is = path_context_less r.context.now.vars m n context le h.context_is;
    starts = h.starts;
    best_is = h.best_is;
    seen = h.seen;
    left_are = h.left_are;
    few = h.few;
    every = h.every;
  }

  best_behind : (row : Form) (best : Option Position) → IfSome best (IsBest r context)
      → IfSome best (IsBest r (with_form context row))
  best_behind row None h = h
  best_behind row (Some b) h = (at_behind context (with_form context row) row refl r b h.0, h.1)

  -- one row more
  pub path_behind : (room : ℕ) (way : Option Candidate) (row : Form) → length row.coefs ≡ context.vars
      → IsWithin (2 ^ 50) row → IsPathOf r candidates context best sightings left (room + 1) way
      → IsPathOf r candidates (with_form context row) best sightings left room way
  path_behind room way row over within h = record {
    read = h.read;
    candidates_are = h.candidates_are;
    context_is = path_context_behind r.context.now.vars room context row over within h.context_is;
    starts = (
      h.starts.0 ++ row ∷ [],
      ap (λ rows. rows ++ row ∷ []) h.starts.1
          ∙ append_assoc r.context.now.rows h.starts.0 (row ∷ []),
    );
    best_is = best_behind row best h.best_is;
    seen = seen_behind context (with_form context row) row refl r best sightings h.seen;
    left_are = h.left_are;
    few = h.few;
    every = h.every;
  }

  -- the candidate of this number, and the others that are left
  module _ (room number : ℕ) (c : Candidate) (is : slice_get candidates number ≡ Some c) (there : IsLeft number left)
      (h : IsPathOf r candidates context best sightings left room None) where
    abbrev rest : List ℕ
    rest = filter (is_other number) left

    every_other : (i : ℕ) (d : Candidate) → slice_get candidates i ≡ Some d
        → IsAccountedFor sightings rest best i d ⊎ (Some c ≡ Some d)
    every_other i d found = elim (h.every i d found) [
      | inl known ↦ elim known [
        | inl in_left ↦ go (is_other number i) refl in_left
        | inr others ↦ inl (inr others)
      ]
      | inr none ↦ absurd (let f : None ≡ Some d = none in cc)
    ] where
      go : (b : Bool) → is_other number i ≡ b → IsLeft i left
          → IsAccountedFor sightings rest best i d ⊎ (Some c ≡ Some d)
      go true e in_left = inl (inl (other_left number i left in_left e))
      go false e in_left =
          inr (let same : i ≡ number = where_not i number e in sym is ∙ ap (slice_get candidates) (sym same) ∙ found)

    pub path_taken : IsPathOf r candidates context best sightings rest room (Some c)
    path_taken = record {
      read = h.read;
      candidates_are = h.candidates_are;
      context_is = h.context_is;
      starts = h.starts;
      best_is = h.best_is;
      seen = h.seen;
      left_are = others_within (length candidates) number left h.left_are;
      few = omega (arith, h.few, others_fewer number left there);
      every = every_other;
    }

  -- a candidate on its way comes to its end
  module _ (room : ℕ) (c : Candidate) (h : IsPathOf r candidates context best sightings left room (Some c)) where
    -- it is seen, and the best stays
    arrived : (s : Sighting) → (position_of s).candidate.now ≡ c → AreSeen r context best (s ∷ sightings)
        → IsPathOf r candidates context best (s ∷ sightings) left room None
    arrived s e seen = record {
      read = h.read;
      candidates_are = h.candidates_are;
      context_is = h.context_is;
      starts = h.starts;
      best_is = h.best_is;
      seen = seen;
      left_are = h.left_are;
      few = omega (arith, h.few);
      every = λ i d found. inl
          (elim (h.every i d found) [
            | inl known ↦ elim known [
              | inl in_left ↦ inl in_left
              | inr others ↦ elim others [
                | inl was ↦ inr (inl (seen_on d.writes.write.number d.writes.level s sightings was))
                | inr is_best ↦ inr (inr is_best)
              ]
            ]
            | inr way ↦ inr (inl (seen_now d s sightings (e ∙ same_Some c d way)))
          ]);
    }

    pub path_without : (at : Position) → at.candidate.now ≡ c → IsAt r context at → IsEmptyAt at
        → IsPathOf r candidates context best (without at ∷ sightings) left room None
    path_without at e is empty = arrived (without at) e ((is, empty), h.seen)

    pub path_before : (at b : Position) (order : Order) → at.candidate.now ≡ c → IsAt r context at → best ≡ Some b
        → StandsBefore context 65536 at b order
        → IsPathOf r candidates context best (before at order ∷ sightings) left room None
    path_before at b order e is b_is stands =
        arrived (before at order) e
        (subst (λ best. AreSeen r context best (before at order ∷ sightings)) (sym b_is)
        ((is, stands), subst (λ best. AreSeen r context best sightings) b_is h.seen))

    -- it is the best
    becomes : (s : List Sighting) (at : Position) → at.candidate.now ≡ c → IsBest r context at
        → AreSeen r context (Some at) s → length s ≤ length sightings + 1
        → ((d : Candidate) → IsTrue (is_seen d.writes.write.number d.writes.level sightings)
        → IsTrue (is_seen d.writes.write.number d.writes.level s))
        → ((d : Candidate) (b : Position) → best ≡ Some b
        → IsTrue (is_candidate_of d.writes.write.number d.writes.level b.candidate.now)
        → IsTrue (is_seen d.writes.write.number d.writes.level s))
        → IsPathOf r candidates context (Some at) s left room None
    becomes s at e is seen few on old = record {
      read = h.read;
      candidates_are = h.candidates_are;
      context_is = h.context_is;
      starts = h.starts;
      best_is = is;
      seen = seen;
      left_are = h.left_are;
      few = omega (arith, h.few, few);
      every = λ i d found. inl
          (elim (h.every i d found) [
            | inl known ↦ elim known [
              | inl in_left ↦ inl in_left
              | inr others ↦ elim others [
                | inl was ↦ inr (inl (on d was))
                | inr is_best ↦ inr (inl (old d is_best.0 is_best.1 is_best.2))
              ]
            ]
            | inr way ↦ inr (inr (
              at,
              refl,
              ap (is_candidate_of d.writes.write.number d.writes.level) (e ∙ same_Some c d way) ∙ own_candidate d,
            ))
          ]);
    }

    pub path_first : (at : Position) → at.candidate.now ≡ c → IsBest r context at → best ≡ None
        → IsPathOf r candidates context (Some at) sightings left room None
    path_first at e is none =
        becomes sightings at e is (best_first r context at sightings
        (subst (λ best. AreSeen r context best sightings) none h.seen)) (omega arith) (λ d was. was)
        (λ d b b_is k. absurd (let f : None ≡ Some b = sym none ∙ b_is in cc))

    pub path_passed : (at b : Position) (order : Order) → at.candidate.now ≡ c → IsBest r context at → best ≡ Some b
        → IsAt r context b → StandsBefore context 65536 b at order
        → IsPathOf r candidates context (Some at) (passed b order ∷ sightings) left room None
    path_passed at b order e is b_is b_at stands =
        becomes (passed b order ∷ sightings) at e is
        ((b_at, stands), subst (λ best. AreSeen r context best sightings) b_is h.seen) (omega arith)
        (λ d was. seen_on d.writes.write.number d.writes.level (passed b order) sightings was)
        (λ d o o_is k. seen_first d.writes.write.number d.writes.level (passed b order) sightings
        (subst (λ (p : Position). IsTrue (is_candidate_of d.writes.write.number d.writes.level p.candidate.now))
        (same_Some o b (sym o_is ∙ b_is)) k))

-- a candidate without a point, that was left
pub path_absent : (r : Read) (candidates : List Candidate) (context : System) (best : Option Position)
    (sightings : List Sighting) (left : List ℕ) (room number : ℕ) (at : Position)
    → slice_get candidates number ≡ Some at.candidate.now → IsLeft number left → IsAt r context at → IsEmptyAt at
    → IsPathOf r candidates context best sightings left room None
    → IsPathOf r candidates context best (without at ∷ sightings) (filter (is_other number) left) room None
path_absent r candidates context best sightings left room number at is there at_is empty h =
    path_without r candidates context best sightings (filter (is_other number) left) room at.candidate.now
    (path_taken r candidates context best sightings left room number at.candidate.now is there h) at refl at_is empty
