-- The entries of a process in the trace are its points, and its tags name them.
--
-- Both are read off the points of the trace, whose entries are numbered from t on. By induction along the points, one
-- of the process adds an entry and a vector, both at the same turn, and any other adds neither; so the entry at a turn
-- has the vector of that turn (`entry_at_turn`). The other way round, an entry's turn is how many entries of its
-- process come before it (`turn_of_entry`).
use Rattle.std.proofs.Common.{◌≡◌, ℕ, zero, suc, ◌+◌, true, eqb, Some, List, [], ◌∷◌, length, take, slice_get, count_by}
use Rattle.std.proofs.Common.{refl, sym, ap, ◌∙◌, inl, inr, arith, eqb-true, eq-eqb, add-zero}
use Rattle.std.proofs.lemmas.Bool.{cond-true, cond-false, cases_Bool}
use Rattle.sanlp.specs.declared.nest.Point.{Point}
use Rattle.sanlp.specs.Laws.{entries_from}
use Rattle.sanlp.specs.Points.{vectors_of}
use Rattle.net_core.proofs.EventCounts.{count_cons}

-- this entry is the f-th of process s
pub record EntryAt (t : ℕ) (points : List Point) (s f u : ℕ) : Type 0 where
  pub place : ℕ
  pub is : u ≡ t + place
  pub point : Point
  pub found : slice_get points place ≡ Some point
  pub process : point.statement ≡ s
  pub vector : slice_get (vectors_of points s) f ≡ Some point.at

pub entries_length : (t : ℕ) (points : List Point) (s : ℕ)
    → length (entries_from t points s) ≡ length (vectors_of points s)
entries_length t [] s = refl
entries_length t (p ∷ points) s =
    elim (cases_Bool (eqb p.statement s)) [
      | inl here ↦ rw here (ap suc (entries_length (t + 1) points s))
      | inr there ↦ rw there (entries_length (t + 1) points s)
    ]

-- the entries from a point of process s on
head_entry : (t : ℕ) (p : Point) (points : List Point) (s f u : ℕ) → eqb p.statement s ≡ true
    → slice_get (t ∷ entries_from (t + 1) points s) f ≡ Some u
    → ((g : ℕ) → slice_get (entries_from (t + 1) points s) g ≡ Some u → EntryAt (t + 1) points s g u)
    → EntryAt t (p ∷ points) s f u
head_entry t p points s zero u here h rest =
    let same : t ≡ u = cc in
    record {
      place = 0;
      is = sym same ∙ omega arith;
      point = p;
      found = refl;
      process = eqb-true p.statement s here;
      vector = rw here refl;
    }
head_entry t p points s (suc f) u here h rest =
    let e = rest f h in
    record {
      place = suc e.place;
      is = e.is ∙ omega arith;
      point = e.point;
      found = e.found;
      process = e.process;
      vector = rw here e.vector;
    }

pub entry_at_turn : (t : ℕ) (points : List Point) (s f u : ℕ) → slice_get (entries_from t points s) f ≡ Some u
    → EntryAt t points s f u
entry_at_turn t [] s f u h = cc
entry_at_turn t (p ∷ points) s f u h =
    elim (cases_Bool (eqb p.statement s)) [
      | inl here ↦
          let h' : slice_get (t ∷ entries_from (t + 1) points s) f ≡ Some u = rw here at h in
          head_entry t p points s f u here h' (λ g k. entry_at_turn (t + 1) points s g u k)
      | inr there ↦
          let h' : slice_get (entries_from (t + 1) points s) f ≡ Some u = rw there at h in
          let e = entry_at_turn (t + 1) points s f u h' in
          record {
            place = suc e.place;
            is = e.is ∙ omega arith;
            point = e.point;
            found = e.found;
            process = e.process;
            vector = rw there e.vector;
          }
    ]

-- an entry is that of its process which its number among them says
pub turn_of_entry : (t : ℕ) (points : List Point) (i : ℕ) (p : Point) → slice_get points i ≡ Some p
    → slice_get (entries_from t points p.statement) (count_by (λ q. eqb q.statement p.statement) (take i points))
    ≡ Some (t + i)
turn_of_entry t [] i p h = cc
turn_of_entry t (x ∷ points) zero p h =
    let same : x ≡ p = cc in
    let here : eqb x.statement p.statement ≡ true =
    eq-eqb x.statement p.statement (ap (λ (q : Point). q.statement) same) in
    rw here (ap Some (sym (add-zero t)))
turn_of_entry t (x ∷ points) (suc i) p h =
    let rest = turn_of_entry (t + 1) points i p h in
    let there : (t + 1) + i ≡ t + suc i = omega arith in
    let counted = count_cons (λ (q : Point). eqb q.statement p.statement) x (take i points) in
    elim (cases_Bool (eqb x.statement p.statement)) [
      | inl here ↦
          let one : count_by (λ (q : Point). eqb q.statement p.statement) (x ∷ take i points)
          ≡ suc (count_by (λ (q : Point). eqb q.statement p.statement) (take i points)) =
          counted ∙ ap (λ c. c + count_by (λ (q : Point). eqb q.statement p.statement) (take i points))
          (cond-true (eqb x.statement p.statement) 1 0 here) ∙ omega arith in
          rw (one, here) (rest ∙ ap Some there)
      | inr other ↦
          let none : count_by (λ (q : Point). eqb q.statement p.statement) (x ∷ take i points)
          ≡ count_by (λ (q : Point). eqb q.statement p.statement) (take i points) =
          counted ∙ ap (λ c. c + count_by (λ (q : Point). eqb q.statement p.statement) (take i points))
          (cond-false (eqb x.statement p.statement) 1 0 other) ∙ omega arith in
          rw (none, other) (rest ∙ ap Some there)
    ]
