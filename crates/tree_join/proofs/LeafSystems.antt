-- The candidates of a leaf, and its systems in order.
--
-- Each write and level has a candidate, which at a leaf is the best, is excluded or was seen. The systems come writer
-- by writer, level by level, and, behind a Writer leaf's point, order by order: proofs are added in this order.
use Rattle.std.proofs.Common.{◌≡◌, ◌+◌, ◌==◌, ℕ, suc, inl, inr, List, [], ◌∷◌, ◌++◌, length, map, take}
use Rattle.std.proofs.Common.{sym, ap, ◌∙◌, subst, arith, eqb-true}
use Rattle.std.specs.Prelude.{Option, Some, None, All, Contains, IsTrue, nat_lt, slice_get}
use Rattle.std.specs.List.{flat_map}
use Rattle.std.proofs.lemmas.Grind.{flat_map-append}
use Rattle.std.proofs.lemmas.List.{append-nil, append_assoc, map-append}
use Rattle.std.proofs.lemmas.List.Elements.{All-push}
use Rattle.std.proofs.lemmas.Bool.{and_parts}
use Rattle.affine_core.specs.declared.form.Form.{Form}
use Rattle.int_polyhedra.specs.declared.system.Proof.{Proof}
use Rattle.int_polyhedra.specs.declared.system.System.{System}
use Rattle.tree_join.proofs.LevelCounts.{order_count}
use Rattle.tree_order.specs.Candidates.{is_candidate_of, levels_before}
use Rattle.tree_graphs.specs.Joint.{orders_behind, IsSum}
use Rattle.tree_order.specs.Reads.{pairs_of}
use Rattle.tree_graphs.specs.Joint.{ReadAndWrite}
use Rattle.tree_join.specs.Joining.{IsLeft, IsPathOf}
use Rattle.tree_join.specs.Leaves.{AddsRefutations}
use Rattle.tree_order.specs.Seen.{Sighting, is_seen}
use Rattle.tree_order.specs.declared.candidates.Candidate.{Candidate}
use Rattle.tree_order.specs.declared.candidates.Read.{Read}
use Rattle.tree_order.specs.declared.seen.Position.{Position}
use Rattle.tree_graphs.specs.Level.{common_of, HasLevel}
use Rattle.tree_graphs.proofs.OrderEdges.{length_variables}
use Rattle.plain_data.proofs.Lists.{take-suc_some}
use Rattle.sanlp.proofs.Precedence.{common_first, common_second}
use Rattle.source_tree.specs.Checked.{AreRefuted, IsRefuted}
use Rattle.source_tree.specs.Rows.{RowSystem}
use Rattle.source_tree.specs.Systems.{Context, Occurrence, writer_place}
use Rattle.source_tree.proofs.Refutations.{AreRefuted-append}

-- Candidates by their numbers

pub order_rows_count : (w u : Occurrence) (place : List Form) (c : Context) → length place ≡ length w.statement.loops
    → length (orders_behind w place c u) ≡ levels_before w u
order_rows_count w u place c deep =
    order_count (common_of w u) (nat_lt w.number u.number) place (writer_place c u)
    (omega (arith, deep, common_first w.statement.loops u.statement.loops))
    (omega (
      arith,
      length_variables c.vars (length u.statement.loops),
      common_second w.statement.loops u.statement.loops,
    ))

-- the same writer and level
same_candidates : (u p : ℕ) (c d : Candidate) → IsTrue (is_candidate_of u p c)
    → IsTrue (is_candidate_of c.writes.write.number c.writes.level d) → IsTrue (is_candidate_of u p d)
same_candidates u p c d h k =
    let b = and_parts (c.writes.write.number == u) (c.writes.level == p) h in
    subst (λ n. IsTrue (is_candidate_of u n d)) (eqb-true c.writes.level p b.1)
    (subst (λ n. IsTrue (is_candidate_of n c.writes.level d)) (eqb-true c.writes.write.number u b.0) k)

seen_same : (u p : ℕ) (c : Candidate) (sightings : List Sighting) → IsTrue (is_candidate_of u p c)
    → IsTrue (is_seen c.writes.write.number c.writes.level sightings) → IsTrue (is_seen u p sightings)
seen_same u p c sightings h k =
    let b = and_parts (c.writes.write.number == u) (c.writes.level == p) h in
    subst (λ n. IsTrue (is_seen u n sightings)) (eqb-true c.writes.level p b.1)
    (subst (λ n. IsTrue (is_seen n c.writes.level sightings)) (eqb-true c.writes.write.number u b.0) k)

-- where each candidate of a path stands that is asked for
pub data IsFound (sightings : List Sighting) (best : Option Position) (left : List ℕ) (candidates : List Candidate)
    (u p : ℕ) : Type 0 where
  is_left : (i : ℕ) (c : Candidate) → slice_get candidates i ≡ Some c → IsTrue (is_candidate_of u p c) → IsLeft i left
      → IsFound sightings best left candidates u p
  was_seen : IsTrue (is_seen u p sightings) → IsFound sightings best left candidates u p
  is_best : (at : Position) → best ≡ Some at → IsTrue (is_candidate_of u p at.candidate.now)
      → IsFound sightings best left candidates u p

pub found : (r : Read) (candidates : List Candidate) (context : System) (best : Option Position)
    (sightings : List Sighting) (left : List ℕ) (room : ℕ) (o : ReadAndWrite) (p : ℕ)
    → IsPathOf r candidates context best sightings left room None → Contains (pairs_of r) o
    → HasLevel o.read o.write p → IsFound sightings best left candidates o.write.number p
found r candidates context best sightings left room o p h there has =
    let u : ℕ = o.write.number in
    let c = h.candidates_are.every o p there has in
    elim (h.every c.1.0 c.0 c.1.1) [
      | inl known ↦ elim known [
        | inl in_left ↦ is_left c.1.0 c.0 c.1.1 c.2 in_left
        | inr others ↦ elim others [
          | inl seen ↦ was_seen (seen_same u p c.0 sightings c.2 seen)
          | inr at ↦ is_best at.0 at.1 (same_candidates u p c.0 at.0.candidate.now c.2 at.2)
        ]
      ]
      | inr none ↦ absurd (let f : None ≡ Some c.0 = none in cc)
    ]

-- Proofs that are added

-- proofs of one more system
pub more_refuted : (before : List RowSystem) (old : List Proof) (system : RowSystem) (proof : Proof) (new : List Proof)
    → new ≡ old ++ proof ∷ [] → AreRefuted before old → IsRefuted system proof
    → AreRefuted (before ++ system ∷ []) new
more_refuted before old system proof new e h k =
    subst (AreRefuted (before ++ system ∷ [])) (sym e) (AreRefuted-append before (system ∷ []) old (proof ∷ []) h (k, tt))

pub map_next : {X Y : Type 0} (f : X → Y) (xs : List X) (k : ℕ) (x : X) → slice_get xs k ≡ Some x
    → map f (take (k + 1) xs) ≡ map f (take k xs) ++ f x ∷ []
map_next f xs k x is =
    let more : k + 1 ≡ suc k = omega arith in
    ap (λ n. map f (take n xs)) more ∙ ap (map f) (take-suc_some xs k x is) ∙ map-append f (take k xs) (x ∷ [])

pub flat_next : {X Y : Type 0} (f : X → List Y) (xs : List X) (k : ℕ) (x : X) → slice_get xs k ≡ Some x
    → flat_map f (take (k + 1) xs) ≡ flat_map f (take k xs) ++ f x
flat_next f xs k x is =
    let more : k + 1 ≡ suc k = omega arith in
    ap (λ n. flat_map f (take n xs)) more ∙ ap (flat_map f) (take-suc_some xs k x is)
    ∙ flat_map-append f (take k xs) (x ∷ []) ∙ ap (λ ys. flat_map f (take k xs) ++ ys) (append-nil (f x))

pub no_refutations : (context : System) (systems : Context → List RowSystem) (old new : List Proof) → new ≡ old
    → ((c : Context) → systems c ≡ []) → AddsRefutations context systems old new
no_refutations context systems old new e none = record {
  refuted = λ c before made h. subst (λ xs. AreRefuted (before ++ xs) new) (sym (none c))
      (subst (λ xs. AreRefuted xs new) (sym (append-nil before)) (subst (AreRefuted before) (sym e) h));
  sums = λ h. subst (All IsSum) (sym e) h;
}

pub both_refutations : (context : System) (first rest whole : Context → List RowSystem) (old middle new : List Proof)
    → ((c : Context) → whole c ≡ first c ++ rest c)
    → AddsRefutations context first old middle → AddsRefutations context rest middle new
    → AddsRefutations context whole old new
both_refutations context first rest whole old middle new is h k = record {
  refuted = λ c before made refuted. subst (λ xs. AreRefuted (before ++ xs) new) (sym (is c))
      (subst (λ xs. AreRefuted xs new) (append_assoc before (first c) (rest c))
      (k.refuted c (before ++ first c) made (h.refuted c before made refuted)));
  sums = λ all. k.sums (h.sums all);
}

-- one Sum more
pub sum_pushed : (old new : List Proof) (proof : Proof) → new ≡ old ++ proof ∷ [] → IsSum proof → All IsSum old
    → All IsSum new
sum_pushed old new proof e is all = subst (All IsSum) (sym e) (All-push IsSum old proof all is)
