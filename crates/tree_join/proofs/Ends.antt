-- Where a path ends.
--
-- For each writer and level the proofs are those of its candidate, told of the writer. A candidate that is not the
-- best, not excluded and not seen would be left, and at an end none of those is left: so there is none.
use Rattle.std.proofs.Common.{◌≡◌, ◌+◌, ◌*◌, ◌==◌, ℕ, List, [], ◌∷◌, ◌++◌, length, map, take, Bool, true, false, refl}
use Rattle.std.proofs.Common.{sym, ap, ◌∙◌, subst, arith, eqb-true}
use Rattle.std.specs.Prelude.{Option, Some, None, Contains, IfSome, IsTrue, slice_get}
use Rattle.std.specs.List.{flat_map}
use Rattle.std.specs.Option.{option_copied}
use Rattle.std.proofs.lemmas.List.{append-nil, append_assoc}
use Rattle.std.proofs.lemmas.Option.{same_Some}
use Rattle.std.proofs.lemmas.Bool.{and_parts}
use Rattle.affine_core.specs.declared.form.Form.{Form}
use Rattle.int_polyhedra.specs.declared.system.Proof.{Proof}
use Rattle.int_polyhedra.specs.declared.system.System.{System}
use Rattle.tree_order.specs.Candidates.{is_candidate_of, IsCandidate}
use Rattle.tree_order.specs.Reads.{pair_of, pairs_of}
use Rattle.tree_graphs.specs.Joint.{ReadAndWrite}
use Rattle.tree_join.specs.Ending.{IsEmptyEnd, IsLeaf}
use Rattle.tree_join.specs.Joining.{IsBest, IsPath}
use Rattle.tree_join.specs.Leaves.{is_excluded}
use Rattle.tree_order.specs.Refutations.{RefutesBetween, RefutesWrites}
use Rattle.tree_order.specs.Positions.{IsAt}
use Rattle.tree_order.specs.Seen.{is_seen, sightings_of, IsOutcome}
use Rattle.tree_order.specs.declared.candidates.Candidate.{Candidate}
use Rattle.tree_order.specs.declared.candidates.Read.{Read}
use Rattle.tree_join.specs.declared.path.State.{State}
use Rattle.tree_join.specs.declared.leaf.Excluded.{Excluded}
use Rattle.tree_order.specs.declared.seen.Outcome.{Outcome}
use Rattle.tree_order.specs.declared.seen.Position.{Position}
use Rattle.tree_join.proofs.LeafSystems.{found, map_next, flat_next, more_refuted, is_left, was_seen, is_best}
use Rattle.tree_order.proofs.Outcomes.{outcome_wider, Tells}
use Rattle.tree_join.proofs.Pairs.{candidate_level, same_pair}
use Rattle.tree_graphs.specs.Level.{HasLevel}
use Rattle.plain_data.proofs.Lists.{All-slice_get}
use Rattle.source_tree.specs.Checked.{AreRefuted, IsRefuted}
use Rattle.source_tree.specs.Rows.{RowSystem}
use Rattle.source_tree.specs.Systems.{Occurrence}

-- Proofs of a candidate, told of its write and level

pub moved_between : (r : Read) (context : System) (c : Candidate) (o : ReadAndWrite) (w : Occurrence) (p q : ℕ)
    (place : List Form) (proof : Proof) → IsCandidate r c → Contains (pairs_of r) o
    → IsTrue (is_candidate_of o.write.number p c)
    → RefutesBetween (pair_of c.writes) context c.writes.level w place q proof
    → RefutesBetween o context p w place q proof
moved_between r context c o w p q place proof h there is k =
    subst (λ p. RefutesBetween o context p w place q proof) (candidate_level o.write.number p c is)
    (subst (λ o. RefutesBetween o context c.writes.level w place q proof) (same_pair r o p c h there is) k)

pub moved_writes : (r : Read) (context : System) (c : Candidate) (o : ReadAndWrite) (p : ℕ) (proof : Proof)
    → IsCandidate r c → Contains (pairs_of r) o → IsTrue (is_candidate_of o.write.number p c)
    → RefutesWrites (pair_of c.writes) context c.writes.level proof → RefutesWrites o context p proof
moved_writes r context c o p proof h there is k =
    subst (λ p. RefutesWrites o context p proof) (candidate_level o.write.number p c is)
    (subst (λ o. RefutesWrites o context c.writes.level proof) (same_pair r o p c h there is) k)

-- What became of a candidate

best_at : (r : Read) (context : System) (best : Option Position) → IfSome best (IsBest r context)
    → IfSome best (IsAt r context)
best_at r context None h = h
best_at r context (Some b) h = h.0

pub outcome_at : (state : State) (u p : ℕ) (out : Outcome) → IsPath state 0 None
    → Tells u p (sightings_of state.seen.now) None out
    → IsOutcome state.read.now state.context.now (65536 * 896) (option_copied state.best) u p out
outcome_at state u p out path tells =
    let r : Read = state.read.now in
    let context : System = state.context.now in
    let best : Option Position = option_copied state.best in
    let at : IfSome best (IsAt r context) = best_at r context best path.best_is in
    outcome_wider context (0 + 65536 * length (sightings_of state.seen.now)) (65536 * 896)
    (omega (arith, path.few)) r best u p out (tells r context 0 best best path.seen at at refl)

-- No candidate is left

excluded_same : (u p : ℕ) (c : Candidate) (excluded : List Excluded) → IsTrue (is_candidate_of u p c)
    → IsTrue (is_excluded c.writes.write.number c.writes.level excluded) → IsTrue (is_excluded u p excluded)
excluded_same u p c excluded h k =
    let b = and_parts (c.writes.write.number == u) (c.writes.level == p) h in
    subst (λ n. IsTrue (is_excluded u n excluded)) (eqb-true c.writes.level p b.1)
    (subst (λ n. IsTrue (is_excluded n c.writes.level excluded)) (eqb-true c.writes.write.number u b.0) k)

false_true : (b : Bool) → b ≡ false → IsTrue b → ⊥
false_true b e h = let f : false ≡ true = sym e ∙ h in cc

pub nowhere : (state : State) (best : Position) (excluded : List Excluded) (o : ReadAndWrite) (p : ℕ)
    → IsLeaf state best excluded → Contains (pairs_of state.read.now) o → HasLevel o.read o.write p
    → is_candidate_of o.write.number p best.candidate.now ≡ false → is_excluded o.write.number p excluded ≡ false
    → is_seen o.write.number p (sightings_of state.seen.now) ≡ false → ⊥
nowhere state best excluded o p l there has other out seen =
    elim (found state.read.now state.candidates.now state.context.now (option_copied state.best)
    (sightings_of state.seen.now) state.left.now 0 o p l.path there has) [
      | is_left i c found_is is left ↦
          false_true (is_excluded o.write.number p excluded) out
          (excluded_same o.write.number p c excluded is
          (All-slice_get (λ i. (c : Candidate) → slice_get state.candidates.now i ≡ Some c
          → IsTrue (is_excluded c.writes.write.number c.writes.level excluded)) state.left.now left.0 i l.excluded_are.1
          left.1 c found_is))
      | was_seen was ↦ false_true (is_seen o.write.number p (sightings_of state.seen.now)) seen was
      | is_best at at_is is ↦
          (let same : at ≡ best = same_Some at best (sym at_is ∙ l.best_is) in
          false_true (is_candidate_of o.write.number p best.candidate.now) other
          (subst (λ (at : Position). IsTrue (is_candidate_of o.write.number p at.candidate.now)) same is))
    ]

pub nowhere_left : (state : State) (o : ReadAndWrite) (p : ℕ) → IsEmptyEnd state
    → Contains (pairs_of state.read.now) o → HasLevel o.read o.write p
    → is_seen o.write.number p (sightings_of state.seen.now) ≡ false → ⊥
nowhere_left state o p l there has seen =
    elim (found state.read.now state.candidates.now state.context.now (option_copied state.best)
    (sightings_of state.seen.now) state.left.now 0 o p l.path there has) [
      | is_left i c found_is is left ↦
          (let e : None ≡ Some i = sym (ap (λ xs. slice_get xs left.0) l.none_left) ∙ left.1 in cc)
      | was_seen was ↦ false_true (is_seen o.write.number p (sightings_of state.seen.now)) seen was
      | is_best at at_is is ↦ (let e : None ≡ Some at = sym l.no_best ∙ at_is in cc)
    ]

-- Proofs one after the other

pub none_yet : (before : List RowSystem) (old : List Proof) → AreRefuted before old → AreRefuted (before ++ []) old
none_yet before old h = subst (λ xs. AreRefuted xs old) (sym (append-nil before)) h

pub push_next : {X : Type 0} (f : X → RowSystem) (xs : List X) (k : ℕ) (x : X) (before : List RowSystem)
    (old new : List Proof) (proof : Proof) → slice_get xs k ≡ Some x → new ≡ old ++ proof ∷ []
    → AreRefuted (before ++ map f (take k xs)) old → IsRefuted (f x) proof
    → AreRefuted (before ++ map f (take (k + 1) xs)) new
push_next f xs k x before old new proof is new_is h one =
    subst (λ ys. AreRefuted (before ++ ys) new) (sym (map_next f xs k x is))
    (subst (λ ys. AreRefuted ys new) (append_assoc before (map f (take k xs)) (f x ∷ []))
    (more_refuted (before ++ map f (take k xs)) old (f x) proof new new_is h one))

pub flat_push : {X : Type 0} (f : X → List RowSystem) (xs : List X) (k : ℕ) (x : X) (before : List RowSystem)
    (old new : List Proof) → slice_get xs k ≡ Some x
    → AreRefuted (before ++ flat_map f (take k xs)) old
    → (AreRefuted (before ++ flat_map f (take k xs)) old
    → AreRefuted ((before ++ flat_map f (take k xs)) ++ f x) new)
    → AreRefuted (before ++ flat_map f (take (k + 1) xs)) new
flat_push f xs k x before old new is h more =
    subst (λ ys. AreRefuted (before ++ ys) new) (sym (flat_next f xs k x is))
    (subst (λ ys. AreRefuted ys new) (append_assoc before (flat_map f (take k xs)) (f x)) (more h))
