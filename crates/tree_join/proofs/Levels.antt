-- Candidates that are added, level by level.
--
-- The problems come one after the other; each has at each level of order before the read one candidate, and of one
-- level it is added with the writers within the loop, or with the others.
use Rattle.std.proofs.Common.{◌≡◌, ◌+◌, ◌<◌, ◌==◌, ℕ, inl, inr, List, [], ◌∷◌, ◌++◌, length, Bool}
use Rattle.std.proofs.Common.{true, false, refl, sym, subst, arith}
use Rattle.std.specs.Prelude.{Contains, nat_lt}
use Rattle.std.proofs.lemmas.Bool.{cases_order, eq-eqb, and_from}
use Rattle.std.proofs.lemmas.List.Elements.{All-cons, All-contains, All-nil, All-push, All-weaker}
use Rattle.std.proofs.lemmas.List.{length_push}
use Rattle.tree_order.specs.Candidates.{AddsLevel, HasCandidate, IsCandidate, IsOfLevel}
use Rattle.tree_order.specs.Reads.{pair_in, pairs_of, pairs_with}
use Rattle.tree_graphs.specs.Joint.{ReadAndWrite}
use Rattle.tree_order.specs.declared.candidates.Candidate.{Candidate}
use Rattle.tree_graphs.specs.declared.writes.Problem.{Problem}
use Rattle.tree_order.specs.declared.candidates.Read.{Read}
use Rattle.tree_graphs.specs.Level.{common_of, HasLevel}
use Rattle.plain_data.proofs.Lists.{slice_get_push_at, slice_get-append_some}

pub adds_no_level : (r : Read) (level : ℕ) (within : Bool) (old new : List Candidate) → new ≡ old
    → AddsLevel r [] level within old new
adds_no_level r level within old new e =
    subst (AddsLevel r [] level within old) (sym e)
    (record { each = λ h. h; kept = λ u p h. h; more = All-nil _; few = omega arith })

-- the pair has its candidate, if the level is one of it
abbrev HasOfLevel : ℕ → Bool → List Candidate → ReadAndWrite → Type 0
HasOfLevel level within new o = IsOfLevel o level within → HasCandidate o.write.number level new

among_more : (u p : ℕ) (c : Candidate) (middle : List Candidate) → HasCandidate u p middle
    → HasCandidate u p (middle ++ c ∷ [])
among_more u p c middle (d, at, is) = (d, (at.0, slice_get-append_some middle (c ∷ []) at.0 d at.1), is)

module _ (r : Read) (problem : Problem) (problems : List Problem) (level : ℕ) (within : Bool)
    (old middle : List Candidate) (h : AddsLevel r problems level within old middle) where
  -- the first has no such level
  pub adds_none : (new : List Candidate) → new ≡ middle → (IsOfLevel (pair_in r problem) level within → ⊥)
      → AddsLevel r (problem ∷ problems) level within old new
  adds_none new e none =
      subst (AddsLevel r (problem ∷ problems) level within old) (sym e)
      (record {
        each = h.each;
        kept = h.kept;
        more = All-cons (HasOfLevel level within middle) (pair_in r problem) (pairs_with r problems)
            (λ k. absurd (none k)) h.more;
        few = omega (arith, h.few);
      })

  -- it has
  pub adds_one : (new : List Candidate) (c : Candidate) → new ≡ middle ++ c ∷ [] → IsCandidate r c
      → c.writes.write.number ≡ problem.write.number → c.writes.level ≡ level
      → AddsLevel r (problem ∷ problems) level within old new
  adds_one new c e is number_is level_is =
      let u : ℕ = problem.write.number in
      subst (AddsLevel r (problem ∷ problems) level within old) (sym e)
      (record {
        each = λ all. All-push (IsCandidate r) middle c (h.each all) is;
        kept = λ u p there. among_more u p c middle (h.kept u p there);
        more = All-cons (HasOfLevel level within (middle ++ c ∷ [])) (pair_in r problem) (pairs_with r problems)
            (λ k. (
              c,
              (length middle, slice_get_push_at middle c (length middle) refl),
              and_from (c.writes.write.number == u) (c.writes.level == level)
                  (eq-eqb c.writes.write.number u number_is) (eq-eqb c.writes.level level level_is),
            ))
            (All-weaker (HasOfLevel level within middle) (HasOfLevel level within (middle ++ c ∷ []))
            (λ o there k. among_more o.write.number level c middle (there k)) (pairs_with r problems) h.more);
        few = omega (arith, h.few, length_push middle c);
      })

-- All levels

-- the candidates of the deepest levels are there, of so many
abbrev pub HasDeepest : Read → ℕ → List Candidate → Type 0
HasDeepest r outer candidates =
    (o : ReadAndWrite) (p : ℕ) → Contains (pairs_of r) o → HasLevel o.read o.write p
    → 6 < p + outer → HasCandidate o.write.number p candidates

-- two parts of one more level
pub level_more : (r : Read) (old middle new : List Candidate) (outer level : ℕ) → outer < 7 → level + outer ≡ 6
    → AddsLevel r r.problems.now level true old middle → AddsLevel r r.problems.now level false middle new
    → HasDeepest r outer old → HasDeepest r (outer + 1) new
level_more r old middle new outer level lt at h k deep o p there has le = elim (cases_order p level) [
  | inl same ↦ subst (λ p. HasCandidate o.write.number p new) (sym same)
      (by_within (nat_lt level (common_of o.write o.read)) refl (subst (HasLevel o.read o.write) same has))
  | inr other ↦ elim other [
    | inl below ↦ absurd (omega (arith, below, le, at))
    | inr above ↦ k.kept o.write.number p (h.kept o.write.number p (deep o p there has (omega (arith, above, at))))
  ]
] where
  by_within : (b : Bool) → nat_lt level (common_of o.write o.read) ≡ b → HasLevel o.read o.write level
      → HasCandidate o.write.number level new
  by_within true e has = k.kept o.write.number level
      (All-contains (HasOfLevel level true middle) (pairs_of r) o h.more there (record { has = has; within_is = e }))
  by_within false e has =
      All-contains (HasOfLevel level false new) (pairs_of r) o k.more there (record { has = has; within_is = e })
