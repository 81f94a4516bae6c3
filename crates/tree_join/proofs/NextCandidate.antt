-- The choice of the next candidate.
--
-- The numbers that are left are asked in order. Behind the excluded ones stands the next, which is left; where none is
-- left behind them, all that are left are excluded.
use Rattle.std.proofs.Common.{◌≡◌, ◌+◌, ◌≤◌, ◌<◌, ◌^◌, ◌==◌, ◌&&◌, ◌||◌, ℕ, List, [], ◌∷◌, ◌++◌, length}
use Rattle.std.proofs.Common.{Bool, true, false, refl, sym, ap, ◌∙◌, subst, arith}
use Rattle.std.specs.Prelude.{Option, Some, None, All, Contains, IsTrue, MatchOption, slice_get}
use Rattle.std.specs.Option.{option_copied}
use Rattle.std.proofs.lemmas.Bool.{eq-eqb, and_from}
use Rattle.std.proofs.lemmas.List.{append-nil, append_assoc}
use Rattle.std.proofs.lemmas.List.Elements.{All-nil, All-push, All-weaker}
use Rattle.std.proofs.lemmas.Option.{same_Some}
use Rattle.affine_core.specs.declared.form.Form.{Form}
use Rattle.int_polyhedra.specs.declared.system.Term.{Term}
use Rattle.tree_order.specs.Absence.{IsContradicted}
use Rattle.tree_order.specs.Candidates.{IsCandidate}
use Rattle.tree_order.specs.Reads.{pair_of, pairs_of}
use Rattle.tree_graphs.specs.Joint.{ReadAndWrite}
use Rattle.tree_join.specs.Joining.{AllAreExcluded, IsChoice, IsChoiceSoFar, IsLeft, IsPath}
use Rattle.tree_join.specs.Leaves.{is_excluded, IsExcluded}
use Rattle.tree_order.specs.Positions.{IsPointAt}
use Rattle.tree_order.specs.declared.candidates.Candidate.{Candidate}
use Rattle.tree_join.specs.declared.path.Choice.TheVariants.{Absent, End, Take}
use Rattle.tree_join.specs.declared.path.State.{State}
use Rattle.tree_join.specs.declared.leaf.Excluded.{Excluded}
use Rattle.tree_order.specs.declared.seen.Position.{Position}
use Rattle.tree_order.proofs.Absent.{writes_refuted}
use Rattle.tree_graphs.specs.Asked.{write_of}
use Rattle.tree_graphs.proofs.EdgeSums.{weight_from}
use Rattle.tree_sums.specs.Parts.{weight}
use Rattle.tree_sums.proofs.Weights.{weight_sum}
use Rattle.tree_graphs.specs.Paths.{terms_from}
use Rattle.plain_data.proofs.Lists.{All-slice_get}

-- Excluded candidates

excluded_more : (u p : ℕ) (excluded : List Excluded) (e : Excluded) → IsTrue (is_excluded u p excluded)
    → IsTrue (is_excluded u p (excluded ++ e ∷ []))
excluded_more u p [] e h = absurd (let f : false ≡ true = h in cc)
excluded_more u p (d ∷ excluded) e h = go ((d.writer == u) && (d.level == p)) h (excluded_more u p excluded e) where
  go : (b : Bool) → IsTrue (b || is_excluded u p excluded)
      → (IsTrue (is_excluded u p excluded) → IsTrue (is_excluded u p (excluded ++ e ∷ [])))
      → IsTrue (b || is_excluded u p (excluded ++ e ∷ []))
  go true h rest = refl
  go false h rest = rest h

excluded_last : (u p : ℕ) (excluded : List Excluded) (e : Excluded) → e.writer ≡ u → e.level ≡ p
    → IsTrue (is_excluded u p (excluded ++ e ∷ []))
excluded_last u p [] e h k =
    ap (λ b. b || false) (and_from (e.writer == u) (e.level == p) (eq-eqb e.writer u h) (eq-eqb e.level p k))
excluded_last u p (d ∷ excluded) e h k = go ((d.writer == u) && (d.level == p)) (excluded_last u p excluded e h k) where
  go : (b : Bool) → IsTrue (is_excluded u p (excluded ++ e ∷ [])) → IsTrue (b || is_excluded u p (excluded ++ e ∷ []))
  go true rest = refl
  go false rest = rest

-- the number behind those that were asked
pub next_left : (left done rest : List ℕ) (number : ℕ) → done ++ (number ∷ rest) ≡ left → IsLeft number left
next_left left done rest number e = (length done, ap (λ xs. slice_get xs (length done)) (sym e) ∙ there done) where
  there : (done : List ℕ) → slice_get (done ++ (number ∷ rest)) (length done) ≡ Some number
  there [] = refl
  there (i ∷ done) = there done

pub next_below : (left done rest : List ℕ) (number n : ℕ) → done ++ (number ∷ rest) ≡ left → All (λ i. i < n) left
    → number < n
next_below left done rest number n e h =
    let k : IsLeft number left = next_left left done rest number e in
    All-slice_get (λ i. i < n) left k.0 number h k.1

module _ (state : State) where
  -- the properties of an excluded candidate, and of a number
  abbrev IsOut : Position → List Form → Excluded → Type 0
  IsOut best place e =
      (o : ReadAndWrite) → Contains (pairs_of state.read.now) o → o.write.number ≡ e.writer
      → IsExcluded state.context.now (write_of best.candidate.now.writes) place o e

  abbrev HasOut : List Excluded → ℕ → Type 0
  HasOut excluded i = (c : Candidate) → slice_get state.candidates.now i ≡ Some c
      → IsTrue (is_excluded c.writes.write.number c.writes.level excluded)

  -- none is left behind the excluded ones
  pub all_asked : (excluded : List Excluded) → IsChoiceSoFar state [] excluded → IsChoice state (End excluded)
  all_asked excluded h = go (option_copied state.best) h.2 where
    all : h.0 ≡ state.left.now
    all = sym (append-nil h.0) ∙ h.1

    go : (best : Option Position) → MatchOption best (h.0 ≡ []) (λ best. AllAreExcluded state best h.0 excluded)
        → MatchOption best (state.left.now ≡ []) (λ best. AllAreExcluded state best state.left.now excluded)
    go None none = sym all ∙ none
    go (Some best) k = subst (λ left. AllAreExcluded state best left excluded) all k

  -- one more is excluded
  pub one_excluded : (number : ℕ) (rest : List ℕ) (excluded more : List Excluded) (e : Excluded) (c : Candidate)
      (best : Position) → IsCandidate state.read.now c → slice_get state.candidates.now number ≡ Some c
      → option_copied state.best ≡ Some best → e.writer ≡ c.writes.write.number → e.level ≡ c.writes.level → more
      ≡ excluded ++ e ∷ []
      → ((place : List Form) → IsPointAt best place → IsExcluded state.context.now
      (write_of best.candidate.now.writes) place (pair_of c.writes) e)
      → IsChoiceSoFar state (number ∷ rest) excluded → IsChoiceSoFar state rest more
  one_excluded number rest excluded more e c best h is best_is writer level more_is out k = (
    k.0 ++ number ∷ [],
    append_assoc k.0 (number ∷ []) rest ∙ k.1,
    subst (λ o. MatchOption o (k.0 ++ number ∷ [] ≡ []) (λ best. AllAreExcluded state best (k.0 ++ number ∷ []) more))
        (sym best_is)
        (subst (AllAreExcluded state best (k.0 ++ number ∷ [])) (sym more_is)
        (pushed (subst (λ o. MatchOption o (k.0 ≡ []) (λ best. AllAreExcluded state best k.0 excluded)) best_is k.2))),
  ) where
    pushed : AllAreExcluded state best k.0 excluded
        → AllAreExcluded state best (k.0 ++ number ∷ []) (excluded ++ e ∷ [])
    pushed a = (
      λ place at. All-push (IsOut best place) excluded e (a.0 place at)
          (λ o there number.
          (let same : pair_of c.writes ≡ o
          = h.joined.one (pair_of c.writes) o h.pair there (sym (number ∙ writer)) in
          subst (λ o. IsExcluded state.context.now (write_of best.candidate.now.writes) place o e) same
          (out place at))),
      All-push (HasOut (excluded ++ e ∷ [])) k.0 number
          (All-weaker (HasOut excluded) (HasOut (excluded ++ e ∷ []))
          (λ i f d found. excluded_more d.writes.write.number d.writes.level excluded e (f d found)) k.0 a.1)
          (λ d found.
          (let same : c ≡ d = same_Some c d (sym is ∙ found) in
          excluded_last d.writes.write.number d.writes.level excluded e
          (writer ∙ ap (λ (c : Candidate). c.writes.write.number) same)
          (level ∙ ap (λ (c : Candidate). c.writes.level) same))),
    )

  -- one has no point
  pub one_absent : (number : ℕ) (rest : List ℕ) (excluded : List Excluded) (c : Candidate) (ts : List Term)
      → IsPath state 0 None → IsCandidate state.read.now c → slice_get state.candidates.now number ≡ Some c
      → option_copied state.best ≡ None → IsContradicted state.context.now c.edges ts
      → IsChoiceSoFar state (number ∷ rest) excluded → IsChoice state (Absent number ts)
  one_absent number rest excluded c ts path h is none k so_far =
      let light : weight ts ≤ 2 ^ 48
      = omega (
        arith,
        ap weight k.is,
        weight_sum k.shown (terms_from (length state.context.now.rows) k.rows),
        weight_from (length state.context.now.rows) k.rows,
        k.contradiction.light,
      ) in (
        c,
        (is, next_left state.left.now so_far.0 rest number so_far.1),
        none,
        writes_refuted state.read.now state.context.now c ts h path.context_is k,
        light,
      )

  -- one is taken
  pub one_taken : (number : ℕ) (rest : List ℕ) (excluded : List Excluded) (c : Candidate)
      → slice_get state.candidates.now number ≡ Some c → IsChoiceSoFar state (number ∷ rest) excluded
      → IsChoice state (Take number)
  one_taken number rest excluded c is so_far = (c, (is, next_left state.left.now so_far.0 rest number so_far.1))

-- nothing is asked yet
pub choice_start : (state : State) → IsChoiceSoFar state state.left.now []
choice_start state = ([], refl, go (option_copied state.best)) where
  go : (best : Option Position) → MatchOption best (◌≡◌ {A = List ℕ} [] []) (λ best. AllAreExcluded state best [] [])
  go None = refl
  go (Some best) = (λ place at. All-nil _, All-nil _)
