-- What a leaf of the joined tree tells of its candidates.
--
-- The proof of a candidate before the best is its own one at the lesser level, with terms in the places of its rows;
-- that of the best itself is its own one at the same level; an excluded candidate has its terms. Each is told of the
-- writer and the level that are asked, which the candidate has in common with them.
use Rattle.std.proofs.Common.{◌≡◌, ◌+◌, ◌*◌, ◌^◌, ◌≤◌, ◌<◌, ◌==◌, ◌&&◌, ◌||◌, ℕ, zero, suc, ◌⊎◌, inl, inr, List, []}
use Rattle.std.proofs.Common.{◌∷◌, ◌++◌, length, Bool, true, false, cond, refl, sym, ap, ◌∙◌, subst, arith, Bor}
use Rattle.std.specs.Prelude.{Option, Some, None, Contains, IfSome, IsTrue, MatchOption, min, nat_lt, slice_get}
use Rattle.std.proofs.lemmas.List.{append_assoc}
use Rattle.std.proofs.lemmas.Option.{same_Some}
use Rattle.affine_core.specs.declared.form.Form.{Form}
use Rattle.int_polyhedra.specs.declared.system.Proof.{Proof}
use Rattle.int_polyhedra.specs.declared.system.Proof.TheVariants.{Sum}
use Rattle.int_polyhedra.specs.declared.system.System.{System}
use Rattle.int_polyhedra.specs.declared.system.Term.{Term}
use Rattle.tree_join.proofs.LevelCounts.{few_before}
use Rattle.tree_order.specs.Candidates.{is_candidate_of, levels_before, IsCandidate}
use Rattle.tree_order.specs.Reads.{pair_of, pairs_of}
use Rattle.tree_graphs.specs.Joint.{ReadAndWrite}
use Rattle.tree_order.specs.Contexts.{IsPathContext}
use Rattle.tree_join.specs.Ending.{IsAskedBetween, IsBetweenAsked, IsLeaf}
use Rattle.tree_join.specs.Joining.{IsBest}
use Rattle.tree_join.specs.Leaves.{is_excluded, order_sums, CanBeCarried, IsExcluded}
use Rattle.tree_order.specs.Refutations.{IsPointIn, RefutesBetween}
use Rattle.tree_order.specs.Orders.{DecidesAt, IsOrder}
use Rattle.tree_order.specs.Positions.{own_sums, IsAt, IsOwnProof, IsPointAt}
use Rattle.tree_order.specs.Seen.{StandsBefore}
use Rattle.tree_order.specs.declared.candidates.Candidate.{Candidate}
use Rattle.tree_order.specs.declared.candidates.Read.{Read}
use Rattle.tree_join.specs.declared.path.State.{State}
use Rattle.tree_join.specs.declared.leaf.Excluded.{Excluded}
use Rattle.tree_order.specs.declared.order.Order.{Order}
use Rattle.tree_order.specs.declared.seen.Position.{Position}
use Rattle.tree_join.proofs.Between.{between_carried, carry_fits, few_levels, light_orders, own_append, point_is}
use Rattle.tree_join.proofs.Between.{same_carried, same_text}
use Rattle.tree_order.proofs.PointSystems.{light_append, AreLightSums}
use Rattle.tree_graphs.proofs.Nodes.{same_place}
use Rattle.tree_join.proofs.Pairs.{same_pair}
use Rattle.tree_join.proofs.NoCandidate.{light_places}
use Rattle.tree_graphs.specs.Asked.{read_of, write_of}
use Rattle.tree_graphs.specs.Level.{common_of}
use Rattle.plain_data.proofs.Lists.{All-slice_get}
use Rattle.tree_sums.specs.Carried.{carried_terms, sum_in_place}
use Rattle.tree_sums.specs.Parts.{weight}
use Rattle.sanlp.proofs.Precedence.{common_first, common_loops-comm, common_loops-same}
use Rattle.source_tree.specs.Checked.{IsRefuted}
use Rattle.source_tree.specs.Systems.{Occurrence, with_rows, with_write_at}

-- Levels

-- by the text the level is that of an equal loop
pub text_level : (context : System) (most : ℕ) (u w : Occurrence) (z y : List Form) (order : Order) (q : ℕ)
    → IsOrder context most u w z y order → q < levels_before w u → order.strict ≡ None
    → q < length order.equal
text_level context most u w z y order q h lt none =
    let d : DecidesAt context most u w z y (length order.equal) None =
    subst (DecidesAt context most u w z y (length order.equal)) none h.decides in
    omega (arith, d.0, same_text u w q d.1 lt, common_loops-comm u.statement.loops w.statement.loops)

few_common : (context : System) (most : ℕ) (u w : Occurrence) (z y : List Form) (l : ℕ) (strict : Option (List Term))
    (q : ℕ) → DecidesAt context most u w z y l strict → q < levels_before w u
    → min q l < common_of u w
few_common context most u w z y l (Some ts) q d lt = omega (arith, d.0)
few_common context most u w z y l None q d lt =
    omega (arith, d.0, same_text u w q d.1 lt, common_loops-comm u.statement.loops w.statement.loops)

-- a statement before itself has the levels of its loops
pub own_level : (u w : Occurrence) (q : ℕ) → w ≡ u → q < levels_before w u → q < length w.statement.loops
own_level u w q e lt = go (nat_lt w.number w.number) refl (subst (λ u. q < levels_before w u) (sym e) lt) where
  go : (b : Bool) → nat_lt w.number w.number ≡ b → q < common_of w w + cond b 1 0 → q < length w.statement.loops
  go true f h = absurd (let k : w.number < w.number = grind arith in omega (arith, k))
  go false f h = omega (arith, h, common_loops-same w.statement.loops)

-- A candidate before the best

strict_light : (context : System) (most : ℕ) (u w : Occurrence) (z y : List Form) (l : ℕ) (strict : Option (List Term))
    (ts : List Term) → DecidesAt context most u w z y l strict → strict ≡ Some ts
    → weight ts ≤ most
strict_light context most u w z y l None ts d e = absurd (let f : None ≡ Some ts = e in cc)
strict_light context most u w z y l (Some us) ts d e = omega (arith, ap weight (same_Some us ts e), d.1.fact.light)

module _ (r : Read) (context : System) (best at : Position) (order : Order) (q here : ℕ)
    (h : IsBetweenAsked r context best at order q here) where
  abbrev edges_of : ℕ
  edges_of = length at.candidate.now.edges

  abbrev u : Occurrence
  u = write_of at.candidate.now.writes

  abbrev read : Occurrence
  read = read_of at.candidate.now.writes

  abbrev w : Occurrence
  w = write_of best.candidate.now.writes

  abbrev lesser : ℕ
  lesser = min q (length order.equal)

  -- the level is one of the candidate's loops
  pub lesser_level : lesser < length u.statement.loops
  lesser_level =
      omega (
        arith,
        few_common context (65536 * 896) u w h.stands.z h.stands.y
            (length order.equal) order.strict q h.stands.stands.decides h.below,
        common_first u.statement.loops w.statement.loops,
      )

  pub before_level : order.strict ≡ None → q < length order.equal
  before_level none = text_level context (65536 * 896) u w h.stands.z h.stands.y order q h.stands.stands h.below none

  pub small_level : q < 7
  small_level = omega (arith, h.below, few_before w u (few_levels r best.candidate.now h.best_is.0.candidate))

  -- the terms in the places
  abbrev sums_at : ℕ → List (List Term)
  sums_at start = (at.rows ++ own_sums here edges_of) ++ order_sums order.equal order.strict q start

  light_sums : (start : ℕ) → AreLightSums (2 ^ 26) (sums_at start)
  light_sums start =
      light_append (2 ^ 26) (at.rows ++ own_sums here edges_of) (order_sums order.equal order.strict q start)
      (light_places r context at h.at_is.0 here edges_of)
      (light_orders context (65536 * 896) h.stands.z h.stands.y order.equal order.strict q start
      (omega arith) h.stands.stands.equal
      (λ ts e. strict_light context (65536 * 896) u w h.stands.z h.stands.y
      (length order.equal) order.strict ts h.stands.stands.decides e))

  pub between_fits : (sums : List (List Term)) (start : ℕ) (proof : Proof) → sums ≡ sums_at start
      → ((z : List Form) → IsPointAt at z → IsOwnProof context at z lesser proof) → CanBeCarried sums proof
  between_fits sums start proof sums_is own =
      let l = (own h.stands.z h.stands.first_at).light in
      (l.0, l.1, carry_fits sums l.0 l.2 (subst (AreLightSums (2 ^ 26)) (sym sums_is) (light_sums start)))

  pub between_refutes : (sums : List (List Term)) (start : ℕ) (proof carried : Proof) (place : List Form) → sums
      ≡ sums_at start → start ≡ here + edges_of
      → ((z : List Form) → IsPointAt at z → IsOwnProof context at z lesser proof)
      → ((ts : List Term) → proof ≡ Sum ts → carried ≡ Sum (carried_terms (sum_in_place sums) ts))
      → IsPointAt best place
      → RefutesBetween (pair_of at.candidate.now.writes) context at.candidate.now.writes.level w place q carried
  between_refutes sums start proof carried place sums_is start_is own carry point c level rows made level_is rows_is =
      let z : List Form = h.stands.z in
      let number : ℕ = best.candidate.now.writes.write.number in
      let same : h.stands.y ≡ place = same_place best.node.now number number h.stands.y place h.stands.second_at.0
      point.0 h.stands.second_at.1 point.1 in
      let stands : IsOrder context (65536 * 896) u w z place order =
      subst (λ y. IsOrder context (65536 * 896) u w z y order) same h.stands.stands in
      let one : IsOwnProof context at z lesser proof = own z h.stands.first_at in
      let l = one.light in
      let mine : IsOwnProof context at z lesser (Sum l.0) = subst (IsOwnProof context at z lesser) l.1 one in
      let orders : List (List Term) = order_sums order.equal order.strict q start in
      let joined : sums ≡ at.rows ++ (own_sums (length context.rows) edges_of ++ orders)
      = sums_is ∙ append_assoc at.rows (own_sums here edges_of) orders
      ∙ ap (λ n. at.rows ++ (own_sums n edges_of ++ orders)) h.here_is in
      subst (IsRefuted (with_rows (with_write_at read c u) (level ++ rows)))
      (sym (carry l.0 l.1 ∙ ap (λ sums. Sum (carried_terms (sum_in_place sums) l.0)) joined))
      (between_carried r context h.path at h.at_is.0 c made w z place order q
      (point_is r context at z h.at_is.0 h.stands.first_at)
      (point_is r context best place h.best_is.0 point) stands h.below level
      rows l.0 start (start_is ∙ ap (λ n. n + edges_of) h.here_is) level_is rows_is mine l.2)

-- The best's own candidate

module _ (r : Read) (context : System) (at : Position) (h : IsBest r context at) (here q : ℕ) (proof : Proof)
    (own : (z : List Form) → IsPointAt at z → IsOwnProof context at z q proof)
    (sums : List (List Term)) (sums_is : sums ≡ at.rows ++ own_sums here (length at.candidate.now.edges + 13)) where
  pub same_fits : CanBeCarried sums proof
  same_fits =
      let l = (own h.1.0 h.1.1).light in (
        l.0,
        l.1,
        carry_fits sums l.0 l.2 (subst (AreLightSums (2 ^ 26)) (sym sums_is)
            (light_places r context at h.0 here (length at.candidate.now.edges + 13))),
      )

  pub same_refutes : (carried : Proof) (place : List Form)
      → IsPathContext r.context.now.vars 0 context → here ≡ length context.rows
      → q < length (write_of at.candidate.now.writes).statement.loops
      → ((ts : List Term) → proof ≡ Sum ts → carried ≡ Sum (carried_terms (sum_in_place sums) ts))
      → IsPointAt at place
      → RefutesBetween (pair_of at.candidate.now.writes) context at.candidate.now.writes.level
      (write_of at.candidate.now.writes) place q carried
  same_refutes carried place path here_is lt carry point c level rows made level_is rows_is =
      let u : Occurrence = write_of at.candidate.now.writes in
      let edges_of : ℕ = length at.candidate.now.edges in
      let one : IsOwnProof context at place q proof = own place point in
      let l = one.light in
      let mine : IsOwnProof context at place q (Sum l.0) = subst (IsOwnProof context at place q) l.1 one in
      let joined : sums ≡ at.rows
      ++ (own_sums (length context.rows) edges_of ++ own_sums (length context.rows + edges_of) 13)
      = sums_is ∙ ap (λ n. at.rows ++ own_sums n (edges_of + 13)) here_is
      ∙ ap (λ others. at.rows ++ others) (own_append (length context.rows) edges_of 13) in
      subst (IsRefuted (with_rows (with_write_at (read_of at.candidate.now.writes) c u) (level ++ rows)))
      (sym (carry l.0 l.1 ∙ ap (λ sums. Sum (carried_terms (sum_in_place sums) l.0)) joined))
      (same_carried r context path at h.0 c made place q level rows l.0
      (point_is r context at place h.0 point) lt level_is rows_is mine l.2)

-- A leaf

pub leaf_best : (state : State) (best : Position) (excluded : List Excluded) → IsLeaf state best excluded
    → IsBest state.read.now state.context.now best
leaf_best state best excluded l =
    subst (λ o. IfSome o (IsBest state.read.now state.context.now)) l.best_is l.path.best_is

-- an excluded candidate
pub excluded_at : (state : State) (best : Position) (excluded : List Excluded) (o : ReadAndWrite) (e : Excluded) (k : ℕ)
    (place : List Form) → IsLeaf state best excluded → Contains (pairs_of state.read.now) o
    → slice_get excluded k ≡ Some e → e.writer ≡ o.write.number → IsPointAt best place
    → IsExcluded state.context.now (write_of best.candidate.now.writes) place o e
excluded_at state best excluded o e k place l pair there writer point =
    All-slice_get (λ e. (o : ReadAndWrite) → Contains (pairs_of state.read.now) o → o.write.number ≡ e.writer
    → IsExcluded state.context.now (write_of best.candidate.now.writes) place o e) excluded k e
    (l.excluded_are.0 place point) there o pair (sym writer)

pub excluded_level : (state : State) (best : Position) (excluded : List Excluded) (o : ReadAndWrite) (level q : ℕ)
    (e : Excluded) (k : ℕ) → IsLeaf state best excluded
    → IsAskedBetween state best o level q → slice_get excluded k ≡ Some e → e.writer ≡ o.write.number
    → q < length e.sums
excluded_level state best excluded o level q e k l asked there writer =
    let b = leaf_best state best excluded l in
    omega (arith, asked.below, (excluded_at state best excluded o e k b.1.0 l asked.write.pair there writer b.1.1).all)

pub excluded_refutes : (state : State) (best : Position) (excluded : List Excluded) (o : ReadAndWrite) (level q : ℕ)
    (e : Excluded) (k : ℕ) (place : List Form) (ts : List Term) (proof : Proof)
    → IsLeaf state best excluded → IsAskedBetween state best o level q → slice_get excluded k ≡ Some e → e.writer
    ≡ o.write.number → e.level ≡ level → IsPointAt best place → slice_get e.sums q ≡ Some ts
    → proof ≡ Sum ts
    → RefutesBetween o state.context.now level (write_of best.candidate.now.writes) place q proof
excluded_refutes state best excluded o level q e k place ts proof l asked there writer level_is point sum_is is =
    let out : IsExcluded state.context.now (write_of best.candidate.now.writes) place o e =
    excluded_at state best excluded o e k place l asked.write.pair there writer point in
    subst (RefutesBetween o state.context.now level (write_of best.candidate.now.writes) place q)
    (sym is)
    (subst (λ p. RefutesBetween o state.context.now p (write_of best.candidate.now.writes) place q
    (Sum ts)) level_is (out.each q ts sum_is))

-- a candidate that stands before the best, of the write and level that are asked
pub before_asked : (state : State) (best at : Position) (excluded : List Excluded) (order : Order) (o : ReadAndWrite)
    (level q here : ℕ) → IsLeaf state best excluded → IsAskedBetween state best o level q
    → here ≡ length state.context.now.rows → IsTrue (is_candidate_of o.write.number level at.candidate.now)
    → IsAt state.read.now state.context.now at
    → StandsBefore state.context.now (65536 * 896) at best order
    → IsBetweenAsked state.read.now state.context.now best at order q here
before_asked state best at excluded order o level q here l asked here_is is at_is stands =
    let same : pair_of at.candidate.now.writes ≡ o =
    same_pair state.read.now o level at.candidate.now at_is.candidate asked.write.pair is in
    record {
      path = l.path.context_is;
      here_is = here_is;
      best_is = leaf_best state best excluded l;
      at_is = (at_is, (stands.z, stands.first_at));
      stands = stands;
      below = subst (λ (o : ReadAndWrite). q < levels_before (write_of best.candidate.now.writes) o.write) (sym same)
          asked.below;
    }

-- the best itself
pub best_asked : (state : State) (best : Position) (excluded : List Excluded) (o : ReadAndWrite) (level q : ℕ)
    → IsLeaf state best excluded → IsAskedBetween state best o level q
    → IsTrue (is_candidate_of o.write.number level best.candidate.now)
    → q < length (write_of best.candidate.now.writes).statement.loops
best_asked state best excluded o level q l asked is =
    let b = leaf_best state best excluded l in
    let same : pair_of best.candidate.now.writes ≡ o =
    same_pair state.read.now o level best.candidate.now b.0.candidate asked.write.pair is in
    own_level o.write (write_of best.candidate.now.writes) q (ap (λ (o : ReadAndWrite). o.write) same) asked.below

-- Excluded candidates, one after the other

abbrev pub FindsExcluded : ℕ → ℕ → List Excluded → Option (Bor Excluded) → Type 0
FindsExcluded u p excluded result =
    MatchOption result (is_excluded u p excluded ≡ false)
    (λ e. (e.now.writer ≡ u) × ((e.now.level ≡ p) × ((k : ℕ) × (slice_get excluded k ≡ Some e.now))))

pub excluded_past : (u p : ℕ) (d : Excluded) (rest excluded : List Excluded) (result : Option (Bor Excluded)) → excluded
    ≡ d ∷ rest → ((d.writer == u) && (d.level == p)) ≡ false
    → FindsExcluded u p rest result → FindsExcluded u p excluded result
excluded_past u p d rest excluded None is other h = ap (is_excluded u p) is ∙ ap (λ b. b || is_excluded u p rest) other
    ∙ h
excluded_past u p d rest excluded (Some e) is other (writer, (level, (k, there))) =
    (writer, (level, (suc k, ap (λ xs. slice_get xs (suc k)) is ∙ there)))

-- Terms of one level more

pub each_pushed : (context : System) (cand : Candidate) (w : Occurrence) (place : List Form) (level : ℕ)
    (sums new : List (List Term)) (ts : List Term) → new ≡ sums ++ ts ∷ [] → length sums ≡ level
    → ((q : ℕ) (us : List Term) (r : Read) → slice_get sums q ≡ Some us → IsCandidate r cand
    → IsPointIn context w place
    → RefutesBetween (pair_of cand.writes) context cand.writes.level w place q (Sum us))
    → ((r : Read) → IsCandidate r cand → IsPointIn context w place
    → RefutesBetween (pair_of cand.writes) context cand.writes.level w place level (Sum ts))
    → (q : ℕ) (us : List Term) (r : Read) → slice_get new q ≡ Some us → IsCandidate r cand → IsPointIn context w place
    → RefutesBetween (pair_of cand.writes) context cand.writes.level w place q (Sum us)
each_pushed context cand w place level sums new ts e count old last q us r there is point =
    elim (pushed_at sums ts q us (ap (λ xs. slice_get xs q) (sym e) ∙ there)) [
      | inl before ↦ old q us r before is point
      | inr at ↦ subst (λ us. RefutesBetween (pair_of cand.writes) context cand.writes.level w place q (Sum us))
          (sym at.1)
          (subst (λ n. RefutesBetween (pair_of cand.writes) context cand.writes.level w place n (Sum ts))
          (let n : level ≡ q = omega (arith, count, at.0) in n) (last r is point))
    ] where
      pushed_at : (sums : List (List Term)) (ts : List Term) (q : ℕ) (us : List Term) → slice_get (sums ++ ts ∷ []) q
          ≡ Some us → (slice_get sums q ≡ Some us) ⊎ ((q ≡ length sums) × (us ≡ ts))
      pushed_at [] ts zero us h = inr (refl, sym (same_Some ts us h))
      pushed_at [] ts (suc q) us h = absurd (let f : None ≡ Some us = h in cc)
      pushed_at (x ∷ sums) ts zero us h = inl h
      pushed_at (x ∷ sums) ts (suc q) us h =
          elim (pushed_at sums ts q us h) [ inl before ↦ inl before | inr at ↦ inr (omega (arith, at.0), at.1) ]
