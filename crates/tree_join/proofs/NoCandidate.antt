-- A candidate without a point, in the joined context.
--
-- Its Zero leaf has one proof, which refutes that it writes the cell at its level. The rows on its point stand in the
-- joined system too, so the proof is carried to it; order rows behind change nothing.
use Rattle.std.proofs.Common.{◌≡◌, ◌+◌, ◌^◌, ◌≤◌, ℕ, List, [], ◌∷◌, ◌++◌, length, map, refl, sym, ap, ◌∙◌, subst, arith}
use Rattle.std.specs.Prelude.{Some, slice_get}
use Rattle.std.proofs.lemmas.List.{append-nil}
use Rattle.std.proofs.lemmas.Option.{same_Some}
use Rattle.affine_core.specs.declared.form.Form.{Form}
use Rattle.int_polyhedra.specs.declared.system.Proof.{Proof}
use Rattle.int_polyhedra.specs.declared.system.Proof.TheVariants.{Sum}
use Rattle.int_polyhedra.specs.declared.system.System.{System}
use Rattle.int_polyhedra.specs.declared.system.Term.{Term}
use Rattle.tree_graphs.specs.Contexts.{IsMadeAs}
use Rattle.tree_order.specs.Contexts.{IsPathContext}
use Rattle.tree_order.specs.Reads.{pair_of}
use Rattle.tree_order.specs.Refutations.{IsPointIn, RefutesBetween, RefutesWrites}
use Rattle.tree_order.specs.Positions.{own_sums, IsAt}
use Rattle.tree_order.specs.Seen.{absent_at}
use Rattle.tree_order.specs.declared.candidates.Candidate.{Candidate}
use Rattle.tree_order.specs.declared.candidates.Read.{Read}
use Rattle.tree_order.specs.declared.seen.Absence.{Absence}
use Rattle.tree_order.specs.declared.seen.Position.{Position}
use Rattle.tree_order.proofs.Absent.{orders_are_made}
use Rattle.tree_order.proofs.PointSystems.{carried_write, light_append, light_own, light_shown, no_rows, node_over}
use Rattle.tree_order.proofs.PointSystems.{system, AreLightSums, AreMadeRows, IsNodeOver}
use Rattle.tree_graphs.specs.Asked.{read_of, write_of}
use Rattle.tree_graphs.specs.Edges.{AreLevelRows}
use Rattle.tree_graphs.specs.Simple.{IsLightSum}
use Rattle.tree_graphs.proofs.Just.{none_system}
use Rattle.tree_graphs.proofs.MadeRows.{taken_all}
use Rattle.tree_graphs.proofs.ZeroSystems.{IsPlaced}
use Rattle.tree_graphs.proofs.Nodes.{checked_zero, simple_none}
use Rattle.plain_data.proofs.Lists.{All-slice_get}
use Rattle.tree_sums.specs.Carried.{carried_terms, sum_in_place}
use Rattle.tree_sums.specs.Parts.{weight}
use Rattle.source_tree.specs.Checked.{AreRefuted, IsRefuted}
use Rattle.source_tree.specs.Rows.{RowExpr, RowSystem, Take}
use Rattle.source_tree.specs.Systems.{Context, Occurrence, with_rows, with_write_at, writer_place}
use Rattle.source_tree.specs.declared.tree.Tree.TheVariants.{Zero}
use Rattle.source_tree.proofs.Refutations.{length-AreRefuted}

-- the terms in the places of a candidate's rows are light
pub light_places : (r : Read) (context : System) (at : Position) → IsAt r context at → (first count : ℕ)
    → AreLightSums (2 ^ 26) (at.rows ++ own_sums first count)
light_places r context at h first count =
    light_append (2 ^ 26) at.rows (own_sums first count) (light_shown context h.node.made at.rows h.node.shown)
    (light_own (2 ^ 26) first count (omega arith))

-- a Sum has its terms
pub same_sum : (ts us : List Term) → Sum ts ≡ Sum us → ts ≡ us
same_sum ts us e = cc

module _ (r : Read) (context : System) (path : IsPathContext r.context.now.vars 0 context) (at : Position)
    (h : IsAt r context at) (proofs : List Proof)
    (is : at.node.now ≡ Zero proofs) where
  abbrev cand : Candidate
  cand = at.candidate.now

  abbrev read : Occurrence
  read = read_of cand.writes

  abbrev u : Occurrence
  u = write_of cand.writes

  module _ (c : Context) (made : IsMadeAs context c) where
    abbrev over : IsNodeOver context cand at.node.now at.rows c.vars
    over = node_over context cand at.node.now at.rows c.vars h.node (sym made.vars)

    abbrev own : Context
    own = record { vars = c.vars; rows = over.rows }

    abbrev sys : IsPlaced read u cand.writes.level c context.rows cand.edges
    sys = system r context 0 path cand h.candidate c made.vars made.rows

    one_system : AreRefuted (with_rows (with_write_at read own u) (sys.level ++ []) ∷ []) proofs
    one_system =
        subst (λ xs. AreRefuted xs proofs) (none_system read u cand.writes.level own sys.level sys.level_is)
        (checked_zero own at.node.now proofs over.checked is).0

    first_refuted : (one : RowSystem) (ps : List Proof) (proof : Proof) → AreRefuted (one ∷ []) ps → slice_get ps 0
        ≡ Some proof → IsRefuted one proof
    first_refuted one [] proof k e = absurd k
    first_refuted one (p ∷ ps) proof k e = subst (IsRefuted one) (same_Some p proof e) k.0

    pub without_carried : (level order : List RowExpr) (all : AreMadeRows (c.vars + length u.statement.loops) order)
        (proof : Proof) (ts : List Term) → slice_get proofs 0 ≡ Some proof → proof ≡ Sum ts
        → weight ts ≤ 2 ^ 48 → AreLevelRows read u cand.writes.level (writer_place c u) level
        → IsRefuted (with_rows (with_write_at read c u) (level ++ order))
        (Sum (carried_terms (sum_in_place (at.rows ++ own_sums (length context.rows) (length cand.edges))) ts))
    without_carried level order all proof ts first proof_is light level_is =
        let more : ℕ = c.vars + length u.statement.loops in
        let none : AreMadeRows more [] = no_rows more in
        let same : level ≡ sys.level = same_Some level sys.level (sym level_is ∙ sys.level_is) in
        let refuted : IsRefuted (with_rows (with_write_at read own u) (level ++ [])) (Sum ts)
        = subst (λ level. IsRefuted (with_rows (with_write_at read own u) (level ++ [])) (Sum ts)) (sym same)
        (subst (IsRefuted (with_rows (with_write_at read own u) (sys.level ++ []))) proof_is
        (first_refuted
        (with_rows (with_write_at read own u) (sys.level ++ [])) proofs proof one_system first)) in
        let sums : List (List Term) = own_sums (length context.rows) (length cand.edges) in
        subst (λ others. IsRefuted (with_rows (with_write_at read c u) (level ++ order))
        (Sum (carried_terms (sum_in_place (at.rows ++ others)) ts))) (append-nil sums)
        (carried_write r context 0 path cand h.candidate c made.vars made.rows at.node.now at.rows over [] order none
        all [] tt (λ j lt. absurd (omega (arith, lt, none.count))) level ts level_is light refuted)

  -- the context, taken as it is
  abbrev taken : Context
  taken = record { vars = context.vars; rows = map Take context.rows }

  taken_made : IsMadeAs context taken
  taken_made = record { vars = refl; rows = taken_all context.vars context.rows path.over }

  pub one_proof : length proofs ≡ 1
  one_proof = length-AreRefuted (with_rows (with_write_at read (own taken taken_made) u)
      ((sys taken taken_made).level ++ []) ∷ []) proofs (one_system taken taken_made)

  pub light_proof : (proof : Proof) → slice_get proofs 0 ≡ Some proof → IsLightSum proof
  light_proof proof first =
      All-slice_get IsLightSum proofs 0 proof (simple_none h.node.tests at.node.now proofs h.node.simple is) first

  -- what the carried proof refutes
  pub refutes_writes : (proof carried : Proof) (ts : List Term) → slice_get proofs 0 ≡ Some proof → proof ≡ Sum ts
      → weight ts ≤ 2 ^ 48
      → carried ≡ Sum (carried_terms (sum_in_place (at.rows ++ own_sums (length context.rows) (length cand.edges))) ts)
      → RefutesWrites (pair_of cand.writes) context cand.writes.level carried
  refutes_writes proof carried ts first proof_is light carried_is c level made level_is =
      subst (IsRefuted (with_rows (with_write_at read c u) (level ++ []))) (sym carried_is)
      (without_carried c made level []
      (no_rows (c.vars + length u.statement.loops)) proof ts first proof_is light level_is)

  pub refutes_between : (proof carried : Proof) (ts : List Term) (w : Occurrence) (place : List Form) (q : ℕ)
      → slice_get proofs 0 ≡ Some proof → proof ≡ Sum ts → weight ts ≤ 2 ^ 48
      → carried ≡ Sum (carried_terms (sum_in_place (at.rows ++ own_sums (length context.rows) (length cand.edges))) ts)
      → IsPointIn context w place
      → RefutesBetween (pair_of cand.writes) context cand.writes.level w place q carried
  refutes_between proof carried ts w place q first proof_is light carried_is point c level order made level_is
      order_is =
      subst (IsRefuted (with_rows (with_write_at read c u) (level ++ order))) (sym carried_is)
      (without_carried c made level order
      (orders_are_made context w u place q c order made point order_is) proof ts first proof_is light level_is)

-- the proofs of a Zero leaf are one Sum
pub record IsOneSum (proofs : List Proof) : Type 0 where
  pub terms : List Term
  pub is : proofs ≡ Sum terms ∷ []

pub zero_sum : (r : Read) (context : System) → IsPathContext r.context.now.vars 0 context → (at : Position)
    → IsAt r context at → (proofs : List Proof) → at.node.now ≡ Zero proofs → IsOneSum proofs
zero_sum r context path at h proofs is = go proofs is (one_proof r context path at h proofs is) where
  go : (proofs : List Proof) → at.node.now ≡ Zero proofs → length proofs ≡ 1 → IsOneSum proofs
  go [] is one = absurd (omega (arith, one))
  go (p ∷ []) is one = let light : IsLightSum p = light_proof r context path at h (p ∷ []) is p refl in record {
    terms = light.0;
    is = ap (λ p. p ∷ []) light.1;
  }
  go (p ∷ (q ∷ more)) is one = absurd (omega (arith, one))

-- the terms of a candidate without a point are light
pub light_terms : (r : Read) (context : System) → IsPathContext r.context.now.vars 0 context → (a : Absence)
    → IsAt r context (absent_at a) → weight a.terms ≤ 2 ^ 48
light_terms r context path a h =
    let light : IsLightSum (Sum a.terms)
    = light_proof r context path (absent_at a) h (Sum a.terms ∷ []) refl (Sum a.terms) refl in
    let same : a.terms ≡ light.0 = same_sum a.terms light.0 light.1 in
    omega (arith, ap weight same, light.2)

-- the terms in the places of a candidate's rows, as they were made
pub places_are : {sums made base rows : List (List Term)} {a b : ℕ} (here : ℕ) → sums ≡ made → made ≡ base
    ++ own_sums here a → base ≡ rows → a ≡ b → sums ≡ rows ++ own_sums here b
places_are {rows = rows} {a = a} here e f g h = e ∙ f ∙ ap (λ xs. xs ++ own_sums here a) g
    ∙ ap (λ n. rows ++ own_sums here n) h

-- and terms behind them
pub places_more : {sums made base first rows : List (List Term)} {a b : ℕ} (here : ℕ) (more : List (List Term)) → sums
    ≡ made → made ≡ first ++ more → first ≡ base ++ own_sums here a → base ≡ rows → a ≡ b
    → sums ≡ (rows ++ own_sums here b) ++ more
places_more here more e f g h k = e ∙ f ∙ ap (λ xs. xs ++ more) (places_are here refl g h k)
