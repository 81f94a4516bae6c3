-- The leaves of the joined tree.
--
-- A candidate's leaf has first the proofs of its head systems, and then one for each level of order behind its point:
-- so the last as many proofs as it has loops are those. A joined leaf has the head's proofs, carried, and behind them
-- those of all writers and levels, in the order of the systems.
use Rattle.std.proofs.Common.{◌≡◌, ◌+◌, ◌-◌, ◌^◌, ◌≤◌, ◌<◌, ℕ, zero, suc, List, [], ◌∷◌, ◌++◌, length, map, take, Bool}
use Rattle.std.proofs.Common.{true, false, cond, refl, sym, ap, ◌∙◌, subst, arith}
use Rattle.std.specs.Prelude.{Some, None, All, Contains, nat_lt, slice_get}
use Rattle.std.specs.List.{AllZip}
use Rattle.std.specs.Option.{option_map}
use Rattle.std.proofs.lemmas.List.{length-append, length-map}
use Rattle.std.proofs.lemmas.List.Elements.{All-append, All-cons, All-head, All-nil, All-tail, All-take, All-weaker}
use Rattle.std.proofs.lemmas.Option.{same_Some, slice_get-map}
use Rattle.sanlp.proofs.Precedence.{common_loops-same}
use Rattle.affine_core.specs.declared.form.Form.{Form}
use Rattle.int_polyhedra.specs.declared.system.Proof.{Proof}
use Rattle.int_polyhedra.specs.declared.system.System.{System}
use Rattle.int_polyhedra.specs.declared.system.Term.{Term}
use Rattle.tree_join.proofs.LeafSystems.{order_rows_count}
use Rattle.tree_order.specs.Candidates.{levels_before}
use Rattle.tree_graphs.specs.Contexts.{IsMadeAs}
use Rattle.tree_order.specs.Contexts.{IsPathContext}
use Rattle.tree_graphs.specs.Joint.{head_systems, no_orders, orders_behind, write_systems_of, at_writer, at_zero}
use Rattle.tree_order.specs.Reads.{IsJoinedTree}
use Rattle.tree_graphs.specs.Joint.{IsSum}
use Rattle.tree_order.specs.Reads.{pair_of, pairs_of}
use Rattle.tree_graphs.specs.Joint.{ReadAndWrite}
use Rattle.tree_join.specs.Leaves.{AddsRefutations, CanBeCarried, IsCarried}
use Rattle.tree_order.specs.Refutations.{IsPointIn}
use Rattle.tree_order.specs.Positions.{own_sums, IsAt, IsNode, IsOwnProof}
use Rattle.tree_order.specs.declared.candidates.Candidate.{Candidate}
use Rattle.tree_order.specs.declared.candidates.Read.{Read}
use Rattle.tree_order.specs.declared.seen.Position.{Position}
use Rattle.tree_join.proofs.Between.{carry_fits, point_is}
use Rattle.tree_join.proofs.Heads.{head_rows, heads_are, heads_carried, heads_tight}
use Rattle.tree_order.proofs.PointSystems.{node_over, AreLightSums, IsNodeOver}
use Rattle.tree_graphs.proofs.Nodes.{checked_point, simple_point, IsCheckedPoint}
use Rattle.tree_graphs.specs.Asked.{read_of, write_of}
use Rattle.tree_graphs.specs.Edges.{AreLevelRows}
use Rattle.tree_graphs.specs.Level.{common_of}
use Rattle.tree_graphs.specs.Simple.{IsLightSum}
use Rattle.tree_graphs.proofs.Just.{later_system}
use Rattle.tree_graphs.proofs.ZeroSystems.{placed, IsPlaced}
use Rattle.plain_data.proofs.Lists.{All-slice_get}
use Rattle.source_tree.specs.Checked.{AreRefuted, IsRefuted}
use Rattle.source_tree.specs.Rows.{RowExpr, RowSystem}
use Rattle.source_tree.specs.Systems.{every, with_rows, Context, Occurrence}
use Rattle.source_tree.specs.Systems.{with_write_at, writer_place}
use Rattle.source_tree.specs.declared.tree.Tree.{Tree}
use Rattle.source_tree.specs.declared.tree.Tree.TheVariants.{Writer, Zero}
use Rattle.source_tree.proofs.Refutations.{AreRefuted-append, length-AreRefuted}

-- Proofs by number

refuted_at : (xs ys : List RowSystem) (ps : List Proof) (k : ℕ) (s : RowSystem) (p : Proof) → AreRefuted (xs ++ ys) ps
    → slice_get ys k ≡ Some s → slice_get ps (length xs + k) ≡ Some p → IsRefuted s p
refuted_at [] ys ps k s p h e f = let z : 0 + k ≡ k = omega arith
    in at ys ps k h e (ap (slice_get ps) (sym z) ∙ f) where
      at : (ys : List RowSystem) (ps : List Proof) (k : ℕ) → AreRefuted ys ps → slice_get ys k ≡ Some s → slice_get ps k
          ≡ Some p → IsRefuted s p
      at [] ps k h e f = absurd (let g : None ≡ Some s = e in cc)
      at (y ∷ ys) [] k h e f = absurd h
      at (y ∷ ys) (q ∷ ps) zero h e f =
          subst (λ s. IsRefuted s p) (same_Some y s e) (subst (IsRefuted y) (same_Some q p f) h.0)
      at (y ∷ ys) (q ∷ ps) (suc k) h e f = at ys ps k h.1 e f
refuted_at (x ∷ xs) ys [] k s p h e f = absurd h
refuted_at (x ∷ xs) ys (q ∷ ps) k s p h e f =
    let z : suc (length xs) + k ≡ suc (length xs + k) = omega arith in
    refuted_at xs ys ps k s p h.1 e (sym (ap (slice_get (q ∷ ps)) z) ∙ f)

refuted_front : (xs ys : List RowSystem) (ps : List Proof) → AreRefuted (xs ++ ys) ps
    → AreRefuted xs (take (length xs) ps)
refuted_front [] ys ps h = tt
refuted_front (x ∷ xs) ys [] h = absurd h
refuted_front (x ∷ xs) ys (p ∷ ps) h = (h.0, refuted_front xs ys ps h.1)

-- carried Sums are Sums
carried_sums : (sums : List (List Term)) (ps more : List Proof) → AllZip (IsCarried sums) ps more → All IsLightSum ps
    → All IsSum more
carried_sums sums [] [] z l = All-nil _
carried_sums sums [] (q ∷ more) z l = absurd z
carried_sums sums (p ∷ ps) [] z l = absurd z
carried_sums sums (p ∷ ps) (q ∷ more) z l =
    let s : IsLightSum p = All-head IsLightSum p ps l in
    All-cons IsSum q more (_, z.0 s.0 s.1) (carried_sums sums ps more z.1 (All-tail IsLightSum p ps l))

-- A candidate's leaf

module _ (r : Read) (context : System) (path : IsPathContext r.context.now.vars 0 context) (at : Position)
    (h : IsAt r context at) (place : List Form) (proofs : List Proof)
    (is : at.node.now ≡ Writer at.candidate.now.writes.write.number place proofs) where
  abbrev cand : Candidate
  cand = at.candidate.now

  abbrev read : Occurrence
  read = read_of cand.writes

  abbrev u : Occurrence
  u = write_of cand.writes

  abbrev pair : ReadAndWrite
  pair = pair_of cand.writes

  point : IsPointIn context u place
  point = point_is r context at place h (proofs, is)

  pub all_light : All IsLightSum proofs
  all_light = (simple_point h.node.tests at.node.now u.number place proofs h.node.simple is).light

  depth_levels : levels_before u u ≡ length u.statement.loops
  depth_levels = go (nat_lt u.number u.number) refl where
    go : (b : Bool) → nat_lt u.number u.number ≡ b → common_of u u + cond b 1 0 ≡ length u.statement.loops
    go true e = absurd (let k : u.number < u.number = grind arith in omega (arith, k))
    go false e = omega (arith, common_loops-same u.statement.loops)

  module _ (k : IsNode context cand at.node.now at.rows) where
    parts : IsCheckedPoint read u cand.writes.level k.own u.number place proofs
    parts = checked_point read u cand.writes.level k.own at.node.now u.number place proofs k.checked is

    abbrev behind_of : List RowExpr → List RowExpr → RowSystem
    behind_of rows order = with_rows (with_write_at read k.own u) (rows ++ order)

    -- the proofs, in two parts
    split : (rows : List RowExpr) → AreLevelRows read u cand.writes.level (writer_place k.own u) rows
        → AreRefuted (head_systems pair place k.own ++ map (behind_of rows) (orders_behind u place k.own u)) proofs
    split rows rows_is =
        subst (λ xs. AreRefuted (head_systems pair place k.own ++ xs) proofs)
        (later_system read u cand.writes.level k.own rows place rows_is)
        parts.refuted

    orders_count : length (orders_behind u place k.own u) ≡ length u.statement.loops
    orders_count = order_rows_count u u place k.own point.deep ∙ depth_levels

    sys : IsPlaced read u cand.writes.level k.own k.made cand.edges
    sys =
        placed cand.writes.vars read u cand.writes.level k.own k.made cand.edges cand.writes.problem
        (k.vars ∙ path.vars_are ∙ sym h.candidate.vars) k.are_made h.candidate.graph.edges_are

    count : length proofs ≡ length (head_systems pair place k.own) + length u.statement.loops
    count =
        omega (
          arith,
          length-AreRefuted (head_systems pair place k.own
              ++ map (behind_of sys.level) (orders_behind u place k.own u)) proofs (split sys.level sys.level_is),
          length-append (head_systems pair place k.own)
              (map (behind_of sys.level) (orders_behind u place k.own u)),
          length-map (orders_behind u place k.own u) (behind_of sys.level),
          orders_count,
        )

  pub enough_proofs : length u.statement.loops ≤ length proofs
  enough_proofs = omega (arith, count h.node)

  -- the proof of a level
  pub own_is : (level row : ℕ) (proof : Proof) → row ≡ length proofs - length u.statement.loops + level
      → slice_get proofs row ≡ Some proof → IsOwnProof context at place level proof
  own_is level row proof row_is found = record {
    light = All-slice_get IsLightSum proofs row proof all_light found;
    refuted = λ k rows order rows_is order_is.
        (let heads : List RowSystem = head_systems pair place k.own in
        let number : row ≡ length heads + level = omega (arith, row_is, count k) in
        refuted_at heads (map (behind_of k rows) (orders_behind u place k.own u)) proofs level (behind_of k rows order) proof
        (split k rows rows_is)
        (slice_get-map (behind_of k rows) (orders_behind u place k.own u) level
        ∙ ap (option_map (behind_of k rows)) order_is) (ap (slice_get proofs) (sym number) ∙ found));
  }

  -- the proofs of the head
  pub can_carry : (sums : List (List Term)) (n : ℕ) → AreLightSums (2 ^ 26) sums
      → All (CanBeCarried sums) (take n proofs)
  can_carry sums n light =
      All-weaker IsLightSum (CanBeCarried sums) (λ p l. (l.0, l.1, carry_fits sums l.0 l.2 light)) (take n proofs)
      (All-take IsLightSum n proofs all_light)

  abbrev head_count : ℕ
  head_count = length proofs - length u.statement.loops

  -- where the joined context's rows are over these variables
  pub heads_added : (count_of : ℕ) (ps : List Proof) (old new more : List Proof) → 13 ≤ count_of → ps
      ≡ take head_count proofs → new ≡ old ++ more
      → AllZip (IsCarried (at.rows ++ own_sums (length context.rows) count_of)) ps more
      → AddsRefutations context (head_systems pair place) old new
  heads_added count_of ps old new more enough ps_is new_is zip = record {
    refuted = λ c before made refuted. heads_refuted c before made refuted;
    sums = λ all. subst (All IsSum) (sym new_is) (All-append IsSum old more all (carried_sums _ ps more zip light_taken));
  } where
    light_taken : All IsLightSum ps
    light_taken = subst (All IsLightSum) (sym ps_is) (All-take IsLightSum head_count proofs all_light)

    heads_refuted : (c : Context) (before : List RowSystem) → IsMadeAs context c → AreRefuted before old
        → AreRefuted (before ++ head_systems pair place c) new
    heads_refuted c before made refuted =
        let o : IsNodeOver context cand at.node.now at.rows c.vars =
        node_over context cand at.node.now at.rows c.vars h.node (sym made.vars) in
        let k : IsNode context cand at.node.now at.rows
        = record {
          own = record { vars = c.vars; rows = o.rows };
          made = o.made;
          vars = made.vars;
          are_made = o.are_made;
          checked = o.checked;
          shown = o.shown;
          tests = h.node.tests;
          simple = h.node.simple;
          few = h.node.few;
        } in
        let own : List RowSystem = head_systems pair place k.own in
        let number : head_count ≡ length own = omega (arith, count k) in
        let first : AreRefuted own (take (length own) proofs)
        = refuted_front own (map (behind_of k (sys k).level) (orders_behind u place k.own u)) proofs
        (split k (sys k).level (sys k).level_is) in
        let rows : List (List RowExpr) = head_rows read u place in
        let mine : AreRefuted (map (with_rows k.own) rows) ps
        = subst (AreRefuted (map (with_rows k.own) rows)) (sym (ps_is ∙ ap (λ n. take n proofs) number))
        (subst (λ xs. AreRefuted xs (take (length own) proofs)) (heads_are pair place k.own) first) in
        let carried : AreRefuted (map (with_rows c) rows) more
        = heads_carried r context path cand h.candidate c made at.node.now at.rows o count_of enough rows ps more
        (heads_tight cand.writes.vars read u cand.writes.level place cand.writes.problem point.deep
        point.forms.within) mine zip light_taken in
        subst (AreRefuted (before ++ head_systems pair place c)) (sym new_is)
        (AreRefuted-append before (head_systems pair place c) old more refuted
        (subst (λ xs. AreRefuted xs more) (sym (heads_are pair place c)) carried))

-- Joined leaves

pub writer_tree : (r : Read) (context : System) (o : ReadAndWrite) (place : List Form) (heads proofs : List Proof)
    (tree : Tree) → Contains (pairs_of r) o → IsPointIn context o.write place → tree
    ≡ Writer o.write.number place proofs → AddsRefutations context (head_systems o place) [] heads
    → AddsRefutations context (λ c. write_systems_of every (pairs_of r) c (orders_behind o.write place c)) heads proofs
    → IsJoinedTree r context tree
writer_tree r context o place heads proofs tree there point is h k c made =
    let first : AreRefuted ([] ++ head_systems o place c) heads = h.refuted c [] made tt in
    at_writer c tree o.write.number place proofs is
    (record {
      pair = o;
      among = there;
      number_is = refl;
      deep = point.deep;
      over = subst (λ v. All (λ form. length form.coefs ≡ v) place) (sym made.vars) point.forms.over;
      within = point.forms.within;
      refuted = k.refuted c ([] ++ head_systems o place c) made first;
      sums = k.sums (h.sums (All-nil _));
    })

pub zero_tree : (r : Read) (context : System) (proofs : List Proof) (tree : Tree) → tree ≡ Zero proofs
    → AddsRefutations context (λ c. write_systems_of every (pairs_of r) c no_orders) [] proofs
    → IsJoinedTree r context tree
zero_tree r context proofs tree is h c made = at_zero c tree proofs is (h.refuted c [] made tt) (h.sums (All-nil _))
