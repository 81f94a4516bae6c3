-- A joined tree as one for all writers.
--
-- Tests stay, and add a row behind those of the answers. The proofs of a leaf go part by part: the place is in the
-- domain and writes the read's cell, which is converted; the read isn't before it, which is the same; and no write is
-- between, or before the read, which goes writer by writer.
use Rattle.std.proofs.Common.{◌≡◌, ◌+◌, ◌≤◌, ◌^◌, ℕ, ℤ, pos, negsuc, Bool, true, false, List, [], ◌∷◌, ◌++◌, length, map}
use Rattle.std.proofs.Common.{cond, refl, sym, ap, ◌∙◌, subst, arith, length-append}
use Rattle.std.specs.Prelude.{All, Some, int_le}
use Rattle.std.specs.List.{filter, flat_map}
use Rattle.std.proofs.lemmas.Bool.{and_from, eq-eqb}
use Rattle.std.proofs.lemmas.List.{append_assoc, length-replicate}
use Rattle.std.proofs.lemmas.List.Elements.{All-append, All-cons, All-head, All-nil, All-tail, All-weaker}
use Rattle.affine_core.specs.declared.form.Form.{Form}
use Rattle.affine_core.specs.Affine.{constant_form, form_at, form_product}
use Rattle.affine_core.proofs.Linear.{length-sums}
use Rattle.int_polyhedra.specs.declared.system.Proof.{Proof}
use Rattle.source_tree.specs.Checked.{AreRefuted, IsCheckedIn}
use Rattle.source_tree.specs.Checked.{at_dead as dead_in, at_test as test_in, at_writer as writer_in, at_zero as zero_in}
use Rattle.source_tree.specs.Gives.{gives, gives_step}
use Rattle.source_tree.specs.References.{occurrence_of}
use Rattle.source_tree.specs.Rows.{RowExpr, Take, below_zero, row_forms}
use Rattle.source_tree.specs.Systems.{Context, Occurrence, Which, array_writes, dead_systems, more_rows, test_no, test_yes}
use Rattle.source_tree.specs.Systems.{write_systems, zero_systems}
use Rattle.source_tree.specs.declared.tree.Found.{Found}
use Rattle.source_tree.specs.declared.tree.Found.TheVariants as found
use Rattle.source_tree.specs.declared.tree.Tree.{Tree}
use Rattle.source_tree.specs.declared.tree.Tree.TheFolds.{fold-roll-Tree}
use Rattle.source_tree.specs.declared.tree.Tree.TheOpen as open_
use Rattle.source_tree.specs.declared.tree.Tree.TheVariants.{Dead, Writer, Zero}
use Rattle.source_tree.specs.declared.tree.Tree.TheViews.{Test, rolls-Dead}
use Rattle.source_tree.proofs.Gives.{gives-Test, gives-Writer, gives-Zero}
use Rattle.source_tree.proofs.Views.{node-Dead, node-Test, node-Writer, node-Zero, node_unique}
use Rattle.stride_trees.specs.Candidates.{at_test as cut_test, at_writer as cut_writer, at_zero as cut_zero, AreNoneCutSums}
use Rattle.stride_trees.specs.Candidates.{IsCutTree}
use Rattle.stride_trees.specs.Leaves.{context_of, fact_context, is_told, own_context, own_systems, pairs_of, told_pair, told_pairs}
use Rattle.stride_trees.specs.Leaves.{told_systems, vars_of, which_of, Converts, HasFacts, IsAnswered, IsBelow, IsForOne}
use Rattle.stride_trees.specs.Leaves.{IsJoinedBelow, IsJoinedPoint, IsOwnPoint, IsWriterIn}
use Rattle.stride_trees.specs.Strides.{write_of, IsSmallContext}
use Rattle.stride_trees.specs.declared.leaves.Answered.{Answered}
use Rattle.stride_trees.specs.declared.leaves.Just.{Just}
use Rattle.stride_trees.specs.declared.writers.Writer.{Writer as WriterOf}
use Rattle.stride_trees.proofs.LeafConversion.{below_vars}
use Rattle.tree_facts.specs.Facts.{fact_rows}
use Rattle.tree_graphs.specs.Joint.{no_orders, write_systems_of, IsCheckedForAll}
use Rattle.tree_graphs.specs.Simple.{IsSimple}
use Rattle.tree_graphs.proofs.EdgeSums.{over_append}
use Rattle.tree_graphs.proofs.MadeRows.{more_made, opposite_made, taken_made}
use Rattle.tree_graphs.proofs.Nodes.{checked_dead, checked_test, checked_zero, point_for, simple_both, simple_kinds, simple_point}
use Rattle.tree_graphs.proofs.Nodes.{AreBothChecked, AreBothSimple, IsSimplePoint}
use Rattle.tree_graphs.proofs.Small.{negative_over, opposite_fits, opposite_form, opposite_within}
use Rattle.tree_sums.specs.Parts.{IsWithin}
use Rattle.tree_sums.proofs.Within.{IsWithin-weaker}

-- Contexts below a Test

small_more : (here : ℕ) (c : Context) (e : RowExpr) (f : Form) → IsSmallContext c here
    → ((rows : List Form) → row_forms c.vars c.rows ≡ Some rows
    → row_forms c.vars (c.rows ++ e ∷ []) ≡ Some (rows ++ f ∷ []))
    → length f.coefs ≡ c.vars → IsWithin (2 ^ 50) f → IsSmallContext (more_rows c (e ∷ [])) (here + 1)
small_more here c e f h made over within = record {
  rows = h.rows ++ f ∷ [];
  made = made h.rows h.made;
  count = omega (arith, length-append h.rows (f ∷ []), h.count);
  over = over_append c.vars h.rows (f ∷ []) h.over (and_from _ _ (eq-eqb (length f.coefs) c.vars over) refl);
  within = All-append (IsWithin (2 ^ 50)) h.rows (f ∷ []) h.within
      (All-cons (IsWithin (2 ^ 50)) f [] within (All-nil _));
}

small_yes : (here : ℕ) (c : Context) (form : Form) → IsSmallContext c here → length form.coefs ≡ c.vars
    → IsWithin (2 ^ 49 + 1) form → IsSmallContext (test_yes c form) (here + 1)
small_yes here c form h over within =
    small_more here c (Take form) form h
    (λ rows made. more_made c rows (Take form) form made (taken_made c.vars form over)) over
    (IsWithin-weaker (2 ^ 49 + 1) (2 ^ 50) form (omega arith) within)

small_no : (here : ℕ) (c : Context) (form : Form) → IsSmallContext c here → length form.coefs ≡ c.vars
    → IsWithin (2 ^ 49 + 1) form → IsSmallContext (test_no c form) (here + 1)
small_no here c form h over within =
    let other : Form = opposite_form form in
    small_more here c (below_zero (Take form)) other h
    (λ rows made. more_made c rows (below_zero (Take form)) other made
    (opposite_made c.vars form other over
    (opposite_fits form (IsWithin-weaker (2 ^ 49 + 1) (2 ^ 60) form (omega arith) within))))
    (opposite_over form ∙ over)
    (IsWithin-weaker (2 ^ 49 + 1 + 1) (2 ^ 50) other (omega arith) (opposite_within (2 ^ 49 + 1) form within)) where
      opposite_over : (f : Form) → length (opposite_form f).coefs ≡ length f.coefs
      opposite_over f =
          let constant : Form = constant_form (length f.coefs) (negsuc 0) in
          let long : length constant.coefs ≡ length f.coefs = length-replicate (length f.coefs) (pos 0) in
          length-sums (form_product (negsuc 0) f).coefs constant.coefs (omega (arith, negative_over f, long))
          ∙ negative_over f

below_more : (w : Answered) (here : ℕ) (c : Context) (e : RowExpr) → IsBelow w here c
    → IsSmallContext (more_rows c (e ∷ [])) (here + 1) → IsBelow w (here + 1) (more_rows c (e ∷ []))
below_more w here c e h small = record {
  all = h.all;
  small = small;
  more = h.more ++ e ∷ [];
  is = ap (λ (c : Context). more_rows c (e ∷ [])) h.is
      ∙ ap (λ rows. record { vars = (context_of w).vars; rows = rows }) (append_assoc (context_of w).rows h.more (e ∷ []));
}

pub below_yes : (w : Answered) (here : ℕ) (c : Context) (form : Form) → IsBelow w here c → length form.coefs ≡ c.vars
    → IsWithin (2 ^ 49 + 1) form → IsBelow w (here + 1) (test_yes c form)
below_yes w here c form h over within =
    below_more w here c (Take form) h (small_yes here c form h.small over within)

pub below_no : (w : Answered) (here : ℕ) (c : Context) (form : Form) → IsBelow w here c → length form.coefs ≡ c.vars
    → IsWithin (2 ^ 49 + 1) form → IsBelow w (here + 1) (test_no c form)
below_no w here c form h over within =
    below_more w here c (below_zero (Take form)) h (small_no here c form h.small over within)

-- Kinds of trees

gives-Dead : (values : List ℤ) (tree : Tree) (proof : Proof) → tree ≡ Dead proof → gives tree values ≡ found.Dead
unfolding gives
gives-Dead values tree proof e =
    ap (λ tree. gives tree values) (e ∙ sym (rolls-Dead proof))
    ∙ ap (λ (k : List ℤ → Found). k values) (fold-roll-Tree (List ℤ → Found) gives_step (open_.Dead proof))

-- a simple tree has no Dead leaf
simple_dead : (tests : ℕ) (tree : Tree) (proof : Proof) → IsSimple tests tree → tree ≡ Dead proof → ⊥
simple_dead tests tree proof simple e =
    simple_kinds tests tree simple
    (λ form a b is. (let k : open_.Test form a b ≡ open_.Dead proof = node_unique tree (open_.Test form a b)
    (open_.Dead proof) (node-Test tree form a b is) (node-Dead tree proof e) in cc))
    (λ s place proofs is. (let k : open_.Writer s place proofs ≡ open_.Dead proof =
    node_unique tree (open_.Writer s place proofs) (open_.Dead proof) (node-Writer tree s place proofs is)
    (node-Dead tree proof e) in cc))
    (λ proofs is. (let k : open_.Zero proofs ≡ open_.Dead proof = node_unique tree (open_.Zero proofs) (open_.Dead proof)
    (node-Zero tree proofs is) (node-Dead tree proof e) in cc))

-- a row more behind the facts
facts_more : (w : Answered) (rest : List RowExpr) (e : RowExpr)
    → more_rows (fact_context w rest) (e ∷ []) ≡ fact_context w (rest ++ e ∷ [])
facts_more w rest e =
    let rows : List RowExpr = (context_of w).rows in
    ap (λ rows. record { vars = (context_of w).vars; rows = rows })
    (append_assoc rows (fact_rows w.facts.now rest) (e ∷ [])
    ∙ ap (λ more. rows ++ more) (append_assoc (map Take w.facts.now) rest (e ∷ [])))

rest_more : (w : Answered) (rest : List RowExpr) (e : RowExpr)
    → more_rows (context_of w) (rest ++ e ∷ []) ≡ more_rows (more_rows (context_of w) rest) (e ∷ [])
rest_more w rest e =
    ap (λ rows. record { vars = (context_of w).vars; rows = rows }) (sym (append_assoc (context_of w).rows rest (e ∷ [])))

module _ (w : Answered) (here : ℕ) where
  -- one side of a Test
  side_joined : (rest : List RowExpr) (e : RowExpr) (part : Tree) → HasFacts w
      → IsBelow w (here + 1) (more_rows (fact_context w rest) (e ∷ []))
      → IsCheckedForAll (which_of w) (pairs_of w) (more_rows (fact_context w rest) (e ∷ [])) part
      → (IsForOne w → (tests : ℕ) × (here + 1 + tests ≤ 8192) × IsSimple tests part) → IsJoinedBelow w (here + 1) part
  side_joined rest e part facts below checked simple = record {
    facts = facts;
    rest = rest ++ e ∷ [];
    below = subst (IsBelow w (here + 1)) (facts_more w rest e) below;
    checked = subst (λ c. IsCheckedForAll (which_of w) (pairs_of w) c part) (facts_more w rest e) checked;
    simple = simple;
  }

  module _ (rest : List RowExpr) (e : RowExpr) (part own : Tree) (converts : Converts w (here + 1) part own)
      (below : IsBelow w (here + 1) (more_rows (fact_context w rest) (e ∷ [])))
      (checked : IsCheckedForAll (which_of w) (pairs_of w) (more_rows (fact_context w rest) (e ∷ [])) part) where
    side_below : IsBelow w (here + 1) (fact_context w (rest ++ e ∷ []))
    side_below = subst (IsBelow w (here + 1)) (facts_more w rest e) below

    side_told : IsCheckedForAll (which_of w) (pairs_of w) (fact_context w (rest ++ e ∷ [])) part
    side_told = subst (λ c. IsCheckedForAll (which_of w) (pairs_of w) c part) (facts_more w rest e) checked

    side_checked : IsCheckedIn w.nest.now (occurrence_of w.read) (which_of w)
        (more_rows (more_rows (context_of w) rest) (e ∷ [])) own
    side_checked = subst (λ c. IsCheckedIn w.nest.now (occurrence_of w.read) (which_of w) c own) (rest_more w rest e)
        (converts.checked (rest ++ e ∷ []) side_below side_told)

    side_cuts : (one : Just) (x : WriterOf) (tests : ℕ) → w.only ≡ Some one → w.writers.now ≡ x ∷ [] → IsSimple tests part
        → IsCutTree (occurrence_of w.read) (write_of x.strides) one.level tests
        (more_rows (more_rows (context_of w) rest) (e ∷ [])) own
    side_cuts one x tests only single simple =
        subst (λ c. IsCutTree (occurrence_of w.read) (write_of x.strides) one.level tests c own) (rest_more w rest e)
        (converts.cuts one x tests (rest ++ e ∷ []) only single side_below side_told simple)

  pub test_joined : (tree : Tree) (form : Form) (a b : Tree) → IsJoinedBelow w here tree → tree ≡ Test form a b
      → IsJoinedBelow w (here + 1) a × IsJoinedBelow w (here + 1) b
  test_joined tree form a b j e =
      let c : Context = fact_context w j.rest in
      let h : AreBothChecked (IsCheckedForAll (which_of w) (pairs_of w)) c form a b =
      checked_test c tree form a b j.checked e in (
        side_joined j.rest (Take form) a j.facts (below_yes w here c form j.below h.over h.within) h.above
            (λ single. (let k = j.simple single in
            let l : AreBothSimple k.0 form a b = simple_both k.0 tree form a b k.2 e in
            (l.fewer, omega (arith, k.1, l.less), l.above))),
        side_joined j.rest (below_zero (Take form)) b j.facts (below_no w here c form j.below h.over h.within) h.below
            (λ single. (let k = j.simple single in
            let l : AreBothSimple k.0 form a b = simple_both k.0 tree form a b k.2 e in
            (l.fewer, omega (arith, k.1, l.less), l.below))),
      )

  pub test_converts : (tree own : Tree) (form : Form) (a b x y : Tree) → tree ≡ Test form a b → own ≡ Test form x y
      → Converts w (here + 1) a x → Converts w (here + 1) b y → Converts w here tree own
  test_converts tree own form a b x y e f above below' = record {
    checked = λ rest below checked.
        (let c : Context = fact_context w rest in
        let h : AreBothChecked (IsCheckedForAll (which_of w) (pairs_of w)) c form a b = checked_test c tree form a b checked e in
        test_in (more_rows (context_of w) rest) own form x y f h.over
        (side_checked rest (Take form) a x above (below_yes w here c form below h.over h.within) h.above)
        (side_checked rest (below_zero (Take form)) b y below' (below_no w here c form below h.over h.within) h.below));
    same = λ values. gives-Test values own form x y f
        ∙ ap (λ g. cond (int_le (pos 0) (form_at form values)) g (gives y values)) (above.same values)
        ∙ ap (λ g. cond (int_le (pos 0) (form_at form values)) (gives a values) g) (below'.same values)
        ∙ sym (gives-Test values tree form a b e);
    cuts = λ one v tests rest only single below checked simple.
        (let c : Context = fact_context w rest in
        let h : AreBothChecked (IsCheckedForAll (which_of w) (pairs_of w)) c form a b = checked_test c tree form a b checked e in
        let l : AreBothSimple tests form a b = simple_both tests tree form a b simple e in
        subst (λ n. IsCutTree (occurrence_of w.read) (write_of v.strides) one.level n (more_rows (context_of w) rest) own)
        (sym l.less)
        (cut_test l.fewer (more_rows (context_of w) rest) own form x y f l.within
        (side_cuts rest (Take form) a x above (below_yes w here c form below h.over h.within) h.above one v l.fewer only single
        l.above)
        (side_cuts rest (below_zero (Take form)) b y below' (below_no w here c form below h.over h.within) h.below one v l.fewer
        only single l.below)));
  }

  pub dead_converts : (tree own : Tree) (proof without : Proof) → tree ≡ Dead proof → own ≡ Dead without
      → ((rest : List RowExpr) → IsBelow w here (fact_context w rest)
      → AreRefuted (dead_systems (fact_context w rest)) (proof ∷ [])
      → AreRefuted (dead_systems (more_rows (context_of w) rest)) (without ∷ [])) → Converts w here tree own
  dead_converts tree own proof without e f h = record {
    checked = λ rest below checked. dead_in (more_rows (context_of w) rest) own without f
        (h rest below (checked_dead (fact_context w rest) tree proof checked e));
    same = λ values. gives-Dead values own without f ∙ sym (gives-Dead values tree proof e);
    cuts = λ one x tests rest only single below checked simple. absurd (simple_dead tests tree proof simple e);
  }

  pub zero_converts : (tree own : Tree) (told proofs : List Proof) → tree ≡ Zero told → own ≡ Zero proofs
      → ((rest : List RowExpr) → IsBelow w here (fact_context w rest)
      → AreRefuted (write_systems_of (which_of w) (pairs_of w) (fact_context w rest) no_orders) told
      → AreRefuted (zero_systems w.nest.now (occurrence_of w.read) (which_of w) (more_rows (context_of w) rest)) proofs)
      → ((one : Just) (x : WriterOf) (rest : List RowExpr) → w.only ≡ Some one → w.writers.now ≡ x ∷ []
      → IsBelow w here (fact_context w rest)
      → AreRefuted (write_systems_of (which_of w) (pairs_of w) (fact_context w rest) no_orders) told
      → AreNoneCutSums (occurrence_of w.read) (write_of x.strides) one.level (more_rows (context_of w) rest) proofs)
      → Converts w here tree own
  zero_converts tree own told proofs e f h k = record {
    checked = λ rest below checked. zero_in (more_rows (context_of w) rest) own proofs f
        (h rest below (checked_zero (fact_context w rest) tree told checked e).0);
    same = λ values. gives-Zero values own proofs f ∙ sym (gives-Zero values tree told e);
    cuts = λ one x tests rest only single below checked simple. cut_zero tests (more_rows (context_of w) rest) own proofs f
        (k one x rest only single below (checked_zero (fact_context w rest) tree told checked e).0);
  }

  pub point_converts : (tree own : Tree) (number : ℕ) (place : List Form) (told proofs : List Proof)
      → tree ≡ Writer number place told → own ≡ Writer number place proofs
      → ((rest : List RowExpr) (place : List Form) → IsBelow w here (fact_context w rest)
      → IsJoinedPoint w (fact_context w rest) number place told
      → IsOwnPoint w (more_rows (context_of w) rest) number place proofs) → Converts w here tree own
  point_converts tree own number place told proofs e f h = record {
    checked = λ rest below checked.
        (let j : IsJoinedPoint w (fact_context w rest) number place told =
        point_for (fact_context w rest) tree number place told checked e in
        let o : IsOwnPoint w (more_rows (context_of w) rest) number place proofs = h rest place below j in
        writer_in (more_rows (context_of w) rest) own number place proofs o.write f o.named o.may o.deep j.over o.refuted);
    same = λ values. gives-Writer values own number place proofs f ∙ sym (gives-Writer values tree number place told e);
    cuts = λ one x tests rest only single below checked simple.
        (let j : IsJoinedPoint w (fact_context w rest) number place told =
        point_for (fact_context w rest) tree number place told checked e in
        let o : IsOwnPoint w (more_rows (context_of w) rest) number place proofs = h rest place below j in
        let l : IsSimplePoint place told = simple_point tests tree number place told simple e in
        cut_writer tests (more_rows (context_of w) rest) own number place proofs f
        (All-weaker (IsWithin (2 ^ 40)) (IsWithin (2 ^ 48)) (λ g near. IsWithin-weaker (2 ^ 40) (2 ^ 48) g (omega arith) near)
        place l.within) (o.cuts one x only single l.within));
  }

-- All writers

module _ (which : Which) (answers : List Bool) (c : Context) (further : Occurrence → List (List RowExpr)) where
  -- the systems of the writes that are joined
  told_are : (writers : List WriterOf) → flat_map (told_systems which answers c further) writers
      ≡ write_systems_of which (told_pairs c.vars answers writers) c further
  told_are [] = refl
  told_are (w ∷ writers) = go (is_told answers w) (told_are writers) where
    go : (b : Bool) → flat_map (told_systems which answers c further) writers
        ≡ write_systems_of which (told_pairs c.vars answers writers) c further
        → cond b (write_systems (told_pair c.vars w).read which c further (told_pair c.vars w).write) []
        ++ flat_map (told_systems which answers c further) writers
        ≡ write_systems_of which (map (told_pair c.vars) (cond b (w ∷ filter (is_told answers) writers)
        (filter (is_told answers) writers))) c further
    go true rest = ap (λ xs. write_systems (told_pair c.vars w).read which c further (told_pair c.vars w).write ++ xs) rest
    go false rest = rest

joined_told_in : (w : Answered) (c : Context) (further : Occurrence → List (List RowExpr)) (told : List Proof)
    → c.vars ≡ vars_of w → AreRefuted (write_systems_of (which_of w) (pairs_of w) c further) told
    → AreRefuted (flat_map (told_systems (which_of w) w.answers.now c further) w.writers.now) told
joined_told_in w c further told vars refuted =
    subst (λ xs. AreRefuted xs told)
    (sym (told_are (which_of w) w.answers.now c further w.writers.now
    ∙ ap (λ vars. write_systems_of (which_of w) (told_pairs vars w.answers.now w.writers.now) c further) vars)) refuted

pub joined_told : (w : Answered) (here : ℕ) (rest : List RowExpr) (further : Occurrence → List (List RowExpr))
    (told : List Proof) → IsBelow w here (fact_context w rest)
    → AreRefuted (write_systems_of (which_of w) (pairs_of w) (fact_context w rest) further) told
    → AreRefuted (flat_map (told_systems (which_of w) w.answers.now (fact_context w rest) further) w.writers.now) told
joined_told w here rest further told below =
    joined_told_in w (fact_context w rest) further told (below_vars w here (fact_context w rest) below)

of_writers : (w : Answered) (c : Context) (further : Occurrence → List (List RowExpr)) (writers : List WriterOf)
    → All (IsWriterIn w) writers
    → flat_map (own_systems (which_of w) c further) writers
    ≡ flat_map (write_systems (occurrence_of w.read) (which_of w) c further) (map (λ (x : WriterOf). write_of x.strides) writers)
of_writers w c further [] h = refl
of_writers w c further (x ∷ writers) h =
    ap (λ (r : Occurrence). write_systems r (which_of w) c further (write_of x.strides)
    ++ flat_map (own_systems (which_of w) c further) writers) (All-head (IsWriterIn w) x writers h).of.read
    ∙ ap (λ xs. write_systems (occurrence_of w.read) (which_of w) c further (write_of x.strides) ++ xs)
    (of_writers w c further writers (All-tail (IsWriterIn w) x writers h))

pub all_own : (w : Answered) (rest : List RowExpr) (further : Occurrence → List (List RowExpr)) → IsAnswered w
    → flat_map (own_systems (which_of w) (own_context w rest) further) w.writers.now
    ≡ flat_map (write_systems (occurrence_of w.read) (which_of w) (own_context w rest) further)
    (array_writes w.nest.now (occurrence_of w.read))
all_own w rest further h =
    of_writers w (own_context w rest) further w.writers.now h.each ∙ h.all (own_context w rest) further
