-- The read and the write of a candidate, from their numbers, and what is promised of its tree.
--
-- A read or a write that is found under a number is the only one there. In the class every write of the array writes
-- strides, so the one that is named does, and its strides are among the six. The reader's domain rows are met at each
-- of its points, so the tests and the tree below them give the greatest point there.
use Rattle.std.proofs.Common.{◌≡◌, ◌+◌, ◌-◌, ◌*◌, ◌^◌, ◌≤◌, ◌<◌, ℕ, zero, suc, ℤ, pos, ◌≤ℤ◌, List, [], ◌∷◌, ◌++◌, length, map}
use Rattle.std.proofs.Common.{true, refl, sym, ap, ◌∙◌, subst, arith}
use Rattle.std.specs.Prelude.{Option, Some, None, All, int_le, slice_get, IsTrue}
use Rattle.std.specs.List.{list_all, range_with_len, sum_by}
use Rattle.std.proofs.lemmas.List.Elements.{All-nil, All-cons, All-head, All-tail, All-weaker}
use Rattle.std.proofs.lemmas.List.Sums.{sum_by-cons}
use Rattle.std.proofs.lemmas.Option.{same_Some, option_and_then_some}
use Rattle.std.proofs.lemmas.Bool.{and_parts}
use Rattle.std.proofs.lemmas.List.FromFn.{length-range_with_len}
use Rattle.affine_core.specs.declared.form.Form.{Form}
use Rattle.affine_core.specs.Affine.{form_at}
use Rattle.affine_core.proofs.Integers.{int_le-true}
use Rattle.int_polyhedra.specs.declared.system.System.{System}
use Rattle.int_polyhedra.specs.Systems.{AreOver}
use Rattle.lex_max.specs.Answer.{IsContextOf}
use Rattle.tree_graphs.specs.Asked.{read_of as asked_read, write_of as asked_write, HasLevelOf}
use Rattle.lex_max.specs.Leaves.{IsMadeFrom}
use Rattle.tree_graphs.specs.Level.{common_of, GivesGreatest, IsGreatest}
use Rattle.tree_graphs.specs.Joint.{IsCheckedFor}
use Rattle.tree_graphs.specs.declared.writes.Writes.{Writes}
use Rattle.tree_graphs.proofs.ProblemBounds.{form_is, FormFits}
use Rattle.lex_max.proofs.ReadAndWrite.{named_number, read_is, write_has, IsReadAt}
use Rattle.tree_graphs.proofs.MadeRows.{are_root, AreRoot}
use Rattle.lex_max.proofs.RowValues.{met_made}
use Rattle.plain_data.proofs.Lists.{All-range_with_len}
use Rattle.tree_sums.specs.Parts.{IsWithin}
use Rattle.tree_sums.proofs.Within.{IsWithin-weaker}
use Rattle.sanlp.specs.declared.nest.Nest.{Nest}
use Rattle.sanlp.specs.declared.nest.Statement.{Statement}
use Rattle.sanlp.specs.Loops.{all_hold}
use Rattle.sanlp.specs.WellFormed.{form_fits}
use Rattle.source_tree.specs.Checked.{IsCheckedIn}
use Rattle.source_tree.specs.Gives.{gives}
use Rattle.source_tree.specs.Rows.{RowExpr, Take, row_at}
use Rattle.source_tree.specs.Systems.{Context, Occurrence, array_writes, just, named_write, read_at, root_context, test_no}
use Rattle.source_tree.specs.Systems.{test_yes, with_write, write_to, writes_from}
use Rattle.source_tree.specs.declared.tree.Tree.{Tree}
use Rattle.source_tree.proofs.MetRows.{AreMet}
use Rattle.stride_trees.specs.Candidates.{at_test as cut_test, at_writer as cut_writer, at_zero as cut_zero, IsCutTree}
use Rattle.stride_trees.specs.Candidates.{IsStrideTree}
use Rattle.tree_cuts.specs.Class.{stride_count, writes_strides, IsInStrideClass}
use Rattle.stride_trees.specs.Contexts.{IsTestedContext, IsToldTree}
use Rattle.stride_trees.specs.Problem.{told_read, told_write}
use Rattle.stride_trees.specs.Strides.{depth_of_read, read_of, root_of, tested_context, tests_of, write_of, ArePlaces, AreStrided}
use Rattle.stride_trees.specs.Strides.{IsCheckedAt, IsLastTree, IsSmallContext, IsStrided, IsTested}
use Rattle.stride_trees.specs.declared.strides.Strides.{Strides}
use Rattle.stride_trees.proofs.ProblemBounds.{are_fitting, AreFitting}
use Rattle.stride_trees.proofs.TreeValues.{by_tests, none_writes, same_greatest, AreShort}
use Rattle.stride_trees.proofs.Lists.{forms_count}
use Rattle.stride_trees.proofs.TestCounts.{few_tests, tests_all, tests_are}
use Rattle.stride_trees.proofs.YesContexts.{divided_count, divided_small, divided_vars, tests_in}

-- The write of these numbers

-- one of several counts
count_of_one : (f : Occurrence → ℕ) (array k i u : ℕ) (statements : List Statement) (s : Statement) (w : Occurrence)
    → slice_get statements i ≡ Some s → k + i ≡ u → write_to array u s ≡ Some w
    → f w ≤ sum_by f (writes_from array k statements)
count_of_one f array k i u [] s w is at written = absurd (let h : None ≡ Some s = is in cc)
count_of_one f array k zero u (t ∷ statements) s w is at written =
    let first : k ≡ u = omega (arith, at) in
    let here : write_to array k t ≡ Some w =
    ap (λ k. write_to array k t) first ∙ ap (write_to array u) (same_Some t s is) ∙ written in
    subst (λ o. f w ≤ sum_by f (with_write o (writes_from array (k + 1) statements))) (sym here)
    (omega (arith, sum_by-cons f w (writes_from array (k + 1) statements)))
count_of_one f array k (suc i) u (t ∷ statements) s w is at written =
    go (count_of_one f array (k + 1) i u statements s w is (omega (arith, at)) written) (write_to array k t) where
      go : f w ≤ sum_by f (writes_from array (k + 1) statements) → (o : Option Occurrence)
          → f w ≤ sum_by f (with_write o (writes_from array (k + 1) statements))
      go rest None = rest
      go rest (Some v) = omega (arith, rest, sum_by-cons f v (writes_from array (k + 1) statements))

count_named : (n : Nest) (r w : Occurrence) (u : ℕ) (f : Occurrence → ℕ) → named_write n r u ≡ Some w
    → f w ≤ sum_by f (array_writes n r)
count_named n r w u f named =
    option_and_then_some (write_to r.access.array u) (slice_get n.statements u) w named
    (λ s found written. let here : 0 + u ≡ u = omega arith
    in count_of_one f r.access.array 0 u u n.statements s w found here written)

-- what is asked of a candidate
pub strided_of : (n : Nest) (s k u p : ℕ) (r w : Occurrence) → IsInStrideClass n s k → HasLevelOf n s k u p
    → read_at n s k ≡ Some r → named_write n r u ≡ Some w → AreStrided n r w p
strided_of n s k u p r w class level read named =
    let is : IsReadAt n s k r = read_is n s k r read in
    let number : w.number ≡ u = named_number n r w u named in
    let own : class.read ≡ r = same_Some class.read r (sym class.is_read ∙ read) in
    record {
      reader = ap (slice_get n.statements) is.number ∙ is.statement;
      read = (k, is.access);
      write = ap (named_write n r) number ∙ named;
      strides = write_has n r w u writes_strides
          (subst (λ r. list_all writes_strides (array_writes n r) ≡ true) own class.each) named;
      few = omega (
        arith,
        count_named n r w u stride_count named,
        ap (λ r. sum_by stride_count (array_writes n r)) own,
        class.few,
      );
      level = level r w read named;
    }

pub strided_built : (n : Nest) (sn k u p : ℕ) (s : Strides) → IsInStrideClass n sn k → HasLevelOf n sn k u p
    → read_at n sn k ≡ Some (read_of s) → named_write n (read_of s) u ≡ Some (write_of s) → s.level ≡ p
    → s.nest.now ≡ n → s.common ≡ common_of (write_of s) (read_of s) → IsStrided s
strided_built n sn k u p s class has read named level nest common = record {
  strided = subst (λ n. AreStrided n (read_of s) (write_of s) s.level) (sym nest)
      (subst (AreStrided n (read_of s) (write_of s)) (sym level)
      (strided_of n sn k u p (read_of s) (write_of s) class has read named));
  common = common;
}

-- The reader's domain

met_all : (es : List RowExpr) (at : List ℤ) → AreMet es at → All (λ row. pos 0 ≤ℤ row_at row at) es
met_all [] at h = All-nil _
met_all (e ∷ es) at h = All-cons (λ row. pos 0 ≤ℤ row_at row at) e es h.0 (met_all es at h.1)

all_met : (es : List RowExpr) (at : List ℤ) → All (λ row. pos 0 ≤ℤ row_at row at) es → AreMet es at
all_met [] at h = tt
all_met (e ∷ es) at h =
    (All-head (λ row. pos 0 ≤ℤ row_at row at) e es h, all_met es at (All-tail (λ row. pos 0 ≤ℤ row_at row at) e es h))

domain_is_met : (rows : List Form) (x : List ℤ) → all_hold rows x ≡ true → AreMet (map Take rows) x
domain_is_met [] x e = tt
domain_is_met (row ∷ rows) x e =
    let b = and_parts (int_le (pos 0) (form_at row x)) (all_hold rows x) e in
    (int_le-true (pos 0) (form_at row x) b.0, domain_is_met rows x b.1)

domain_short : (depth : ℕ) (rows : List Form) → list_all (form_fits depth) rows ≡ true → AreShort depth (map Take rows)
domain_short depth [] e = tt
domain_short depth (row ∷ rows) e =
    let b = and_parts (form_fits depth row) (list_all (form_fits depth) rows) e in
    let f : FormFits depth row = form_is depth row b.0 in
    (omega (arith, f.over), domain_short depth rows b.1)

taken_count : (rows : List Form) → length (map Take rows) ≡ length rows
taken_count [] = refl
taken_count (row ∷ rows) = ap suc (taken_count rows)

pub root_small : (s : Strides) → IsStrided s → IsSmallContext (root_context (read_of s)) (root_of s)
root_small s strided =
    let f : AreFitting s.nest.now (read_of s) (write_of s) s.level =
    are_fitting s.nest.now (read_of s) (write_of s) s.level strided.strided in
    let rows : List Form = s.read.statement.now.rows in
    let a : AreRoot (depth_of_read s) rows = are_root (depth_of_read s) rows f.reader_rows in
    record {
      rows = rows;
      made = a.made;
      count = refl;
      over = a.over;
      within = All-weaker (IsWithin (2 ^ 41)) (IsWithin (2 ^ 50)) (λ f k. IsWithin-weaker (2 ^ 41) (2 ^ 50) f (omega arith) k) rows
          a.within;
    }

-- The tree where all tests say yes

module _ (s : Strides) (strided : IsStrided s) where
  abbrev count : ℕ
  count = length (tests_of s)

  abbrev places : List ℕ
  places = range_with_len 0 count

  -- the context of all tests has them at the places that follow each other
  tested_is : IsTestedContext s places (root_of s + 2 * count) (tested_context s)
  tested_is = record {
    small = divided_small s (tests_of s) (root_context (read_of s)) (root_of s) strided (tests_are s) (omega arith)
        (root_small s strided);
    reader = omega (arith, divided_vars (root_context (read_of s)) (tests_of s));
    tests = tests_in (depth_of_read s) (root_of s) 0 (write_of s).access.subscripts (read_of s).access.subscripts 0
        (root_context (read_of s)) (omega arith) (omega (arith, taken_count s.read.statement.now.rows));
  }

  few_count : count ≤ 6
  few_count = few_tests s strided

  tested_vars : (tested_context s).vars ≡ depth_of_read s + count
  tested_vars = divided_vars (root_context (read_of s)) (tests_of s)

  pub places_are : (vars : ℕ) → (tested_context s).vars ≡ vars → ArePlaces s vars places
  places_are vars is =
      let f : AreFitting s.nest.now (read_of s) (write_of s) s.level =
      are_fitting s.nest.now (read_of s) (write_of s) s.level strided.strided in
      record {
        reader = omega (arith, tested_vars, is);
        each = All-weaker (λ i. i < count) (λ i. depth_of_read s + i < vars)
            (λ i lt. omega (arith, lt, tested_vars, is)) places (All-range_with_len 0 count count (omega arith));
        enough = omega (
          arith,
          tests_all 0 s.write.access.now.subscripts s.read.access.now.subscripts f.even,
          length-range_with_len 0 count,
        );
        few = omega (arith, tested_vars, is, few_count);
      }

  pub rows_count : (context : System) → IsMadeFrom (tested_context s) context
      → length context.rows ≡ root_of s + 2 * count
  rows_count context made = omega (
    arith,
    forms_count (tested_context s).vars (tested_context s).rows context.rows made.rows,
    divided_count (root_context (read_of s)) (tests_of s),
    taken_count s.read.statement.now.rows,
  )

  -- the context of all tests is one of the problem over quotients
  pub context_is : (w : Writes) (context : System) (vars : ℕ) → IsMadeFrom (tested_context s) context → w.vars ≡ vars
      → context.vars ≡ vars → IsContextOf w 3584 context
  context_is w context vars made w_vars c_vars =
      let f : AreFitting s.nest.now (read_of s) (write_of s) s.level =
      are_fitting s.nest.now (read_of s) (write_of s) s.level strided.strided in
      record {
        vars = c_vars ∙ sym w_vars;
        over = subst (λ n. AreOver n context.rows) (sym made.vars) made.over;
        within = made.within;
        few = omega (arith, rows_count context made, few_count, f.few_reader_rows);
      }

  -- the tree of the problem over quotients is checked there
  pub last_asked : (context : System) (told : Tree) → IsMadeFrom (tested_context s) context
      → IsToldTree s places context told
      → IsCheckedFor (told_read (tested_context s).vars places (read_of s) (write_of s)) (told_write (write_of s)) s.level
      (tested_context s) told
  last_asked context told made t =
      let c : Context = tested_context s in
      subst (λ r. IsCheckedFor r (told_write (write_of s)) s.level c told)
      (t.read ∙ ap (λ n. told_read n places (read_of s) (write_of s)) made.vars)
      (subst (λ w'. IsCheckedFor (asked_read t.w) w' s.level c told) t.write
      (subst (λ l. IsCheckedFor (asked_read t.w) (asked_write t.w) l c told) t.level
      (t.answer.checked c (sym made.vars ∙ sym t.vars) made.rows)))

  pub last_small : (context : System) → IsMadeFrom (tested_context s) context
      → IsSmallContext (tested_context s) (length context.rows)
  last_small context made =
      subst (IsSmallContext (tested_context s)) (sym (rows_count context made)) tested_is.small

  -- the answer of the problem over quotients, made the statement's own
  pub last_is : (context : System) (told own : Tree) → IsMadeFrom (tested_context s) context
      → IsToldTree s places context told → IsCheckedAt s (tested_context s) own
      → IsCutTree (read_of s) (write_of s) s.level 3584 (tested_context s) own
      → ((values : List ℤ) → gives own values ≡ gives told values) → IsLastTree s own
  last_is context told own made t checked cuts same_values =
      let c : Context = tested_context s in
      let read_here : asked_read t.w ≡ told_read c.vars places (read_of s) (write_of s) =
      t.read ∙ ap (λ n. told_read n places (read_of s) (write_of s)) made.vars in
      record {
        checked = checked;
        cuts = cuts;
        greatest = λ x more long whole met.
            (let met' : AreMet c.rows (x ++ more) = all_met c.rows (x ++ more) met in
            let g : IsGreatest (asked_read t.w) (asked_write t.w) t.w.level (x ++ more) (gives told (x ++ more)) =
            t.answer.greatest (x ++ more) (whole ∙ sym made.vars ∙ sym t.vars)
            (met_made c.vars c.rows context.rows (x ++ more) made.rows met') in
            let g' : IsGreatest (told_read c.vars places (read_of s) (write_of s)) (told_write (write_of s)) s.level
            (x ++ more) (gives told (x ++ more))
            = subst (λ r. IsGreatest r (told_write (write_of s)) s.level (x ++ more) (gives told (x ++ more))) read_here
            (subst (λ w'. IsGreatest (asked_read t.w) w' s.level (x ++ more) (gives told (x ++ more))) t.write
            (subst (λ l. IsGreatest (asked_read t.w) (asked_write t.w) l (x ++ more) (gives told (x ++ more))) t.level g)) in
            subst (IsGreatest (read_of s) (write_of s) s.level x) (sym (same_values (x ++ more)))
            (same_greatest s strided c places x more long met' tested_is.tests (gives told (x ++ more)) g'));
      }

-- The whole tree

-- fewer Tests than may be
cut_wider : (r w : Occurrence) (p a b : ℕ) (c : Context) (tree : Tree) → a ≤ b → IsCutTree r w p a c tree
    → IsCutTree r w p b c tree
cut_wider r w p a b c tree le (cut_writer a' c' tree' s place proofs is within cuts) =
    cut_writer b c tree s place proofs is within cuts
cut_wider r w p a b c tree le (cut_zero a' c' tree' proofs is cuts) = cut_zero b c tree proofs is cuts
cut_wider r w p a b c tree le (cut_test tests c' tree' form above below is within upper lower) =
    let k : ℕ = b - 1 in
    let e : k + 1 ≡ b = omega (arith, le) in
    subst (λ n. IsCutTree r w p n c tree) e
    (cut_test k c tree form above below is within
    (cut_wider r w p tests k (test_yes c form) above (omega (arith, le)) upper)
    (cut_wider r w p tests k (test_no c form) below (omega (arith, le)) lower))

module _ (n : Nest) (sn k u p : ℕ) (s : Strides) (strided : IsStrided s) (nest : s.nest.now ≡ n)
    (read : read_at n sn k ≡ Some (read_of s)) (named : named_write n (read_of s) u ≡ Some (write_of s))
    (level : s.level ≡ p) (last tree : Tree) (l : IsLastTree s last)
    (t : IsTested s (depth_of_read s) (root_of s) (tests_of s) last tree) where
  abbrev root : Context
  root = root_context (read_of s)

  small : IsSmallContext root (root_of s)
  small = root_small s strided

  writer : s.write.number ≡ u
  writer = named_number n (read_of s) (write_of s) u named

  own_checked : IsCheckedIn n (read_of s) (just u p) root tree
  own_checked =
      subst (λ n. IsCheckedIn n (read_of s) (just u p) root tree) nest
      (subst (λ l. IsCheckedIn s.nest.now (read_of s) (just u l) root tree) level
      (subst (λ v. IsCheckedIn s.nest.now (read_of s) (just v s.level) root tree) writer
      (t.checked root refl small l.checked)))

  pub is_checked : (r : Occurrence) → read_at n sn k ≡ Some r → IsCheckedIn n r (just u p) (root_context r) tree
  is_checked r r_is = subst (λ r. IsCheckedIn n r (just u p) (root_context r) tree)
      (same_Some (read_of s) r (sym read ∙ r_is)) own_checked

  own_strides : IsStrideTree (read_of s) (write_of s) s.level 65536 tree
  own_strides = record {
    last = last;
    divides = t.tests root refl small;
    below = cut_wider (read_of s) (write_of s) s.level 3584 65536 (tested_context s) last (omega arith) l.cuts;
  }

  pub is_stride_tree : (r w : Occurrence) → read_at n sn k ≡ Some r → named_write n r u ≡ Some w
      → IsStrideTree r w p 65536 tree
  is_stride_tree r w r_is w_is =
      let same : read_of s ≡ r = same_Some (read_of s) r (sym read ∙ r_is) in
      let written : write_of s ≡ w = same_Some (write_of s) w (sym named ∙ ap (λ r. named_write n r u) same ∙ w_is) in
      subst (λ w. IsStrideTree r w p 65536 tree) written
      (subst (λ r. IsStrideTree r (write_of s) p 65536 tree) same
      (subst (λ l. IsStrideTree (read_of s) (write_of s) l 65536 tree) level own_strides))

  own_greatest : (x : List ℤ) → length x ≡ depth_of_read s → all_hold s.read.statement.now.rows x ≡ true
      → IsGreatest (read_of s) (write_of s) s.level x (gives tree x)
  own_greatest x long holds =
      let f : AreFitting s.nest.now (read_of s) (write_of s) s.level =
      are_fitting s.nest.now (read_of s) (write_of s) s.level strided.strided in
      by_tests s strided last (tests_of s) root tree x
      (IsGreatest (read_of s) (write_of s) s.level x (gives tree x)) (tests_are s) (t.tests root refl small) (omega arith)
      long (domain_short (depth_of_read s) s.read.statement.now.rows f.reader_rows)
      (domain_is_met s.read.statement.now.rows x holds)
      (λ more whole met same. subst (IsGreatest (read_of s) (write_of s) s.level x) (sym same)
      (l.greatest x more long whole (met_all (tested_context s).rows (x ++ more) met)))
      (λ d test odd same. subst (IsGreatest (read_of s) (write_of s) s.level x) (sym same)
      (λ j write. none_writes s strided d test x j odd write))

  pub is_greatest : (r w : Occurrence) → read_at n sn k ≡ Some r → named_write n r u ≡ Some w → GivesGreatest n r w p tree
  is_greatest r w r_is w_is x point =
      let same : read_of s ≡ r = same_Some (read_of s) r (sym read ∙ r_is) in
      let written : write_of s ≡ w = same_Some (write_of s) w (sym named ∙ ap (λ r. named_write n r u) same ∙ w_is) in
      let own : IsReadAt n sn k (read_of s) = read_is n sn k (read_of s) read in
      let number : r.number ≡ sn = ap (λ (r : Occurrence). r.number) (sym same) ∙ own.number in
      let statement : point.statement ≡ s.read.statement.now
      = same_Some point.statement s.read.statement.now
      (sym point.found ∙ ap (slice_get n.statements) number ∙ own.statement) in
      let long : length x ≡ depth_of_read s = point.deep ∙ ap (λ (s : Statement). length s.loops) statement in
      let holds : all_hold s.read.statement.now.rows x ≡ true =
      subst (λ (s : Statement). IsTrue (all_hold s.rows x)) statement point.holds in
      subst (λ w. IsGreatest r w p x (gives tree x)) written
      (subst (λ r. IsGreatest r (write_of s) p x (gives tree x)) same
      (subst (λ l. IsGreatest (read_of s) (write_of s) l x (gives tree x)) level (own_greatest x long holds)))
