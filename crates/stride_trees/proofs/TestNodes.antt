-- A test of divisibility, checked for a writer and a level.
--
-- Its no is the Zero leaf whose one system two Cuts and a Sum refute. In the context of an answer stand two rows more,
-- whose numbers are those of the form and of the divisor, so it is as small as the context before. The tree is checked
-- there by the tests behind, and at last by the tree below all of them.
use Rattle.std.proofs.Common.{◌≡◌, ◌+◌, ◌*◌, ◌^◌, ◌≤◌, ◌<◌, ℕ, pos, negsuc, ◌+ℤ◌, ◌-ℤ◌, ◌≤ℤ◌, List, [], ◌∷◌, ◌++◌}
use Rattle.std.proofs.Common.{length, map, cond, refl, sym, ap, ◌∙◌, subst, arith, length-append}
use Rattle.std.specs.Prelude.{Some, nat_lt, slice_get, unsigned_abs}
use Rattle.std.proofs.lemmas.Int.{ints}
use Rattle.std.proofs.lemmas.List.{length-map}
use Rattle.std.proofs.lemmas.List.Elements.{All-nil, All-cons, All-append}
use Rattle.std.proofs.lemmas.Option.{slice_get_within}
use Rattle.affine_core.specs.declared.form.Form.{Form}
use Rattle.affine_core.specs.Affine.{form_product, form_sum, variable_form, widened_form}
use Rattle.int_polyhedra.specs.declared.system.Proof.{Proof}
use Rattle.int_polyhedra.specs.Systems.{AreOver}
use Rattle.std.proofs.lemmas.Bool.{eq-eqb, and_from}
use Rattle.tree_graphs.proofs.Just.{none_system, zero_system}
use Rattle.tree_graphs.proofs.ProblemBounds.{form_is, FormFits}
use Rattle.plain_data.proofs.Lists.{slice_get-append_right}
use Rattle.tree_graphs.proofs.EdgeSums.{over_append, over_widened, within_widened}
use Rattle.tree_graphs.proofs.RowBounds.{forms_append}
use Rattle.tree_sums.specs.Parts.{IsWithin}
use Rattle.tree_sums.proofs.SmallRows.{widened_length}
use Rattle.tree_sums.proofs.RowParts.{made_widens}
use Rattle.tree_sums.proofs.Within.{IsWithin-weaker}
use Rattle.sanlp.proofs.Elements.{list_all_at}
use Rattle.sanlp.specs.WellFormed.{form_fits}
use Rattle.source_tree.specs.Checked.{at_divides, at_zero, AreRefuted, IsRefuted}
use Rattle.source_tree.specs.Rows.{RowExpr, Take, Plus, minus, number, one_less, row_forms}
use Rattle.source_tree.specs.Systems.{Context, divided_rows, divides_no, divides_yes, multiple, one_more, undivided_rows}
use Rattle.source_tree.specs.declared.tree.Tree.{Tree}
use Rattle.source_tree.specs.declared.tree.Tree.TheVariants.{Zero}
use Rattle.source_tree.specs.declared.tree.Tree.TheViews.{Divides}
use Rattle.stride_trees.specs.Answers.{IsSmallTest}
use Rattle.stride_trees.specs.Candidates.{order_number, AreCutSums, AreNoneCutSums, IsCutSumOf}
use Rattle.stride_trees.specs.Contexts.{own_system, AreMadeSmall, IsNoIn}
use Rattle.stride_trees.specs.Strides.{depth_of_read, depth_of_write, read_of, write_of, IsCheckedAt, IsNoLeaf}
use Rattle.stride_trees.specs.Strides.{IsSmallContext, IsStrided, IsTested, IsTestOf}
use Rattle.stride_trees.specs.declared.divisions.Division.{Division}
use Rattle.stride_trees.specs.declared.strides.Strides.{Strides}
use Rattle.stride_trees.proofs.ProblemBounds.{are_fitting, AreFitting}
use Rattle.stride_trees.proofs.AnswerContexts as answer
use Rattle.stride_trees.proofs.AnswerContexts.{two_rows}
use Rattle.stride_trees.proofs.LevelOrders as of_level
use Rattle.stride_trees.proofs.LevelOrders.{made_small}
use Rattle.stride_trees.proofs.Lists.{forms_count}
use Rattle.stride_trees.proofs.TestForms.{stride_is, test_form, IsStrideOf, IsTestForm}

pub fitting_of : (s : Strides) → IsStrided s → AreFitting s.nest.now (read_of s) (write_of s) s.level
fitting_of s strided = are_fitting s.nest.now (read_of s) (write_of s) s.level strided.strided

-- how large its numbers are at most
pub record HasRoom (s : Strides) : Type 0 where
  pub rows : length s.write.statement.now.rows ≤ 32
  pub subscripts : length s.write.access.now.subscripts ≤ 6
  pub level : s.level ≤ 6
  pub loops : depth_of_read s ≤ 6

pub room : (s : Strides) → IsStrided s → HasRoom s
room s strided =
    let f : AreFitting s.nest.now (read_of s) (write_of s) s.level = fitting_of s strided in
    record {
      rows = f.few_rows;
      subscripts = f.few_subscripts;
      level = omega (arith, f.level, f.common_loops, f.few_loops);
      loops = f.few_vars;
    }

pub subscript_room : (s : Strides) (d : Division) → IsStrided s → IsTestOf s d → d.subscript < 6
subscript_room s d strided test =
    omega (
      arith,
      (room s strided).subscripts,
      slice_get_within s.write.access.now.subscripts d.subscript test.write test.write_is,
    )

-- The test

module _ (s : Strides) (d : Division) (strided : IsStrided s) (test : IsTestOf s d) where
  abbrev fits : AreFitting s.nest.now (read_of s) (write_of s) s.level
  fits = fitting_of s strided

  write_fits : FormFits (length s.write.statement.now.loops) test.write
  write_fits = form_is (length s.write.statement.now.loops) test.write
      (list_all_at (form_fits (length s.write.statement.now.loops)) s.write.access.now.subscripts d.subscript test.write
      fits.writes test.write_is)

  read_fits : FormFits (depth_of_read s) test.read
  read_fits = form_is (depth_of_read s) test.read
      (list_all_at (form_fits (depth_of_read s)) s.read.access.now.subscripts d.subscript test.read fits.reads test.read_is)

  pub of_stride : IsStrideOf test.stride
  of_stride = stride_is (length s.write.statement.now.loops) test.write test.stride write_fits test.stride_is

  pub divisor_is : d.divisor ≡ pos (unsigned_abs test.stride)
  divisor_is = ap (λ (d : Division). d.divisor) test.is

  pub form_small : IsTestForm (depth_of_read s) d.form
  form_small = subst (λ (t : Division). IsTestForm (depth_of_read s) t.form) (sym test.is)
      (test_form d.subscript (length s.write.statement.now.loops) (depth_of_read s) test.write test.read test.stride
      write_fits read_fits)

pub small_test : (s : Strides) (d : Division) → IsStrided s → IsTestOf s d → IsSmallTest (depth_of_read s) d
small_test s d strided test =
    let form : IsTestForm (depth_of_read s) d.form = form_small s d strided test in
    let stride : IsStrideOf test.stride = of_stride s d strided test in
    let divisor : d.divisor ≡ pos (unsigned_abs test.stride) = divisor_is s d strided test in
    record {
      over = form.over;
      within = form.within;
      divisor = subst (λ z. pos 2 ≤ℤ z) (sym divisor) (two_below (unsigned_abs test.stride) stride.at_least);
      small = omega (arith, ap unsigned_abs divisor, stride.small);
    } where
      two_below : (m : ℕ) → 1 < m → pos 2 ≤ℤ pos m
      two_below m lt = omega (arith, ints, lt)

-- Two rows of a test behind those of a context

-- two rows, as they are made
pub record AreTwoRows (vars : ℕ) (rows : List RowExpr) : Type 0 where
  pub first : Form
  pub second : Form
  pub made : row_forms vars rows ≡ Some (first ∷ second ∷ [])
  pub first_over : length first.coefs ≡ vars
  pub second_over : length second.coefs ≡ vars
  pub first_within : IsWithin (2 ^ 41) first
  pub second_within : IsWithin (2 ^ 41) second

pub two_more : (c : Context) (rows : List RowExpr) (here : ℕ) → AreTwoRows (c.vars + 1) rows → IsSmallContext c here
    → IsSmallContext (one_more c rows) (here + 2)
two_more c rows here y k =
    let more : ℕ = c.vars + 1 in
    let wide : List Form = map (widened_form more) k.rows in
    let two : List Form = y.first ∷ y.second ∷ [] in
    let two_over : AreOver more two =
    and_from _ _ (eq-eqb (length y.first.coefs) more y.first_over)
    (and_from _ _ (eq-eqb (length y.second.coefs) more y.second_over) refl) in
    record {
      rows = wide ++ two;
      made = forms_append more c.rows rows wide two (made_widens c.vars more c.rows k.rows (omega arith) k.made) y.made;
      count = omega (arith, length-append wide two, length-map k.rows (widened_form more), k.count);
      over = over_append more wide two (over_widened c.vars more k.rows (omega arith) k.over) two_over;
      within = All-append (IsWithin (2 ^ 50)) wide two
          (within_widened more (2 ^ 50) (2 ^ 50) k.rows (omega arith) k.within)
          (All-cons (IsWithin (2 ^ 50)) y.first (y.second ∷ [])
          (IsWithin-weaker (2 ^ 41) (2 ^ 50) y.first (omega arith) y.first_within)
          (All-cons (IsWithin (2 ^ 50)) y.second [] (IsWithin-weaker (2 ^ 41) (2 ^ 50) y.second (omega arith) y.second_within)
          (All-nil _)));
    }

module _ (q depth : ℕ) (d : Division) (test : IsSmallTest depth d) (deep : depth ≤ q) where
  abbrev own : Form
  own = widened_form q d.form

  abbrev form : Form
  form = widened_form (q + 1) d.form

  abbrev quotients : Form
  quotients = form_product d.divisor (variable_form (q + 1) q)

  pub yes_rows : AreTwoRows (q + 1) (divided_rows q own d.divisor)
  yes_rows =
      let first : Form = form_sum form (form_product (negsuc 0) quotients) in
      let second : Form = form_sum quotients (form_product (negsuc 0) form) in
      record {
        first = first;
        second = second;
        made = two_rows (q + 1) (minus (Take own) (multiple d.divisor q)) (minus (multiple d.divisor q) (Take own)) first second
            (answer.above_is q depth d test deep form quotients refl refl)
            (answer.below_is q depth d test deep form quotients refl refl);
        first_over = answer.above_over q depth d test deep form quotients refl refl;
        second_over = answer.below_over q depth d test deep form quotients refl refl;
        first_within = answer.above_within q depth d test deep form quotients refl refl;
        second_within = answer.below_within q depth d test deep form quotients refl refl;
      }

  pub no_rows : AreTwoRows (q + 1) (undivided_rows q own d.divisor)
  no_rows =
      let above : Form = form_sum form (form_product (negsuc 0) quotients) in
      let last : Form = record quotients { constant = quotients.constant +ℤ (d.divisor -ℤ pos 1) } in
      let first : Form = record above { constant = above.constant +ℤ negsuc 0 } in
      let second : Form = form_sum last (form_product (negsuc 0) form) in
      record {
        first = first;
        second = second;
        made = two_rows (q + 1) (one_less (minus (Take own) (multiple d.divisor q)))
            (minus (one_less (Plus (multiple d.divisor q) (number d.divisor))) (Take own)) first second
            (answer.strict_is q depth d test deep form quotients refl refl)
            (answer.last_is q depth d test deep form quotients refl refl);
        first_over = answer.above_over q depth d test deep form quotients refl refl;
        second_over = answer.last_over q depth d test deep form quotients refl refl;
        first_within = answer.strict_within q depth d test deep form quotients refl refl;
        second_within = answer.last_within q depth d test deep form quotients refl refl;
      }

module _ (s : Strides) (d : Division) (here : ℕ) (c : Context) (strided : IsStrided s) (test : IsTestOf s d)
    (deep : depth_of_read s ≤ c.vars) (small : IsSmallContext c here) where
  -- the context of a yes, and that of a no
  pub yes_small : IsSmallContext (divides_yes c (widened_form c.vars d.form) d.divisor) (here + 2)
  yes_small = two_more c (divided_rows c.vars (widened_form c.vars d.form) d.divisor) here
      (yes_rows c.vars (depth_of_read s) d (small_test s d strided test) deep) small

  no_in : IsNoIn d here c.vars (here + 2) (divides_no c (widened_form c.vars d.form) d.divisor)
  no_in =
      let no : List RowExpr = undivided_rows c.vars (widened_form c.vars d.form) d.divisor in
      let count : length c.rows ≡ here = sym (forms_count c.vars c.rows small.rows small.made) ∙ small.count in
      let first : here ≡ length c.rows + 0 = omega (arith, count) in
      let next : here + 1 ≡ length c.rows + 1 = omega (arith, count) in
      record {
        small = two_more c no here (no_rows c.vars (depth_of_read s) d (small_test s d strided test) deep) small;
        first = ap (slice_get (c.rows ++ no)) first ∙ slice_get-append_right c.rows no 0;
        second = ap (slice_get (c.rows ++ no)) next ∙ slice_get-append_right c.rows no 1;
      }

-- Its Zero leaf has one system: a write before the read, with the order rows of the level.
module _ (s : Strides) (d : Division) (here : ℕ) (strided : IsStrided s) (test : IsTestOf s d) (c : Context)
    (deep : depth_of_read s ≤ c.vars) (small : IsSmallContext c here) where
  abbrev no : Context
  no = divides_no c (widened_form c.vars d.form) d.divisor

  there : depth_of_read s ≤ no.vars
  there = omega (arith, deep)

  abbrev rows : List RowExpr
  rows = (of_level.level s strided no there).rows

  module _ (more : ℕ) (proof : Proof) (count : more ≡ 2 * s.level + cond (nat_lt s.level s.common) 1 0)
      (refutes : (c : Context) (order : List RowExpr) (quotient : ℕ) → IsNoIn d here quotient (here + 2) c
      → depth_of_read s ≤ c.vars → AreMadeSmall (c.vars + depth_of_write s) order → length order ≡ more
      → IsRefuted (own_system s c order) proof
      × IsCutSumOf (order_number (read_of s) (write_of s) c) (own_system s c order) proof) where
    both : IsRefuted (own_system s no (rows ++ [])) proof
        × IsCutSumOf (order_number (read_of s) (write_of s) no) (own_system s no (rows ++ [])) proof
    both = refutes no (rows ++ []) c.vars (no_in s d here c strided test deep small) there
        (made_small (no.vars + depth_of_write s) (rows ++ []) (of_level.only_small s strided no there))
        (omega (arith, length-append rows [], of_level.level_long s strided no there, count))

    no_checked : (tree : Tree) → tree ≡ Zero (proof ∷ []) → IsCheckedAt s no tree
    no_checked tree is = at_zero no tree (proof ∷ []) is
        (subst (λ systems. AreRefuted systems (proof ∷ []))
        (sym (zero_system s.nest.now (read_of s) (write_of s) s.level strided.strided.write no rows
        (of_level.level s strided no there).is)) (both.0, tt))

    no_cuts : AreNoneCutSums (read_of s) (write_of s) s.level no (proof ∷ [])
    no_cuts = subst (λ systems. AreCutSums (order_number (read_of s) (write_of s) no) systems (proof ∷ []))
        (sym (none_system (read_of s) (write_of s) s.level no rows (of_level.level s strided no there).is)) (both.1, tt)

pub no_is_checked : (s : Strides) (d : Division) (here more : ℕ) (proof : Proof) (tree : Tree) → IsStrided s → IsTestOf s d
    → more ≡ 2 * s.level + cond (nat_lt s.level s.common) 1 0 → tree ≡ Zero (proof ∷ [])
    → ((c : Context) (order : List RowExpr) (quotient : ℕ) → IsNoIn d here quotient (here + 2) c → depth_of_read s ≤ c.vars
    → AreMadeSmall (c.vars + depth_of_write s) order → length order ≡ more
    → IsRefuted (own_system s c order) proof
    × IsCutSumOf (order_number (read_of s) (write_of s) c) (own_system s c order) proof)
    → IsNoLeaf s here d tree
no_is_checked s d here more proof tree strided test count is refutes = record {
  proofs = proof ∷ [];
  is = is;
  checked = λ c deep small. no_checked s d here strided test c deep small more proof count refutes tree is;
  cuts = λ c deep small. no_cuts s d here strided test c deep small more proof count refutes;
}

-- A test, and then more tests

pub tested_last : (s : Strides) (vars here : ℕ) (last : Tree) → IsTested s vars here [] last last
tested_last s vars here last = record { tests = λ c vars_is small. refl; checked = λ c vars_is small h. h }

pub tested_next : (s : Strides) (vars here : ℕ) (d : Division) (ds : List Division) (last above below tree : Tree)
    (form : Form) → IsStrided s → IsTestOf s d → depth_of_read s ≤ vars → vars < depth_of_read s + 6
    → IsTested s (vars + 1) (here + 2) ds last above → IsNoLeaf s here d below → form ≡ widened_form vars d.form
    → tree ≡ Divides form d.divisor above below → IsTested s vars here (d ∷ ds) last tree
tested_next s vars here d ds last above below tree form strided test deep few rest leaf form_own tree_is =
    let own : tree ≡ Divides (widened_form vars d.form) d.divisor above below =
    tree_is ∙ ap (λ form. Divides form d.divisor above below) form_own in
    let next_of : (c : Context) → c.vars ≡ vars → IsSmallContext c here
    → IsSmallContext (divides_yes c (widened_form c.vars d.form) d.divisor) (here + 2)
    = λ c vars_is small. yes_small s d here c strided test (omega (arith, deep, vars_is)) small in
    record {
      tests = λ c vars_is small. (
        above,
        leaf.proofs,
        own ∙ ap (Divides (widened_form vars d.form) d.divisor above) leaf.is
            ∙ ap (λ n. Divides (widened_form n d.form) d.divisor above (Zero leaf.proofs)) (sym vars_is),
        leaf.cuts c (omega (arith, deep, vars_is)) small,
        rest.tests (divides_yes c (widened_form c.vars d.form) d.divisor) (ap (λ n. n + 1) vars_is) (next_of c vars_is small),
      );
      checked = λ c vars_is small h.
          (let f : Form = widened_form c.vars d.form in
          let numbers : IsSmallTest (depth_of_read s) d = small_test s d strided test in
          at_divides c tree f d.divisor above below
          (own ∙ ap (λ n. Divides (widened_form n d.form) d.divisor above below) (sym vars_is))
          (widened_length d.form.coefs c.vars (omega (arith, numbers.over, deep, vars_is))) numbers.divisor
          (omega (arith, few, vars_is))
          (rest.checked (divides_yes c f d.divisor) (ap (λ n. n + 1) vars_is) (next_of c vars_is small) h)
          (leaf.checked c (omega (arith, deep, vars_is)) small));
    }
