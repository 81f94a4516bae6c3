-- What a tree with tests of divisibility gives.
--
-- Where all tests say yes, the reader's values and the quotients meet the rows of the tests, so the divisor times each
-- quotient is the value of the test's form; there the tree below the tests gives the greatest point of the problem
-- over quotients, which has the points of the statement's own. Where a test says no, no loop value is what its
-- subscript would need, so there is no point, and the tree gives zero.
use Rattle.std.proofs.Common.{◌≡◌, ◌==◌, ◌+◌, ◌*◌, ◌%◌, ◌≤◌, ◌<◌, ℕ, zero, suc, ℤ, pos, ◌+ℤ◌, ◌*ℤ◌}
use Rattle.std.proofs.Common.{◌≤ℤ◌, ◌<ℤ◌, List, [], ◌∷◌, ◌++◌, length, take, drop, Bool, true, false, cond, refl, sym, ap, ◌∙◌}
use Rattle.std.proofs.Common.{subst, arith, length-append, append_assoc, eqb-true}
use Rattle.std.specs.Prelude.{Some, None, All, slice_get, slice_index_or, unsigned_abs}
use Rattle.std.specs.List.{list_all}
use Rattle.std.proofs.lemmas.Int.{ints}
use Rattle.std.proofs.lemmas.List.{append-nil}
use Rattle.std.proofs.lemmas.List.Elements.{All-head, All-tail}
use Rattle.std.proofs.lemmas.Bool.{eq-eqb, and_parts}
use Rattle.std.proofs.lemmas.Option.{same_Some}
use Rattle.affine_core.proofs.Linear.{form_at_more, variable_at, widened_at}
use Rattle.affine_core.specs.declared.form.Form.{Form}
use Rattle.affine_core.specs.Affine.{form_at, variable_form, widened_form}
use Rattle.int_polyhedra.specs.declared.system.Proof.{Proof}
use Rattle.int_polyhedra.specs.Steps.{floor}
use Rattle.int_polyhedra.proofs.Floor.{floor_exact}
use Rattle.tree_graphs.specs.Level.{IsGreatest, WritesBefore}
use Rattle.tree_graphs.proofs.ProblemBounds.{form_is, FormFits}
use Rattle.tree_graphs.proofs.OrderEdges.{variable_over}
use Rattle.tree_sums.proofs.SmallRows.{widened_length}
use Rattle.sanlp.proofs.Elements.{list_all_at}
use Rattle.sanlp.specs.WellFormed.{form_fits}
use Rattle.source_tree.specs.Gives.{gives, quotient, values}
use Rattle.source_tree.specs.Rows.{RowExpr, Take, Plus, Times, minus, row_at}
use Rattle.source_tree.specs.Systems.{Context, Occurrence, divided_rows, divides_yes, multiple}
use Rattle.source_tree.specs.declared.tree.Found.{Found}
use Rattle.source_tree.specs.declared.tree.Found.TheVariants.{At, Dead, Zero as NoPoint}
use Rattle.source_tree.specs.declared.tree.Tree.{Tree}
use Rattle.source_tree.specs.declared.tree.Tree.TheVariants.{Zero}
use Rattle.source_tree.specs.declared.tree.Tree.TheViews.{Divides}
use Rattle.source_tree.proofs.Gives.{gives-Zero, gives-Divides}
use Rattle.source_tree.proofs.MetRows.{AreMet, AreMet-append}
use Rattle.stride_trees.specs.Candidates.{HasTests}
use Rattle.tree_cuts.specs.Class.{is_single}
use Rattle.stride_trees.specs.Contexts.{AreTestsIn, IsTestIn}
use Rattle.stride_trees.specs.Divisions.{divided_context, division_of}
use Rattle.stride_trees.specs.Problem.{problem_reads, problem_writes, told_read, told_write}
use Rattle.tree_cuts.specs.Sources.{loop_of, next_place, places_behind}
use Rattle.stride_trees.specs.Strides.{depth_of_read, read_of, root_of, write_of, IsStrided, IsTestOf}
use Rattle.stride_trees.specs.declared.divisions.Division.{Division}
use Rattle.stride_trees.specs.declared.strides.Strides.{Strides}
use Rattle.stride_trees.proofs.ProblemBounds.{are_fitting, AreFitting}
use Rattle.tree_cuts.proofs.Floors.{divides_multiple}
use Rattle.stride_trees.proofs.TestForms.{test_form}
use Rattle.stride_trees.proofs.TestNodes.{divisor_is, form_small, of_stride}
use Rattle.stride_trees.proofs.QuotientValues.{rows_hold, subscript_means, test_value}

-- A Divides

-- Rows at more values

abbrev pub Short : ℕ → RowExpr → Type 0
Short n (Take form) = length form.coefs ≤ n
Short n (Plus a b) = Short n a × Short n b
Short n (Times k e) = Short n e

abbrev pub AreShort : ℕ → List RowExpr → Type 0
AreShort n [] = Unit {0}
AreShort n (e ∷ es) = Short n e × AreShort n es

short_more : (m n : ℕ) (e : RowExpr) → m ≤ n → Short m e → Short n e
short_more m n (Take form) le h = omega (arith, le, h)
short_more m n (Plus a b) le h = (short_more m n a le h.0, short_more m n b le h.1)
short_more m n (Times k e) le h = short_more m n e le h

shorts_more : (m n : ℕ) (es : List RowExpr) → m ≤ n → AreShort m es → AreShort n es
shorts_more m n [] le h = tt
shorts_more m n (e ∷ es) le h = (short_more m n e le h.0, shorts_more m n es le h.1)

shorts_append : (n : ℕ) (xs ys : List RowExpr) → AreShort n xs → AreShort n ys → AreShort n (xs ++ ys)
shorts_append n [] ys h k = k
shorts_append n (x ∷ xs) ys h k = (h.0, shorts_append n xs ys h.1 k)

row_more : (e : RowExpr) (at more : List ℤ) → Short (length at) e → row_at e (at ++ more) ≡ row_at e at
row_more (Take form) at more h = form_at_more form at more h
row_more (Plus a b) at more h =
    ap (λ z. z +ℤ row_at b (at ++ more)) (row_more a at more h.0) ∙ ap (λ z. row_at a at +ℤ z) (row_more b at more h.1)
row_more (Times k e) at more h = ap (λ z. k *ℤ z) (row_more e at more h)

met_more : (es : List RowExpr) (at more : List ℤ) → AreShort (length at) es → AreMet es at → AreMet es (at ++ more)
met_more [] at more h k = tt
met_more (e ∷ es) at more h k =
    (subst (λ z. pos 0 ≤ℤ z) (sym (row_more e at more h.0)) k.0, met_more es at more h.1 k.1)

met_at : (es : List RowExpr) (at : List ℤ) (k : ℕ) (e : RowExpr) → AreMet es at → slice_get es k ≡ Some e
    → pos 0 ≤ℤ row_at e at
met_at [] at k e met is = absurd (let no : None ≡ Some e = is in cc)
met_at (x ∷ es) at zero e met is = subst (λ e. pos 0 ≤ℤ row_at e at) (same_Some x e is) met.0
met_at (x ∷ es) at (suc k) e met is = met_at es at k e met.1 is

-- A test that says yes

last_value : (at : List ℤ) (q : ℤ) → slice_index_or (at ++ q ∷ []) (length at) (pos 0) ≡ q
last_value [] q = refl
last_value (x ∷ at) q = last_value at q

divided_met : (n : ℕ) (form : Form) (m : ℕ) (at : List ℤ) → length at ≡ n → length form.coefs ≤ n → 0 < m
    → unsigned_abs (form_at form at) % m ≡ 0
    → AreMet (divided_rows n form (pos m)) (at ++ quotient form (pos m) at ∷ [])
divided_met n form m at long short positive even =
    let q : ℤ = floor (form_at form at) m in
    let more : List ℤ = at ++ q ∷ [] in
    let of : form_at form more ≡ form_at form at = form_at_more form at (q ∷ []) (omega (arith, short, long)) in
    let var : form_at (variable_form (n + 1) n) more ≡ q =
    variable_at (n + 1) n more ∙ ap (λ i. slice_index_or more i (pos 0)) (sym long) ∙ last_value at q in
    let exact : form_at form at ≡ q *ℤ pos m = floor_exact (form_at form at) m positive even in
    let times : pos m *ℤ form_at (variable_form (n + 1) n) more ≡ q *ℤ pos m =
    ap (λ z. pos m *ℤ z) var ∙ swapped (pos m) q in
    (omega (arith, ints, of, times, exact), (omega (arith, ints, of, times, exact), tt)) where
      swapped : (a b : ℤ) → a *ℤ b ≡ b *ℤ a
      swapped a b = omega (arith, ints)

-- One test

module _ (d : Division) (c : Context) (tree above : Tree) (proofs : List Proof) (x : List ℤ)
    (is : tree ≡ Divides (widened_form c.vars d.form) d.divisor above (Zero proofs)) (Q : Type 0) where
  abbrev form : Form
  form = widened_form c.vars d.form

  abbrev q : ℤ
  q = quotient form d.divisor x

  abbrev left : ℕ
  left = unsigned_abs (form_at form x) % unsigned_abs d.divisor

  at : gives tree x ≡ cond (left == 0) (gives above (x ++ q ∷ [])) (gives (Zero proofs) (x ++ q ∷ []))
  at = gives-Divides x tree form d.divisor above (Zero proofs) is

  by_answer : (b : Bool) → (left == 0) ≡ b → (left ≡ 0 → gives tree x ≡ gives above (x ++ q ∷ []) → Q)
      → ((left ≡ 0 → ⊥) → gives tree x ≡ NoPoint → Q) → Q
  by_answer true e so none =
      so (eqb-true left 0 e) (at ∙ ap (λ b. cond b (gives above (x ++ q ∷ [])) (gives (Zero proofs) (x ++ q ∷ []))) e)
  by_answer false e so none =
      none (λ even. absurd (let no : true ≡ false = sym (eq-eqb left 0 even) ∙ e in cc))
      (at ∙ ap (λ b. cond b (gives above (x ++ q ∷ [])) (gives (Zero proofs) (x ++ q ∷ []))) e
      ∙ gives-Zero (x ++ q ∷ []) (Zero proofs) proofs refl)

  pub by_test : (left ≡ 0 → gives tree x ≡ gives above (x ++ q ∷ []) → Q)
      → ((left ≡ 0 → ⊥) → gives tree x ≡ NoPoint → Q) → Q
  by_test = by_answer (left == 0) refl

-- The tests, one after the other

module _ (s : Strides) (strided : IsStrided s) (last : Tree) where
  abbrev r : Occurrence
  r = read_of s

  abbrev w : Occurrence
  w = write_of s

  -- what follows where all tests say yes, and where one says no
  abbrev Yes : Context → List Division → Tree → List ℤ → Type 0 → Type 0
  Yes c ds tree x Q =
      (more : List ℤ) → length (x ++ more) ≡ (divided_context c ds).vars
      → AreMet (divided_context c ds).rows (x ++ more) → gives tree x ≡ gives last (x ++ more) → Q

  abbrev No : Tree → List ℤ → Type 0 → Type 0
  No tree x Q =
      (d : Division) → IsTestOf s d → (unsigned_abs (form_at d.form x) % unsigned_abs d.divisor ≡ 0 → ⊥)
      → gives tree x ≡ NoPoint → Q

  pub by_tests : (ds : List Division) (c : Context) (tree : Tree) (x : List ℤ) (Q : Type 0)
      → All (IsTestOf s) ds → HasTests r w s.level last c ds tree → depth_of_read s ≤ c.vars → length x ≡ c.vars
      → AreShort c.vars c.rows → AreMet c.rows x → Yes c ds tree x Q → No tree x Q → Q
  by_tests [] c tree x Q tests has deep long short met so none =
      let same : x ++ [] ≡ x = append-nil x in
      so [] (ap length same ∙ long) (subst (AreMet c.rows) (sym same) met)
      (ap (λ tree. gives tree x) has ∙ ap (gives last) (sym same))
  by_tests (d ∷ ds) c tree x Q tests has deep long short met so none =
      let test : IsTestOf s d = All-head (IsTestOf s) d ds tests in
      let form : Form = widened_form c.vars d.form in
      let m : ℕ = unsigned_abs test.stride in
      let divisor : d.divisor ≡ pos m = divisor_is s d strided test in
      let own : length d.form.coefs ≡ depth_of_read s = (form_small s d strided test).over in
      let wide : length form.coefs ≡ c.vars = widened_length d.form.coefs c.vars (omega (arith, own, deep)) in
      let value : form_at form x ≡ form_at d.form x = widened_at c.vars d.form x in
      let q : ℤ = quotient form d.divisor x in
      let next : Context = divides_yes c form d.divisor in
      let two : List RowExpr = divided_rows c.vars form d.divisor in
      let var_long : length (variable_form (c.vars + 1) c.vars).coefs ≡ c.vars + 1 =
      variable_over (c.vars + 1) c.vars (omega arith) in
      by_test d c tree has.0 has.1 x has.2 Q
      (λ even same.
      (let positive : 0 < m = omega (arith, (of_stride s d strided test).at_least) in
      let here : unsigned_abs (form_at form x) % m ≡ 0 =
      ap (λ z. unsigned_abs (form_at form x) % unsigned_abs z) (sym divisor) ∙ even in
      let met_two : AreMet two (x ++ q ∷ []) =
      subst (λ z. AreMet (divided_rows c.vars form z) (x ++ quotient form z x ∷ [])) (sym divisor)
      (divided_met c.vars form m x long (omega (arith, wide)) positive here) in
      by_tests ds next has.0 (x ++ q ∷ []) Q (All-tail (IsTestOf s) d ds tests) has.4 (omega (arith, deep))
      (omega (arith, length-append x (q ∷ []), long))
      (shorts_append (c.vars + 1) c.rows two (shorts_more c.vars (c.vars + 1) c.rows (omega arith) short)
      (((omega (arith, wide)), omega (arith, var_long)), ((omega (arith, var_long), omega (arith, wide)), tt)))
      (AreMet-append c.rows two (x ++ q ∷ []) (met_more c.rows x (q ∷ []) (subst (λ n. AreShort n c.rows) (sym long) short) met)
      met_two)
      (λ more long' met' g.
      (let assoc : (x ++ q ∷ []) ++ more ≡ x ++ (q ∷ more) = append_assoc x (q ∷ []) more in
      so (q ∷ more) (ap length (sym assoc) ∙ long') (subst (AreMet (divided_context next ds).rows) assoc met')
      (same ∙ g ∙ ap (gives last) assoc)))
      (λ other t odd g. none other t
      (λ even'. odd (ap (λ z. unsigned_abs z % unsigned_abs other.divisor)
      (form_at_more other.form x (q ∷ []) (omega (arith, (form_small s other strided t).over, deep, long))) ∙ even'))
      (same ∙ g))))
      (λ odd g. none d test
      (λ even. odd (ap (λ z. unsigned_abs z % unsigned_abs d.divisor) value ∙ even)) g)

-- A test that says no

pub none_writes : (s : Strides) → IsStrided s → (d : Division) → IsTestOf s d → (x j : List ℤ)
    → (unsigned_abs (form_at d.form x) % unsigned_abs d.divisor ≡ 0 → ⊥)
    → WritesBefore (read_of s) (write_of s) s.level x j → ⊥
none_writes s strided d test x j odd h =
    let fits : AreFitting s.nest.now (read_of s) (write_of s) s.level =
    are_fitting s.nest.now (read_of s) (write_of s) s.level strided.strided in
    let single : is_single test.write ≡ true =
    list_all_at is_single s.write.access.now.subscripts d.subscript test.write fits.kinds test.write_is in
    let m : ℕ = unsigned_abs test.stride in
    let v : ℤ = slice_index_or j (loop_of test.write.coefs) (pos 0) in
    let same : form_at test.write j ≡ form_at test.read x =
    values_at s.write.access.now.subscripts s.read.access.now.subscripts j x d.subscript test.write test.read h.same_cell
    test.write_is test.read_is in
    let value : form_at d.form x ≡ v *ℤ pos m =
    ap (λ (t : Division). form_at t.form x) test.is
    ∙ test_value test.write test.read j x test.stride single test.stride_is same in
    let divisor : d.divisor ≡ pos m = divisor_is s d strided test in
    odd (ap (λ z. unsigned_abs z % unsigned_abs d.divisor) value ∙ ap (λ z. unsigned_abs (v *ℤ pos m) % unsigned_abs z) divisor
    ∙ divides_multiple v m (omega (arith, (of_stride s d strided test).at_least))) where
      cons_head : (a b : ℤ) (xs ys : List ℤ) → a ∷ xs ≡ b ∷ ys → a ≡ b
      cons_head a b xs ys e = ap (λ xs. slice_index_or xs 0 (pos 0)) e

      values_at : (fs gs : List Form) (j x : List ℤ) (k : ℕ) (f g : Form) → values fs j ≡ values gs x
          → slice_get fs k ≡ Some f → slice_get gs k ≡ Some g → form_at f j ≡ form_at g x
      values_at [] gs j x k f g e is is' = absurd (let no : None ≡ Some f = is in cc)
      values_at (f' ∷ fs) [] j x k f g e is is' = absurd (let no : None ≡ Some g = is' in cc)
      values_at (f' ∷ fs) (g' ∷ gs) j x zero f g e is is' =
          ap (λ f. form_at f j) (sym (same_Some f' f is))
          ∙ cons_head (form_at f' j) (form_at g' x) (values fs j) (values gs x) e
          ∙ ap (λ g. form_at g x) (same_Some g' g is')
      values_at (f' ∷ fs) (g' ∷ gs) j x (suc k) f g e is is' =
          values_at fs gs j x k f g (ap (drop 1) e) is is'

-- Where all tests say yes

-- the divisor times a quotient is the value of the test's form
quotient_value : (c : Context) (row quotient : ℕ) (form : Form) (m : ℕ) (x more : List ℤ)
    → IsTestIn c row quotient form (pos m) → length form.coefs ≤ length x → AreMet c.rows (x ++ more)
    → slice_index_or (x ++ more) quotient (pos 0) *ℤ pos m ≡ form_at form x
quotient_value c row quotient form m x more test short met =
    let at : List ℤ = x ++ more in
    let a : RowExpr = Take (widened_form quotient form) in
    let b : RowExpr = multiple (pos m) quotient in
    let low : pos 0 ≤ℤ row_at (minus a b) at = met_at c.rows at row (minus a b) met test.low in
    let high : pos 0 ≤ℤ row_at (minus b a) at = met_at c.rows at (row + 1) (minus b a) met test.high in
    let of : form_at (widened_form quotient form) at ≡ form_at form x =
    widened_at quotient form at ∙ form_at_more form x more short in
    let var : pos m *ℤ form_at (variable_form (quotient + 1) quotient) at ≡ slice_index_or at quotient (pos 0) *ℤ pos m =
    ap (λ z. pos m *ℤ z) (variable_at (quotient + 1) quotient at) ∙ swapped (pos m) (slice_index_or at quotient (pos 0)) in
    omega (arith, ints, low, high, of, var) where
      swapped : (a b : ℤ) → a *ℤ b ≡ b *ℤ a
      swapped a b = omega (arith, ints)

-- the cells are the same
module _ (c : Context) (d root depth : ℕ) (j x more : List ℤ) (long : length x ≡ d) (met : AreMet c.rows (x ++ more)) where
  cells_mean : (places : List ℕ) (writes reads : List Form) → length writes ≡ length reads
      → list_all is_single writes ≡ true → list_all (form_fits depth) writes ≡ true → list_all (form_fits d) reads ≡ true
      → AreTestsIn c d root places writes reads
      → (values writes j ≡ values reads x
      → values (problem_writes writes) j ≡ values (problem_reads c.vars d places writes reads) (x ++ more))
      × (values (problem_writes writes) j ≡ values (problem_reads c.vars d places writes reads) (x ++ more)
      → values writes j ≡ values reads x)
  cells_mean places [] [] even singles fits read_fits tests = (λ e. refl, λ e. refl)
  cells_mean places [] (read ∷ reads) even singles fits read_fits tests = absurd (omega arith)
  cells_mean places (write ∷ writes) [] even singles fits read_fits tests = absurd (omega arith)
  cells_mean places (write ∷ writes) (read ∷ reads) even singles fits read_fits tests =
      let s = and_parts (is_single write) (list_all is_single writes) singles in
      let f = and_parts (form_fits depth write) (list_all (form_fits depth) writes) fits in
      let g = and_parts (form_fits d read) (list_all (form_fits d) reads) read_fits in
      let own : FormFits d read = form_is d read g.0 in
      let other : FormFits depth write = form_is depth write f.0 in
      let rest = cells_mean (places_behind write places) writes reads (omega (arith, even)) s.1 f.1 g.1 tests.1 in
      let one = subscript_means depth c.vars write read (d + next_place places) j x more s.0 (omega (arith, own.over, long))
      (λ y is. quotient_value c (root + 2 * next_place places) (d + next_place places) (division_of 0 write read y).form
      (unsigned_abs y) x more (tests.0 y is)
      (omega (arith, (test_form 0 depth d write read y other own).over, long)) met) in (
        λ e. cons (one.0 (head e)) (rest.0 (tail e)),
        λ e. cons (one.1 (head e)) (rest.1 (tail e)),
      ) where
        cons : {a b : ℤ} {xs ys : List ℤ} → a ≡ b → xs ≡ ys → a ∷ xs ≡ b ∷ ys
        cons e f = cc

        head : {a b : ℤ} {xs ys : List ℤ} → a ∷ xs ≡ b ∷ ys → a ≡ b
        head e = ap (λ xs. slice_index_or xs 0 (pos 0)) e

        tail : {a b : ℤ} {xs ys : List ℤ} → a ∷ xs ≡ b ∷ ys → xs ≡ ys
        tail e = ap (drop 1) e

module _ (s : Strides) (strided : IsStrided s) (c : Context) (places : List ℕ) (x more : List ℤ)
    (long : length x ≡ depth_of_read s) (met : AreMet c.rows (x ++ more))
    (tests : AreTestsIn c (depth_of_read s) (root_of s) places (write_of s).access.subscripts (read_of s).access.subscripts)
  where
    abbrev own_r : Occurrence
    own_r = read_of s

    abbrev own_w : Occurrence
    own_w = write_of s

    abbrev told_r : Occurrence
    told_r = told_read c.vars places own_r own_w

    abbrev told_w : Occurrence
    told_w = told_write own_w

    own_fits : AreFitting s.nest.now own_r own_w s.level
    own_fits = are_fitting s.nest.now own_r own_w s.level strided.strided

    within : s.level ≤ length x
    within = omega (arith, own_fits.level, own_fits.common_vars, long)

    take_more : (p : ℕ) (x : List ℤ) → p ≤ length x → take p (x ++ more) ≡ take p x
    take_more zero x le = refl
    take_more (suc p) [] le = absurd (omega arith)
    take_more (suc p) (z ∷ x) le = ap (λ zs. z ∷ zs) (take_more p x (omega (arith, le)))

    index_more : (p : ℕ) (x : List ℤ) → p < length x → slice_index_or (x ++ more) p (pos 0) ≡ slice_index_or x p (pos 0)
    index_more p [] lt = absurd (omega arith)
    index_more zero (z ∷ x) lt = refl
    index_more (suc p) (z ∷ x) lt = index_more p x (omega (arith, lt))

    cells : (j : List ℤ) → (values own_w.access.subscripts j ≡ values own_r.access.subscripts x
        → values told_w.access.subscripts j ≡ values told_r.access.subscripts (x ++ more))
        × (values told_w.access.subscripts j ≡ values told_r.access.subscripts (x ++ more)
        → values own_w.access.subscripts j ≡ values own_r.access.subscripts x)
    cells j = cells_mean c (depth_of_read s) (root_of s) (length own_w.statement.loops) j x more long met places
        own_w.access.subscripts own_r.access.subscripts own_fits.even own_fits.kinds own_fits.writes own_fits.reads tests

    told_from : (j : List ℤ) → WritesBefore own_r own_w s.level x j → WritesBefore told_r told_w s.level (x ++ more) j
    told_from j h = record {
      deep = h.deep;
      in_domain = rows_hold own_w.statement.rows j own_fits.row_kinds ∙ h.in_domain;
      same_cell = (cells j).0 h.same_cell;
      before = (
        h.before.0 ∙ sym (take_more s.level x within),
        λ lt. subst (λ z. slice_index_or j s.level (pos 0) <ℤ z)
            (sym (index_more s.level x (omega (arith, lt, own_fits.common_vars, long)))) (h.before.1 lt),
      );
    }

    own_from : (j : List ℤ) → WritesBefore told_r told_w s.level (x ++ more) j → WritesBefore own_r own_w s.level x j
    own_from j h = record {
      deep = h.deep;
      in_domain = sym (rows_hold own_w.statement.rows j own_fits.row_kinds) ∙ h.in_domain;
      same_cell = (cells j).1 h.same_cell;
      before = (
        h.before.0 ∙ take_more s.level x within,
        λ lt. subst (λ z. slice_index_or j s.level (pos 0) <ℤ z)
            (index_more s.level x (omega (arith, lt, own_fits.common_vars, long))) (h.before.1 lt),
      );
    }

    -- so the greatest point is the same
    pub same_greatest : (given : Found) → IsGreatest told_r told_w s.level (x ++ more) given
        → IsGreatest own_r own_w s.level x given
    same_greatest NoPoint h = λ j write. h j (told_from j write)
    same_greatest (At point) h = (h.0, own_from point.at h.1, λ j write. h.2 j (told_from j write))
    same_greatest Dead h = h
