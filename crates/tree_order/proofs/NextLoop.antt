-- The next loop of two points: what its forms are, and the Test that it wants.
--
-- The Test's row is the last one of its side, and shows itself. On the other side stands its opposite: of `a - b - 1`
-- that is `b - a`, and of `a - b` it is `b - a - 1`. So each side either decides the loop, or tells one half of that it
-- is equal.
use Rattle.std.proofs.Common.{◌≡◌, ◌+◌, ◌≤◌, ◌<◌, ◌^◌, ℕ, zero, suc, pos, negsuc, ◌+ℤ◌, ◌*ℤ◌, List, [], ◌∷◌}
use Rattle.std.proofs.Common.{◌++◌, length, refl, sym, ap, ◌∙◌, subst, arith}
use Rattle.std.specs.Prelude.{Option, Some, None, IfSome, slice_get}
use Rattle.std.specs.Option.{option_map_or}
use Rattle.std.proofs.lemmas.Int.{ints}
use Rattle.std.proofs.lemmas.Option.{same_Some}
use Rattle.std.proofs.lemmas.List.{length_push}
use Rattle.affine_core.specs.declared.form.Form.{Form}
use Rattle.affine_core.specs.Affine.{constant_form, form_product, form_sum}
use Rattle.affine_core.proofs.Linear.{length-sums}
use Rattle.int_polyhedra.specs.declared.system.System.{System}
use Rattle.int_polyhedra.specs.declared.system.Term.{Term}
use Rattle.int_polyhedra.specs.Steps.{negation_of}
use Rattle.int_polyhedra.proofs.Variables.{length_zeros}
use Rattle.tree_order.specs.Comparisons.{count_had, AreForms, ArePoints, HasNextLoop, IsComparedSoFar}
use Rattle.tree_order.specs.Comparisons.{IsComparison, IsGap, IsHad, IsQuestion}
use Rattle.tree_order.specs.Orders.{difference_parts, strict_parts, turned_equal, AreEqual}
use Rattle.tree_order.specs.declared.compare.Compared.{Compared}
use Rattle.tree_order.specs.declared.compare.Comparison.{Comparison}
use Rattle.tree_order.specs.declared.compare.Comparison.TheVariants.{Earlier, Later, Open}
use Rattle.tree_order.specs.declared.compare.Pair.{Pair}
use Rattle.tree_order.specs.declared.compare.Question.{Question}
use Rattle.tree_order.specs.declared.order.Equality.{Equality}
use Rattle.tree_order.proofs.PointOrder.{by_loop, by_text, difference_is, equal_push, less_one_is}
use Rattle.tree_order.proofs.PointOrder.{turned_loop, turned_text}
use Rattle.tree_order.proofs.LongerContexts.{equal_behind}
use Rattle.tree_graphs.specs.Closed.{number_parts}
use Rattle.tree_graphs.specs.Facts.{form_parts, with_form, IsFact}
use Rattle.tree_graphs.specs.Level.{common_of}
use Rattle.tree_graphs.specs.Paths.{term_of}
use Rattle.tree_graphs.proofs.FactSums.{fact_behind, fact_same}
use Rattle.tree_graphs.proofs.Differences.{number_part}
use Rattle.tree_graphs.proofs.Small.{negative_over, negative_within, opposite_form, opposite_within}
use Rattle.tree_graphs.proofs.Small.{negation_of-some}
use Rattle.plain_data.proofs.Lists.{slice_get_push_at, All-slice_get}
use Rattle.tree_sums.specs.Parts.{Part, part_of, row_part, IsWithin}
use Rattle.tree_sums.specs.Shown.{RowParts}
use Rattle.tree_sums.proofs.Bound.{sum_within}
use Rattle.tree_sums.proofs.SumAlgebra.{combines}
use Rattle.tree_sums.proofs.Ideal.{product_part, sum_part}
use Rattle.tree_sums.proofs.Within.{IsWithin-weaker}
use Rattle.sanlp.proofs.Precedence.{common_first, common_second, common_loops-comm}
use Rattle.source_tree.specs.Systems.{Occurrence}

-- Forms of a loop

-- what both points say of a loop
pub record AreAt (vars : ℕ) (first second : List Form) (l : ℕ) : Type 0 where
  pub a : Form
  pub b : Form
  pub a_is : slice_get first l ≡ Some a
  pub b_is : slice_get second l ≡ Some b
  pub a_over : length a.coefs ≡ vars
  pub b_over : length b.coefs ≡ vars
  pub a_within : IsWithin (2 ^ 48) a
  pub b_within : IsWithin (2 ^ 48) b

record IsThere (forms : List Form) (k : ℕ) : Type 0 where
  pub form : Form
  pub is : slice_get forms k ≡ Some form

there : (forms : List Form) (k : ℕ) → k < length forms → IsThere forms k
there [] k lt = absurd (omega (arith, lt))
there (f ∷ forms) zero lt = record { form = f; is = refl }
there (f ∷ forms) (suc k) lt =
    let r : IsThere forms k = there forms k (omega (arith, lt)) in
    record { form = r.form; is = r.is }

pub are_at : (vars : ℕ) (first second : List Form) (l : ℕ) → l < length first → l < length second → AreForms vars first
    → AreForms vars second → AreAt vars first second l
are_at vars first second l lt lt' forms others =
    let f : IsThere first l = there first l lt in
    let g : IsThere second l = there second l lt' in
    record {
      a = f.form;
      b = g.form;
      a_is = f.is;
      b_is = g.is;
      a_over = All-slice_get (λ form. length form.coefs ≡ vars) first l f.form forms.over f.is;
      b_over = All-slice_get (λ form. length form.coefs ≡ vars) second l g.form others.over g.is;
      a_within = All-slice_get (IsWithin (2 ^ 48)) first l f.form forms.within f.is;
      b_within = All-slice_get (IsWithin (2 ^ 48)) second l g.form others.within g.is;
    }

module _ (vars : ℕ) (w u : Occurrence) (pair : Pair) (p : ArePoints vars w u pair) where
  pub next_best : (l : ℕ) → l < pair.common → l < length pair.best.now
  next_best l lt = omega (arith, lt, p.common, p.best_deep, common_first w.statement.loops u.statement.loops)

  pub next_new : (l : ℕ) → l < pair.common → l < length pair.new.now
  next_new l lt = omega (arith, lt, p.common, p.new_deep, common_second w.statement.loops u.statement.loops)

  pub points_at : (l : ℕ) → l < pair.common → AreAt vars pair.best.now pair.new.now l
  points_at l lt =
      are_at vars pair.best.now pair.new.now l (next_best l lt) (next_new l lt) p.best_forms p.new_forms

pub gap_is : (vars : ℕ) (first second : List Form) (l : ℕ) (f g : Form) → slice_get first l ≡ Some f
    → slice_get second l ≡ Some g → length f.coefs ≡ vars → length g.coefs ≡ vars
    → IsWithin (2 ^ 48) f → IsWithin (2 ^ 48) g → IsGap vars first second l (form_sum f (form_product (negsuc 0) g))
gap_is vars first second l f g f_is g_is f_over g_over f_within g_within = record {
  over = length-sums f.coefs (form_product (negsuc 0) g).coefs (f_over ∙ sym g_over ∙ sym (negative_over g)) ∙ f_over;
  within = IsWithin-weaker (2 ^ 48 + 2 ^ 48) (2 ^ 49) (form_sum f (form_product (negsuc 0) g)) (omega arith)
      (sum_within (2 ^ 48) (2 ^ 48) f (form_product (negsuc 0) g) f_within (negative_within (2 ^ 48) g g_within));
  parts = λ a b a_is b_is part.
      (let e : f ≡ a = same_Some f a (sym f_is ∙ a_is) in
      let h : g ≡ b = same_Some g b (sym g_is ∙ b_is) in
      difference_is f g part (f_over ∙ sym g_over) ∙ ap (λ f. difference_parts f g part) e
      ∙ ap (λ g. difference_parts a g part) h);
}

-- Known loops

abbrev less_one : Form → Form
less_one f = record f { constant = f.constant +ℤ negsuc 0 }

strict_of : (vars : ℕ) (first second : List Form) (l : ℕ) (form a b : Form) → IsGap vars first second l form
    → slice_get first l ≡ Some a → slice_get second l ≡ Some b → (part : Part)
    → form_parts (less_one form) part ≡ strict_parts a b part
strict_of vars first second l form a b gap a_is b_is part = less_one_is form a b (gap.parts a b a_is b_is) part

module _ (context : System) (w u : Occurrence) (pair : Pair) (p : ArePoints context.vars w u pair)
    (equal : List Equality)
    (alike : AreEqual context 65536 pair.new.now pair.best.now equal) where
  pub all_equal : length equal ≤ pair.common → pair.common ≤ length equal → length equal ≡ common_of u w
  all_equal le ge = omega (arith, le, ge, p.common, common_loops-comm u.statement.loops w.statement.loops)

  pub earlier_by_text : length equal ≡ common_of u w → pair.new_writer ≤ pair.best_writer
      → IsComparison context w u pair (Earlier (record { equal = equal; strict = None }))
  earlier_by_text l text = by_text context 65536 u w pair.new.now pair.best.now equal alike l
      (omega (arith, text, p.best_writer, p.new_writer))

  pub later_by_text : length equal ≡ common_of u w → pair.best_writer ≤ pair.new_writer
      → IsComparison context w u pair (Later (record { equal = turned_equal equal; strict = None }))
  later_by_text l text = turned_text context 65536 u w pair.new.now pair.best.now equal alike l
      (omega (arith, text, p.best_writer, p.new_writer))

  module _ (lt : length equal < pair.common) where
    at : AreAt context.vars pair.best.now pair.new.now (length equal)
    at = points_at context.vars w u pair p (length equal) lt

    below : length equal < common_of u w
    below = omega (arith, lt, p.common, common_loops-comm u.statement.loops w.statement.loops)

    pub earlier_by_loop : (more : Form) (ts : List Term) → IsGap context.vars pair.best.now pair.new.now
        (length equal) more → IsFact context 65536 (form_parts (less_one more)) ts
        → IsComparison context w u pair (Earlier (record { equal = equal; strict = Some ts }))
    earlier_by_loop more ts gap fact =
        by_loop context 65536 u w pair.new.now pair.best.now equal ts at.b at.a alike below at.b_is at.a_is
        (fact_same context 65536 (form_parts (less_one more)) (strict_parts at.a at.b) ts
        (strict_of context.vars pair.best.now pair.new.now (length equal) more at.a at.b gap at.a_is at.b_is) fact)

    pub later_by_loop : (less : Form) (ts : List Term) → IsGap context.vars pair.new.now pair.best.now
        (length equal) less → IsFact context 65536 (form_parts (less_one less)) ts
        → IsComparison context w u pair (Later (record { equal = turned_equal equal; strict = Some ts }))
    later_by_loop less ts gap fact =
        turned_loop context 65536 u w pair.new.now pair.best.now equal ts at.b at.a alike below at.b_is at.a_is
        (fact_same context 65536 (form_parts (less_one less)) (strict_parts at.b at.a) ts
        (strict_of context.vars pair.new.now pair.best.now (length equal) less at.b at.a gap at.b_is at.a_is) fact)

    -- both halves are known
    pub one_more_equal : (above below : List Term) → IsHad context (length equal) pair.best.now pair.new.now
        (Some below) → IsHad context (length equal) pair.new.now pair.best.now (Some above)
        → AreEqual context 65536 pair.new.now pair.best.now (equal ++ record { above = above; below = below } ∷ [])
    one_more_equal above below upper lower =
        equal_push context 65536 pair.new.now pair.best.now equal
        (record { above = above; below = below }) at.b at.a alike at.b_is at.a_is
        (lower at.b at.a at.b_is at.a_is) (upper at.a at.b at.a_is at.b_is)

-- what is known of a gap is had
pub gap_had : (context : System) (first second : List Form) (l : ℕ) (form : Form) (ts : List Term)
    → IsGap context.vars first second l form → IsFact context 65536 (form_parts form) ts
    → IsHad context l first second (Some ts)
gap_had context first second l form ts gap fact f g f_is g_is =
    fact_same context 65536 (form_parts form) (difference_parts f g) ts (gap.parts f g f_is g_is) fact

-- what the context tells, where it tells it
pub had_from_known : (context : System) (a b : List Form) (l : ℕ) (form : Form) (found : Option (List Term))
    → IsGap context.vars a b l form → IfSome found (IsFact context 65536 (form_parts form)) → IsHad context l a b found
had_from_known context a b l form None gap h = h
had_from_known context a b l form (Some ts) gap h = gap_had context a b l form ts gap h

-- Tests

pub opposite_part : (f : Form) (part : Part) → form_parts (opposite_form f) part
    ≡ (form_parts f part *ℤ negsuc 0) +ℤ number_parts (negsuc 0) part
opposite_part f part =
    let even : length (form_product (negsuc 0) f).coefs ≡ length (constant_form (length f.coefs) (negsuc 0)).coefs =
    negative_over f ∙ sym (length_zeros (length f.coefs)) in
    omega (
      arith,
      ints,
      sum_part part (form_product (negsuc 0) f) (constant_form (length f.coefs) (negsuc 0)) even,
      product_part part (negsuc 0) f,
      number_part (length f.coefs) (negsuc 0) part,
    )

-- the negation of a form has as many variables
pub negation_over : (f other : Form) → IsWithin (2 ^ 60) f → negation_of f ≡ Some other → length other.coefs
    ≡ length f.coefs
negation_over f other h e =
    let is : other ≡ opposite_form f = negation_of-some (2 ^ 60) f other (omega arith) h e in
    let even : length (form_product (negsuc 0) f).coefs ≡ length (constant_form (length f.coefs) (negsuc 0)).coefs =
    negative_over f ∙ sym (length_zeros (length f.coefs)) in
    ap (λ (f : Form). length f.coefs) is ∙ length-sums (form_product (negsuc 0) f).coefs
    (constant_form (length f.coefs) (negsuc 0)).coefs even ∙ negative_over f

-- and numbers that are farther from 0 by 1
pub negation_within : (b : ℕ) (f other : Form) → b ≤ 2 ^ 60 → IsWithin b f → negation_of f ≡ Some other
    → IsWithin (b + 1) other
negation_within b f other le h e =
    let is : other ≡ opposite_form f = negation_of-some b f other le h e in
    subst (IsWithin (b + 1)) (sym is) (opposite_within b f h)

last_row_part : (rows : List Form) (form : Form) (part : Part) → row_part (rows ++ form ∷ []) part (length rows)
    ≡ form_parts form part
last_row_part rows form part = ap (λ o. option_map_or (part_of part) o (pos 0)) (slice_get_push_at rows form (length rows) refl)

-- the last row shows itself
pub own_fact : (context : System) (form : Form) (row : RowParts) → ((part : Part) → form_parts form part ≡ row part)
    → IsFact (with_form context form) 65536 row (term_of (length context.rows) ∷ [])
own_fact context form row same =
    let rows : List Form = context.rows ++ form ∷ [] in
    let here : length context.rows < length rows = omega (arith, length_push context.rows form) in
    let ts : List Term = term_of (length context.rows) ∷ [] in
    fact_same (with_form context form) 65536 (λ part. row_part rows part (length context.rows)) row ts
    (λ part. last_row_part context.rows form part ∙ same part)
    (record { shows = (combines context.vars rows).own (length context.rows) here; light = omega arith })

module _ (context : System) (w u : Occurrence) (pair : Pair) (p : ArePoints context.vars w u pair) (c : Compared)
    (so_far : IsComparedSoFar context pair c) (lt : length c.equal < pair.common) where
  first_loop : AreAt context.vars pair.best.now pair.new.now (length c.equal)
  first_loop = points_at context.vars w u pair p (length c.equal) lt

  -- what was had, in the context of a side
  module _ (form : Form) where
    abbrev here : System
    here = with_form context form

    equal_there : AreEqual here 65536 pair.new.now pair.best.now c.equal
    equal_there = equal_behind context here form refl 65536 pair.new.now pair.best.now c.equal so_far.equal

    had_there : (first second : List Form) (had : Option (List Term)) → IsHad context (length c.equal) first second had
        → IsHad here (length c.equal) first second had
    had_there first second None h = h
    had_there first second (Some ts) h =
        λ f g f_is g_is. fact_behind context here 65536 (difference_parts f g) ts form refl (h f g f_is g_is)

    own_had : (first second : List Form) → ((f g : Form) → slice_get first (length c.equal) ≡ Some f → slice_get second
        (length c.equal) ≡ Some g → (part : Part) → form_parts form part ≡ difference_parts f g part)
        → IsHad here (length c.equal) first second (Some (term_of (length context.rows) ∷ []))
    own_had first second same f g f_is g_is = own_fact context form (difference_parts f g) (same f g f_is g_is)

    earlier_there : ((f g : Form) → slice_get pair.best.now (length c.equal) ≡ Some f → slice_get pair.new.now
        (length c.equal) ≡ Some g → (part : Part) → form_parts form part ≡ strict_parts f g part)
        → IsComparison here w u pair
        (Earlier (record { equal = c.equal; strict = Some (term_of (length context.rows) ∷ []) }))
    earlier_there same =
        let a : AreAt context.vars pair.best.now pair.new.now (length c.equal) = first_loop in
        by_loop here 65536 u w pair.new.now pair.best.now c.equal
        (term_of (length context.rows) ∷ []) a.b a.a equal_there
        (omega (arith, lt, p.common, common_loops-comm u.statement.loops w.statement.loops)) a.b_is a.a_is
        (own_fact context form (strict_parts a.a a.b) (same a.a a.b a.a_is a.b_is))

    later_there : ((f g : Form) → slice_get pair.new.now (length c.equal) ≡ Some f → slice_get pair.best.now
        (length c.equal) ≡ Some g → (part : Part) → form_parts form part ≡ strict_parts f g part)
        → IsComparison here w u pair
        (Later (record { equal = turned_equal c.equal; strict = Some (term_of (length context.rows) ∷ []) }))
    later_there same =
        let a : AreAt context.vars pair.best.now pair.new.now (length c.equal) = first_loop in
        turned_loop here 65536 u w pair.new.now pair.best.now c.equal
        (term_of (length context.rows) ∷ []) a.b a.a equal_there
        (omega (arith, lt, p.common, common_loops-comm u.statement.loops w.statement.loops)) a.b_is a.a_is
        (own_fact context form (strict_parts a.b a.a) (same a.b a.a a.b_is a.a_is))

  -- a - b - 1 on one side, and b - a on the other
  strict_other : (first second : List Form) (gap other : Form) (f g : Form)
      → IsGap context.vars first second (length c.equal) gap → slice_get first (length c.equal) ≡ Some f
      → slice_get second (length c.equal) ≡ Some g → other ≡ opposite_form (less_one gap) → (part : Part)
      → form_parts other part ≡ difference_parts g f part
  strict_other first second gap other f g h f_is g_is is part =
      ap (λ o. form_parts o part) is
      ∙ omega (
        arith,
        ints,
        opposite_part (less_one gap) part,
        strict_of context.vars first second (length c.equal) gap f g h f_is g_is part,
      )

  equal_other : (first second : List Form) (gap other : Form) (f g : Form)
      → IsGap context.vars first second (length c.equal) gap → slice_get first (length c.equal) ≡ Some f
      → slice_get second (length c.equal) ≡ Some g → other ≡ opposite_form gap → (part : Part) → form_parts other part
      ≡ strict_parts g f part
  equal_other first second gap other f g h f_is g_is is part =
      ap (λ o. form_parts o part) is ∙ omega (arith, ints, opposite_part gap part, h.parts f g f_is g_is part)

  less_within : (gap : Form) → IsWithin (2 ^ 49) gap → IsWithin (2 ^ 49 + 1) (less_one gap)
  less_within gap h = record {
    constant = omega (arith, ints, h.constant);
    coefs = (IsWithin-weaker (2 ^ 49) (2 ^ 49 + 1) gap (omega arith) h).coefs;
  }

  -- the half that is missing is that new is no less
  pub asks_lower : (gap : Form) (upper : List Term) (q : Question)
      → IsGap context.vars pair.best.now pair.new.now (length c.equal) gap → c.upper ≡ Some upper
      → q ≡ record {
        form = less_one gap;
        above = Earlier (record { equal = c.equal; strict = Some (term_of (length context.rows) ∷ []) });
        below = Open
            (record { equal = c.equal; upper = Some upper; lower = Some (term_of (length context.rows) ∷ []) });
      } → IsQuestion context w u pair q
  asks_lower gap upper q h had is =
      subst (IsQuestion context w u pair) (sym is)
      (record {
        over = h.over;
        within = less_within gap h.within;
        above = earlier_there (less_one gap) (λ f g f_is g_is part. strict_of context.vars pair.best.now pair.new.now
            (length c.equal) gap f g h f_is g_is part);
        below = λ other negated.
            (let o : other ≡ opposite_form (less_one gap) =
            negation_of-some (2 ^ 49 + 1) (less_one gap) other (omega arith) (less_within gap h.within) negated in
            record {
              few = so_far.few;
              equal = equal_there other;
              upper = had_there other pair.best.now pair.new.now (Some upper)
                  (subst (IsHad context (length c.equal) pair.best.now pair.new.now) had so_far.upper);
              lower = own_had other pair.new.now pair.best.now
                  (λ f g f_is g_is part. strict_other pair.best.now pair.new.now gap other g f h g_is f_is o part);
            });
      })

  -- it is that the best is no less
  pub asks_upper : (gap : Form) (lower : List Term) (q : Question)
      → IsGap context.vars pair.new.now pair.best.now (length c.equal) gap → c.lower ≡ Some lower
      → q ≡ record {
        form = less_one gap;
        above = Later (record { equal = turned_equal c.equal; strict = Some (term_of (length context.rows) ∷ []) });
        below = Open
            (record { equal = c.equal; upper = Some (term_of (length context.rows) ∷ []); lower = Some lower });
      } → IsQuestion context w u pair q
  asks_upper gap lower q h had is =
      subst (IsQuestion context w u pair) (sym is)
      (record {
        over = h.over;
        within = less_within gap h.within;
        above = later_there (less_one gap) (λ f g f_is g_is part. strict_of context.vars pair.new.now pair.best.now
            (length c.equal) gap f g h f_is g_is part);
        below = λ other negated.
            (let o : other ≡ opposite_form (less_one gap) =
            negation_of-some (2 ^ 49 + 1) (less_one gap) other (omega arith) (less_within gap h.within) negated in
            record {
              few = so_far.few;
              equal = equal_there other;
              upper = own_had other pair.best.now pair.new.now
                  (λ f g f_is g_is part. strict_other pair.new.now pair.best.now gap other g f h g_is f_is o part);
              lower = had_there other pair.new.now pair.best.now (Some lower)
                  (subst (IsHad context (length c.equal) pair.new.now pair.best.now) had so_far.lower);
            });
      })

  -- both are missing
  pub asks_both : (gap : Form) (q : Question) → IsGap context.vars pair.best.now pair.new.now (length c.equal) gap
      → q ≡ record {
        form = gap;
        above = Open (record { equal = c.equal; upper = Some (term_of (length context.rows) ∷ []); lower = None });
        below = Later (record { equal = turned_equal c.equal; strict = Some (term_of (length context.rows) ∷ []) });
      } → IsQuestion context w u pair q
  asks_both gap q h is =
      subst (IsQuestion context w u pair) (sym is)
      (record {
        over = h.over;
        within = IsWithin-weaker (2 ^ 49) (2 ^ 49 + 1) gap (omega arith) h.within;
        above = record {
          few = so_far.few;
          equal = equal_there gap;
          upper = own_had gap pair.best.now pair.new.now (λ f g f_is g_is part. h.parts f g f_is g_is part);
          lower = tt;
        };
        below = λ other negated.
            (let o : other ≡ opposite_form gap = negation_of-some (2 ^ 49) gap other (omega arith) h.within negated in
            later_there other
            (λ f g f_is g_is part. equal_other pair.best.now pair.new.now gap other g f h g_is f_is o part));
      })

-- What is told further

pub few_had : (had : Option (List Term)) → count_had had ≤ 1
few_had None = omega arith
few_had (Some ts) = omega arith

pub none_had : (had : Option (List Term)) → ((ts : List Term) → had ≡ Some ts → ⊥) → count_had had ≡ 0
none_had None none = refl
none_had (Some ts) none = absurd (none ts refl)

pub next_less : (pair : Pair) (m n : ℕ) (c : Comparison) → m ≤ n → HasNextLoop pair n c → HasNextLoop pair m c
next_less pair m n (Earlier order) le h = tt
next_less pair m n (Later order) le h = tt
next_less pair m n (Open c) le h = (h.0, omega (arith, le, h.1), h.2)
