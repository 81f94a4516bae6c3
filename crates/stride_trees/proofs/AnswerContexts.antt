-- The context below an answer, as it is made.
--
-- The rows before are the same over one variable more. The two rows of the answer are sums and multiples of the
-- test's form and the quotient, so they have the parts of the rows that they are made as, and a form is told by its
-- parts. Their numbers are the sums of at most 2^33, 2^32 and 1.
use Rattle.std.proofs.Common.{◌≡◌, ◌+◌, ◌*◌, ◌^◌, ◌≤◌, ◌<◌, ℕ, ℤ, pos, negsuc, ◌+ℤ◌, ◌-ℤ◌, ◌*ℤ◌, List, []}
use Rattle.std.proofs.Common.{◌∷◌, ◌++◌, length, map, refl, sym, ap, ◌∙◌, subst, arith, to_z, of_z}
use Rattle.std.specs.Prelude.{Some, All, unsigned_abs}
use Rattle.std.specs.Int.{w128}
use Rattle.std.specs.Option.{option_and_then}
use Rattle.std.proofs.lemmas.Bool.{eq-eqb, and_from}
use Rattle.std.proofs.lemmas.Int.{fits_signed_from_abs, ints, to_z-of_z}
use Rattle.std.proofs.lemmas.List.Elements.{All-append, All-cons, All-nil}
use Rattle.std.proofs.lemmas.List.{length-map}
use Rattle.affine_core.specs.declared.form.Form.{Form}
use Rattle.affine_core.specs.Affine.{form_product, form_sum, variable_form, widened_form}
use Rattle.affine_core.proofs.Linear.{length-sums}
use Rattle.tree_graphs.specs.Contexts.{IsMadeAs}
use Rattle.int_polyhedra.specs.declared.system.System.{System}
use Rattle.int_polyhedra.specs.Systems.{AreOver}
use Rattle.stride_trees.specs.Answers.{HasSmallRows, IsSmallTest}
use Rattle.tree_graphs.proofs.OrderEdges.{raised_part, variable_over, variable_within}
use Rattle.tree_graphs.proofs.EdgeSums.{over_append, over_widened, within_widened}
use Rattle.tree_graphs.proofs.ZeroCycles.{raised_within}
use Rattle.tree_graphs.proofs.Small.{negative_over, negative_within}
use Rattle.tree_graphs.proofs.RowBounds.{forms_append}
use Rattle.tree_sums.specs.Made.{parts_of, reach, TakesWithin}
use Rattle.tree_sums.specs.Parts.{Part, the_constant, the_coefficient, part_of, IsWithin}
use Rattle.tree_sums.proofs.Bound.{product_within, sum_within}
use Rattle.tree_sums.proofs.Ideal.{product_part, sum_part}
use Rattle.tree_sums.proofs.SmallRows.{small_is_made, widened_length, widened_part}
use Rattle.tree_sums.proofs.RowParts.{made_widens}
use Rattle.tree_sums.proofs.Within.{IsWithin-weaker, IsWithin-from_parts, part_of-le}
use Rattle.source_tree.specs.Rows.{RowExpr, Take, Plus, minus, number, one_less, row_form, row_forms}
use Rattle.source_tree.specs.Systems.{Context, multiple, one_more}
use Rattle.stride_trees.specs.declared.divisions.Division.{Division}
use Rattle.tree_cuts.proofs.WriterCuts.{same_forms}

-- a row is the form that has its parts
row_is : (vars bound : ℕ) (e : RowExpr) (f : Form) → TakesWithin vars bound e → reach bound e < 2 ^ 127
    → length f.coefs ≡ vars → ((part : Part) → part_of part f ≡ parts_of e part) → row_form vars e ≡ Some f
row_is vars bound e f takes small over parts =
    let m = small_is_made vars bound e takes small in
    m.1.is ∙ ap Some (same_forms m.0 f (m.1.over ∙ sym over) (λ part. m.1.parts part ∙ sym (parts part)))

pub two_rows : (vars : ℕ) (a b : RowExpr) (f g : Form) → row_form vars a ≡ Some f → row_form vars b ≡ Some g
    → row_forms vars (a ∷ b ∷ []) ≡ Some (f ∷ g ∷ [])
two_rows vars a b f g h k =
    let last : row_forms vars (b ∷ []) ≡ Some (g ∷ []) = ap (option_and_then (λ row. Some (row ∷ []))) k in
    ap (option_and_then (λ row. option_and_then (λ rest. Some (row ∷ rest)) (row_forms vars (b ∷ [])))) h
    ∙ ap (option_and_then (λ rest. Some (f ∷ rest))) last

-- rows of an answer behind those of a context
pub made_below : (context below : System) (c : Context) (two : List RowExpr) (first second : Form) → IsMadeAs context c
    → below.vars ≡ context.vars + 1
    → below.rows ≡ map (widened_form (context.vars + 1)) context.rows ++ first ∷ second ∷ []
    → row_forms (context.vars + 1) two ≡ Some (first ∷ second ∷ []) → IsMadeAs below (one_more c two)
made_below context below c two first second h vars rows made =
    let more : ℕ = context.vars + 1 in
    let own : row_forms context.vars c.rows ≡ Some context.rows =
    subst (λ v. row_forms v c.rows ≡ Some context.rows) h.vars h.rows in
    let all : row_forms more (c.rows ++ two) ≡ Some (map (widened_form more) context.rows ++ first ∷ second ∷ []) =
    forms_append more c.rows two (map (widened_form more) context.rows) (first ∷ second ∷ [])
    (made_widens context.vars more c.rows context.rows (omega arith) own) made in
    record {
      vars = omega (arith, h.vars, vars);
      rows = ap (λ v. row_forms (v + 1) (c.rows ++ two)) h.vars ∙ all ∙ ap Some (sym rows);
    }

pub small_below : (context below : System) (first second : Form) → HasSmallRows context
    → below.vars ≡ context.vars + 1
    → below.rows ≡ map (widened_form (context.vars + 1)) context.rows ++ first ∷ second ∷ []
    → length first.coefs ≡ context.vars + 1 → length second.coefs ≡ context.vars + 1
    → IsWithin (2 ^ 41) first → IsWithin (2 ^ 41) second → HasSmallRows below
small_below context below first second h vars rows first_over second_over first_within second_within =
    let more : ℕ = context.vars + 1 in
    let wide : List Form = map (widened_form more) context.rows in
    record {
      over = subst (λ v. AreOver v below.rows) (sym vars)
          (subst (AreOver more) (sym rows)
          (over_append more wide (first ∷ second ∷ []) (over_widened context.vars more context.rows (omega arith) h.over)
          (and_from _ _ (eq-eqb (length first.coefs) more first_over)
          (and_from _ _ (eq-eqb (length second.coefs) more second_over) refl))));
      within = subst (All (IsWithin (2 ^ 41))) (sym rows)
          (All-append (IsWithin (2 ^ 41)) wide (first ∷ second ∷ [])
          (within_widened more (2 ^ 41) (2 ^ 41) context.rows (omega arith) h.within)
          (All-cons (IsWithin (2 ^ 41)) first (second ∷ []) first_within
          (All-cons (IsWithin (2 ^ 41)) second [] second_within (All-nil _))));
    }

-- a small number as an argument of 128 bits
exactly : (z : ℤ) → unsigned_abs z ≤ 2 ^ 33 → to_z w128 (of_z w128 z) ≡ z
exactly z small = to_z-of_z w128 z (fits_signed_from_abs w128 z (omega (arith, small)))

pub exact_product : (q : ℕ) (k : ℤ) → unsigned_abs k ≤ 2 ^ 32
    → form_product (to_z w128 (of_z w128 k)) (variable_form (q + 1) q) ≡ form_product k (variable_form (q + 1) q)
exact_product q k small = ap (λ k. form_product k (variable_form (q + 1) q)) (exactly k (omega (arith, small)))

one_less_small : (z : ℤ) → unsigned_abs z ≤ 2 ^ 32 → unsigned_abs (z -ℤ pos 1) ≤ 2 ^ 33
one_less_small z small = omega (arith, ints, small)

-- a form and a number
abbrev pub raised_form : ℤ → Form → Form
raised_form k f = record f { constant = f.constant +ℤ k }

-- the last remainder of a divisor, as an argument
pub last_raised : (k : ℤ) (f : Form) → unsigned_abs k ≤ 2 ^ 32
    → raised_form (to_z w128 (of_z w128 (to_z w128 (of_z w128 k) -ℤ pos 1))) f ≡ raised_form (k -ℤ pos 1) f
last_raised k f small =
    ap (λ z. raised_form (to_z w128 (of_z w128 (z -ℤ pos 1))) f) (exactly k (omega (arith, small)))
    ∙ ap (λ z. raised_form z f) (exactly (k -ℤ pos 1) (one_less_small k small))

-- The rows of an answer

module _ (q depth : ℕ) (d : Division) (test : IsSmallTest depth d) (deep : depth ≤ q) (form quotients : Form)
    (form_is : form ≡ widened_form (q + 1) d.form) (quotients_are : quotients ≡ form_product d.divisor (variable_form (q + 1) q))
  where
    pub form_over : length form.coefs ≡ q + 1
    form_over = ap (λ (f : Form). length f.coefs) form_is
        ∙ widened_length d.form.coefs (q + 1) (omega (arith, test.over, deep))

    pub quotients_over : length quotients.coefs ≡ q + 1
    quotients_over = ap (λ (f : Form). length f.coefs) quotients_are
        ∙ length-map (variable_form (q + 1) q).coefs (λ c. c *ℤ d.divisor) ∙ variable_over (q + 1) q (omega arith)

    pub form_within : IsWithin (2 ^ 33) form
    form_within = subst (IsWithin (2 ^ 33)) (sym form_is)
        (IsWithin-from_parts (2 ^ 33) (widened_form (q + 1) d.form)
        (λ part. omega (
          arith,
          ap unsigned_abs (widened_part (q + 1) d.form part),
          part_of-le (2 ^ 33) d.form part test.within,
        )))

    pub quotients_within : IsWithin (2 ^ 32) quotients
    quotients_within = subst (IsWithin (2 ^ 32)) (sym quotients_are)
        (IsWithin-weaker (unsigned_abs d.divisor * 1) (2 ^ 32) _ (omega (arith, test.small))
        (product_within 1 d.divisor (variable_form (q + 1) q) (variable_within (q + 1) q)))

    form_part : (part : Part) → part_of part form ≡ part_of part (widened_form q d.form)
    form_part part = ap (part_of part) form_is ∙ widened_part (q + 1) d.form part ∙ sym (widened_part q d.form part)

    quotients_part : (part : Part) → part_of part quotients ≡ parts_of (multiple d.divisor q) part
    quotients_part part = ap (part_of part) quotients_are ∙ product_part part d.divisor (variable_form (q + 1) q)

    -- what the rows take
    abbrev own : Form
    own = widened_form q d.form

    abbrev one : Form
    one = variable_form (q + 1) q

    own_takes : TakesWithin (q + 1) (2 ^ 33) (Take own)
    own_takes = (
      omega (arith, widened_length d.form.coefs q (omega (arith, test.over, deep))),
      IsWithin-from_parts (2 ^ 33) own
          (λ part. omega (arith, ap unsigned_abs (widened_part q d.form part), part_of-le (2 ^ 33) d.form part test.within)),
    )

    multiple_takes : TakesWithin (q + 1) (2 ^ 33) (multiple d.divisor q)
    multiple_takes = (
      omega (arith, variable_over (q + 1) q (omega arith)),
      IsWithin-weaker 1 (2 ^ 33) one (omega arith) (variable_within (q + 1) q),
    )

    number_takes : (k : ℤ) → unsigned_abs k ≤ 2 ^ 33 → TakesWithin (q + 1) (2 ^ 33) (number k)
    number_takes k small = (omega arith, record { constant = small; coefs = All-nil _ })

    -- the difference of two forms
    less_over : (a b : Form) → length a.coefs ≡ q + 1 → length b.coefs ≡ q + 1 → length (form_sum a (form_product (negsuc 0) b)).coefs ≡ q + 1
    less_over a b h k =
        length-sums a.coefs (form_product (negsuc 0) b).coefs (omega (arith, h, k, negative_over b)) ∙ h

    less_part : (a b : Form) (part : Part) → length a.coefs ≡ q + 1 → length b.coefs ≡ q + 1
        → part_of part (form_sum a (form_product (negsuc 0) b)) ≡ part_of part a +ℤ (part_of part b *ℤ negsuc 0)
    less_part a b part h k =
        sum_part part a (form_product (negsuc 0) b) (omega (arith, h, k, negative_over b))
        ∙ ap (λ z. part_of part a +ℤ z) (product_part part (negsuc 0) b)

    less_within : (m n : ℕ) (a b : Form) → IsWithin m a → IsWithin n b → m + n ≤ 2 ^ 41
        → IsWithin (2 ^ 41) (form_sum a (form_product (negsuc 0) b))
    less_within m n a b h k le =
        IsWithin-weaker (m + n) (2 ^ 41) _ le (sum_within m n a (form_product (negsuc 0) b) h (negative_within n b k))

    -- form - d q, and its opposite
    pub above_is : row_form (q + 1) (minus (Take own) (multiple d.divisor q))
        ≡ Some (form_sum form (form_product (negsuc 0) quotients))
    above_is =
        row_is (q + 1) (2 ^ 33) (minus (Take own) (multiple d.divisor q)) (form_sum form (form_product (negsuc 0) quotients))
        (own_takes, multiple_takes) (omega (arith, test.small)) (less_over form quotients form_over quotients_over)
        (λ part. less_part form quotients part form_over quotients_over
        ∙ ap (λ z. z +ℤ (part_of part quotients *ℤ negsuc 0)) (form_part part)
        ∙ ap (λ z. part_of part own +ℤ (z *ℤ negsuc 0)) (quotients_part part))

    pub below_is : row_form (q + 1) (minus (multiple d.divisor q) (Take own))
        ≡ Some (form_sum quotients (form_product (negsuc 0) form))
    below_is =
        row_is (q + 1) (2 ^ 33) (minus (multiple d.divisor q) (Take own)) (form_sum quotients (form_product (negsuc 0) form))
        (multiple_takes, own_takes) (omega (arith, test.small)) (less_over quotients form quotients_over form_over)
        (λ part. less_part quotients form part quotients_over form_over
        ∙ ap (λ z. z +ℤ (part_of part form *ℤ negsuc 0)) (quotients_part part)
        ∙ ap (λ z. parts_of (multiple d.divisor q) part +ℤ (z *ℤ negsuc 0)) (form_part part))

    pub above_over : length (form_sum form (form_product (negsuc 0) quotients)).coefs ≡ q + 1
    above_over = less_over form quotients form_over quotients_over

    pub below_over : length (form_sum quotients (form_product (negsuc 0) form)).coefs ≡ q + 1
    below_over = less_over quotients form quotients_over form_over

    pub above_within : IsWithin (2 ^ 41) (form_sum form (form_product (negsuc 0) quotients))
    above_within = less_within (2 ^ 33) (2 ^ 32) form quotients form_within quotients_within (omega arith)

    pub below_within : IsWithin (2 ^ 41) (form_sum quotients (form_product (negsuc 0) form))
    below_within = less_within (2 ^ 32) (2 ^ 33) quotients form quotients_within form_within (omega arith)

    -- form - d q - 1, and d q + d - 1 - form
    abbrev last : Form
    last = record quotients { constant = quotients.constant +ℤ (d.divisor -ℤ pos 1) }

    number_part : (part : Part) → part_of part (record { constant = d.divisor -ℤ pos 1; coefs = [] })
        ≡ part_of part (record { constant = d.divisor; coefs = [] }) +ℤ part_of part (record { constant = negsuc 0; coefs = [] })
    number_part the_constant = omega (arith, ints)
    number_part (the_coefficient i) = refl

    pub strict_is : row_form (q + 1) (one_less (minus (Take own) (multiple d.divisor q)))
        ≡ Some (record (form_sum form (form_product (negsuc 0) quotients)) {
          constant = (form_sum form (form_product (negsuc 0) quotients)).constant +ℤ negsuc 0;
        })
    strict_is =
        let f : Form = form_sum form (form_product (negsuc 0) quotients) in
        row_is (q + 1) (2 ^ 33) (one_less (minus (Take own) (multiple d.divisor q)))
        (record f { constant = f.constant +ℤ negsuc 0 })
        ((own_takes, multiple_takes), number_takes (negsuc 0) (omega arith)) (omega (arith, test.small)) above_over
        (λ part. raised_part f (negsuc 0) part
        ∙ ap (λ z. z +ℤ part_of part (record { constant = negsuc 0; coefs = [] }))
        (less_part form quotients part form_over quotients_over
        ∙ ap (λ z. z +ℤ (part_of part quotients *ℤ negsuc 0)) (form_part part)
        ∙ ap (λ z. part_of part own +ℤ (z *ℤ negsuc 0)) (quotients_part part)))

    pub last_is : row_form (q + 1) (minus (one_less (Plus (multiple d.divisor q) (number d.divisor))) (Take own))
        ≡ Some (form_sum last (form_product (negsuc 0) form))
    last_is =
        row_is (q + 1) (2 ^ 33) (minus (one_less (Plus (multiple d.divisor q) (number d.divisor))) (Take own))
        (form_sum last (form_product (negsuc 0) form)) (
          ((multiple_takes, number_takes d.divisor (omega (arith, test.small))), number_takes (negsuc 0) (omega arith)),
          own_takes,
        ) (omega (arith, test.small)) (less_over last form quotients_over form_over)
        (λ part. less_part last form part quotients_over form_over
        ∙ ap (λ z. z +ℤ (part_of part form *ℤ negsuc 0))
        (raised_part quotients (d.divisor -ℤ pos 1) part
        ∙ ap (λ z. z +ℤ part_of part (record { constant = d.divisor -ℤ pos 1; coefs = [] })) (quotients_part part)
        ∙ ap (λ z. parts_of (multiple d.divisor q) part +ℤ z) (number_part part)
        ∙ (let a : ℤ = parts_of (multiple d.divisor q) part in
        let b : ℤ = part_of part (record { constant = d.divisor; coefs = [] }) in
        let c : ℤ = part_of part (record { constant = negsuc 0; coefs = [] }) in
        associated a b c))
        ∙ ap (λ z. parts_of (one_less (Plus (multiple d.divisor q) (number d.divisor))) part +ℤ (z *ℤ negsuc 0))
        (form_part part)) where
          associated : (a b c : ℤ) → a +ℤ (b +ℤ c) ≡ (a +ℤ b) +ℤ c
          associated a b c = omega (arith, ints)

    pub strict_within : IsWithin (2 ^ 41) (record (form_sum form (form_product (negsuc 0) quotients)) {
      constant = (form_sum form (form_product (negsuc 0) quotients)).constant +ℤ negsuc 0;
    })
    strict_within = IsWithin-weaker (2 ^ 34 + 1) (2 ^ 41) _ (omega arith)
        (raised_within (2 ^ 34) 1 (form_sum form (form_product (negsuc 0) quotients)) (negsuc 0)
        (IsWithin-weaker (2 ^ 33 + 2 ^ 32) (2 ^ 34) _ (omega arith)
        (sum_within (2 ^ 33) (2 ^ 32) form (form_product (negsuc 0) quotients) form_within
        (negative_within (2 ^ 32) quotients quotients_within))) (omega arith))

    pub last_over : length (form_sum last (form_product (negsuc 0) form)).coefs ≡ q + 1
    last_over = less_over last form quotients_over form_over

    pub last_own : IsWithin (2 ^ 34) last
    last_own = IsWithin-weaker (2 ^ 32 + 2 ^ 33) (2 ^ 34) _ (omega arith)
        (raised_within (2 ^ 32) (2 ^ 33) quotients (d.divisor -ℤ pos 1) quotients_within (one_less_small d.divisor test.small))

    pub last_within : IsWithin (2 ^ 41) (form_sum last (form_product (negsuc 0) form))
    last_within = less_within (2 ^ 34) (2 ^ 33) last form last_own form_within (omega arith)

-- the rows that were pushed
pub rows_pushed : (new own : List Form) (f g first second : Form) → new ≡ own ++ f ∷ g ∷ [] → f ≡ first → g ≡ second
    → new ≡ own ++ first ∷ second ∷ []
rows_pushed new own f g first second e is_first is_second =
    e ∙ ap (λ f. own ++ f ∷ g ∷ []) is_first ∙ ap (λ g. own ++ first ∷ g ∷ []) is_second
