-- Refutations of the systems over a writer's point, by sums of edges.
--
-- The system's rows are those of the context, widened, those of the edges, and at a Writer leaf the order rows behind.
-- Terms that show a row in the context show it here; terms that are a path show what the path adds up to, since the
-- rows have the parts of the edges. So terms of both that add up to a negative number refute.
use Rattle.std.proofs.Common.{◌≡◌, ◌+◌, ◌*◌, ◌^◌, ◌≤◌, ◌<◌, ℕ, ℤ, pos, ◌+ℤ◌, ◌-ℤ◌, ◌*ℤ◌, ◌≤ℤ◌, ◌<ℤ◌}
use Rattle.std.proofs.Common.{List, [], ◌∷◌, ◌++◌, length, map, refl, ap, ◌∙◌}
use Rattle.std.proofs.Common.{subst, arith, length-append, eqb-true}
use Rattle.std.specs.Prelude.{All, unsigned_abs, ◌==◌}
use Rattle.std.specs.Option.{option_map_or}
use Rattle.std.proofs.lemmas.Bool.{eq-eqb, and_parts, and_from}
use Rattle.std.proofs.lemmas.Int.{ints}
use Rattle.std.proofs.lemmas.List.{length-map}
use Rattle.std.proofs.lemmas.List.Elements.{All-nil, All-cons, All-append, All-head, All-tail}
use Rattle.affine_core.specs.declared.form.Form.{Form}
use Rattle.affine_core.specs.Affine.{widened_form}
use Rattle.int_polyhedra.specs.declared.system.Proof.TheVariants.{Sum}
use Rattle.int_polyhedra.specs.declared.system.Term.{Term}
use Rattle.int_polyhedra.specs.Rules.{Refutes}
use Rattle.int_polyhedra.specs.Systems.{all_over, AreOver}
use Rattle.tree_graphs.specs.Paths.{edge_part, terms_from, IsPath}
use Rattle.tree_graphs.specs.declared.edges.Edge.{Edge}
use Rattle.tree_graphs.proofs.RowBounds.{most_made}
use Rattle.plain_data.proofs.Lists.{slice_get-append_right}
use Rattle.tree_sums.specs.Parts.{Part, the_constant, the_coefficient, part_of, row_part, weight, weighted_sum, IsWithin}
use Rattle.tree_sums.specs.Shown.{RowParts, Shows}
use Rattle.tree_sums.proofs.SumAlgebra.{combines}
use Rattle.tree_sums.proofs.SmallRows.{widened_length}
use Rattle.tree_sums.proofs.NegativeSums.{shown_refutes}
use Rattle.tree_sums.proofs.Weights.{weight_sum}
use Rattle.tree_sums.proofs.MoreVariables.{shown_widens}
use Rattle.tree_sums.proofs.Within.{IsWithin-widened_form, IsWithin-weaker}

-- Lists of rows

pub over_append : (vars : ℕ) (xs ys : List Form) → AreOver vars xs → AreOver vars ys → AreOver vars (xs ++ ys)
over_append vars [] ys h k = k
over_append vars (x ∷ xs) ys h k =
    let b = and_parts (length x.coefs == vars) (all_over vars xs) h in
    and_from (length x.coefs == vars) (all_over vars (xs ++ ys)) b.0 (over_append vars xs ys b.1 k)

pub over_widened : (vars more : ℕ) (rows : List Form) → vars ≤ more → AreOver vars rows
    → AreOver more (map (widened_form more) rows)
over_widened vars more [] le h = refl
over_widened vars more (row ∷ rows) le h =
    let b = and_parts (length row.coefs == vars) (all_over vars rows) h in
    let long : length (widened_form more row).coefs ≡ more =
    widened_length row.coefs more (omega (arith, eqb-true (length row.coefs) vars b.0, le)) in
    and_from (length (widened_form more row).coefs == more) (all_over more (map (widened_form more) rows))
    (eq-eqb (length (widened_form more row).coefs) more long) (over_widened vars more rows le b.1)

pub within_widened : (more a b : ℕ) (rows : List Form) → a ≤ b → All (IsWithin a) rows
    → All (IsWithin b) (map (widened_form more) rows)
within_widened more a b [] le h = All-nil _
within_widened more a b (row ∷ rows) le h =
    All-cons (IsWithin b) (widened_form more row) (map (widened_form more) rows)
    (IsWithin-widened_form more b row (IsWithin-weaker a b row le (All-head (IsWithin a) row rows h)))
    (within_widened more a b rows le (All-tail (IsWithin a) row rows h))

-- terms counted from behind some rows
pub weighted_from : (rows more : List Form) (part : Part) (ts : List Term)
    → weighted_sum (row_part (rows ++ more) part) (terms_from (length rows) ts) ≡ weighted_sum (row_part more part) ts
weighted_from rows more part [] = refl
weighted_from rows more part (t ∷ ts) =
    let here : row_part (rows ++ more) part (length rows + t.row) ≡ row_part more part t.row =
    ap (λ o. option_map_or (part_of part) o (pos 0)) (slice_get-append_right rows more t.row) in
    ap (λ z. (z *ℤ t.times) +ℤ weighted_sum (row_part (rows ++ more) part) (terms_from (length rows) ts)) here
    ∙ ap (λ z. (row_part more part t.row *ℤ t.times) +ℤ z) (weighted_from rows more part ts)

pub weighted_equal : (f g : ℕ → ℤ) (ts : List Term) → ((k : ℕ) → f k ≡ g k) → weighted_sum f ts ≡ weighted_sum g ts
weighted_equal f g [] h = refl
weighted_equal f g (t ∷ ts) h =
    ap (λ z. (z *ℤ t.times) +ℤ weighted_sum f ts) (h t.row)
    ∙ ap (λ z. (g t.row *ℤ t.times) +ℤ z) (weighted_equal f g ts h)

pub weight_from : (first : ℕ) (ts : List Term) → weight (terms_from first ts) ≡ weight ts
weight_from first [] = refl
weight_from first (t ∷ ts) = ap (λ n. unsigned_abs t.times + n) (weight_from first ts)

names_from : (first m n : ℕ) (ts : List Term) → first + m ≤ n → All (λ t. t.row < m) ts
    → All (λ t. t.row < n) (terms_from first ts)
names_from first m n [] le h = All-nil _
names_from first m n (t ∷ ts) le h =
    All-cons (λ (t : Term). t.row < n) (record { row = first + t.row; times = t.times }) (terms_from first ts)
    (omega (arith, le, All-head (λ (t : Term). t.row < m) t ts h))
    (names_from first m n ts le (All-tail (λ (t : Term). t.row < m) t ts h))

positive_from : (first : ℕ) (ts : List Term) → All (λ t. pos 0 ≤ℤ t.times) ts
    → All (λ t. pos 0 ≤ℤ t.times) (terms_from first ts)
positive_from first [] h = All-nil _
positive_from first (t ∷ ts) h =
    All-cons (λ (t : Term). pos 0 ≤ℤ t.times) (record { row = first + t.row; times = t.times }) (terms_from first ts)
    (All-head (λ (t : Term). pos 0 ≤ℤ t.times) t ts h)
    (positive_from first ts (All-tail (λ (t : Term). pos 0 ≤ℤ t.times) t ts h))

-- rows that have the parts of edges at a place
pub record AreRowsOf (place : List Form) (edges : List Edge) (forms : List Form) : Type 0 where
  pub count : length forms ≡ length edges
  pub parts : (k : ℕ) (part : Part) → row_part forms part k ≡ edge_part place edges part k

-- what a path adds up to, in a system
pub path_shows : (vars : ℕ) (rows forms : List Form) (place : List Form) (edges : List Edge) (ts : List Term)
    (sum : RowParts) (from to : ℕ) → AreRowsOf place edges forms → IsPath edges ts sum from to
    → Shows vars (rows ++ forms) (terms_from (length rows) ts)
    (λ part. (sum part +ℤ row_part place part from) -ℤ row_part place part to)
path_shows vars rows forms place edges ts sum from to are h =
    let whole : length (rows ++ forms) ≡ length rows + length forms = length-append rows forms in
    let is : (part : Part) → weighted_sum (row_part (rows ++ forms) part) (terms_from (length rows) ts)
    ≡ (sum part +ℤ row_part place part from) -ℤ row_part place part to
    = λ part. weighted_from rows forms part ts ∙ weighted_equal (row_part forms part) (edge_part place edges part) ts
    (λ k. are.parts k part) ∙ h.same place part in
    record {
      name_rows = names_from (length rows) (length edges) (length (rows ++ forms)) ts
          (omega (arith, whole, are.count)) h.name_edges;
      not_negative = positive_from (length rows) ts h.not_negative;
      at_most = omega (arith, ints, is the_constant);
      same = λ i l. is (the_coefficient i);
    }

-- the context of a system over a writer's point: rows over the reader's variables
pub record IsBase (vars : ℕ) (rows : List Form) : Type 0 where
  pub over : AreOver vars rows
  pub within : All (IsWithin (2 ^ 41)) rows

pub weight_few : (w : ℕ) → w ≤ 2 ^ 25 → w * most_made < 2 ^ 127
weight_few w h = omega (arith, h)

module _ (vars more : ℕ) (context forms : List Form) (place : List Form) (edges : List Edge) (le : vars ≤ more)
    (base : IsBase vars context)
    (over : AreOver more forms) (within : All (IsWithin most_made) forms) (are : AreRowsOf place edges forms) where
  abbrev wide : List Form
  wide = map (widened_form more) context

  abbrev pub whole_rows : List Form
  whole_rows = wide ++ forms

  pub whole_over : AreOver more whole_rows
  whole_over = over_append more wide forms (over_widened vars more context le base.over) over

  pub whole_within : All (IsWithin most_made) whole_rows
  whole_within = All-append (IsWithin most_made) wide forms
      (within_widened more (2 ^ 41) most_made context (omega arith) base.within) within

  -- what the context shows is shown
  pub context_shows : (ts : List Term) (a : RowParts) → ((i : ℕ) → vars ≤ i → a (the_coefficient i) ≡ pos 0)
      → Shows vars context ts a → Shows more whole_rows ts a
  context_shows ts a zeros h =
      (combines more wide).behind forms ts a (shown_widens vars more context ts a base.over zeros h)

  pub cycle_shows : (ts : List Term) (sum : RowParts) (from to : ℕ) → IsPath edges ts sum from to
      → Shows more whole_rows (terms_from (length context) ts)
      (λ part. (sum part +ℤ row_part place part from) -ℤ row_part place part to)
  cycle_shows ts sum from to h =
      subst (λ n. Shows more whole_rows (terms_from n ts)
      (λ part. (sum part +ℤ row_part place part from) -ℤ row_part place part to))
      (length-map context (widened_form more))
      (path_shows more wide forms place edges ts sum from to are h)

  -- terms of the context and a path from a node back to itself that add up to a negative number
  pub cycle_refutes : (shown ts : List Term) (a sum : RowParts) (node : ℕ)
      → ((i : ℕ) → vars ≤ i → a (the_coefficient i) ≡ pos 0) → Shows vars context shown a
      → IsPath edges ts sum node node
      → (a the_constant +ℤ sum the_constant) <ℤ pos 0
      → ((i : ℕ) → a (the_coefficient i) +ℤ sum (the_coefficient i) ≡ pos 0)
      → weight shown + weight ts ≤ 2 ^ 25 → Refutes more whole_rows (Sum (shown ++ terms_from (length context) ts))
  cycle_refutes shown ts a sum node zeros h path low none light =
      let both = (combines more whole_rows).sum shown (terms_from (length context) ts) a
      (λ part. (sum part +ℤ row_part place part node) -ℤ row_part place part node)
      (context_shows shown a zeros h) (cycle_shows ts sum node node path) in
      shown_refutes more most_made whole_rows (shown ++ terms_from (length context) ts)
      (λ part. a part +ℤ ((sum part +ℤ row_part place part node) -ℤ row_part place part node)) whole_over
      whole_within
      (weight_few (weight (shown ++ terms_from (length context) ts))
      (omega (arith, weight_sum shown (terms_from (length context) ts), weight_from (length context) ts, light)))
      both
      (record { negative = omega (arith, ints, low); no_variable = λ i l. omega (arith, ints, none i) })
