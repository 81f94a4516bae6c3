-- The proofs that the leaf's point stands before the read, and that no other point of the writer stands between.
--
-- The context shows the order rows of the leaf's point before the reader. Rows that say that the reader stands before
-- it have one that contradicts a row shown: above the candidate's level their strict row an equal value, at that level
-- the strict row, and below it an equal value does. Another point that stands behind the leaf's in a loop is above it
-- there, and the path to that loop's form says that it is not. Each proof so takes one row that was added, once.
use Rattle.std.proofs.Common.{◌≡◌, ◌+◌, ◌*◌, ◌^◌, ◌≤◌, ◌<◌, ℕ, zero, suc, ℤ, pos, ◌+ℤ◌, ◌-ℤ◌}
use Rattle.std.proofs.Common.{List, [], ◌∷◌, ◌++◌, length, map, true, refl, sym, ap, ◌∙◌, subst}
use Rattle.std.proofs.Common.{arith, length-append, inl, ◌⊎◌}
use Rattle.std.specs.Prelude.{Option, Some, None, All, slice_get, nat_lt}
use Rattle.std.specs.Option.{option_map_or}
use Rattle.std.proofs.lemmas.Int.{ints}
use Rattle.std.proofs.lemmas.List.{length-map}
use Rattle.std.proofs.lemmas.List.Elements.{All-append}
use Rattle.std.proofs.lemmas.Option.{same_Some, slice_get_within}
use Rattle.affine_core.specs.declared.form.Form.{Form}
use Rattle.affine_core.specs.Affine.{variable_form, widened_form}
use Rattle.int_polyhedra.specs.declared.system.Proof.{Proof}
use Rattle.int_polyhedra.specs.declared.system.Proof.TheVariants.{Sum}
use Rattle.int_polyhedra.specs.declared.system.System.{System}
use Rattle.int_polyhedra.specs.declared.system.Term.{Term}
use Rattle.int_polyhedra.specs.Systems.{AreOver}
use Rattle.sanlp.specs.Order.{common_loops}
use Rattle.sanlp.proofs.Precedence.{common_loops-comm, common_loops-same}
use Rattle.tree_graphs.specs.Asked.{depth_of_read, depth_of_write, read_of, write_of}
use Rattle.tree_graphs.specs.Edges.{write_rows, AreLevelRows}
use Rattle.tree_graphs.specs.Facts.{form_parts, IsFact}
use Rattle.lex_max.specs.Leaves.{AreShown, IsLeafOf}
use Rattle.tree_graphs.specs.Level.{common_of}
use Rattle.tree_graphs.specs.Paths.{term_of, terms_from, IsPath}
use Rattle.tree_graphs.specs.Simple.{IsLightSum}
use Rattle.tree_graphs.specs.declared.edges.Edge.{Edge}
use Rattle.tree_graphs.specs.declared.writes.Writes.{Writes}
use Rattle.lex_max.proofs.PointSystems.{Opposes}
use Rattle.tree_graphs.proofs.ProblemBounds.{writes_fit, IsKnown}
use Rattle.lex_max.proofs.LeafParts.{less_opposes, place_taken, shown_refuted, place_taken_here}
use Rattle.lex_max.proofs.Levels.{later_row, of_level, same_at, sooner_row, AreOfLevel}
use Rattle.tree_graphs.proofs.Differences.{past_part}
use Rattle.tree_graphs.proofs.OrderEdges.{length_variables, reader_at, variable_at}
use Rattle.tree_graphs.proofs.ZeroSystems.{variables_taken, IsPlaced}
use Rattle.tree_graphs.proofs.EdgeSums.{cycle_shows, over_append, weight_few, weight_from, whole_over}
use Rattle.tree_graphs.proofs.EdgeSums.{whole_within, IsBase}
use Rattle.tree_graphs.proofs.RowBounds.{are_made, forms_append, level_at, most_made, small_append, small_equal, AreMade}
use Rattle.tree_graphs.proofs.RowBounds.{AreSmall, AreTaken, IsSmallLevel}
use Rattle.plain_data.proofs.Lists.{slice_get-some, slice_get-append_right}
use Rattle.tree_sums.specs.Made.{parts_of}
use Rattle.tree_sums.specs.Parts.{Part, the_constant, the_coefficient, part_of, row_part, weight, IsWithin}
use Rattle.tree_sums.specs.Shown.{Shows}
use Rattle.tree_sums.proofs.SumAlgebra.{combines}
use Rattle.tree_sums.proofs.NegativeSums.{shown_refutes}
use Rattle.tree_sums.proofs.Weights.{weight_sum}
use Rattle.source_tree.specs.Checked.{IsRefuted}
use Rattle.source_tree.specs.Places.{before_rows, order_rows, same_rows}
use Rattle.source_tree.specs.Rows.{equal_rows, minus, one_less, row_forms, RowExpr, Take}
use Rattle.source_tree.specs.Systems.{Context, reader_place, with_rows, with_write_at, writer_place}

-- the terms of a row that is shown
pub record HasCert (context : System) (row : RowExpr) (found : Option (List Term)) : Type 0 where
  pub terms : List Term
  pub is : found ≡ Some terms
  pub fact : IsFact context (2 ^ 23) (parts_of row) terms

pub cert_at : (context : System) (rows : List RowExpr) (certs : List (List Term)) (k : ℕ) (row : RowExpr)
    → AreShown context rows certs → slice_get rows k ≡ Some row → HasCert context row (slice_get certs k)
cert_at context [] certs k row h e = absurd (let f : None ≡ Some row = e in cc)
cert_at context (r ∷ rows) [] k row h e = absurd h
cert_at context (r ∷ rows) (ts ∷ certs) zero row h e =
    let same : r ≡ row = same_Some r row e in
    record { terms = ts; is = refl; fact = subst (λ r. IsFact context (2 ^ 23) (parts_of r) ts) same h.0 }
cert_at context (r ∷ rows) (ts ∷ certs) (suc k) row h e = cert_at context rows certs k row h.1 e

strict_opposes : (a b : RowExpr) → Opposes (parts_of (one_less (minus b a))) (parts_of (one_less (minus a b)))
strict_opposes a b = record { negative = omega (arith, ints); no_variable = λ i. omega (arith, ints) }

later_opposes : (a b : RowExpr) → Opposes (parts_of (one_less (minus b a))) (parts_of (minus a b))
later_opposes a b = record { negative = omega (arith, ints); no_variable = λ i. omega (arith, ints) }

module _ (w : Writes) (c : Context) (context : System) (place : List Form) (here : ℕ)
    (leaf : IsLeafOf w c context place here) (level : List RowExpr) (certs : List (List Term))
    (level_is : AreLevelRows (read_of w) (write_of w) w.level place level) (shown : AreShown context level certs) where
  abbrev readers : List Form
  readers = reader_place (read_of w)

  abbrev fits : IsKnown w.vars (read_of w) (write_of w) w.level
  fits = writes_fit w

  own : AreOfLevel (common_of (write_of w) (read_of w)) w.level place readers level
  own = of_level (common_of (write_of w) (read_of w)) w.level
      (nat_lt w.write.number w.read.number) place readers level level_is

  pub readers_taken : AreTaken c.vars readers
  readers_taken = variables_taken c.vars 0 (depth_of_read w) (omega (arith, leaf.vars, fits.reader))

  -- the rows of a level of the reader before the leaf's point
  abbrev AreAfter : ℕ → List RowExpr → Type 0
  AreAfter l rows = slice_get
      (before_rows w.read.number w.read.statement.now readers w.write.number w.write.statement.now place) l ≡ Some rows

  abbrev swapped : ℕ
  swapped = common_loops w.read.statement.now.loops w.write.statement.now.loops

  pub swapped_is : swapped ≡ common_of (write_of w) (read_of w)
  swapped_is = common_loops-comm w.read.statement.now.loops w.write.statement.now.loops

  after_small : (l : ℕ) (rows : List RowExpr) → AreAfter l rows
      → (l < swapped) ⊎ ((l ≡ swapped) × (nat_lt w.read.number w.write.number ≡ true)) → AreSmall c.vars rows
  after_small l rows is has =
      let s : IsSmallLevel c.vars (order_rows swapped (nat_lt w.read.number w.write.number) readers place) l
      = level_at c.vars swapped l (nat_lt w.read.number w.write.number) readers place
      (omega (arith, length_variables 0 (depth_of_read w), swapped_is, fits.common_vars))
      (omega (arith, leaf.placed.deep, swapped_is, fits.common_loops)) has readers_taken
      (place_taken_here w c context place here leaf) in
      subst (AreSmall c.vars) (same_Some s.rows rows (sym s.is ∙ is)) s.small

  -- a level above the candidate's
  pub after_above : (l : ℕ) (rows : List RowExpr) (row : ℕ) (ts : List Term) (proof : Proof) → AreAfter l rows
      → l < w.level → slice_get certs (2 * l + 1) ≡ Some ts → row ≡ here + 2 * l
      → proof ≡ Sum (ts ++ term_of row ∷ []) → IsRefuted (with_rows c rows) proof × IsLightSum proof
  after_above l rows row ts proof is above cert row_is proof_is =
      let common : l < common_of (write_of w) (read_of w) = omega (arith, above, fits.level) in
      let v = slice_get-some place l (omega (arith, leaf.placed.deep, common, fits.common_loops)) in
      let x_is : slice_get readers l ≡ Some (variable_form (l + 1) l) =
      reader_at (depth_of_read w) l (omega (arith, common, fits.common_vars)) in
      let x : Form = variable_form (l + 1) l in
      let mine : HasCert context (later_row v.0 x) (slice_get certs (2 * l + 1)) =
      cert_at context level certs (2 * l + 1) (later_row v.0 x) shown (own.above l v.0 x above v.1 x_is) in
      let same : mine.terms ≡ ts = same_Some mine.terms ts (sym mine.is ∙ cert) in
      let theirs : AreOfLevel swapped l readers place rows =
      of_level swapped l (nat_lt w.read.number w.write.number) readers place rows is in
      let last : slice_get rows (2 * l) ≡ Some (sooner_row x v.0) =
      theirs.at x v.0 (omega (arith, common, swapped_is)) x_is v.1 in
      shown_refuted w c context place here leaf rows (2 * l) (sooner_row x v.0) ts
      (parts_of (later_row v.0 x)) row proof (after_small l rows is (inl (omega (arith, common, swapped_is)))) last
      (subst (IsFact context (2 ^ 23) (parts_of (later_row v.0 x))) same mine.fact)
      (less_opposes (Take v.0) (Take x)) row_is proof_is

  -- what the row at the candidate's level shows
  strict_cert : (ts : List Term) → w.level < common_of (write_of w) (read_of w) → slice_get certs (2 * w.level)
      ≡ Some ts
      → (v : Form) × (slice_get place w.level ≡ Some v)
      × IsFact context (2 ^ 23) (parts_of (sooner_row v (variable_form (w.level + 1) w.level))) ts
  strict_cert ts common cert =
      let v = slice_get-some place w.level (omega (arith, leaf.placed.deep, common, fits.common_loops)) in
      let x : Form = variable_form (w.level + 1) w.level in
      let x_is : slice_get readers w.level ≡ Some x =
      reader_at (depth_of_read w) w.level (omega (arith, common, fits.common_vars)) in
      let mine : HasCert context (sooner_row v.0 x) (slice_get certs (2 * w.level)) =
      cert_at context level certs (2 * w.level) (sooner_row v.0 x) shown (own.at v.0 x common v.1 x_is) in
      let same : mine.terms ≡ ts = same_Some mine.terms ts (sym mine.is ∙ cert) in
      (v.0, v.1, subst (IsFact context (2 ^ 23) (parts_of (sooner_row v.0 x))) same mine.fact)

  -- the candidate's level
  pub after_at : (rows : List RowExpr) (row : ℕ) (ts : List Term) (proof : Proof) → AreAfter w.level rows
      → w.level < common_of (write_of w) (read_of w) → slice_get certs (2 * w.level) ≡ Some ts
      → row ≡ here + 2 * w.level → proof ≡ Sum (ts ++ term_of row ∷ []) → IsRefuted (with_rows c rows) proof
      × IsLightSum proof
  after_at rows row ts proof is common cert row_is proof_is =
      let v = strict_cert ts common cert in
      let x : Form = variable_form (w.level + 1) w.level in
      let x_is : slice_get readers w.level ≡ Some x =
      reader_at (depth_of_read w) w.level (omega (arith, common, fits.common_vars)) in
      let theirs : AreOfLevel swapped w.level readers place rows =
      of_level swapped w.level (nat_lt w.read.number w.write.number) readers place rows is in
      shown_refuted w c context place here leaf rows (2 * w.level) (sooner_row x v.0) ts (parts_of (sooner_row v.0 x))
      row proof (after_small w.level rows is (inl (omega (arith, common, swapped_is))))
      (theirs.at x v.0 (omega (arith, common, swapped_is)) x_is v.1) v.2
      (strict_opposes (Take v.0) (Take x)) row_is proof_is

  -- a level below it
  pub after_below : (l : ℕ) (rows : List RowExpr) (row : ℕ) (ts : List Term) (proof : Proof) → AreAfter l rows
      → (l < swapped) ⊎ ((l ≡ swapped) × (nat_lt w.read.number w.write.number ≡ true))
      → w.level < l → w.level < common_of (write_of w) (read_of w) → slice_get certs (2 * w.level) ≡ Some ts
      → row ≡ here + (2 * w.level + 1) → proof ≡ Sum (ts ++ term_of row ∷ []) → IsRefuted (with_rows c rows) proof
      × IsLightSum proof
  after_below l rows row ts proof is has below common cert row_is proof_is =
      let v = strict_cert ts common cert in
      let x : Form = variable_form (w.level + 1) w.level in
      let x_is : slice_get readers w.level ≡ Some x =
      reader_at (depth_of_read w) w.level (omega (arith, common, fits.common_vars)) in
      let theirs : AreOfLevel swapped l readers place rows =
      of_level swapped l (nat_lt w.read.number w.write.number) readers place rows is in
      shown_refuted w c context place here leaf rows (2 * w.level + 1) (later_row x v.0) ts
      (parts_of (sooner_row v.0 x)) row proof (after_small l rows is has)
      (theirs.above w.level x v.0 below x_is v.1) v.2 (later_opposes (Take v.0) (Take x)) row_is proof_is

  same_small : (a b : List Form) → AreTaken c.vars a → AreTaken c.vars b → AreSmall c.vars (same_rows a b)
  same_small [] b s t = tt
  same_small (v ∷ a) [] s t = tt
  same_small (v ∷ a) (x ∷ b) s t = small_append c.vars (equal_rows (Take v) (Take x)) (same_rows a b)
      (small_equal c.vars v x s.0 t.0) (same_small a b s.1 t.1)

  -- the same point
  pub same_refuted : (row : ℕ) (ts : List Term) (proof : Proof) → w.level < common_of (write_of w) (read_of w)
      → slice_get certs (2 * w.level) ≡ Some ts → row ≡ here + (2 * w.level + 1)
      → proof ≡ Sum (ts ++ term_of row ∷ []) → IsRefuted (with_rows c (same_rows readers place)) proof
      × IsLightSum proof
  same_refuted row ts proof common cert row_is proof_is =
      let v = strict_cert ts common cert in
      let x : Form = variable_form (w.level + 1) w.level in
      let x_is : slice_get readers w.level ≡ Some x =
      reader_at (depth_of_read w) w.level (omega (arith, common, fits.common_vars)) in
      shown_refuted w c context place here leaf (same_rows readers place) (2 * w.level + 1) (later_row x v.0) ts
      (parts_of (sooner_row v.0 x)) row proof
      (same_small readers place readers_taken (place_taken_here w c context place here leaf))
      (same_at readers place w.level x v.0 x_is v.1) v.2 (later_opposes (Take v.0) (Take x)) row_is proof_is

-- No other point of the writer stands between

module _ (w : Writes) (c : Context) (context : System) (place : List Form) (here : ℕ)
    (leaf : IsLeafOf w c context place here) (edges : List Edge)
    (s : IsPlaced (read_of w) (write_of w) w.level c context.rows edges) where
  abbrev depth : ℕ
  depth = depth_of_write w

  abbrev more : ℕ
  more = c.vars + depth

  abbrev points : List Form
  points = writer_place c (write_of w)

  abbrev further : List (List RowExpr)
  further = before_rows w.write.number w.write.statement.now place w.write.number w.write.statement.now points

  base : IsBase c.vars context.rows
  base = record { over = leaf.made.over; within = leaf.made.within }

  pub between_refuted : (q : ℕ) (rows : List RowExpr) (y : Form) (path : List Term) (row : ℕ) (proof : Proof)
      → q < depth → slice_get further q ≡ Some rows → slice_get place q ≡ Some y
      → IsPath edges path (form_parts y) depth q → weight path ≤ 65 → row ≡ here + length edges + 2 * q → proof
      ≡ Sum (terms_from here path ++ term_of row ∷ [])
      → IsRefuted (with_rows (with_write_at (read_of w) c (write_of w)) (s.level ++ rows)) proof × IsLightSum proof
  between_refuted q rows y path row proof inside is y_is path_is light row_is proof_is =
      let ls : List ℕ = w.write.statement.now.loops in
      let j : Form = variable_form (c.vars + q + 1) (c.vars + q) in
      let j_is : slice_get points q ≡ Some j = variable_at c.vars depth q inside in
      let common_is : common_loops ls ls ≡ depth = common_loops-same ls in
      let long : length points ≡ depth = length_variables c.vars depth in
      let q_rows : AreOfLevel (common_loops ls ls) q place points rows =
      of_level (common_loops ls ls) q (nat_lt w.write.number w.write.number) place points rows is in
      let last : slice_get rows (2 * q) ≡ Some (sooner_row y j) =
      q_rows.at y j (omega (arith, common_is, inside)) y_is j_is in
      let own : AreTaken more points = variables_taken more c.vars depth (omega arith) in
      let ys : AreTaken more place =
      place_taken more w.vars place (omega (arith, leaf.vars)) leaf.placed.over leaf.placed.within in
      let small_level : IsSmallLevel more
      (order_rows (common_loops ls ls) (nat_lt w.write.number w.write.number) place points) q
      = level_at more (common_loops ls ls) q (nat_lt w.write.number w.write.number) place points
      (omega (arith, common_is, leaf.placed.deep)) (omega (arith, common_is, long))
      (inl (omega (arith, common_is, inside))) ys own in
      let small : AreSmall more rows =
      subst (AreSmall more) (same_Some small_level.rows rows (sym small_level.is ∙ is)) small_level.small in
      let m : AreMade more rows = are_made more rows small in
      let inner : List Form = map (widened_form more) context.rows ++ s.forms in
      let whole : List Form = inner ++ m.forms in
      let count : length inner ≡ here + length edges = omega (
        arith,
        length-append (map (widened_form more) context.rows) s.forms,
        length-map context.rows (widened_form more),
        s.are.count,
        leaf.numbered,
      ) in
      let inside_q : 2 * q < length rows = slice_get_within rows (2 * q) (sooner_row y j) last in
      let there : row < length whole = omega (arith, length-append inner m.forms, count, m.count, inside_q, row_is) in
      let over : AreOver more whole = over_append more inner m.forms
      (whole_over c.vars more context.rows s.forms points edges (omega arith) base s.over s.within s.are) m.over in
      let within : All (IsWithin most_made) whole
      = All-append (IsWithin most_made) inner m.forms (whole_within c.vars more context.rows s.forms points edges
      (omega arith) base s.over s.within s.are) m.within in
      let row_place : length inner + 2 * q ≡ row = omega (arith, count, row_is) in
      let part_is : (part : Part) → row_part whole part row ≡ parts_of (sooner_row y j) part
      = λ part. ap (row_part whole part) (sym row_place)
      ∙ ap (λ o. option_map_or (part_of part) o (pos 0)) (slice_get-append_right inner m.forms (2 * q)) ∙ m.parts (2 * q) part
      ∙ ap (λ o. option_map_or (λ e. parts_of e part) o (pos 0)) last in
      let end_is : (part : Part) → row_part points part q ≡ part_of part j =
      λ part. ap (λ o. option_map_or (part_of part) o (pos 0)) j_is in
      let zero_is : (part : Part) → row_part points part depth ≡ pos 0 = λ part. ap (row_part points part) (sym long)
      ∙ past_part points part in
      let sum : Part → ℤ = λ part. (form_parts y part +ℤ row_part points part depth) -ℤ row_part points part q in
      let shown : Shows more inner (terms_from (length context.rows) path) sum
      = cycle_shows c.vars more context.rows s.forms points edges (omega arith) base s.over s.within s.are path
      (form_parts y) depth q path_is in
      let shown' : Shows more inner (terms_from here path) sum =
      subst (λ n. Shows more inner (terms_from n path) sum) (sym leaf.numbered) shown in
      let both = (combines more whole).sum (terms_from here path) (term_of row ∷ []) sum
      (λ part. row_part whole part row)
      ((combines more inner).behind m.forms (terms_from here path) sum shown') ((combines more whole).own row there) in
      let weight_is : weight (terms_from here path ++ term_of row ∷ []) ≤ 66 =
      omega (arith, weight_sum (terms_from here path) (term_of row ∷ []), weight_from here path, light) in
      let refuted : IsRefuted (with_rows (with_write_at (read_of w) c (write_of w)) (s.level ++ rows))
      (Sum (terms_from here path ++ term_of row ∷ []))
      = record {
        rows = whole;
        are_made = ap (row_forms more) (s.rows_are rows) ∙ forms_append more
            (c.rows ++ write_rows (read_of w) (write_of w) s.level points) rows inner m.forms s.made m.are;
        refuted = shown_refutes more most_made whole (terms_from here path ++ term_of row ∷ [])
            (λ part. sum part +ℤ row_part whole part row) over within
            (weight_few (weight (terms_from here path ++ term_of row ∷ [])) (omega (arith, weight_is))) both
            (record {
              negative = omega (arith, ints, part_is the_constant, end_is the_constant, zero_is the_constant);
              no_variable = λ i l. omega
                  (arith, ints, part_is (the_coefficient i), end_is (the_coefficient i), zero_is (the_coefficient i));
            });
      } in (
        subst (IsRefuted (with_rows (with_write_at (read_of w) c (write_of w)) (s.level ++ rows)))
            (sym proof_is) refuted,
        subst IsLightSum (sym proof_is) (terms_from here path ++ term_of row ∷ [], refl, omega (arith, weight_is)),
      )
