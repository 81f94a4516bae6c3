-- The rows of a system over a writer's point can be made within 128 bits.
--
-- A row's reach is bounded by how it is made: a form at a place is a number and at most six products of two small
-- numbers, and a difference of two such reaches as far as both, and 1 more where it is strict. So the rows of the
-- domain, of the cell and of each level of an order are small, by induction over them, and small rows can be made.
-- Rows that were made keep their number and their order, so they are told by the edges in their places.
use Rattle.std.proofs.Common.{◌≡◌, ◌+◌, ◌-◌, ◌*◌, ◌^◌, ◌≤◌, ◌<◌, ℕ, zero, suc, ℤ, pos, negsuc, List, []}
use Rattle.std.proofs.Common.{◌∷◌, ◌++◌, length, Bool, true, refl, ap, ◌∙◌, arith, inl, inr}
use Rattle.std.proofs.Common.{◌⊎◌}
use Rattle.std.specs.Prelude.{Some, All, slice_get, unsigned_abs, ◌==◌}
use Rattle.std.specs.List.{list_all}
use Rattle.std.specs.Option.{option_and_then, option_map, option_map_or}
use Rattle.std.proofs.lemmas.Bool.{eq-eqb, and_parts, and_from}
use Rattle.std.proofs.lemmas.List.Elements.{All-nil, All-cons, All-head, All-tail}
use Rattle.std.proofs.lemmas.Option.{same_Some, slice_get-map, option_and_then_some}
use Rattle.affine_core.specs.declared.form.Form.{Form}
use Rattle.int_polyhedra.specs.Systems.{all_over, AreOver}
use Rattle.tree_graphs.specs.Problems.{AreCells, IsCell}
use Rattle.tree_graphs.specs.Edges.{AreEdges}
use Rattle.tree_graphs.specs.Paths.{edge_part}
use Rattle.tree_graphs.specs.declared.edges.Edge.{Edge}
use Rattle.tree_graphs.proofs.ProblemBounds.{FormFits, form_is}
use Rattle.tree_sums.specs.Made.{parts_of, reach, TakesWithin}
use Rattle.tree_sums.proofs.MadeLaws.{IsMade}
use Rattle.tree_sums.specs.Parts.{Part, part_of, row_part, IsWithin}
use Rattle.tree_sums.proofs.SmallRows.{small_is_made}
use Rattle.tree_sums.proofs.Within.{IsWithin-weaker}
use Rattle.sanlp.specs.WellFormed.{form_fits}
use Rattle.source_tree.specs.Places.{at_place, cell_rows, domain_rows, order_rows, plus_terms}
use Rattle.source_tree.specs.Rows.{RowExpr, Take, Plus, Times, equal_rows, minus, number, one_less, row_form, row_forms}

-- the bound of the forms that rows take, and of what is made of them
abbrev pub most_taken : ℕ
most_taken = 2 ^ 41

abbrev pub most_made : ℕ
most_made = 2 ^ 80

pub record IsSmallRow (vars : ℕ) (e : RowExpr) (most : ℕ) : Type 0 where
  pub takes : TakesWithin vars most_taken e
  pub reaches : reach most_taken e ≤ most

-- forms over no more variables, with such numbers
pub record IsTaken (vars : ℕ) (f : Form) : Type 0 where
  pub short : length f.coefs ≤ vars
  pub within : IsWithin most_taken f

abbrev pub AreTaken : ℕ → List Form → Type 0
AreTaken vars [] = Unit {0}
AreTaken vars (f ∷ fs) = IsTaken vars f × AreTaken vars fs

pub taken_row : (vars : ℕ) (f : Form) → IsTaken vars f → IsSmallRow vars (Take f) most_taken
taken_row vars f h = record { takes = (h.short, h.within); reaches = omega arith }

pub number_row : (vars : ℕ) (k : ℤ) → unsigned_abs k ≤ most_taken → IsSmallRow vars (number k) most_taken
number_row vars k h =
    record { takes = (omega arith, record { constant = h; coefs = All-nil _ }); reaches = omega arith }

-- a - b, and e - 1
pub minus_row : (vars a b : ℕ) (e f : RowExpr) → IsSmallRow vars e a → IsSmallRow vars f b
    → IsSmallRow vars (minus e f) (a + (b + b))
minus_row vars a b e f h k = record { takes = (h.takes, k.takes); reaches = omega (arith, h.reaches, k.reaches) }

pub one_less_row : (vars a : ℕ) (e : RowExpr) → IsSmallRow vars e a → IsSmallRow vars (one_less e) (a + most_taken)
one_less_row vars a e h =
    record { takes = (h.takes, (number_row vars (negsuc 0) (omega arith)).takes); reaches = omega (arith, h.reaches) }

pub farther_row : (vars a b : ℕ) (e : RowExpr) → a ≤ b → IsSmallRow vars e a → IsSmallRow vars e b
farther_row vars a b e le h = record { takes = h.takes; reaches = omega (arith, h.reaches, le) }

-- a form at a place: each term reaches no farther than a product of the two greatest numbers
abbrev pub most_term : ℕ
most_term = 2 ^ 32 * most_taken + most_taken

terms_row : (vars so_far : ℕ) (sum : RowExpr) (cs : List ℤ) (place : List Form) → All (λ c. unsigned_abs c ≤ 2 ^ 32) cs
    → AreTaken vars place → IsSmallRow vars sum so_far
    → IsSmallRow vars (plus_terms sum cs place) (so_far + length cs * most_term)
terms_row vars so_far sum [] place each taken h = farther_row vars so_far (so_far + 0 * most_term) sum (omega arith) h
terms_row vars so_far sum (c ∷ cs) [] each taken h =
    farther_row vars so_far (so_far + length (c ∷ cs) * most_term) sum (omega arith) h
terms_row vars so_far sum (c ∷ cs) (f ∷ place) each taken h =
    let next : IsSmallRow vars (Plus sum (Times c (Take f))) (so_far + most_term)
    = record {
      takes = (h.takes, (taken.0.short, taken.0.within));
      reaches =
          omega (arith, h.reaches, All-head (λ c. unsigned_abs c ≤ 2 ^ 32) c cs each);
    } in
    farther_row vars (so_far + most_term + length cs * most_term) (so_far + length (c ∷ cs) * most_term)
    (plus_terms (Plus sum (Times c (Take f))) cs place) (omega arith)
    (terms_row vars (so_far + most_term) (Plus sum (Times c (Take f))) cs place
    (All-tail (λ c. unsigned_abs c ≤ 2 ^ 32) c cs each) taken.1 next)

abbrev pub most_placed : ℕ
most_placed = 2 ^ 77

pub placed_row : (vars depth : ℕ) (form : Form) (place : List Form) → depth ≤ 6 → FormFits depth form
    → AreTaken vars place → IsSmallRow vars (at_place form place) most_placed
placed_row vars depth form place few fits taken =
    farther_row vars (most_taken + length form.coefs * most_term) most_placed (at_place form place)
    (omega (arith, fits.over, few))
    (terms_row vars most_taken (number form.constant) form.coefs place fits.within.coefs taken
    (number_row vars form.constant (omega (arith, fits.within.constant))))

-- Rows of a system

abbrev pub AreSmall : ℕ → List RowExpr → Type 0
AreSmall vars [] = Unit {0}
AreSmall vars (e ∷ es) = IsSmallRow vars e most_made × AreSmall vars es

pub small_append : (vars : ℕ) (xs ys : List RowExpr) → AreSmall vars xs → AreSmall vars ys → AreSmall vars (xs ++ ys)
small_append vars [] ys h k = k
small_append vars (x ∷ xs) ys h k = (h.0, small_append vars xs ys h.1 k)

pub small_domain : (vars depth : ℕ) (rows place : List Form) → depth ≤ 6 → list_all (form_fits depth) rows ≡ true
    → AreTaken vars place → AreSmall vars (domain_rows rows place)
small_domain vars depth [] place few fits taken = tt
small_domain vars depth (row ∷ rows) place few fits taken =
    let b = and_parts (form_fits depth row) (list_all (form_fits depth) rows) fits in (
      farther_row vars most_placed most_made (at_place row place) (omega arith)
          (placed_row vars depth row place few (form_is depth row b.0) taken),
      small_domain vars depth rows place few b.1 taken,
    )

pub read_taken : (vars d depth : ℕ) (write read : Form) → d ≤ vars → IsCell d depth write read → IsTaken vars read
read_taken vars d depth write read le cell = record {
  short = omega (arith, cell.over, le);
  within =
      IsWithin-weaker (2 ^ 33 - unsigned_abs write.constant) most_taken read (omega arith) cell.within;
}

pub small_cells : (vars d depth : ℕ) (writes reads place : List Form) → d ≤ vars → depth ≤ 6
    → AreCells d depth writes reads → AreTaken vars place → AreSmall vars (cell_rows writes reads place)
small_cells vars d depth [] reads place le few cells taken = tt
small_cells vars d depth (write ∷ writes) [] place le few cells taken = tt
small_cells vars d depth (write ∷ writes) (read ∷ reads) place le few cells taken =
    let at : IsSmallRow vars (at_place write place) most_placed =
    placed_row vars depth write place few (form_is depth write cells.0.fits) taken in
    let of : IsSmallRow vars (Take read) most_taken =
    taken_row vars read (read_taken vars d depth write read le cells.0) in (
      farther_row vars (most_placed + (most_taken + most_taken)) most_made (minus (at_place write place) (Take read))
          (omega arith) (minus_row vars most_placed most_taken (at_place write place) (Take read) at of),
      (
        farther_row vars (most_taken + (most_placed + most_placed)) most_made (minus (Take read) (at_place write place))
            (omega arith) (minus_row vars most_taken most_placed (Take read) (at_place write place) of at),
        small_cells vars d depth writes reads place le few cells.1 taken,
      ),
    )

-- two values
pub small_minus : (vars : ℕ) (a b : Form) → IsTaken vars a → IsTaken vars b
    → IsSmallRow vars (minus (Take a) (Take b)) most_made
small_minus vars a b h k =
    farther_row vars (most_taken + (most_taken + most_taken)) most_made (minus (Take a) (Take b)) (omega arith)
    (minus_row vars most_taken most_taken (Take a) (Take b) (taken_row vars a h) (taken_row vars b k))

pub small_equal : (vars : ℕ) (a b : Form) → IsTaken vars a → IsTaken vars b
    → AreSmall vars (equal_rows (Take a) (Take b))
small_equal vars a b h k = (small_minus vars a b h k, (small_minus vars b a k h, tt))

pub small_less : (vars : ℕ) (a b : Form) → IsTaken vars a → IsTaken vars b
    → AreSmall vars (one_less (minus (Take b) (Take a)) ∷ [])
small_less vars a b h k = (
  farther_row vars (most_taken + (most_taken + most_taken) + most_taken) most_made (one_less (minus (Take b) (Take a)))
      (omega arith)
      (one_less_row vars (most_taken + (most_taken + most_taken)) (minus (Take b) (Take a))
      (minus_row vars most_taken most_taken (Take b) (Take a) (taken_row vars b k) (taken_row vars a h))),
  tt,
)

-- the rows of a level that exists
pub record IsSmallLevel (vars : ℕ) (levels : List (List RowExpr)) (p : ℕ) : Type 0 where
  pub rows : List RowExpr
  pub is : slice_get levels p ≡ Some rows
  pub small : AreSmall vars rows

pub level_at : (vars c p : ℕ) (less : Bool) (a b : List Form) → c ≤ length a → c ≤ length b
    → (p < c) ⊎ ((p ≡ c) × (less ≡ true)) → AreTaken vars a → AreTaken vars b
    → IsSmallLevel vars (order_rows c less a b) p
level_at vars zero p less a b h k has s t = elim has [
  | inl lt ↦ absurd (omega arith)
  | inr at ↦
      (let here : p ≡ 0 = at.0 in
      record {
        rows = [];
        is = ap (λ p. slice_get (order_rows 0 less a b) p) here ∙ ap (λ l. slice_get (order_rows 0 l a b) 0) at.1;
        small = tt;
      })
]
level_at vars (suc c) p less [] b h k has s t = absurd (omega arith)
level_at vars (suc c) p less (v ∷ a) [] h k has s t = absurd (omega arith)
level_at vars (suc c) zero less (v ∷ a) (x ∷ b) h k has s t =
    record { rows = one_less (minus (Take x) (Take v)) ∷ []; is = refl; small = small_less vars v x s.0 t.0 }
level_at vars (suc c) (suc p) less (v ∷ a) (x ∷ b) h k has s t =
    let inner : IsSmallLevel vars (order_rows c less a b) p
    = level_at vars c p less a b (omega (arith, h)) (omega (arith, k))
    (elim has [
      | inl lt ↦ inl (omega (arith, lt))
      | inr at ↦ inr ((let e : suc p ≡ suc c = at.0 in omega (arith, e)), at.1)
    ]) s.1 t.1 in
    let pair : List RowExpr = equal_rows (Take v) (Take x) in
    record {
      rows = pair ++ inner.rows;
      is = slice_get-map (λ rows. pair ++ rows) (order_rows c less a b) p
          ∙ ap (option_map (λ rows. pair ++ rows)) inner.is;
      small = small_append vars pair inner.rows (small_equal vars v x s.0 t.0) inner.small;
    }

-- The rows as they are made

pub forms_append : (vars : ℕ) (xs ys : List RowExpr) (fs gs : List Form) → row_forms vars xs ≡ Some fs
    → row_forms vars ys ≡ Some gs → row_forms vars (xs ++ ys) ≡ Some (fs ++ gs)
forms_append vars [] ys fs gs h k = k ∙ (let e : [] ≡ fs = same_Some [] fs h in ap (λ fs. Some (fs ++ gs)) e)
forms_append vars (x ∷ xs) ys fs gs h k =
    option_and_then_some (λ row. option_and_then (λ rest. Some (row ∷ rest)) (row_forms vars xs)) (row_form vars x) fs h
    (λ row is_row h'. option_and_then_some (λ rest. Some (row ∷ rest)) (row_forms vars xs) fs h'
    (λ rest is_rest whole.
    ap (option_and_then (λ row. option_and_then (λ rest. Some (row ∷ rest)) (row_forms vars (xs ++ ys)))) is_row
    ∙ ap (option_and_then (λ rest. Some (row ∷ rest))) (forms_append vars xs ys rest gs is_rest k)
    ∙ ap (λ fs. Some (fs ++ gs)) (same_Some (row ∷ rest) fs whole)))

-- the forms of small rows
pub record AreMade (vars : ℕ) (rows : List RowExpr) : Type 0 where
  pub forms : List Form
  pub are : row_forms vars rows ≡ Some forms
  pub count : length forms ≡ length rows
  pub over : AreOver vars forms
  pub within : All (IsWithin most_made) forms
  pub parts : (k : ℕ) (part : Part) → row_part forms part k
      ≡ option_map_or (λ e. parts_of e part) (slice_get rows k) (pos 0)

pub are_made : (vars : ℕ) (rows : List RowExpr) → AreSmall vars rows → AreMade vars rows
are_made vars [] h =
    record { forms = []; are = refl; count = refl; over = refl; within = All-nil _; parts = λ k part. refl }
are_made vars (e ∷ es) h =
    let one = small_is_made vars most_taken e h.0.takes (omega (arith, h.0.reaches)) in
    let row : Form = one.0 in
    let made : IsMade vars most_taken e row = one.1 in
    let rest : AreMade vars es = are_made vars es h.1 in
    record {
      forms = row ∷ rest.forms;
      are = ap (option_and_then (λ row. option_and_then (λ rest. Some (row ∷ rest)) (row_forms vars es))) made.is
          ∙ ap (option_and_then (λ rest. Some (row ∷ rest))) rest.are;
      count = ap suc rest.count;
      over = and_from (length row.coefs == vars) (all_over vars rest.forms)
          (eq-eqb (length row.coefs) vars made.over) rest.over;
      within = All-cons (IsWithin most_made) row rest.forms
          (IsWithin-weaker (reach most_taken e) most_made row h.0.reaches made.within) rest.within;
      parts = λ k part. parts_at row rest.forms e es (made.parts) (rest.parts) k part;
    } where
      parts_at : (row : Form) (forms : List Form) (e : RowExpr) (es : List RowExpr)
          → ((part : Part) → part_of part row ≡ parts_of e part)
          → ((k : ℕ) (part : Part) → row_part forms part k
          ≡ option_map_or (λ e. parts_of e part) (slice_get es k) (pos 0))
          → (k : ℕ) (part : Part) → row_part (row ∷ forms) part k
          ≡ option_map_or (λ e. parts_of e part) (slice_get (e ∷ es) k) (pos 0)
      parts_at row forms e es own rest zero part = own part
      parts_at row forms e es own rest (suc k) part = rest k part

-- rows that are edges have the parts of the edges
pub edges_parts : (place : List Form) (rows : List RowExpr) (edges : List Edge) → AreEdges place rows edges
    → (k : ℕ) (part : Part)
    → option_map_or (λ e. parts_of e part) (slice_get rows k) (pos 0) ≡ edge_part place edges part k
edges_parts place [] [] h k part = refl
edges_parts place [] (g ∷ edges) h k part = absurd h
edges_parts place (row ∷ rows) [] h k part = absurd h
edges_parts place (row ∷ rows) (g ∷ edges) h zero part = h.0 part
edges_parts place (row ∷ rows) (g ∷ edges) h (suc k) part = edges_parts place rows edges h.1 k part

pub edges_count : (place : List Form) (rows : List RowExpr) (edges : List Edge) → AreEdges place rows edges
    → length rows ≡ length edges
edges_count place [] [] h = refl
edges_count place [] (g ∷ edges) h = absurd h
edges_count place (row ∷ rows) [] h = absurd h
edges_count place (row ∷ rows) (g ∷ edges) h = ap suc (edges_count place rows edges h.1)
