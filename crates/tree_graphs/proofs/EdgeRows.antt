-- Edges of rows, added one after the other.
--
-- The edges so far have the parts of the rows so far, at every place of the writer. A row and its edge keep this,
-- whatever rows stand before them, so lists of rows join. A domain row joins the variable with coefficient 1 and the
-- one with -1, or 0 where it has none; equal subscripts are two rows, an edge there and one back. Whether a row can be
-- made within 128 bits isn't asked here.
use Rattle.std.proofs.Common.{◌≡◌, ◌+◌, ◌-◌, ◌^◌, ◌≤◌, ◌<◌, ℕ, suc, ℤ, pos, negsuc, ◌+ℤ◌, ◌-ℤ◌, List}
use Rattle.std.proofs.Common.{[], ◌∷◌, ◌++◌, length, map, take, Bool, true, false, cond, refl, sym, ap}
use Rattle.std.proofs.Common.{◌∙◌, subst, arith, append_assoc, take_at}
use Rattle.std.specs.Prelude.{All, unsigned_abs}
use Rattle.std.specs.List.{list_all}
use Rattle.std.specs.Ordering.{int_eq}
use Rattle.std.proofs.lemmas.Int.{ints}
use Rattle.std.proofs.lemmas.List.{append-nil, length-map}
use Rattle.std.proofs.lemmas.List.Elements.{All-nil, All-cons, All-append}
use Rattle.std.proofs.lemmas.Bool.{and_parts}
use Rattle.affine_core.specs.declared.form.Form.{Form}
use Rattle.affine_core.specs.Affine.{constant_form, form_product, form_sum}
use Rattle.affine_core.proofs.Linear.{length-sums}
use Rattle.int_polyhedra.proofs.Variables.{length_zeros}
use Rattle.tree_graphs.specs.Asked.{depth_of_write}
use Rattle.tree_graphs.specs.Problems.{AreCells, IsCell}
use Rattle.tree_graphs.specs.Class.{is_difference}
use Rattle.tree_graphs.specs.Edges.{domain_edge_of, edge_parts, node_of, AreEdges, AddsEdges, IsEdge, IsKept}
use Rattle.tree_graphs.specs.declared.edges.Edge.{Edge}
use Rattle.tree_graphs.specs.declared.writes.Writes.{Writes}
use Rattle.tree_graphs.proofs.Differences.{IsShifted, difference_at, differences_are, shift_at, shifts_are}
use Rattle.tree_graphs.proofs.Differences.{past_part_at}
use Rattle.tree_graphs.proofs.ProblemBounds.{FormFits, form_is}
use Rattle.tree_graphs.proofs.Small.{negative_over, negative_within, number_within}
use Rattle.plain_data.proofs.Lists.{get_or-replicate_same}
use Rattle.tree_sums.specs.Made.{parts_of}
use Rattle.tree_sums.specs.Parts.{Part, part_of, row_part, IsWithin}
use Rattle.tree_sums.proofs.Bound.{sum_within}
use Rattle.tree_sums.proofs.Ideal.{product_part, sum_part}
use Rattle.tree_sums.proofs.Within.{IsWithin-weaker}
use Rattle.sanlp.specs.WellFormed.{form_fits}
use Rattle.source_tree.specs.Places.{at_place, cell_rows, domain_rows}
use Rattle.source_tree.specs.Rows.{RowExpr, Take, minus, equal_rows}

pub edges_more : (place : List Form) (rows : List RowExpr) (edges : List Edge) (row : RowExpr) (g : Edge)
    → AreEdges place rows edges
    → ((part : Part) → parts_of row part ≡ edge_parts place g part)
    → AreEdges place (rows ++ row ∷ []) (edges ++ g ∷ [])
edges_more place [] [] row g h k = (k, tt)
edges_more place [] (e ∷ edges) row g h k = absurd h
edges_more place (r ∷ rows) [] row g h k = absurd h
edges_more place (r ∷ rows) (e ∷ edges) row g h k = (h.0, edges_more place rows edges row g h.1 k)

-- one row and its edge, and then others
pub adds_next : (w : Writes) (first : List Form → RowExpr) (rest : List Form → List RowExpr) (g : Edge)
    (old middle new : List Edge) → middle ≡ old ++ g ∷ []
    → ((place : List Form) (part : Part) → length place ≡ depth_of_write w → parts_of (first place) part
    ≡ edge_parts place g part)
    → IsEdge w.vars (depth_of_write w) g → AddsEdges w rest middle new
    → AddsEdges w (λ place. first place ∷ rest place) old new
adds_next w first rest g old middle new is parts edge more = record {
  added = λ place before deep h. subst (λ rows. AreEdges place rows new)
      (append_assoc before (first place ∷ []) (rest place))
      (more.added place (before ++ first place ∷ []) deep
      (subst (AreEdges place (before ++ first place ∷ [])) (sym is)
      (edges_more place before old (first place) g h (λ part. parts place part deep))));
  each = λ h. more.each (subst (All (IsEdge w.vars (depth_of_write w))) (sym is)
      (All-append (IsEdge w.vars (depth_of_write w)) old (g ∷ []) h
      (All-cons (IsEdge w.vars (depth_of_write w)) g [] edge (All-nil _))));
}

pub adds_none : (w : Writes) (old new : List Edge) → new ≡ old → AddsEdges w (λ place. []) old new
adds_none w old new is = record {
  added = λ place before deep h. subst (λ rows. AreEdges place rows new) (sym (append-nil before))
      (subst (AreEdges place before) (sym is) h);
  each = λ h. subst (All (IsEdge w.vars (depth_of_write w))) (sym is) h;
}

pub node_few : (c : ℤ) (cs : List ℤ) → node_of c cs ≤ length cs
node_few c [] = omega arith
node_few c (d ∷ cs) = go (node_few c cs) (int_eq d c) where
  go : node_of c cs ≤ length cs → (b : Bool) → cond b 0 (suc (node_of c cs)) ≤ suc (length cs)
  go rest true = omega arith
  go rest false = omega (arith, rest)

pub domain_is_edge : (vars depth : ℕ) (row : Form) → FormFits depth row → IsEdge vars depth (domain_edge_of vars row)
domain_is_edge vars depth row f = record {
  from = omega (arith, node_few (pos 1) row.coefs, f.over);
  to = omega (arith, node_few (negsuc 0) row.coefs, f.over);
  over = length_zeros vars;
  within = number_within vars row.constant (2 ^ 33) (omega (arith, f.within.constant));
  inner = λ a b i. get_or-replicate_same vars i (pos 0);
}

-- a weight of a subscript and a number
pub weight_over : (vars : ℕ) (f g : Form) → length f.coefs ≡ vars → length g.coefs ≡ vars
    → length (form_sum f (form_product (negsuc 0) g)).coefs ≡ vars
weight_over vars f g e h = length-sums f.coefs (form_product (negsuc 0) g).coefs (e ∙ sym (negative_over g ∙ h)) ∙ e

pub weight_part : (vars : ℕ) (f g : Form) (part : Part) → length f.coefs ≡ vars → length g.coefs ≡ vars
    → part_of part (form_sum f (form_product (negsuc 0) g)) ≡ part_of part f -ℤ part_of part g
weight_part vars f g part e h =
    omega (
      arith,
      ints,
      sum_part part f (form_product (negsuc 0) g) (e ∙ sym (negative_over g ∙ h)),
      product_part part (negsuc 0) g,
    )

weight_within : (a b : ℕ) (f g : Form) → a + b ≤ 2 ^ 33 → IsWithin a f → IsWithin b g
    → IsWithin (2 ^ 33) (form_sum f (form_product (negsuc 0) g))
weight_within a b f g le h k =
    IsWithin-weaker (a + b) (2 ^ 33) (form_sum f (form_product (negsuc 0) g)) le
    (sum_within a b f (form_product (negsuc 0) g) h (negative_within b g k))

module _ (vars depth : ℕ) (write read : Form) (f : FormFits depth write) (h : IsCell vars depth write read)
    (s : IsShifted write.coefs) where
  abbrev constant : Form
  constant = constant_form vars write.constant

  -- the greatest number of the write's constant, and of the read
  abbrev own : ℕ
  own = unsigned_abs write.constant

  abbrev other : ℕ
  other = 2 ^ 33 - own

  constant_within : IsWithin own constant
  constant_within = number_within vars write.constant own (omega arith)

  abbrev pub write_edge : Edge
  write_edge = record {
    from = node_of (pos 1) write.coefs;
    to = depth;
    weight =
        form_sum constant (form_product (negsuc 0) read);
  }

  abbrev pub read_edge : Edge
  read_edge = record {
    from = depth;
    to = node_of (pos 1) write.coefs;
    weight =
        form_sum read (form_product (negsuc 0) constant);
  }

  node_is : node_of (pos 1) write.coefs ≤ depth
  node_is = omega (arith, node_few (pos 1) write.coefs, f.over)

  pub write_is_edge : IsEdge vars depth write_edge
  write_is_edge = record {
    from = node_is;
    to = omega arith;
    over = weight_over vars constant read (length_zeros vars) h.over;
    within = weight_within own other constant read (omega (arith, f.within.constant)) constant_within h.within;
    inner = λ a b i. absurd (let lt : depth < depth = b in omega (arith, lt));
  }

  pub read_is_edge : IsEdge vars depth read_edge
  read_is_edge = record {
    from = omega arith;
    to = node_is;
    over = weight_over vars read constant h.over (length_zeros vars);
    within = weight_within other own read constant (omega (arith, f.within.constant)) h.within constant_within;
    inner = λ a b i. absurd (let lt : depth < depth = a in omega (arith, lt));
  }

  module _ (place : List Form) (part : Part) (deep : length place ≡ depth) where
    at_write : parts_of (at_place write place) part
        ≡ part_of part constant +ℤ row_part place part (node_of (pos 1) write.coefs)
    at_write = shift_at vars write place part (f.over ∙ sym deep) s

    pub write_row : parts_of (minus (at_place write place) (Take read)) part ≡ edge_parts place write_edge part
    write_row =
        omega (
          arith,
          ints,
          at_write,
          past_part_at place depth part deep,
          weight_part vars constant read part (length_zeros vars) h.over,
        )

    pub read_row : parts_of (minus (Take read) (at_place write place)) part ≡ edge_parts place read_edge part
    read_row =
        omega (
          arith,
          ints,
          at_write,
          past_part_at place depth part deep,
          weight_part vars read constant part h.over (length_zeros vars),
        )

-- The functions that add edges

pub adds_domain : (w : Writes) (row : Form) (rest rows : List Form) (g : Edge) (old middle new : List Edge)
    → rows ≡ row ∷ rest
    → middle ≡ old ++ g ∷ [] → g ≡ domain_edge_of w.vars row → list_all is_difference rows ≡ true
    → list_all (form_fits (depth_of_write w)) rows ≡ true
    → AddsEdges w (λ place. domain_rows rest place) middle new → AddsEdges w (λ place. domain_rows rows place) old new
adds_domain w row rest rows g old middle new first middle_is is differ fit more =
    let own : Edge = domain_edge_of w.vars row in
    let d = and_parts (is_difference row) (list_all is_difference rest)
    (ap (list_all is_difference) (sym first) ∙ differ) in
    let f = and_parts (form_fits (depth_of_write w) row) (list_all (form_fits (depth_of_write w)) rest)
    (ap (list_all (form_fits (depth_of_write w))) (sym first) ∙ fit) in
    let fits : FormFits (depth_of_write w) row = form_is (depth_of_write w) row f.0 in
    subst (λ rows. AddsEdges w (λ place. domain_rows rows place) old new) (sym first)
    (adds_next w (λ place. at_place row place) (λ place. domain_rows rest place) own old middle new
    (middle_is ∙ ap (λ g. old ++ g ∷ []) is)
    (λ place part deep. difference_at w.vars row place part (fits.over ∙ sym deep) (differences_are row d.0))
    (domain_is_edge w.vars (depth_of_write w) row fits) more)

-- rows added one after the other
pub adds_both : (w : Writes) (first rest : List Form → List RowExpr) (old middle new : List Edge)
    → AddsEdges w first old middle → AddsEdges w rest middle new
    → AddsEdges w (λ place. first place ++ rest place) old new
adds_both w first rest old middle new h k = record {
  added = λ place before deep b. subst (λ rows. AreEdges place rows new)
      (append_assoc before (first place) (rest place))
      (k.added place (before ++ first place) deep (h.added place before deep b));
  each = λ b. k.each (h.each b);
}

pub adds_cells : (w : Writes) (write read : Form) (writes reads ws rs : List Form) (old middle new : List Edge) → ws
    ≡ write ∷ writes → rs ≡ read ∷ reads
    → AddsEdges w (λ place. equal_rows (at_place write place) (Take read)) old middle
    → AddsEdges w (λ place. cell_rows writes reads place) middle new
    → AddsEdges w (λ place. cell_rows ws rs place) old new
adds_cells w write read writes reads ws rs old middle new ws_is rs_is h k =
    subst (λ ws. AddsEdges w (λ place. cell_rows ws rs place) old new) (sym ws_is)
    (subst (λ rs. AddsEdges w (λ place. cell_rows (write ∷ writes) rs place) old new) (sym rs_is)
    (adds_both w (λ place. equal_rows (at_place write place) (Take read))
    (λ place. cell_rows writes reads place) old middle new h k))

pub cells_first : (vars depth : ℕ) (write read : Form) (writes reads ws rs : List Form) → ws ≡ write ∷ writes
    → rs ≡ read ∷ reads → AreCells vars depth ws rs
    → IsCell vars depth write read × AreCells vars depth writes reads
cells_first vars depth write read writes reads ws rs ws_is rs_is h =
    subst (AreCells vars depth (write ∷ writes)) rs_is (subst (λ ws. AreCells vars depth ws rs) ws_is h)

pub adds_cell : (w : Writes) (write read : Form) (g h : Edge) (old middle new : List Edge)
    → IsCell w.vars (depth_of_write w) write read
    → g ≡ record {
      from = node_of (pos 1) write.coefs;
      to = depth_of_write w;
      weight =
          form_sum (constant_form w.vars write.constant) (form_product (negsuc 0) read);
    }
    → h ≡ record {
      from = depth_of_write w;
      to = node_of (pos 1) write.coefs;
      weight =
          form_sum read (form_product (negsuc 0) (constant_form w.vars write.constant));
    }
    → middle ≡ old ++ g ∷ [] → new ≡ middle ++ h ∷ []
    → AddsEdges w (λ place. equal_rows (at_place write place) (Take read)) old new
adds_cell w write read g h old middle new r g_is h_is middle_is new_is =
    let vars : ℕ = w.vars in
    let depth : ℕ = depth_of_write w in
    let f : FormFits depth write = form_is depth write r.fits in
    let s : IsShifted write.coefs = shifts_are write r.shift in
    adds_next w (λ place. minus (at_place write place) (Take read))
    (λ place. minus (Take read) (at_place write place) ∷ []) (write_edge vars depth write read f r s) old middle new
    (middle_is ∙ ap (λ g. old ++ g ∷ []) g_is)
    (λ place part deep. write_row vars depth write read f r s place part deep)
    (write_is_edge vars depth write read f r s)
    (adds_next w (λ place. minus (Take read) (at_place write place)) (λ place. [])
    (read_edge vars depth write read f r s) middle new new
    (new_is ∙ ap (λ h. middle ++ h ∷ []) h_is)
    (λ place part deep. read_row vars depth write read f r s place part deep) (read_is_edge vars depth write read f r s)
    (adds_none w new new refl))

-- the numbers of subscripts are small
pub constant_small : (vars depth : ℕ) (write read constant : Form) → IsCell vars depth write read → constant
    ≡ constant_form vars write.constant → IsWithin (2 ^ 60) constant
constant_small vars depth write read constant cell is =
    let f : FormFits depth write = form_is depth write cell.fits in
    subst (IsWithin (2 ^ 60)) (sym is) (number_within vars write.constant (2 ^ 60) (omega (arith, f.within.constant)))

pub read_small : (vars depth : ℕ) (write read : Form) → IsCell vars depth write read → IsWithin (2 ^ 60) read
read_small vars depth write read cell =
    IsWithin-weaker (2 ^ 33 - unsigned_abs write.constant) (2 ^ 60) read (omega arith) cell.within

pub constant_over : (vars depth : ℕ) (write constant read : Form) → IsCell vars depth write read → constant
    ≡ constant_form vars write.constant → length constant.coefs ≡ length read.coefs
constant_over vars depth write _ read cell is = ap (λ (f : Form). length f.coefs) is ∙ length_zeros vars ∙ sym cell.over

-- edges that were added behind others

pub kept_twice : (old middle new : List Edge) → IsKept old middle → IsKept middle new → IsKept old new
kept_twice old middle new h k = (h.0 ++ k.0, k.1 ∙ ap (λ es. es ++ k.0) h.1 ∙ append_assoc old h.0 k.0)

pub kept_push : (old new : List Edge) (g : Edge) → new ≡ old ++ g ∷ [] → IsKept old new
kept_push old new g e = (g ∷ [], e)

pub exact_domain : (vars : ℕ) (row : Form) (rest rows : List Form) (g : Edge) (old middle new : List Edge)
    → rows ≡ row ∷ rest → middle ≡ old ++ g ∷ [] → g ≡ domain_edge_of vars row
    → new ≡ middle ++ map (domain_edge_of vars) rest → new ≡ old ++ map (domain_edge_of vars) rows
exact_domain vars row rest rows g old middle new rows_is middle_is g_is new_is =
    new_is ∙ ap (λ es. es ++ map (domain_edge_of vars) rest) (middle_is ∙ ap (λ g. old ++ g ∷ []) g_is)
    ∙ append_assoc old (domain_edge_of vars row ∷ []) (map (domain_edge_of vars) rest)
    ∙ ap (λ rows. old ++ map (domain_edge_of vars) rows) (sym rows_is)

pub starts_with : (vars : ℕ) (rows : List Form) (e1 e2 e3 : List Edge) → e1 ≡ [] ++ map (domain_edge_of vars) rows
    → IsKept e1 e2 → IsKept e2 e3 → take (length rows) e3 ≡ map (domain_edge_of vars) rows
starts_with vars rows e1 e2 e3 is h k =
    let t = kept_twice e1 e2 e3 h k in
    ap (take (length rows)) (t.1 ∙ ap (λ es. es ++ t.0) is)
    ∙ take_at (map (domain_edge_of vars) rows) t.0 (length rows) (length-map rows (domain_edge_of vars))
